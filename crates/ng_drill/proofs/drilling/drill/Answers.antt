use Rattle.std.proofs.Common.{ℕ, ◌+◌, ◌*◌, List, [], ◌∷◌, ◌++◌, length, take, get_or, refl, sym, ap, ◌∙◌, subst, arith, rules}
use Rattle.std.proofs.lemmas.Grind.{take_at_read}
use Rattle.std.proofs.lemmas.List.{length-replicate}
use Rattle.std.specs.Prelude.{Option, None}
use Rattle.ng_script.specs.declared.command.Command.{Command}
use Rattle.ng_script.specs.declared.command.Command.TheVariants as command
use Rattle.ng_space.specs.Blocks.{BlockToken}
use Rattle.ng_terms.specs.declared.entry.Entry.{Entry}
use Rattle.ng_drill.specs.Caps.{IsCapOf}
use Rattle.ng_drill.specs.Desks.{IsDesk}
use Rattle.ng_drill.specs.States.{first_state}
use Rattle.ng_drill.specs.Steps.{entries_of}
use Rattle.ng_drill.specs.Transcripts.{Answers}
use Rattle.ng_drill.specs.declared.answer.Answer.{Answer}
use Rattle.ng_drill.proofs.LoopLemmas.{answers_more, indexed_none, starts, within_cap}
use Rattle.ng_drill.proofs.drilling.drill.Goals as goal

pub loop-command-init : goal.loop-command-init
loop-command-init g c =
    let names : ℕ = c.args.script.now.names in
    let none = ap (λ (xs : List BlockToken). length xs) c.requires.room.none in
    let items = ap (λ (xs : List Command). length xs) c.as_slice-command-items.ensures in
    let spare = c.requires.spare in record {
      so_far = (
        first_state names,
        subst (λ (xs : List Answer). Answers g.N.Name.facts.start.pages (first_state names) [] xs c.args.hand.now.entries (first_state names)) (sym c.requires.room.unanswered) (c.requires.blank, refl),
        starts names c.args.hand.now c.args.room.desk c.requires.room.names c.requires.room.none,
      );
      desk = record {
        named = ap (λ (xs : List (Option ℕ)). length xs) c.requires.room.names ∙ length-replicate names None;
        table = ap (λ (xs : List (Option ℕ)). length xs) c.requires.room.places ∙ length-replicate (256 * g.N.Name.facts.start.pages) None;
        index = indexed_none c.args.room.desk.held.items c.args.room.desk.places.items (256 * g.N.Name.facts.start.pages) c.requires.room.none c.requires.room.places;
      };
      spare = omega (arith, items, spare);
      held = omega (arith, none);
      room = refl;
      answers = search rules;
      answers_room = refl;
      number = refl;
      sent = refl;
      taken = refl;
    }

pub step-answer-requires-clause-cap : goal.step-answer-requires-clause-cap
step-answer-requires-clause-cap g c =
    within_cap c.as_slice-command-items.result.now g.N.Name.facts.start.cap c.loop-command.command-index (command.Malloc 0 0)
    (subst (λ (xs : List Command). IsCapOf xs g.N.Name.facts.start.cap) (sym c.as_slice-command-items.ensures) c.requires.cap) c.loop-command-test.true

pub loop-command-preserved : goal.loop-command-preserved
loop-command-preserved g c =
    let items : List Command = c.as_slice-command-items.result.now in
    let i : ℕ = c.loop-command.command-index in
    let now : Command = get_or items i (command.Malloc 0 0) in
    let inv = c.loop-command.invariant in
    let r = c.step-answer.ensures.steps inv.so_far.0 inv.so_far.2 in
    let books = c.step-answer.ensures.books in
    let pages : ℕ = g.N.Name.facts.start.pages in
    let names : ℕ = c.args.script.now.names in
    let spare = inv.spare in let book = books.spare in let held = inv.held in let more = c.step-answer.ensures.room.more in
    let len = c.push_reserved.ensures.len in let answers = inv.answers in
    let more_answers = answers_more pages (first_state names) (take i items) c.loop-command.answers.items c.loop-command.hand.entries inv.so_far.0 now c.step-answer.result r.0 inv.so_far.1 r.1 in
    let entries = c.step-answer.ensures.entries ∙ ap (λ (xs : List (Option ℕ)). c.loop-command.hand.entries ++ entries_of xs now c.step-answer.result) (sym inv.so_far.2.names) in
    record {
      so_far = (
        r.0,
        subst (λ (cs : List Command). Answers pages (first_state names) cs c.push_reserved.new.self.items c.step-answer.new.hand.entries r.0) (sym (take_at_read items i (command.Malloc 0 0) c.loop-command-test.true).1)
            (subst (λ (xs : List Answer). Answers pages (first_state names) (take i items ++ now ∷ []) xs c.step-answer.new.hand.entries r.0) (sym c.push_reserved.ensures.items)
            (subst (λ (es : List Entry). Answers pages (first_state names) (take i items ++ now ∷ []) (c.loop-command.answers.items ++ c.step-answer.result ∷ []) es r.0) (sym entries) more_answers)),
        r.2,
      );
      desk = subst (λ n. IsDesk pages n c.step-answer.new.desk) inv.desk.named c.step-answer.ensures.desk;
      spare = omega (arith, spare, book);
      held = omega (arith, held, more);
      room = c.step-answer.ensures.room.room ∙ inv.room;
      answers = omega (arith, len, answers);
      answers_room = c.push_reserved.ensures.capacity ∙ inv.answers_room;
      number = books.number ∙ inv.number;
      sent = books.sent ∙ inv.sent;
      taken = books.taken ∙ inv.taken;
    }
