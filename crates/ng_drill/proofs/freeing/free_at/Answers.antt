use Rattle.std.proofs.Common.{ℕ, List, length, refl, sym, ap, ◌∙◌, subst, arith}
use Rattle.std.specs.Prelude.{Option, swap_remove, vec_capacity}
use Rattle.std.specs.Global.{Vec}
use Rattle.ng_space.specs.Blocks.{BlockToken}
use Rattle.ng_script.specs.declared.command.Command.TheVariants as command
use Rattle.ng_script.specs.declared.command.Place.TheVariants as place
use Rattle.ng_drill.specs.Desks.{Steps}
use Rattle.ng_drill.specs.declared.answer.Answer.TheVariants as answer
use Rattle.ng_drill.specs.declared.answer.Freed.TheVariants as freed
use Rattle.ng_drill.proofs.FreeLemmas.{free_done, free_err, not_none}
use Rattle.ng_drill.proofs.IndexLemmas.{all_within, length-swap_remove, same_place, unit_within}
use Rattle.ng_drill.proofs.freeing.free_at.Goals as goal

pub forget-requires-clause-there : goal.forget-requires-clause-there
forget-requires-clause-there g c =
    unit_within c.args.desk.now.held.items c.args.desk.now.places.items c.args.at c.in-Some.place c.in-Ok.ensures.cause.block c.requires.desk.index c.in-Some.ensures

pub forget-requires-clause-inside : goal.forget-requires-clause-inside
forget-requires-clause-inside g c =
    let f = c.in-Ok.ensures.cause in
    all_within c.args.desk.now.held.items c.free_in_place.new.held.items c.args.desk.now.places.items f.takes.place f.block c.requires.desk.index f.takes.within f.takes.others

pub returns-in-Some-clause-steps : goal.returns-in-Some-clause-steps
returns-in-Some-clause-steps g c =
    free_done g.N.Name.facts.start _ c.args.hand.now c.free_in_place.new.hand c.args.at c.args.desk.now c.forget.new.self c.free_in_place.new.held.items c.requires.desk.index c.in-Ok.ensures.cause
    (ap (λ held. held.items) c.forget.ensures.held) c.in-Ok.ensures.entered.number (ap (λ (names : Vec (Option ℕ)). names.items) c.forget.ensures.names)

pub returns-in-Some-clause-desk : goal.returns-in-Some-clause-desk
returns-in-Some-clause-desk g c =
    let f = c.in-Ok.ensures.cause in record {
      named = ap (λ (names : Vec (Option ℕ)). length names.items) c.forget.ensures.names;
      table = c.forget.ensures.table ∙ c.requires.desk.table;
      index = c.forget.ensures.index c.args.desk.now.held.items f.block c.in-Some.ensures
          (f.takes.others ∙ ap (λ p. swap_remove c.args.desk.now.held.items p f.block) (same_place c.args.desk.now.held.items c.args.desk.now.places.items c.args.at c.in-Some.place f.block f.takes.place
          c.requires.desk.index c.in-Some.ensures f.takes.within f.takes.there f.takes.at))
          c.requires.desk.index;
    }

pub returns-in-Some-clause-room : goal.returns-in-Some-clause-room
returns-in-Some-clause-room g c =
    let left = ap (λ (xs : List BlockToken). length xs) c.in-Ok.ensures.cause.takes.others in
    let long = length-swap_remove c.args.desk.now.held.items c.in-Ok.ensures.cause.takes.place c.in-Ok.ensures.cause.block in
    let same = ap (λ held. length held.items) c.forget.ensures.held in record {
      room = ap (λ held. vec_capacity held) c.forget.ensures.held ∙ c.in-Ok.ensures.room;
      more = omega (arith, left, long, same);
    }

pub returns-in_default-clause-steps : goal.returns-in_default-clause-steps
returns-in_default-clause-steps g c = absurd (not_none c.args.at c.args.desk.now.held.items c.free_in_place.new.held.items c.in-Ok.ensures.cause c.in_default.ensures)

pub returns-in_default-clause-desk : goal.returns-in_default-clause-desk
returns-in_default-clause-desk g c = absurd (not_none c.args.at c.args.desk.now.held.items c.free_in_place.new.held.items c.in-Ok.ensures.cause c.in_default.ensures)

pub returns-in_default-clause-room : goal.returns-in_default-clause-room
returns-in_default-clause-room g c = absurd (not_none c.args.at c.args.desk.now.held.items c.free_in_place.new.held.items c.in-Ok.ensures.cause c.in_default.ensures)

pub returns-in-Err-clause-steps : goal.returns-in-Err-clause-steps
returns-in-Err-clause-steps g c =
    subst (λ fault. Steps g.N.Name.facts.start.pages (command.Free (place.At c.args.at)) (answer.Free (freed.Refused fault)) c.args.hand.now c.args.desk.now c.free_in_place.new.hand
    (record { names = c.args.desk.now.names; held = c.free_in_place.new.held; places = c.args.desk.now.places }))
    (sym c.fault_of.ensures)
    (free_err g.N.Name.facts.start (λ probed block. Unit {0}) c.args.hand.now c.free_in_place.new.hand c.args.at c.place_at-place.result c.in-Err.why c.args.desk.now _ c.free_in_place.new.held.items c.requires.desk.index c.place_at-place.ensures
    c.in-Err.ensures.cause c.in-Err.ensures.entered.number c.in-Err.ensures.kept refl (ap (λ held. held.items) c.in-Err.ensures.held))
