use Rattle.std.proofs.Common.{◌≡◌, ◌∙◌, ◌+◌, ℕ, List, [], ap, arith, length, refl, rules, sym, true}
use Rattle.std.proofs.lemmas.List.{length_push}
use Rattle.std.proofs.lemmas.Bool.{le-leb}
use Rattle.std.specs.Prelude.{max}
use Rattle.crossbeam_queue.specs.Passes.{ruled_capacity, view}
use Rattle.ng_post.specs.Box.{leader}
use Rattle.ng_post.specs.Opened.{received_by}
use Rattle.ng_post.proofs.BoxLemmas.{begins}
use Rattle.ng_post.proofs.PassLemmas.{passes-pushed-both}
use Rattle.ng_post.proofs.Rows.{each-pushed}
use Rattle.ng_post.proofs.opening.open_boxes.Goals as goal

pub ruled-requires-clause-rule : goal.ruled-requires-clause-rule
ruled-requires-clause-rule g c = begins

pub loop-log-preserved : goal.loop-log-preserved
loop-log-preserved g c =
    let was = c.loop-log.invariant in
    let receivers = c.in_ok-receivers.receivers.items in
    let boxes = c.loop-log.boxes.items in
    let log = c.loop-log.log in
    let made = c.in_ok-mail_box.ensures in
    let size : ruled_capacity c.in_ok-mail_box.mail_box ≡ max (received_by receivers log) 1 = search rules in
    record {
      receivers = refl;
      boxes = rw c.push_reserved.ensures.items (length_push boxes c.in_ok-mail_box.mail_box ∙ ap (λ n. n + 1) was.boxes);
      leads = rw c.push_reserved-in-loop-log.ensures.items (length_push c.loop-log.leads.items c.in_ok-mail_box.lead ∙ ap (λ n. n + 1) was.leads);
      room = search rules;
      room_to_lead = search rules;
      passes = rw (c.push_reserved.ensures.items, c.push_reserved-in-loop-log.ensures.items)
          (passes-pushed-both boxes c.loop-log.leads.items log c.in_ok-mail_box.mail_box c.in_ok-mail_box.lead was.boxes was.leads made.1 was.passes);
      knows = λ b p lt. rw c.push_reserved-in-loop-log.ensures.items
          (each-pushed (λ i x y. view x ≡ leader 0 true [] []) c.loop-log.leads.items c.loop-log.leads.items c.in_ok-mail_box.lead c.in_ok-mail_box.lead log was.leads was.leads
          (λ i x y below. was.knows i x below) made.3 b p p lt);
      sizes = λ b q lt. rw c.push_reserved.ensures.items
          (each-pushed (λ i x y. ruled_capacity x ≡ max (received_by receivers i) 1) boxes boxes c.in_ok-mail_box.mail_box c.in_ok-mail_box.mail_box log was.boxes was.boxes
          (λ i x y below. was.sizes i x below) size b q q lt);
    }

pub returns : goal.returns
returns g c =
    let was = c.loop-log.invariant in
    let all : c.loop-log.log ≡ length c.args.plan.now.logs = omega (arith, c.loop-log-test.false, c.loop-log.auto.log-end, c.len-count.ensures) in
    let same : c.in_ok-receivers.receivers.items ≡ c.args.plan.now.receivers = search rules in
    record {
      count = omega (arith, c.loop-log.boxes.ok.0, was.boxes, all);
      receivers = same;
      room = λ log q lt. was.sizes log q (omega (arith, all)) ∙ ap (λ (l : List ℕ). max (received_by l log) 1) same;
      leading = record {
        count = omega (arith, c.loop-log.boxes.ok.0, was.boxes, was.leads);
        passes = λ b q p lt. was.passes b q p (omega (arith, c.loop-log.boxes.ok.0, was.boxes));
        knows = λ b p lt. was.knows b p (omega (arith, c.loop-log.boxes.ok.0, was.boxes)) ∙ ap (λ reads. leader 0 reads [] []) (sym (le-leb 0 b (omega arith)));
      };
    }
