use Rattle.std.proofs.Common.{◌≡◌, ◌∙◌, ◌+◌, List, [], ap, arith, get_or, length, rules, subst}
use Rattle.std.proofs.lemmas.List.{get_or_default, length_push}
use Rattle.ng_post.specs.declared.boxes.Door.{Door}
use Rattle.ng_post.specs.Opened.{IsFresh, received_by}
use Rattle.ng_post.specs.Opening.{AreLeadsAfter, IsNewDoor}
use Rattle.ng_terms.specs.declared.plan.Op.{Op}
use Rattle.ng_post.proofs.Rows.{each-pushed}
use Rattle.ng_post.proofs.opening.open_doors.Goals as goal

pub loop-log-preserved : goal.loop-log-preserved
loop-log-preserved g c =
    let was = c.loop-log.invariant in
    let log = c.loop-log.log in
    let doors = c.loop-log.doors.items in
    let door : Door g.row.N.Denot = c.in_ok-door.door in
    let receivers = c.args.boxes.now.receivers.items in
    let ops : c.len-in-loop-log.result ≡ length (get_or c.args.plan.now.logs log []) =
    c.len-in-loop-log.ensures
    ∙ ap length (c.ops-item.is ∙ ap (λ (l : List (List Op)). get_or l log c.ops-item.result) c.as_slice-ops-items.ensures
    ∙ get_or_default c.args.plan.now.logs log c.ops-item.result [] (omega (arith, c.loop-log-test.true, ap length c.as_slice-ops-items.ensures))) in
    record {
      long = rw c.push_reserved.ensures.items (length_push doors door ∙ ap (λ n. n + 1) was.long);
      room = search rules;
      leads = c.in_ok-door.ensures.leads;
      each = λ k d lt. rw c.push_reserved.ensures.items
          (each-pushed (λ j (x y : Door g.row.N.Denot). IsNewDoor c.args.boxes.now j x) doors doors door door log was.long was.long (λ j x y below. was.each j x below)
          c.in_ok-door.ensures.door k d d lt);
      fresh = λ k d lt. rw c.push_reserved.ensures.items
          (each-pushed (λ j (x y : Door g.row.N.Denot). IsFresh x (length (get_or c.args.plan.now.logs j [])) (received_by receivers j)) doors doors door door log was.long was.long
          (λ j x y below. was.fresh j x below) (subst (λ n. IsFresh door n (received_by receivers log)) ops c.in_ok-door.ensures.fresh) k d d lt);
    }

pub returns-clause-leads : goal.returns-clause-leads
returns-clause-leads g c =
    let all : c.loop-log.log ≡ c.args.boxes.now.boxes.len = omega (arith, c.loop-log-test.false, c.loop-log.auto.log-end, ap length c.as_slice-ops-items.ensures, c.requires.count) in
    subst (λ n. AreLeadsAfter c.args.boxes.now n n c.loop-log.leads.items) all c.loop-log.invariant.leads
