use Rattle.std.proofs.Common.{arith, subst, sym}
use Rattle.ng_post.specs.Opened.{AreOpened}
use Rattle.ng_post.proofs.OpeningLemmas.{all_led, opened, opened_none}
use Rattle.ng_post.proofs.opening.open_all.Goals.{then-len-gt0, else-len-gt0}
use Rattle.ng_post.proofs.opening.open_all.Goals as goal

pub returns : goal.returns
returns g c =
    let plan = c.args.plan.now in
    let boxes = c.in_ok-boxes.boxes in
    let doors = c.in_ok-doors.doors in
    let made = c.in_ok-doors.ensures in
    elim c.if-len-gt0.branch [
      | then-len-gt0 w ↦ subst (λ x. AreOpened plan boxes x.items) (sym w.doors-is)
          (opened plan boxes doors.items w.index_mut.result.now c.open_doors.new.leads c.in_ok-boxes.leads.items c.in_ok-boxes.ensures made.doors
          (omega (arith, w.if-len-gt0.true, c.len.ensures, doors.ok.0)) w.index_mut.ensures.value (all_led boxes c.open_doors.new.leads.items made.leads))
      | else-len-gt0 w ↦ subst (λ x. AreOpened plan boxes x.items) (sym w.doors-is)
          (opened_none plan boxes doors.items c.in_ok-boxes.leads.items c.in_ok-boxes.ensures made.doors (omega (arith, w.if-len-gt0.false, c.len.ensures, doors.ok.0)))
    ]
