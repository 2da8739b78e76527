use Rattle.std.proofs.Common.{arith, rules, ◌∙◌, slice_index_or}
use Rattle.ng_replay.specs.Crews.{HasDone}
use Rattle.ng_replay.proofs.worker.work_all.Goals as goal

pub returns : goal.returns
returns g c = record {
  count = c.for_each_mut.auto.s ∙ c.requires.ready.count;
  each = λ log w lt.
      let change = (c.for_each_mut.ensures log w (omega (arith, c.requires.ready.count))).1 in
      let done : HasDone c.args.mode c.args.boxes.now (slice_index_or c.args.plan.now.logs log _) log change.after_call.now = search (rules, change.call) in
      rw (← change.left) done;
}
