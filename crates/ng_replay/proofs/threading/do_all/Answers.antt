use Rattle.ng_replay.proofs.EndLemmas.{AreEnded-left}
use Rattle.ng_replay.proofs.OpLemmas.{written_back}
use Rattle.ng_replay.proofs.threading.do_all.Goals as goal

pub returns : goal.returns
returns g c =
    AreEnded-left c.args.mode c.args.boxes.now c.args.plan.now c.work_all.new.workers _ c.end_workers.result.0.items c.end_workers.result.1.items _ c.work_all.ensures
    (written_back c.work_all.new.workers c.as_mut_slice.result.now c.args.crew.workers.items _ c.work_all.auto.workers c.as_mut_slice.ensures.value c.as_mut_slice.ensures.len)
    c.end_workers.ensures.hands c.end_workers.ensures.doors c.end_workers.ensures.replies
