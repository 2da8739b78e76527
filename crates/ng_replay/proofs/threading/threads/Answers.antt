use Rattle.std.proofs.Common.{◌∙◌, sym}
use Rattle.ng_replay.proofs.CrewLemmas.{AreReady-opened}
use Rattle.ng_replay.proofs.EndLemmas.{AreAllFramed-ended, AreBooks-ended, AreCollected-ended, AreDoorsOf-ended, ArePostedOnce-ended, Fits-ended, IsEven-ended}
use Rattle.ng_replay.proofs.HandLemmas.{AreAll-books}
use Rattle.ng_replay.proofs.threading.threads.Goals as goal

pub do_all-hands-requires-clause-ready : goal.do_all-hands-requires-clause-ready
do_all-hands-requires-clause-ready g c =
    λ κs outlives.
    AreReady-opened c.args.boxes c.args.plan.now c.args.mode g.N.Name.facts.start.cap c.args.crew c.requires.sound c.requires.cap c.requires.crew c.requires.hands c.requires.boxes

pub finish-requires-clause-doors : goal.finish-requires-clause-doors
finish-requires-clause-doors g c =
    AreDoorsOf-ended c.requires.sound c.requires.boxes.receivers c.do_all-hands.ensures (sym c.requires.boxes.count ∙ c.requires.boxes.opened.count)

pub finish-requires-clause-once : goal.finish-requires-clause-once
finish-requires-clause-once g c = ArePostedOnce-ended c.requires.sound c.requires.boxes.receivers c.do_all-hands.ensures

pub finish-requires-clause-collected : goal.finish-requires-clause-collected
finish-requires-clause-collected g c = AreCollected-ended c.requires.sound c.requires.boxes.receivers c.do_all-hands.ensures

pub returns-clause-fits : goal.returns-clause-fits
returns-clause-fits g c = Fits-ended c.requires.sound c.requires.boxes.receivers c.do_all-hands.ensures c.finish.ensures

pub returns-clause-books : goal.returns-clause-books
returns-clause-books g c = AreBooks-ended c.requires.sound c.requires.boxes.receivers c.do_all-hands.ensures

pub returns-clause-framed : goal.returns-clause-framed
returns-clause-framed g c = AreAllFramed-ended c.requires.sound c.requires.boxes.receivers c.do_all-hands.ensures

pub returns-clause-all : goal.returns-clause-all
returns-clause-all g c =
    AreAll-books _ c.args.plan.now c.args.mode _ _ c.requires.all (AreBooks-ended c.requires.sound c.requires.boxes.receivers c.do_all-hands.ensures)

pub returns-clause-even : goal.returns-clause-even
returns-clause-even g c = IsEven-ended c.requires.sound c.requires.boxes.receivers c.do_all-hands.ensures c.finish.ensures
