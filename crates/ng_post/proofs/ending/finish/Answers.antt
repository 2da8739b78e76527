use Rattle.ng_post.proofs.EndingLemmas.{all_known, may_learn}
use Rattle.ng_post.proofs.FinishLemmas.{handed_over}
use Rattle.ng_post.proofs.HandedLemmas.{has_all}
use Rattle.ng_post.proofs.ending.finish.Goals as goal

pub learn-requires : goal.learn-requires
learn-requires g c = may_learn c.args.boxes c.args.doors.items c.end_doors-leads.result.items c.requires.doors c.end_doors-leads.ensures

pub returns-then-len-gt0 : goal.returns-then-len-gt0
returns-then-len-gt0 g c =
    let boxes = c.args.boxes in
    let doors = c.args.doors.items in
    handed_over boxes doors c.requires.doors c.requires.once (λ r d lt.
    let known = all_known boxes doors c.end_doors-leads.result.items r d.own d c.requires.doors c.end_doors-leads.ensures c.learn.ensures lt in
    has_all boxes doors r known.0 d c.requires.doors c.requires.once c.requires.collected lt known.1)
