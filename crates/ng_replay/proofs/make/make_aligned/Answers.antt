use Rattle.std.proofs.Common.{ap, inr, sym}
use Rattle.std.specs.Prelude.{unwrap_or}
use Rattle.ng_frame.specs.Puts.{asked_for}
use Rattle.ng_replay.proofs.MakeLemmas.{Makes-aligned}
use Rattle.ng_replay.proofs.make.make_aligned.Goals as goal

pub aligned_in-requires-clause-cap : goal.aligned_in-requires-clause-cap
aligned_in-requires-clause-cap g c =
    λ small. c.requires.cap (asked_for c.args.size c.args.align) (inr (ap (λ align. asked_for c.args.size (unwrap_or align 16)) (sym c.requires.asked))) small

pub returns : goal.returns
returns g c =
    rw (c.aligned_outcome.ensures.made, c.aligned_outcome.ensures.block)
    (Makes-aligned c.args.mode c.args.size c.args.align c.args.hand.now c.aligned_in.new.hand c.aligned_in.result (ap (λ align. unwrap_or align 16) c.requires.asked)
    c.aligned_in.ensures.bad c.aligned_in.ensures.large c.aligned_in.ensures.entered c.aligned_in.ensures.made c.aligned_in.ensures.leaves c.aligned_in.ensures.kept c.aligned_in.ensures.slots)
