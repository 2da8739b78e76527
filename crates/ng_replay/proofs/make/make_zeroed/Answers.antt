use Rattle.std.proofs.Common.{◌*◌, ap, arith, inl}
use Rattle.std.specs.Prelude.{unwrap_or}
use Rattle.ng_replay.proofs.MakeLemmas.{Makes-requested, one-zeroed, zeroed-given}
use Rattle.ng_replay.proofs.make.make_zeroed.Goals as goal

pub calloc_in-requires-clause-cap : goal.calloc_in-requires-clause-cap
calloc_in-requires-clause-cap g c = λ small. c.requires.cap (1 * c.args.size) (inl (omega arith)) small

pub returns-clause-made : goal.returns-clause-made
returns-clause-made g c =
    rw (c.outcome.ensures.made, c.outcome.ensures.block)
    (Makes-requested c.args.mode c.args.size (1 * c.args.size) c.args.hand.now c.calloc_in.new.hand c.calloc_in.result (ap (λ align. unwrap_or align 16) c.requires.unaligned)
    c.calloc_in.ensures.large (rw (one-zeroed c.args.size c.calloc_in.result) at c.calloc_in.ensures.entered) c.calloc_in.ensures.made c.calloc_in.ensures.leaves c.calloc_in.ensures.kept c.calloc_in.ensures.slots)

pub returns-clause-zeroed : goal.returns-clause-zeroed
returns-clause-zeroed g c = rw c.outcome.ensures.block (zeroed-given c.calloc_in.new.hand c.calloc_in.result c.calloc_in.ensures.zero)
