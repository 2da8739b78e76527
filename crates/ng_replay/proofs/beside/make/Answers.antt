use Rattle.std.proofs.Common.{◌*◌, ap, arith, inl, inr, refl, sym}
use Rattle.std.specs.Prelude.{unwrap_or}
use Rattle.ng_frame.specs.Puts.{asked_for}
use Rattle.ng_replay.proofs.MakeLemmas.{Makes-aligned, Makes-requested, one-zeroed, zeroed-given}
use Rattle.ng_replay.proofs.beside.make.Goals as goal

pub aligned_alloc-requires-clause-cap : goal.aligned_alloc-requires-clause-cap
aligned_alloc-requires-clause-cap g c =
    λ small. c.requires.cap (asked_for c.args.size c.in-Some.align) (inr (ap (λ align. asked_for c.args.size (unwrap_or align 16)) (sym c.in-Some.is))) small

pub calloc-requires-clause-cap : goal.calloc-requires-clause-cap
calloc-requires-clause-cap g c = λ small. c.requires.cap (1 * c.args.size) (inl (omega arith)) small

pub malloc-requires-clause-cap : goal.malloc-requires-clause-cap
malloc-requires-clause-cap g c = c.requires.cap c.args.size (inl refl)

pub returns-in-Some-clause-made : goal.returns-in-Some-clause-made
returns-in-Some-clause-made g c =
    rw (c.aligned_outcome.ensures.made, c.aligned_outcome.ensures.block)
    (Makes-aligned c.args.mode c.args.size c.in-Some.align c.args.hand.now c.aligned_alloc.new.hand c.aligned_alloc.result (ap (λ align. unwrap_or align 16) c.in-Some.is)
    c.aligned_alloc.ensures.bad c.aligned_alloc.ensures.large c.aligned_alloc.ensures.entered c.aligned_alloc.ensures.made c.aligned_alloc.ensures.leaves c.aligned_alloc.ensures.kept c.aligned_alloc.ensures.slots)

pub returns-then-mode-clause-made : goal.returns-then-mode-clause-made
returns-then-mode-clause-made g c =
    rw (c.outcome.ensures.made, c.outcome.ensures.block)
    (Makes-requested c.args.mode c.args.size (1 * c.args.size) c.args.hand.now c.calloc.new.hand c.calloc.result (ap (λ align. unwrap_or align 16) c.in-None.is)
    c.calloc.ensures.large (rw (one-zeroed c.args.size c.calloc.result) at c.calloc.ensures.entered) c.calloc.ensures.made c.calloc.ensures.leaves c.calloc.ensures.kept c.calloc.ensures.slots)

pub returns-else-mode-clause-made : goal.returns-else-mode-clause-made
returns-else-mode-clause-made g c =
    rw (c.outcome-else-mode.ensures.made, c.outcome-else-mode.ensures.block)
    (Makes-requested c.args.mode c.args.size c.args.size c.args.hand.now c.malloc.new.hand c.malloc.result (ap (λ align. unwrap_or align 16) c.in-None.is)
    c.malloc.ensures.large c.malloc.ensures.entered c.malloc.ensures.made c.malloc.ensures.leaves c.malloc.ensures.kept c.malloc.ensures.slots)

pub returns-then-mode-clause-zeroed : goal.returns-then-mode-clause-zeroed
returns-then-mode-clause-zeroed g c =
    λ none zero. rw c.outcome.ensures.block (zeroed-given c.calloc.new.hand c.calloc.result c.calloc.ensures.zero)
