use Rattle.std.proofs.Common.{ap, inl, refl}
use Rattle.std.specs.Prelude.{unwrap_or}
use Rattle.ng_replay.proofs.MakeLemmas.{Makes-requested}
use Rattle.ng_replay.proofs.make.make.Goals as goal

pub malloc_in-requires-clause-cap : goal.malloc_in-requires-clause-cap
malloc_in-requires-clause-cap g c = c.requires.cap c.args.size (inl refl)

pub returns-else-mode-clause-made : goal.returns-else-mode-clause-made
returns-else-mode-clause-made g c =
    rw (c.outcome.ensures.made, c.outcome.ensures.block)
    (Makes-requested c.args.mode c.args.size c.args.size c.args.hand.now c.malloc_in.new.hand c.malloc_in.result (ap (λ align. unwrap_or align 16) c.in-None.is)
    c.malloc_in.ensures.large c.malloc_in.ensures.entered c.malloc_in.ensures.made c.malloc_in.ensures.leaves c.malloc_in.ensures.kept c.malloc_in.ensures.slots)
