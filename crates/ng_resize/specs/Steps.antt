-- What the steps of a resize tell each other. No public clause cites this module.
use Rattle.std.specs.Prelude.{◌≢◌, ℕ, ◌∷◌, [], Ok}
use Rattle.ng_frame.specs.Inspects.{gap_of}
use Rattle.ng_frame.specs.Judging.{IsJudged}
use Rattle.ng_space.specs.Blocks.{BlockToken}
use Rattle.ng_space.specs.Callers.{Caller}
use Rattle.ng_space.specs.Leaving.{AreFramed, KeepsRest, Learns}
use Rattle.ng_terms.specs.declared.entry.Entry.TheVariants.{Give, Take}
use Rattle.ng_view.specs.declared.view.Held.{Held}
use Rattle.ng_resize.specs.Moving.{KeepsFirst}
use Rattle.ng_resize.specs.Refusals.{EnteredAll}
use Rattle.ng_resize.specs.Resizing.{IsResized, KeepsApart}

-- the frame was found to have no damage and this length when no more of the slot's cells were known than now
abbrev pub WasWhole : BlockToken → ℕ → Held → Type 0
WasWhole block len h = (k : Held) × Learns k h × IsJudged k block.at (gap_of block) (Ok len)

-- the block moved, with so many of its bytes
pub record HasMoved (n count : ℕ) (before : Caller) (old new : BlockToken) (after : Caller) : Type 0 where
  pub resized : IsResized n before old new after
  pub elsewhere : new.at ≢ old.at
  pub kept : KeepsFirst count before old after new
  pub entered : EnteredAll before after (Give n 16 new.at ∷ Take old.at ∷ [])
  pub apart : KeepsApart old before.view after.view
  pub rest : KeepsRest before.view after.view
  pub each : AreFramed before.view → AreFramed after.view
