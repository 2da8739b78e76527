-- The posted blocks, by the numbers of their names. No public clause cites this module.
use Rattle.std.specs.Prelude.{ℕ, ◌≡◌, ◌<◌, List, ◌==◌, length, map, filter, slice_index, slice_index_or}
use Rattle.std.specs.declared.collections.VecDeque.{VecDeque}
use Rattle.std.specs.declared.alloc.Global.{Global}
use Rattle.ng_plan.specs.declared.step.Place.{Place}
use Rattle.ng_plan.specs.Turns.{Posted}

-- the blocks of a name, in the order of posting
abbrev pub blocks_of : ℕ → List Posted → List Place
blocks_of name blocks = map (λ block. block.maker) (filter (λ block. block.name == name) blocks)

-- each queue has the blocks of its name
pub record AreQueues (names : List ℕ) (queues : List (VecDeque Place Global)) (blocks : List Posted) : Type 0 where
  pub each : (i : ℕ) (none : VecDeque Place Global) → i < length names → (slice_index_or queues i none).items ≡ blocks_of (slice_index names i) blocks
