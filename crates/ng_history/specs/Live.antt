-- A live list as contracts see it.
use Rattle.std.specs.Prelude.{ℕ, ◌≤◌}
use Rattle.ng_terms.specs.Heap.{State}

-- the live blocks and used excuses, and of how many there may be at most
pub record Shown : Type 0 where
  pub state : State
  pub room : ℕ

-- the memory that was taken suffices
pub record Holds (room live used : ℕ) : Type 0 where
  pub live_room : room ≤ live
  pub used_room : room ≤ used
