-- When a block goes to the next class.
use Rattle.std.specs.Prelude.{◌≡◌, ◌≢◌, ◌+◌, ◌%◌, ◌≤◌, ℕ, Bool, true, false}

-- what is added to the usage of the next class: 3, unless it has a slot ready
abbrev pub margin : Bool → ℕ
margin true = 0
margin false = 3

-- the class is one that may be passed over: an even one from 4 to 30, but not 6
pub record IsFine (class : ℕ) : Type 0 where
  pub even : class % 2 ≡ 0
  pub from : 4 ≤ class
  pub to : class ≤ 30
  pub other : class ≢ 6

-- a block of the class goes to the next: the class is fine, no group of it is live or in its ring,
-- and few slots of the next are live
pub record GoesUp (class : ℕ) (has_group : Bool) (usage next_usage : ℕ) (next_ready : Bool)
    : Type 0 where
  pub fine : IsFine class
  pub no_group : has_group ≡ false
  pub unused : usage ≡ 0
  pub few : next_usage + margin next_ready ≤ 12
