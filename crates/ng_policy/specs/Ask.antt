-- What rules may be asked, and which numbers of slots a group may have.
use Rattle.std.specs.Prelude.{ℕ, ◌*◌, ◌^◌, ◌<◌, ◌≤◌}
use Rattle.ng_class.specs.Class.{units_of}
use Rattle.ng_policy.specs.declared.ask.Ask.{Ask}
use Rattle.ng_policy.specs.declared.ask.Spare.{Spare}

-- the ask is one that a heap may put
pub record AskInRange (ask : Ask) : Type 0 where
  pub class : ask.class < 48
  pub usage : ask.usage < 2 ^ 32
  pub near : ask.near < 2 ^ 32

-- the spare group is one that a heap may have
pub record SpareInRange (spare : Spare) : Type 0 where
  pub class : spare.class < 48
  pub some : 1 ≤ spare.slots
  pub most : spare.slots ≤ 32
  pub usage : spare.usage < 2 ^ 32

-- a group of the class may have so many slots: a mask of 32 bits has one for each, and their units
-- are below 65536
pub record IsCount (class slots : ℕ) : Type 0 where
  pub some : 1 ≤ slots
  pub most : slots ≤ 32
  pub fits : units_of class * slots < 65536
