-- The fetches of the lock's seat on the masks of a live group.
use Rattle.std.specs.Prelude.{◌≡◌, ℕ, ◌+◌, ◌%◌, ◌^◌}
use Rattle.ng_view.specs.Lists.{Among}
use Rattle.ng_view.specs.LockSteps.{AreOut, avail_emptied, bits_of, bits_pushed, bits_stocked, freed_taken}
use Rattle.ng_view.specs.Slots.{IsPlain}
use Rattle.ng_view.specs.Steps.{read}
use Rattle.ng_view.specs.declared.view.Group.{Group}
use Rattle.ng_view.specs.declared.view.View.{View}
use Rattle.ng_view.specs.Masks.{TellsAvail, TellsFreed}

-- the view has a live group of that meta
pub record HasGroup (v : View) (meta : ℕ) : Type 0 where
  pub group : Group
  pub there : Among group v.desk.groups
  pub of_meta : group.meta ≡ meta

-- avail was emptied: its slots are in motion, and it is noted as 0. The word was n
pub record EmptiesAvail (v : View) (meta n : ℕ) (w : View) : Type 0 where
  pub view : (g : Group) → Among g v.desk.groups → g.meta ≡ meta → w ≡ read (avail_emptied v g n) (meta + 24) n
  pub tells : (g : Group) → Among g v.desk.groups → g.meta ≡ meta → TellsAvail v g n

-- these bits were cleared in freed: the slots of those that were set are in motion, and freed is noted as
-- 0 where no bit is left. The mask was n
pub record ClearsFreed (v : View) (meta bits n : ℕ) (w : View) : Type 0 where
  pub view : (g : Group) → Among g v.desk.groups → g.meta ≡ meta → w ≡ read (freed_taken v g bits n) (meta + 28) n
  pub tells : (g : Group) → Among g v.desk.groups → g.meta ≡ meta → TellsFreed v g n

-- the slots of these bits are in the seat, in motion, and may come into a mask of their group: it is of a
-- class below 48, its slots have the whole class size, and it is listed
pub record MayPutBack (v : View) (meta bits : ℕ) : Type 0 where
  pub group : Group
  pub there : Among group v.desk.groups
  pub of_meta : group.meta ≡ meta
  pub plain : IsPlain group
  pub listed : Among meta v.desk.listed
  pub held : AreOut meta (bits_of bits) v.held

-- these bits were set in avail, whose mask was 0: their slots are out of the seat. The word was n
pub record StocksAvail (v : View) (meta bits n : ℕ) (w : View) : Type 0 where
  pub view : w ≡ read (bits_stocked v meta bits) (meta + 24) n
  pub was_zero : n % 2 ^ 32 ≡ 0

-- these bits were set in freed: their slots are out of the seat. The mask was n
pub record PushesFreed (v : View) (meta bits n : ℕ) (w : View) : Type 0 where
  pub view : w ≡ read (bits_pushed v meta bits) (meta + 28) n
  pub tells : (g : Group) → Among g v.desk.groups → g.meta ≡ meta → TellsFreed v g n
