-- The loads of the lock's seat.
use Rattle.std.specs.Prelude.{◌≡◌, ◌≢◌, ℕ, ◌+◌, ◌<◌, eqb, cond, ◌∷◌, ◌++◌}
use Rattle.ng_view.specs.Conditions.{Builds}
use Rattle.ng_view.specs.LockSteps.{avail_read, learnt_free, read_bits, ring_noted}
use Rattle.ng_view.specs.Lists.{Among}
use Rattle.ng_view.specs.Steps.{read}
use Rattle.ng_view.specs.Tells.{TellsGroup}
use Rattle.ng_view.specs.declared.view.Group.{Group}
use Rattle.ng_view.specs.declared.view.View.{View}
use Rattle.ng_view.specs.Masks.{TellsAvail, TellsFreed}
use Rattle.ng_view.specs.Stores.{IsActiveIndex}

-- a freed mask that is read: it is noted where it is 0, and its bits as set
abbrev pub freed_read : View → ℕ → ℕ → View
freed_read v m n = ring_noted v v.desk.listed v.desk.zero_avail (cond (eqb n 0) (m ∷ v.desk.zero_freed) v.desk.zero_freed) (read_bits m n ++ v.desk.set_freed)

-- the cell is one of a live group's meta, but none of its masks
pub record IsField (v : View) (a : ℕ) : Type 0 where
  pub group : Group
  pub there : Among group v.desk.groups
  pub offset : ℕ
  pub place : a ≡ group.meta + offset
  pub below : offset < 40
  pub no_mask : (offset ≢ 24) × (offset ≢ 28)

-- the cell is none that the seat builds, and no mask of a live group
pub record IsOther (v : View) (a : ℕ) : Type 0 where
  pub not_built : Builds v a → ⊥
  pub no_avail : (g : Group) → Among g v.desk.groups → a ≢ g.meta + 24
  pub no_freed : (g : Group) → Among g v.desk.groups → a ≢ g.meta + 28

-- the word n was found at a
pub record Loads (v : View) (a n : ℕ) (w : View) : Type 0 where
  -- a cell that the seat builds is then known
  pub page : Builds v a → w ≡ read (learnt_free v a n) a n
  -- the masks of a live group are noted
  pub avail : (g : Group) → Among g v.desk.groups → a ≡ g.meta + 24 → w ≡ read (avail_read v g.meta n) a n
  pub freed : (g : Group) → Among g v.desk.groups → a ≡ g.meta + 28 → w ≡ read (freed_read v g.meta n) a n
  -- any other word is a reading alone
  pub field : IsField v a → w ≡ read v a n
  pub index : IsActiveIndex v a → w ≡ read v a n
  pub other : IsOther v a → w ≡ read v a n

-- what a word tells of a live group
pub record TellsOf (v : View) (g : Group) (a n : ℕ) : Type 0 where
  pub fields : TellsGroup g a n
  pub avail : a ≡ g.meta + 24 → TellsAvail v g n
  pub freed : a ≡ g.meta + 28 → TellsFreed v g n

-- what a word tells of each
abbrev pub TellsGroups : View → ℕ → ℕ → Type 0
TellsGroups v a n = (g : Group) → Among g v.desk.groups → TellsOf v g a n
