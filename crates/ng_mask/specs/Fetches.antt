-- What the lock's seat fetches out of the masks of a live group, and sets in them again.
use Rattle.std.specs.Prelude.{◌≡◌, ◌≢◌, ◌⊎◌, ℕ, ◌+◌, ◌%◌, ◌^◌, ◌<◌, List, ◌∷◌, ◌++◌, map}
use Rattle.ng_class.specs.Mask.{IsLowestBit, all_bits_of}
use Rattle.ng_view.specs.Lists.{Among}
use Rattle.ng_view.specs.LockSteps.{bits_of}
use Rattle.ng_view.specs.Steps.{in_motion, popped, read}
use Rattle.ng_view.specs.declared.view.Group.{Group}
use Rattle.ng_view.specs.declared.view.Held.{Held}
use Rattle.ng_view.specs.declared.view.View.{View}
use Rattle.ng_view.specs.Fetches.{ClearsFreed, EmptiesAvail, HasGroup, MayPutBack, StocksAvail}
use Rattle.ng_view.specs.Masks.{TellsAvail}

-- so it is of the live group of that meta
abbrev pub OfGroup : View → ℕ → (Group → Type 0) → Type 0
OfGroup v meta P = (g : Group) → Among g v.desk.groups → g.meta ≡ meta → P g

-- the slots of these bits of a group, in motion
abbrev pub slots_of : Group → ℕ → List Held
slots_of g bits = map (in_motion g) (bits_of bits)

-- avail is noted as 0
abbrev pub bare_noted : View → ℕ → View
bare_noted v meta = record v { desk = record v.desk { zero_avail = meta ∷ v.desk.zero_avail } }

-- the avail mask was 0, and is noted so
pub record FindsNone (v : View) (meta : ℕ) (w : View) : Type 0 where
  pub word : ℕ
  pub mask : word % 2 ^ 32 ≡ 0
  pub view : w ≡ read (bare_noted v meta) (meta + 24) word
  pub tells : OfGroup v meta (λ g. TellsAvail v g word)

-- the avail mask was emptied, and had this bit alone: its slot is in motion, and the mask is noted
-- as 0
pub record TakesLast (v : View) (meta index word : ℕ) (w : View) : Type 0 where
  pub alone : word % 2 ^ 32 ≡ 2 ^ index
  pub view : OfGroup v meta (λ g. w ≡ read (popped (bare_noted v meta) g index) (meta + 24) word)

-- the avail mask was emptied, and its other bits were set again: this bit's slot is in motion
pub record LeavesOthers (v : View) (meta index word : ℕ) (w : View) : Type 0 where
  pub others : word % 2 ^ 32 ≢ 2 ^ index
  pub again : ℕ
  pub bare : again % 2 ^ 32 ≡ 0
  pub view : OfGroup v meta
      (λ g. w ≡ read (read (popped v g index) (meta + 24) word) (meta + 24) again)

-- the lowest bit of the avail mask was taken: its slot is in the seat, in motion, and no other has
-- come
pub record TakesLowest (v : View) (meta index : ℕ) (w : View) : Type 0 where
  pub word : ℕ
  pub lowest : IsLowestBit (word % 2 ^ 32) index
  pub slot : OfGroup v meta (λ g. w.held ≡ in_motion g index ∷ v.held)
  pub views : TakesLast v meta index word w ⊎ LeavesOthers v meta index word w
  pub tells : OfGroup v meta (λ g. TellsAvail v g word)

-- the freed bits 0 to upto were cleared: those that were set are taken, and their slots are in the
-- seat, in motion. The mask is noted as 0 where it had no others
pub record Takes (v : View) (meta upto taken : ℕ) (w : View) : Type 0 where
  pub freed : ℕ
  pub bits : taken ≡ freed % 2 ^ (upto + 1)
  pub slots : OfGroup v meta (λ g. w.held ≡ slots_of g taken ++ v.held)
  pub bare : taken ≡ freed → Among meta w.desk.zero_freed
  pub clears : ClearsFreed v meta (all_bits_of upto) freed w

-- these bits may be set in avail: they are none, or their slots are in the seat and the mask is
-- noted as 0
pub record MayStock (v : View) (meta bits : ℕ) : Type 0 where
  pub live : HasGroup v meta
  pub slots : 0 < bits → MayPutBack v meta bits
  pub zero : 0 < bits → Among meta v.desk.zero_avail

-- these bits were set in avail
pub record Stocks (v : View) (meta bits : ℕ) (w : View) : Type 0 where
  pub word : ℕ
  pub stocks : StocksAvail v meta bits word w

-- avail was emptied, and then freed: all their slots are in the seat, in motion, and both masks are
-- noted as 0
pub record Captures (v : View) (meta avail freed : ℕ) (w : View) : Type 0 where
  pub word : ℕ
  pub between : View
  pub mask : avail ≡ word % 2 ^ 32
  pub slots : OfGroup v meta (λ g. w.held ≡ slots_of g freed ++ (slots_of g avail ++ v.held))
  pub bare_avail : Among meta w.desk.zero_avail
  pub bare_freed : Among meta w.desk.zero_freed
  pub empties : EmptiesAvail v meta word between
  pub takes : Takes between meta 31 freed w
