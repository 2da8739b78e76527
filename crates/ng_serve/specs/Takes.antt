-- Slots of a group that come out of its freed mask, and go into its masks again.
use Rattle.std.specs.Prelude.{◌≡◌, ◌≢◌, ℕ, ◌+◌, ◌^◌, ◌<◌, ◌≤◌, List, ◌∷◌, ◌++◌, Some, None}
use Rattle.ng_view.specs.Lists.{Among, find, without}
use Rattle.ng_view.specs.LockSteps.{bits_of, bits_pushed, let_go}
use Rattle.ng_view.specs.Slots.{IsPlain}
use Rattle.ng_view.specs.Steps.{in_motion, read}
use Rattle.ng_view.specs.declared.view.Group.{Group}
use Rattle.ng_view.specs.declared.view.Held.{Held}
use Rattle.ng_view.specs.declared.view.View.{View}
use Rattle.ng_mask.specs.Fetches.{OfGroup, Stocks, Takes, slots_of}
use Rattle.ng_serve.specs.Groups.{ReadsFields, ReadsIndex}
use Rattle.ng_serve.specs.Reads.{with_notes}

-- the view with other slots, other notes of masks, and these readings more
abbrev pub with_masks : View → View → List (ℕ × ℕ) → View
with_masks v w words = record (with_notes v w words) { held = w.held }

-- slots have come and gone, words were read, and what is noted of the masks of other metas still is
pub record ChangesMasks (v : View) (meta : ℕ) (w : View) : Type 0 where
  pub words : List (ℕ × ℕ)
  pub view : w ≡ with_masks v w words
  pub zero_avail : (m : ℕ) → m ≢ meta → Among m v.desk.zero_avail → Among m w.desk.zero_avail
  pub zero_freed : (m : ℕ) → m ≢ meta → Among m v.desk.zero_freed → Among m w.desk.zero_freed
  pub set_freed : (m i : ℕ) → m ≢ meta → Among {A = ℕ × ℕ} (m, i) v.desk.set_freed
      → Among {A = ℕ × ℕ} (m, i) w.desk.set_freed

-- these bits were set in freed: their slots are out of the seat
pub record Pushes (v : View) (meta bits : ℕ) (w : View) : Type 0 where
  pub mask : ℕ
  pub view : w ≡ read (bits_pushed v meta bits) (meta + 28) mask

-- these bits, if there are any, were set in freed
abbrev pub SetsFreed : View → ℕ → ℕ → View → Type 0
SetsFreed v meta bits w = (bits ≡ 0 → w ≡ v) × (0 < bits → Pushes v meta bits w)

-- these bits, if there are any, were set in avail
abbrev pub SetsAvail : View → ℕ → ℕ → View → Type 0
SetsAvail v meta bits w = (bits ≡ 0 → w ≡ v) × (0 < bits → Stocks v meta bits w)

-- some slot up to an index is noted as freed
pub record HasFreed (v : View) (meta upto : ℕ) : Type 0 where
  pub index : ℕ
  pub noted : Among {A = ℕ × ℕ} (meta, index) v.desk.set_freed
  pub below : index ≤ upto

-- a slot of the group has come to the seat, in motion, and no other
pub record TakesFreed (v : View) (meta index : ℕ) (w : View) : Type 0 where
  pub changes : ChangesMasks v meta w
  pub held : OfGroup v meta (λ g. w.held ≡ in_motion g index ∷ v.held)
  pub plain : OfGroup v meta IsPlain
  pub within : OfGroup v meta (λ g. index ≤ g.last)

-- the highest index in use of a live group was read; the freed bits up to it were taken, and set in avail
pub record StocksInUse (v : View) (meta : ℕ) (w : View) : Type 0 where
  pub upto : ℕ
  pub taken : ℕ
  pub named : View
  pub looked : View
  pub between : View
  pub names : ReadsFields v meta named
  pub looks : OfGroup v meta (λ g. ReadsIndex named g.base upto looked)
  pub takes : Takes looked meta upto taken between
  pub stocks : SetsAvail between meta taken w

-- so the seat has the slots that it had
pub record StocksFreed (v : View) (meta : ℕ) (w : View) : Type 0 where
  pub steps : StocksInUse v meta w
  pub changes : ChangesMasks v meta w
  pub held : w.held ≡ v.held

-- so the slots of these bits are out of the seat, and of avail nothing changes
pub record PutsBits (v : View) (meta bits : ℕ) (w : View) : Type 0 where
  pub sets : SetsFreed v meta bits w
  pub changes : ChangesMasks v meta w
  pub avail : w.desk.zero_avail ≡ v.desk.zero_avail
  pub held : w.held ≡ let_go meta (bits_of bits) v.held

-- a live group of that meta may have slots in its masks: its slots have the whole size of a class
-- below 48, and it is listed
pub record IsServed (v : View) (meta : ℕ) : Type 0 where
  pub group : Group
  pub there : Among group v.desk.groups
  pub of_meta : group.meta ≡ meta
  pub plain : IsPlain group
  pub listed : Among meta v.desk.listed

-- that slot is among these, and has no block
pub record HasBare (held : List Held) (meta index : ℕ) : Type 0 where
  pub few : index < 32
  pub slot : Held
  pub found : find meta index held ≡ Some slot
  pub bare : slot.block ≡ None

-- the bit of the slot was set in freed: it is out of the seat, and of avail nothing changes
pub record PutsSlot (v : View) (meta index : ℕ) (w : View) : Type 0 where
  pub pushes : Pushes v meta (2 ^ index) w
  pub changes : ChangesMasks v meta w
  pub avail : w.desk.zero_avail ≡ v.desk.zero_avail
  pub held : w.held ≡ without meta index v.held

-- in front of other slots, one of which is this, stand those of two masks that were captured
pub record HasCaptured (v : View) (meta avail freed index : ℕ) : Type 0 where
  pub group : Group
  pub of_meta : group.meta ≡ meta
  pub before : List Held
  pub held : v.held ≡ slots_of group freed ++ (slots_of group avail ++ before)
  pub slot : HasBare before meta index

-- captured bits were set again, those of freed and then those of avail, and then the bit of that slot in freed
pub record SetsCaptured (v : View) (meta avail freed index : ℕ) (w : View) : Type 0 where
  pub first : View
  pub second : View
  pub freed_back : SetsFreed v meta freed first
  pub avail_back : SetsAvail first meta avail second
  pub slot_back : Pushes second meta (2 ^ index) w

-- so the captured slots and that one are out of the seat; of avail nothing changes where its mask was 0
pub record PutsCaptured (v : View) (meta avail freed index : ℕ) (w : View) : Type 0 where
  pub sets : SetsCaptured v meta avail freed index w
  pub changes : ChangesMasks v meta w
  pub bare : avail ≡ 0 → w.desk.zero_avail ≡ v.desk.zero_avail
  pub held : (c : HasCaptured v meta avail freed index) → w.held ≡ without meta index c.before
