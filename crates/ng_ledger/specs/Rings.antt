-- What ties the rings to the groups and to what the lock's seat noted: the list law.
use Rattle.std.specs.Prelude.{◌≡◌, ◌≢◌, ℕ, ◌<◌, List, [], ◌∷◌, ◌++◌, length, All, AllPairs, Contains, drop}
use Rattle.ng_meta.specs.Place.{IsMetaPlace}
use Rattle.ng_lists.specs.Rings.{AreApart, RingTable, IsListed, ring_of, rotated, with_ring, without}
use Rattle.ng_view.specs.Lists.{Among}
use Rattle.ng_view.specs.declared.view.Group.{Group}
use Rattle.ng_ledger.specs.Groups.{IsOfClass}

-- the meta is in the ring of a class
abbrev pub IsIn : RingTable → ℕ → ℕ → Type 0
IsIn table class m = Contains (ring_of table class) m

-- what holds of the rings at all times: there are 48, each of metas of the space, and none stands twice
pub record IsTable (table : RingTable) : Type 0 where
  pub classes : length table.rings ≡ 48
  pub places : All (All (λ meta. IsMetaPlace meta table.pages)) table.rings
  pub once : All (AllPairs (λ meta other. meta ≢ other)) table.rings
  pub apart : AllPairs AreApart table.rings

-- one class has another ring, and nothing else changes
pub record ChangesRing (before after : RingTable) (class : ℕ) (ring : List ℕ) : Type 0 where
  pub here : ring_of after class ≡ ring
  pub others : (other : ℕ) → other ≢ class → ring_of after other ≡ ring_of before other
  pub classes : length after.rings ≡ length before.rings
  pub pages : after.pages ≡ before.pages

-- the table once a meta comes last into the ring of a class
abbrev pub entered : RingTable → ℕ → ℕ → RingTable
entered table class m = with_ring table class (ring_of table class ++ m ∷ [])

-- once the ring is turned to one of its metas
abbrev pub turned : RingTable → ℕ → ℕ → RingTable
turned table class m = with_ring table class (rotated m (ring_of table class))

-- once a meta comes first
abbrev pub entered_first : RingTable → ℕ → ℕ → RingTable
entered_first table class m = turned (entered table class m) class m

-- once a meta leaves
abbrev pub left : RingTable → ℕ → ℕ → RingTable
left table class m = with_ring table class (without m (ring_of table class))

-- each meta of a ring has a live group of the ring's class; the metas of the rings are the listed ones; and those
-- after a ring's first have avail noted as 0
pub record AreRinged (gs : List Group) (listed zero : List ℕ) (table : RingTable) : Type 0 where
  pub grouped : (class m : ℕ) → class < 48 → IsIn table class m → IsOfClass gs m class
  pub noted_listed : (class m : ℕ) → class < 48 → IsIn table class m → Among m listed
  pub ringed : (m : ℕ) → Among m listed → IsListed table m
  pub tails : (class m : ℕ) → class < 48 → Contains (drop 1 (ring_of table class)) m → Among m zero

-- every meta of the ring has avail noted as 0, the first too
abbrev pub IsBare : List ℕ → RingTable → ℕ → Type 0
IsBare zero table class = (m : ℕ) → IsIn table class m → Among m zero
