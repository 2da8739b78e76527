-- How large a new group is, and how far its slots are in use.
use Rattle.std.specs.Prelude.{◌≡◌, ◌≢◌, ◌⊎◌, ◌+◌, ◌-◌, ◌*◌, ◌/◌, ◌<◌, ◌≤◌, ◌&&◌, ◌||◌, ℕ, Bool, min, not, if◌then◌else◌, nat_lt, nat_le}
use Rattle.ng_class.specs.Class.{units_of}
use Rattle.ng_terms.specs.Accounts.{pages_for}
use Rattle.ng_policy.specs.declared.ask.Ask.{Ask}
use Rattle.ng_shelf.specs.declared.shape.RunShape.{RunShape}

-- the bytes of a group: its own 16, then its slots
abbrev pub group_bytes : ℕ → ℕ → ℕ
group_bytes class count = 16 + 16 * units_of class * count

-- a group of so many slots lies in a slot of another group
abbrev pub IsNestedSize : ℕ → ℕ → Type 0
IsNestedSize class count = group_bytes class count ≤ 2048

-- the pages that hold so many bytes
abbrev pub pages_of : ℕ → ℕ
pages_of bytes = (bytes + 4095) / 4096

-- one slot on such a run is no worse: the run is smaller than a slot with its group, or it is large and so many slots
-- would be more than half of those that are live
unfoldable pub is_no_worse : Ask → ℕ → ℕ → Bool
is_no_worse ask bytes count =
    nat_lt (4096 * pages_for bytes) (group_bytes ask.class 1)
    || nat_le 16384 (4096 * pages_for bytes) && nat_lt (ask.usage + ask.near) (2 * count)

-- the group is made of one slot: the class isn't bouncing, few slots are wanted, and one is no worse
unfoldable pub makes_one : Ask → ℕ → ℕ → Bool
makes_one ask bytes count = not ask.bouncing && nat_le count 7 && is_no_worse ask bytes count

-- the slots and the pages of a new group with a run of its own
unfoldable pub shape_of : Ask → ℕ → ℕ → RunShape
shape_of ask bytes count =
    if makes_one ask bytes count then record { count = 1; pages = pages_for bytes }
    else record { count = count; pages = pages_of (group_bytes ask.class count) }

-- the slots up to an index end in the group's first page
abbrev pub EndsInPage : ℕ → ℕ → Type 0
EndsInPage class index = group_bytes class (index + 1) ≤ 4096

-- the highest index of a group's slots up to which they end in its first page; or 0, as slot 0 is in use in any case
pub record IsFirstActive (class count index : ℕ) : Type 0 where
  pub within : index < count
  pub ends : (index ≡ 0) ⊎ EndsInPage class index
  pub greatest : (higher : ℕ) → index < higher → higher < count → ¬ EndsInPage class higher

-- the same as a number
abbrev pub first_active_of : ℕ → ℕ → ℕ
first_active_of class count = min (4080 / (16 * units_of class) - 1) (count - 1)

-- a slot's first and last byte lie in two pages, where the group begins with a page
abbrev pub CrossesPages : ℕ → ℕ → Type 0
CrossesPages class slot = group_bytes class slot / 4096 ≢ (group_bytes class (slot + 1) - 1) / 4096

-- slots may be in use up to an index: the next one crosses pages, or there is no next
abbrev pub IsStop : ℕ → ℕ → ℕ → Type 0
IsStop class last index = (index ≡ last) ⊎ CrossesPages class (index + 1)

-- the least index above the active one that is a stop
pub record IsRaised (class active last index : ℕ) : Type 0 where
  pub above : active < index
  pub stop : IsStop class last index
  pub least : (lower : ℕ) → active < lower → lower < index → ¬ IsStop class last lower

-- no other number has the property
abbrev pub IsOnly : (ℕ → Type 0) → ℕ → Type 0
IsOnly P index = (other : ℕ) → P other → other ≡ index
