-- The size classes of the heap: how many units of 16 bytes a slot of each class has.
use Rattle.std.specs.Prelude.{◌≡◌, ◌⊎◌, ◌+◌, ◌*◌, ◌<◌, ◌≤◌, ℕ, List, [], ◌∷◌, slice_index}

-- the units of the classes 0 to 47, in their order
unfoldable pub unit_table : List ℕ
unit_table =
    1 ∷ 2 ∷ 3 ∷ 4 ∷ 5 ∷ 6 ∷ 7 ∷ 8 ∷
    9 ∷ 10 ∷ 12 ∷ 15 ∷ 18 ∷ 20 ∷ 25 ∷ 31 ∷
    36 ∷ 42 ∷ 50 ∷ 63 ∷ 72 ∷ 84 ∷ 102 ∷ 127 ∷
    146 ∷ 170 ∷ 204 ∷ 255 ∷ 292 ∷ 340 ∷ 409 ∷ 511 ∷
    584 ∷ 682 ∷ 818 ∷ 1023 ∷ 1169 ∷ 1364 ∷ 1637 ∷ 2047 ∷
    2340 ∷ 2730 ∷ 3276 ∷ 4095 ∷ 4680 ∷ 5460 ∷ 6552 ∷ 8191 ∷ []

-- the units of a class below 48
abbrev pub units_of : ℕ → ℕ
units_of class = slice_index unit_table class

-- a higher class has more units
abbrev pub UnitsRise : Type 0
UnitsRise = (lower class : ℕ) → lower < class → class < 48 → units_of lower < units_of class

-- the least class whose slots hold n bytes and a header cell of 4
pub record IsLeastClass (n class : ℕ) : Type 0 where
  pub known : class < 48
  pub holds : n + 4 ≤ 16 * units_of class
  pub least : (lower : ℕ) → lower < class → 16 * units_of lower < n + 4

-- a class below 48 that may serve n bytes: the least that holds them, or the next, or a lower one
pub record IsAllowedSlot (n class : ℕ) : Type 0 where
  pub known : class < 48
  pub small : n < 131052
  pub near : (least : ℕ) → IsLeastClass n least → class ≤ least + 1

-- class 63 serves the numbers of bytes that no other class does
pub record IsAllowedLone (n class : ℕ) : Type 0 where
  pub lone : class ≡ 63
  pub large : 131052 ≤ n

-- the class is one that may serve n bytes
abbrev pub IsAllowedClass : ℕ → ℕ → Type 0
IsAllowedClass n class = IsAllowedSlot n class ⊎ IsAllowedLone n class
