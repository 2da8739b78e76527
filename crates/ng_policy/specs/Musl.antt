-- The choices of musl: how many slots a group has, and whether an empty one is kept.
use Rattle.std.specs.Prelude.{◌≡◌, ◌+◌, ◌-◌, ◌*◌, ◌/◌, ◌%◌, ◌<◌, ◌≤◌, ◌==◌, ◌&&◌, ℕ, List, [], ◌∷◌, Bool, true, not, length, slice_index, slice_index_or, find, unwrap_or, if◌then◌else◌, nat_lt, nat_le}
use Rattle.ng_class.specs.Class.{units_of}
use Rattle.ng_policy.specs.declared.ask.Ask.{Ask}
use Rattle.ng_policy.specs.declared.ask.Spare.{Spare}

-- the numbers of slots to choose from, for the classes 0 to 8 in their order
unfoldable pub small_table : List (List ℕ)
small_table =
    (30 ∷ 30 ∷ 30 ∷ []) ∷
    (31 ∷ 15 ∷ 15 ∷ []) ∷
    (20 ∷ 10 ∷ 10 ∷ []) ∷
    (31 ∷ 15 ∷ 7 ∷ []) ∷
    (25 ∷ 12 ∷ 6 ∷ []) ∷
    (21 ∷ 10 ∷ 5 ∷ []) ∷
    (18 ∷ 8 ∷ 4 ∷ []) ∷
    (31 ∷ 15 ∷ 7 ∷ []) ∷
    (28 ∷ 14 ∷ 6 ∷ []) ∷ []

-- the same for the higher classes, by the class modulo 4: a number and its halves, down to an odd one
unfoldable pub medium_table : List (List ℕ)
medium_table =
    (28 ∷ 14 ∷ 7 ∷ []) ∷
    (24 ∷ 12 ∷ 6 ∷ 3 ∷ []) ∷
    (20 ∷ 10 ∷ 5 ∷ []) ∷
    (32 ∷ 16 ∷ 8 ∷ 4 ∷ 2 ∷ 1 ∷ []) ∷ []

-- the numbers of slots to choose from, for any class
abbrev pub choices_of : ℕ → List ℕ
choices_of class =
    if nat_lt class 9 then slice_index_or small_table class []
    else slice_index_or medium_table (class % 4) []

-- the first choice that is at most a quarter of the usage, or the last
abbrev pub first_choice : List ℕ → ℕ → ℕ
first_choice choices usage =
    unwrap_or (find (λ slots. nat_le (4 * slots) usage) choices)
    (slice_index choices (length choices - 1))

-- the slots, or half or a quarter of them, so that their units are below 65536 (those of 8 slots are)
abbrev pub fitting : ℕ → ℕ → ℕ
fitting units slots =
    if nat_lt (units * slots) 65536 then slots
    else if nat_lt (units * (slots / 2)) 65536 then slots / 2
    else slots / 4

-- the choice for a class of this usage; from class 9 on, so many that their units are below 65536
unfoldable pub chosen : ℕ → ℕ → ℕ
chosen class usage =
    let slots = first_choice (choices_of class) usage in
    if nat_lt class 9 then slots else fitting (units_of class) slots

-- two slots in place of one that fits, with the group's 16 bytes, into 2048 bytes
abbrev pub paired : ℕ → ℕ → ℕ
paired class slots = if slots == 1 && nat_le (16 * units_of class + 16) 2048 then 2 else slots

-- the bytes of the slots
abbrev pub bytes_of : ℕ → ℕ → ℕ
bytes_of class slots = 16 * units_of class * slots

-- the group has more than 2048 bytes, few slots of its class and of the next are live, and the class
-- isn't bouncing
abbrev pub is_sparse : Ask → ℕ → Bool
is_sparse ask slots =
    nat_lt 2048 (bytes_of ask.class slots + 16) && nat_lt (ask.usage + ask.near) (4 * slots)
    && not ask.bouncing

-- the slots of such a group: few where it would be large
unfoldable pub thinned : ℕ → ℕ → ℕ
thinned class slots =
    if class % 4 == 1 && nat_lt 32768 (bytes_of class slots) then 2
    else if class % 4 == 2 && nat_lt 16384 (bytes_of class slots) then 3
    else if class % 4 == 0 && nat_lt 32768 (bytes_of class slots) then 3
    else if class % 4 == 0 && nat_lt 8192 (bytes_of class slots) then 5
    else slots

-- the slots of a new group
unfoldable pub musl_slots : Ask → ℕ
musl_slots ask =
    let slots = paired ask.class (chosen ask.class ask.usage) in
    if is_sparse ask slots then thinned ask.class slots else slots

-- the group has few slots, and they are at most a ninth of the usage
pub record IsSmallPart (spare : Spare) : Type 0 where
  pub part : 9 * spare.slots ≤ spare.usage
  pub few : spare.slots < 20

-- an empty group is kept: it is alone in its ring, its class is bouncing, and it isn't a small part
pub record IsWorthKeeping (spare : Spare) : Type 0 where
  pub alone : spare.alone ≡ true
  pub bouncing : spare.bouncing ≡ true
  pub large : ¬ IsSmallPart spare
