-- Strides, rooms and own cells of slots.
use Rattle.std.proofs.Common.{◌≡◌, ◌≢◌, ℕ, ◌+◌, ◌-◌, ◌*◌, ◌%◌, ◌<◌, ◌≤◌, ◌⊎◌, min, refl, arith, eq-eqb, ne_eqb, inl, inr, ⊎_elim}
use Rattle.std.proofs.lemmas.Bool.{lt-ltb, cases_eq, cases_lt, cases_order}
use Rattle.std.proofs.Math.Nat.{mul-le-mul_left}
use Rattle.ng_class.specs.Class.{units_of}
use Rattle.ng_class.specs.Slot.{stride_of, room_of, start_at, IsOwnCell, IsGroupClass, IsLoneGroup}
use Rattle.ng_class.proofs.Classes.{units_of_pos}

-- the one slot of a mapped group has the whole run, but for the group's 16 bytes
pub stride_of_single : (class last maplen : ℕ) → last ≡ 0 → 0 < maplen → stride_of class last maplen ≡ maplen * 4096 - 16
unfolding stride_of
stride_of_single class last maplen single mapped = rw (eq-eqb last 0 single, lt-ltb 0 maplen mapped) refl

-- slots of a group of several have the class size
pub stride_of_several : (class last maplen : ℕ) → 0 < last → stride_of class last maplen ≡ 16 * units_of class
unfolding stride_of
stride_of_several class last maplen several =
    let apart : last ≢ 0 = λ same. omega (arith, same) in rw (ne_eqb last 0 apart) refl

-- slots of a group that has no run of its own have the class size
pub stride_of_nested : (class last maplen : ℕ) → maplen ≡ 0 → stride_of class last maplen ≡ 16 * units_of class
unfolding stride_of
stride_of_nested class last maplen nested =
    ⊎_elim
    (λ (single : last ≡ 0). rw nested (rw (eq-eqb last 0 single) refl))
    (λ (several : last ≢ 0). rw (ne_eqb last 0 several) refl)
    (cases_eq last 0)

-- a stride, by cases
pub ruleset strides = (stride_of_single, stride_of_several, stride_of_nested)

-- a block of its own may begin anywhere in its slot
pub room_of_lone : (class last maplen : ℕ) → class ≡ 63 → room_of class last maplen ≡ stride_of class last maplen
unfolding room_of
room_of_lone class last maplen lone = rw (eq-eqb class 63 lone) refl

-- other blocks begin within the stride and within the class size
pub room_of_slot : (class last maplen : ℕ) → class ≢ 63 → room_of class last maplen ≡ min (stride_of class last maplen) (16 * units_of class)
unfolding room_of
room_of_slot class last maplen slot = rw (ne_eqb class 63 slot) refl

-- a room, by cases
pub ruleset rooms = (room_of_lone, room_of_slot)

-- a slot ends where the header cell of the next begins, or before that of a later one
pub end-le : (storage stride index later : ℕ) → index < later → start_at storage stride index + stride ≤ start_at storage stride later
end-le storage stride index later below = grind (arith, mul-le-mul_left stride below)

-- distinct slots on one stride have no cell in common
pub own_cells_apart : (storage stride index other addr : ℕ) → index ≢ other → IsOwnCell storage stride index addr → ¬ IsOwnCell storage stride other addr
own_cells_apart storage stride index other addr apart here there =
    ⊎_elim
    (λ same. absurd (apart same))
    (λ order. ⊎_elim
    (λ (below : index < other). omega (arith, end-le storage stride index other below, here.below, there.from))
    (λ (above : other < index). omega (arith, end-le storage stride other index above, there.below, here.from))
    order)
    (cases_order index other)

-- a slot's header cell is its own
pub own_cells_header : (storage stride index : ℕ) → 16 ≤ stride → IsOwnCell storage stride index (start_at storage stride index - 4)
own_cells_header storage stride index wide = record { from = omega arith; below = omega arith }

-- own cells begin at the header cell of slot 0
pub own_cells_above : (storage stride index addr : ℕ) → IsOwnCell storage stride index addr → storage - 4 ≤ addr
own_cells_above storage stride index addr own = omega (arith, own.from)

-- the slots 0 to last end together
pub start-le : (storage stride index last : ℕ) → index ≤ last → start_at storage stride index + stride ≤ storage + stride * (last + 1)
start-le storage stride index last within = grind (arith, mul-le-mul_left stride within)

-- own cells end 4 bytes before that
pub own_cells_below : (storage stride index last addr : ℕ) → index ≤ last → IsOwnCell storage stride index addr → addr < storage + stride * (last + 1) - 4
own_cells_below storage stride index last addr within own = omega (arith, start-le storage stride index last within, own.below)

-- each stride is that of a run of pages, or the class size
pub stride_of_either : (class last maplen : ℕ)
    → ((1 ≤ maplen) × (stride_of class last maplen ≡ maplen * 4096 - 16)) ⊎ (stride_of class last maplen ≡ 16 * units_of class)
stride_of_either class last maplen =
    ⊎_elim
    (λ (single : last ≡ 0). ⊎_elim
    (λ (mapped : 0 < maplen). inl (mapped, stride_of_single class last maplen single mapped))
    (λ (none : maplen ≤ 0). inr (stride_of_nested class last maplen (omega arith)))
    (cases_lt 0 maplen))
    (λ (several : last ≢ 0). inr (stride_of_several class last maplen (omega arith)))
    (cases_eq last 0)

-- each group's slots are at least 16 bytes apart
pub stride_of_least : (class last maplen : ℕ) → IsGroupClass class last maplen → 16 ≤ stride_of class last maplen
stride_of_least class last maplen known =
    ⊎_elim
    (λ (small : class < 48). ⊎_elim
    (λ (run : (1 ≤ maplen) × (stride_of class last maplen ≡ maplen * 4096 - 16)). omega (arith, run.0, run.1))
    (λ (size : stride_of class last maplen ≡ 16 * units_of class). omega (arith, size, units_of_pos class small))
    (stride_of_either class last maplen))
    (λ (lone : IsLoneGroup class last maplen). omega (arith, lone.mapped, stride_of_single class last maplen lone.single lone.mapped))
    known

-- and a multiple of 16
pub stride_of_aligned : (class last maplen : ℕ) → stride_of class last maplen % 16 ≡ 0
stride_of_aligned class last maplen =
    ⊎_elim
    (λ (run : (1 ≤ maplen) × (stride_of class last maplen ≡ maplen * 4096 - 16)). omega (arith, run.0, run.1))
    (λ (size : stride_of class last maplen ≡ 16 * units_of class). omega (arith, size))
    (stride_of_either class last maplen)

-- no room is above the stride
pub room_of-le : (class last maplen : ℕ) → room_of class last maplen ≤ stride_of class last maplen
room_of-le class last maplen =
    ⊎_elim
    (λ (lone : class ≡ 63). omega (arith, room_of_lone class last maplen lone))
    (λ (slot : class ≢ 63). omega (arith, room_of_slot class last maplen slot))
    (cases_eq class 63)
