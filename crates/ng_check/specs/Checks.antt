-- The fourteen checks of a pointer, by what was read. Each is true where it fails, and None where a
-- cell that it needs wasn't read.
use Rattle.std.specs.Prelude.{ℕ, ◌+◌, ◌-◌, ◌*◌, ◌/◌, ◌%◌, ◌==◌, ◌&&◌, ◌||◌, Bool, true, false, not, nat_lt, nat_le, if◌then◌else◌, List, [], ◌∷◌, Option, Some, None, Result, Ok, Err, is_err}
use Rattle.std.specs.Option.{option_and_then, option_map}
use Rattle.std.specs.Int.{bit_at}
use Rattle.ng_class.specs.Class.{units_of}
use Rattle.ng_header.specs.declared.reading.NominalFault.{NominalFault}
use Rattle.ng_meta.specs.declared.flags.Fields.{Fields}
use Rattle.ng_check.specs.Queries.{Query, avail, base, both, check_word, fields, freed, header, index, is_class, last, mark, mem, named, offset, reserved, slot_end, wide}
use Rattle.ng_check.specs.declared.fault.PointerFault.{PointerFault}
use Rattle.ng_check.specs.declared.fault.PointerFault.TheVariants.{Misaligned, Outside, BadWide, NotGroup, BadIndex, Available, Freed, BadSecret, BadOffset, BadClass, BadMaplen, BadReserved, Overrun, EndByte}

-- the address isn't a multiple of 16
unfoldable pub misaligned : Query → Option Bool
misaligned q = Some (not (q.addr % 16 == 0))

-- it is in page 0, or not in the space
unfoldable pub outside : Query → Option Bool
outside q = Some (nat_lt q.addr 4096 || nat_le (4096 * q.pages) q.addr)

-- the offset is in the cell before the header, and also in the header, or it is no more than 65535
unfoldable pub bad_wide : Query → Option Bool
bad_wide q = option_and_then
    (λ h. if h % 256 == 0 then Some false else option_map (λ w. not (h / 65536 == 0) || nat_le w 65535) (wide q)) (header q)

-- an address is a meta's, in a space of so many pages: one of 101 of 40 bytes from byte 24 of a page on
abbrev pub is_place : ℕ → ℕ → Bool
is_place pages m = (nat_lt 0 (m / 4096) && nat_lt (m / 4096) pages)
    && (nat_le 24 (m % 4096) && ((m % 4096 - 24) % 40 == 0 && nat_lt ((m % 4096 - 24) / 40) 101))

-- the base is in page 0, or the number there isn't a meta's place, or the mem of that meta isn't the base
unfoldable pub not_group : Query → Option Bool
not_group q = option_and_then
    (λ b. if nat_lt b 4096 then Some true else option_and_then
    (λ m. if is_place q.pages m then option_map (λ x. not (x == b)) (mem q) else Some true) (named q)) (base q)

-- the slot's index is above the last
unfoldable pub bad_index : Query → Option Bool
bad_index q = both (λ i f. nat_lt f.last i) (index q) (fields q)

-- its bit is in the avail mask, and in the freed mask
unfoldable pub available : Query → Option Bool
available q = both (λ i a. bit_at a i == 1) (index q) (avail q)

unfoldable pub is_freed : Query → Option Bool
is_freed q = both (λ i f. bit_at f i == 1) (index q) (freed q)

-- the page of the meta doesn't begin with the secret
unfoldable pub bad_secret : Query → Option Bool
bad_secret q = option_map (λ c. not (c == q.secret)) (check_word q)

-- for a class below 48: the offset isn't in the slot of that index
abbrev pub is_bad_offset : ℕ → ℕ → Fields → Bool
is_bad_offset i o f = nat_lt f.class 48 && (nat_lt o (units_of f.class * i) || nat_le (units_of f.class * (i + 1)) o)

unfoldable pub bad_offset : Query → Option Bool
bad_offset q = option_and_then (λ i. both (is_bad_offset i) (offset q) (fields q)) (index q)

-- the class is none of groups
unfoldable pub bad_class : Query → Option Bool
bad_class q = option_map (λ f. not (is_class f)) (fields q)

-- the offset is behind the group's pages
abbrev pub is_bad_maplen : ℕ → Fields → Bool
is_bad_maplen o f = nat_lt 0 f.maplen && nat_lt (f.maplen * 256 - 1) o

unfoldable pub bad_maplen : Query → Option Bool
bad_maplen q = both is_bad_maplen (offset q) (fields q)

-- the slot's end isn't in the space or is below the address, or there is no reserved number
unfoldable pub bad_reserved : Query → Option Bool
bad_reserved q = option_and_then
    (λ e. if nat_le (4096 * q.pages) e || nat_lt e q.addr then Some true else option_map is_err (reserved q)) (slot_end q)

-- there are reserved bytes, and the first isn't 0
abbrev pub overrun_with : Query → Result ℕ NominalFault → Option Bool
overrun_with q (Ok r) = if r == 0 then Some false else option_map (nat_lt 0) (mark q)
overrun_with q (Err fault) = Some false

unfoldable pub overrun : Query → Option Bool
overrun q = option_and_then (overrun_with q) (reserved q)

-- the byte at the slot's end isn't 0
unfoldable pub end_byte : Query → Option Bool
end_byte q = option_map (nat_lt 0) (last q)

-- the checks, in their order
abbrev pub tests : List (PointerFault × (Query → Option Bool))
tests =
    (Misaligned, misaligned) ∷ (Outside, outside) ∷ (BadWide, bad_wide) ∷ (NotGroup, not_group) ∷ (BadIndex, bad_index)
    ∷ (Available, available) ∷ (Freed, is_freed) ∷ (BadSecret, bad_secret) ∷ (BadOffset, bad_offset) ∷ (BadClass, bad_class)
    ∷ (BadMaplen, bad_maplen) ∷ (BadReserved, bad_reserved) ∷ (Overrun, overrun) ∷ (EndByte, end_byte) ∷ []

-- the first that fails, if one does; None where one before lacks a cell
unfoldable pub first_of : List (PointerFault × (Query → Option Bool)) → Query → Option (Option PointerFault)
first_of [] q = Some None
first_of (t ∷ ts) q = option_and_then (λ fails. if fails then Some (Some t.0) else first_of ts q) (t.1 q)

abbrev pub check : Query → Option (Option PointerFault)
check q = first_of tests q
