-- What is read of the bytes before a slot's end.
use Rattle.std.specs.Prelude.{ℕ, ◌≡◌, ◌⊎◌, ◌==◌, ◌-◌, ◌<◌, ◌&&◌, ◌||◌, Bool, Result, Ok, Err, nat_lt, if◌then◌else◌}
use Rattle.ng_header.specs.declared.reading.NominalFault.{NominalFault}
use Rattle.ng_header.specs.declared.reading.NominalFault.TheVariants.{BadReserved, Overrun, EndByte}

-- the reserved number: the number in the last four bytes for field 5, else the field itself
abbrev pub reserved_by : ℕ → ℕ → ℕ
reserved_by field word = if field == 5 then word else field

-- for field 5: the number is below 5, or the byte before it isn't 0
abbrev pub IsBadWord : ℕ → ℕ → Type 0
IsBadWord word fifth = (word < 5) ⊎ (0 < fifth)

-- the field is 6 or 7; or it is 5 and the number is bad; or the reserved number is above the gap
abbrev pub IsBadReserved : ℕ → ℕ → ℕ → ℕ → Type 0
IsBadReserved field word fifth gap =
    (5 < field) ⊎ ((field ≡ 5) × IsBadWord word fifth) ⊎ (gap < reserved_by field word)

-- the same, as a test
abbrev pub is_bad_reserved : ℕ → ℕ → ℕ → ℕ → Bool
is_bad_reserved field word fifth gap =
    nat_lt 5 field || (field == 5 && (nat_lt word 5 || nat_lt 0 fifth)) || nat_lt gap (reserved_by field word)

-- the reserved number, or that there is none
abbrev pub reserved_in : ℕ → ℕ → ℕ → ℕ → Result ℕ NominalFault
reserved_in field word fifth gap =
    if is_bad_reserved field word fifth gap then Err BadReserved else Ok (reserved_by field word)

-- there are reserved bytes, and the first of them isn't 0
pub record IsOverrun (reserved mark : ℕ) : Type 0 where
  pub reserves : 0 < reserved
  pub marked : 0 < mark

-- the first reserved byte is 0 where there is one, and the byte at the end isn't
pub record IsEndByte (reserved mark last : ℕ) : Type 0 where
  pub clean : 0 < reserved → mark ≡ 0
  pub written : 0 < last

-- the length of the block, or the first of the two faults
abbrev pub nominal_in : ℕ → ℕ → ℕ → ℕ → Result ℕ NominalFault
nominal_in gap reserved mark last =
    if nat_lt 0 reserved && nat_lt 0 mark then Err Overrun else
    (if nat_lt 0 last then Err EndByte else Ok (gap - reserved))
