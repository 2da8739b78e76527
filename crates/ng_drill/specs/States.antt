-- What a script made so far, and what it told of the bytes of its blocks.
use Rattle.std.specs.Prelude.{◌≡◌, ℕ, ◌+◌, ◌*◌, ◌-◌, ◌<◌, ◌==◌, ◌++◌, List, [], ◌∷◌, Option, Some, None, Result, Ok, Err, not, min, nat_lt, if◌then◌else◌, find, filter, map, replicate, slice_index_or}
use Rattle.std.specs.Option.{option_and_then, option_map, option_zip}
use Rattle.ng_header.specs.Bytes.{byte_of}
use Rattle.ng_header.specs.Reading.{nominal_in, reserved_in}
use Rattle.ng_header.specs.declared.reading.NominalFault.{NominalFault}
use Rattle.ng_script.specs.declared.command.Place.{Place}
use Rattle.ng_script.specs.declared.command.Place.TheVariants.{At, Named}
use Rattle.ng_script.specs.declared.command.Shift.{Shift}
use Rattle.ng_script.specs.declared.command.Shift.TheVariants.{Up, Down}

-- a block that the script made and didn't free: its address, the bytes from there to its slot's end, its header's reserved
-- field, and what is told so far of these bytes, by their place from its address, the latest first
pub record Standing : Type 0 where
  pub at : ℕ
  pub gap : ℕ
  pub field : ℕ
  pub bytes : List (ℕ × ℕ)

-- where each name's block was put, by the name's number (None: its last m was refused, or none came yet), and the blocks that
-- stand
pub record State : Type 0 where
  pub names : List (Option ℕ)
  pub blocks : List Standing

-- before the first command: no name has an address, and no block stands
abbrev pub first_state : ℕ → State
first_state names = record { names = replicate names None; blocks = [] }

-- ---- bytes
-- the latest that is told of the byte at a place
abbrev pub byte_in : ℕ → List (ℕ × ℕ) → Option ℕ
byte_in k bytes = option_map (λ told. told.1) (find (λ told. told.0 == k) bytes)

-- the number that is told of the four bytes from a place on, the lowest first
abbrev pub number_in : ℕ → List (ℕ × ℕ) → Option ℕ
number_in k bytes =
    option_map (λ told. (told.0.0 + 256 * told.0.1) + 65536 * (told.1.0 + 256 * told.1.1))
    (option_zip (option_zip (byte_in k bytes) (byte_in (k + 1) bytes)) (option_zip (byte_in (k + 2) bytes) (byte_in (k + 3) bytes)))

-- whatever was told is told still with the same value, and every told value is a byte's
pub record Extends (before after : List (ℕ × ℕ)) : Type 0 where
  pub told : (k byte : ℕ) → byte_in k before ≡ Some byte → byte_in k after ≡ Some byte
  pub small : (k byte : ℕ) → byte_in k after ≡ Some byte → byte < 256

-- ---- what the bytes tell of a block's length
-- the reserved number, or that there is none: by the field, and for 5 by the number and the fifth byte before the slot's end
abbrev pub reserved_told : Standing → Option (Result ℕ NominalFault)
reserved_told block = if block.field == 5
    then option_map (λ told. reserved_in 5 told.0 told.1 block.gap)
    (option_zip (number_in (block.gap - 4) block.bytes) (byte_in (block.gap - 5) block.bytes))
    else Some (reserved_in block.field 0 0 block.gap)

-- the length by the reserved number and the first reserved byte, if there is one; or the fault
abbrev pub length_told : Standing → Result ℕ NominalFault → Option (Result ℕ NominalFault)
length_told block (Err fault) = Some (Err fault)
length_told block (Ok reserved) = if reserved == 0 then Some (Ok block.gap)
    else option_map (λ mark. nominal_in block.gap reserved mark 0) (byte_in (block.gap - reserved) block.bytes)

-- the length or the fault, as the block's field, gap and told bytes say; nothing where a byte that it needs isn't told
abbrev pub verdict_in : Standing → Option (Result ℕ NominalFault)
verdict_in block = option_and_then (length_told block) (reserved_told block)

-- ---- a block that was given just now
-- a number in the four bytes from a place on
abbrev pub number_told : ℕ → ℕ → List (ℕ × ℕ)
number_told k n = (k, byte_of n 0) ∷ (k + 1, byte_of n 1) ∷ (k + 2, byte_of n 2) ∷ (k + 3, byte_of n 3) ∷ []

-- what stands behind a block whose slot ends so many bytes behind it: nothing, a byte of 0, or from 5 on their number too
abbrev pub trailer_told : ℕ → ℕ → List (ℕ × ℕ)
trailer_told gap rest = if rest == 0 then [] else if nat_lt rest 5 then (gap - rest, 0) ∷ []
    else (gap - rest, 0) ∷ (gap - 5, 0) ∷ number_told (gap - 4) rest

abbrev pub fresh : ℕ → ℕ → ℕ → Standing
fresh at gap n = record { at = at; gap = gap; field = min (gap - n) 5; bytes = trailer_told gap (gap - n) }

-- ---- addresses
-- an address so far from another, within 64 bits
abbrev pub shifted : Shift → ℕ → ℕ
shifted (Up n) at = min (at + n) 18446744073709551615
shifted (Down n) at = at - n

-- the address of a place, if its name has one
abbrev pub address_of : List (Option ℕ) → Place → Option ℕ
address_of names (At at) = Some at
address_of names (Named name shift) = option_map (shifted shift) (slice_index_or names name None)

-- the block, of which these bytes are told
abbrev pub with_told : List (ℕ × ℕ) → Standing → Standing
with_told bytes block = record block { bytes = bytes }

-- the block that stands at an address, the blocks without it, and with other bytes told of it
abbrev pub standing_at : ℕ → List Standing → Option Standing
standing_at at blocks = find (λ block. block.at == at) blocks

abbrev pub without_at : ℕ → List Standing → List Standing
without_at at blocks = filter (λ block. not (block.at == at)) blocks

abbrev pub with_bytes : ℕ → List (ℕ × ℕ) → List Standing → List Standing
with_bytes at bytes blocks = map (λ (block : Standing). if block.at == at then with_told bytes block else block) blocks
