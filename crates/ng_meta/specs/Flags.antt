-- The flags of a meta, as one 64-bit number.
use Rattle.std.specs.Prelude.{ℕ, ◌+◌, ◌*◌, ◌/◌, ◌%◌, ◌^◌, ◌<◌, ◌==◌, Bool, true, false}
use Rattle.ng_meta.specs.declared.flags.Fields.{Fields}

-- the last index in bits 0 to 4, freeable in bit 5, the class in bits 6 to 11, maplen from bit 12
abbrev pub fields_in : ℕ → Fields
fields_in flags = record {
  last = flags % 2 ^ 5;
  freeable = flags / 2 ^ 5 % 2 == 1;
  class = flags / 2 ^ 6 % 2 ^ 6;
  maplen = flags / 2 ^ 12;
}

-- 1 for true
abbrev pub bit_of : Bool → ℕ
bit_of true = 1
bit_of false = 0

-- the number with these fields
abbrev pub flags_with : Fields → ℕ
flags_with fields =
    fields.last + 2 ^ 5 * bit_of fields.freeable + 2 ^ 6 * fields.class + 2 ^ 12 * fields.maplen

-- each field has its width
pub record IsInRange (fields : Fields) : Type 0 where
  pub last : fields.last < 32
  pub class : fields.class < 64
  pub maplen : fields.maplen < 2 ^ 52
