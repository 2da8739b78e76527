-- A meta's flags and their fields are inverse to each other.
use Rattle.std.proofs.Common.{◌≡◌, ℕ, arith}
use Rattle.std.proofs.lemmas.Grind.{common_steps}
use Rattle.ng_meta.specs.Flags.{IsInRange, fields_in, flags_with}
use Rattle.ng_meta.specs.declared.flags.Fields.{Fields}

-- the fields of a number make it again
pub flags_with-fields_in : (flags : ℕ) → flags_with (fields_in flags) ≡ flags
flags_with-fields_in flags = grind (arith, common_steps)

-- the number of some fields has these
pub fields_in-flags_with : (fields : Fields) → IsInRange fields → fields_in (flags_with fields) ≡ fields
fields_in-flags_with fields range = grind (arith, common_steps, range)
