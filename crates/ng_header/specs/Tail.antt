-- The trailer of a block, and how it reads back.
use Rattle.std.specs.Prelude.{ℕ, ◌≡◌, ◌+◌, ◌*◌, ◌^◌, min, nat_lt, nat_le, if◌then◌else◌, Some, None, IfSome, OnSome, Result, Ok, Err}
use Rattle.ng_header.specs.Reading.{reserved_in, nominal_in}
use Rattle.ng_header.specs.declared.tail.Trailer.{Trailer}
use Rattle.ng_header.specs.declared.reading.NominalFault.{NominalFault}

-- a field up to 5; a 0 in the first reserved byte; and from 5 reserved bytes on their number
abbrev pub trailer_of : ℕ → Trailer
trailer_of reserved = record {
  field = min reserved 5;
  zero_at = (if nat_lt 0 reserved then Some reserved else None);
  word = (if nat_le 5 reserved then Some reserved else None);
}

-- the bytes round a slot's end by how far before it they lie, from 0 for the byte at the end
abbrev pub Tail : Type 0
Tail = ℕ → ℕ

-- the number in the last four bytes before the end
abbrev pub word_in : Tail → ℕ
word_in tail = tail 4 + 256 * tail 3 + 256 ^ 2 * tail 2 + 256 ^ 3 * tail 1

-- the bytes are those of the trailer where it says anything of them
pub record HasTrailer (trailer : Trailer) (tail : Tail) : Type 0 where
  pub zero : IfSome trailer.zero_at (λ distance. tail distance ≡ 0)
  pub word : IfSome trailer.word (λ word. word_in tail ≡ word)
  pub fifth : OnSome trailer.word (tail 5 ≡ 0)

-- the length that is read with a reserved number, or the fault
abbrev pub size_with : ℕ → Tail → Result ℕ NominalFault → Result ℕ NominalFault
size_with gap tail (Ok reserved) = nominal_in gap reserved (tail reserved) (tail 0)
size_with gap tail (Err fault) = Err fault

-- the length that is read of a header's reserved field and these bytes, or the fault
abbrev pub size_in : ℕ → ℕ → Tail → Result ℕ NominalFault
size_in field gap tail = size_with gap tail (reserved_in field (word_in tail) (tail 5) gap)

-- any bytes that have the trailer, and 0 at the end, read as this length
abbrev pub ReadsBack : Trailer → ℕ → ℕ → Type 0
ReadsBack trailer gap size =
    (tail : Tail) → HasTrailer trailer tail → tail 0 ≡ 0 → size_in trailer.field gap tail ≡ Ok size
