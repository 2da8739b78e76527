-- What a command may come to, and what it leaves.
use Rattle.std.specs.Prelude.{◌≡◌, ◌⊎◌, ℕ, ◌+◌, ◌*◌, ◌%◌, ◌<◌, ◌≤◌, ◌≢◌, ◌↔◌, List, [], ◌∷◌, Option, Some, None, Result, Ok, Err, slice_index_or, slice_set}
use Rattle.ng_check.specs.Answers as check
use Rattle.ng_check.specs.declared.fault.PointerFault.TheVariants as pointer
use Rattle.ng_frame.specs.declared.damage.Damage.TheVariants as damage
use Rattle.ng_header.specs.declared.reading.NominalFault.{NominalFault}
use Rattle.ng_header.specs.declared.reading.NominalFault.TheVariants as nominal
use Rattle.ng_script.specs.declared.command.Command.{Command}
use Rattle.ng_script.specs.declared.command.Command.TheVariants.{Malloc, Free, Write, Usable}
use Rattle.ng_script.specs.declared.command.Place.{Place}
use Rattle.ng_terms.specs.Heap.{large}
use Rattle.ng_terms.specs.declared.entry.Entry.{Entry}
use Rattle.ng_terms.specs.declared.entry.Entry.TheVariants as entry
use Rattle.ng_drill.specs.States.{Extends, Standing, State, address_of, fresh, standing_at, verdict_in, with_bytes, with_told, without_at}
use Rattle.ng_drill.specs.declared.answer.Answer.{Answer}
use Rattle.ng_drill.specs.declared.answer.Answer.TheVariants as answer
use Rattle.ng_drill.specs.declared.answer.AtFault.{AtFault}
use Rattle.ng_drill.specs.declared.answer.AtFault.TheVariants.{Bad, NotHeld}
use Rattle.ng_drill.specs.declared.answer.Freed.{Freed}
use Rattle.ng_drill.specs.declared.answer.Freed.TheVariants as freed
use Rattle.ng_drill.specs.declared.answer.Malloced.{Malloced}
use Rattle.ng_drill.specs.declared.answer.Malloced.TheVariants.{Given, NoMemory, TooLarge}
use Rattle.ng_drill.specs.declared.answer.Measured.{Measured}
use Rattle.ng_drill.specs.declared.answer.Measured.TheVariants as measured
use Rattle.ng_drill.specs.declared.answer.Written.{Written}
use Rattle.ng_drill.specs.declared.answer.Written.TheVariants as written

-- the name's address from now on
abbrev pub with_name : ℕ → Option ℕ → State → State
with_name name at state = record state { names = slice_set state.names name at }

-- ---- m
-- a block of n bytes stands from now on at an address where none stood, in a slot that ends in the space, and the name gets it
pub record IsGiven (pages name n at : ℕ) (before after : State) : Type 0 where
  pub small : n < large
  pub vacant : standing_at at before.blocks ≡ None
  pub gap : ℕ
  pub roomy : n ≤ gap
  pub inside : at + gap < 4096 * pages
  pub state : after ≡ record { names = slice_set before.names name (Some at); blocks = fresh at gap n ∷ before.blocks }

-- a request of n bytes for a name: where it is refused, the name has no address
abbrev pub Mallocs : ℕ → ℕ → ℕ → State → Malloced → State → Type 0
Mallocs pages name n before (Given at) after = IsGiven pages name n at before after
Mallocs pages name n before (NoMemory excuse) after = (n < large) × (after ≡ with_name name None before)
Mallocs pages name n before TooLarge after = (large ≤ n) × (after ≡ with_name name None before)

-- ---- what the bytes of a standing block tell
-- some bytes were looked up, which agree with what was told, and by all of them this is the verdict on the block
pub record Judges (block : Standing) (bytes : List (ℕ × ℕ)) (verdict : Result ℕ NominalFault) : Type 0 where
  pub extends : Extends block.bytes bytes
  pub judged : verdict_in (with_told bytes block) ≡ Some verdict

-- ---- f
-- the free of a standing block by the verdict on it: it goes, or is refused and stands with the bytes that were told
abbrev pub FreesBy : State → ℕ → List (ℕ × ℕ) → Result ℕ NominalFault → Freed → State → Type 0
FreesBy before at bytes (Ok len) answer after =
    (answer ≡ freed.Done) × (after ≡ record before { blocks = without_at at before.blocks })
FreesBy before at bytes (Err nominal.BadReserved) answer after =
    (answer ≡ freed.Refused (Bad pointer.BadReserved)) × (after ≡ record before { blocks = with_bytes at bytes before.blocks })
FreesBy before at bytes (Err nominal.Overrun) answer after =
    (answer ≡ freed.Refused (Bad pointer.Overrun)) × (after ≡ record before { blocks = with_bytes at bytes before.blocks })
FreesBy before at bytes (Err nominal.EndByte) answer after = ⊥

-- the address lies in no page of a block
abbrev pub IsOutside : ℕ → ℕ → Type 0
IsOutside pages at = (at < 4096) ⊎ (4096 * pages ≤ at)

-- an address where no block stands is refused, for the first checks exactly where it fails them
pub record RefusesAt (pages at : ℕ) (answer : Freed) : Type 0 where
  pub fault : AtFault
  pub refused : answer ≡ freed.Refused fault
  pub misaligned : (fault ≡ Bad pointer.Misaligned) ↔ (at % 16 ≢ 0)
  pub outside : (fault ≡ Bad pointer.Outside) ↔ ((at % 16 ≡ 0) × IsOutside pages at)

-- the free of an address, by the block that stands there
abbrev pub FreesAt : ℕ → State → ℕ → Option Standing → Freed → State → Type 0
FreesAt pages before at (Some block) answer after =
    (bytes : List (ℕ × ℕ)) × (verdict : Result ℕ NominalFault) × Judges block bytes verdict × FreesBy before at bytes verdict answer after
FreesAt pages before at None answer after = RefusesAt pages at answer × (after ≡ before)

-- the free of a place, by its address
abbrev pub Frees : ℕ → State → Option ℕ → Freed → State → Type 0
Frees pages before (Some at) answer after = FreesAt pages before at (standing_at at before.blocks) answer after
Frees pages before None answer after = (answer ≡ freed.Absent) × (after ≡ before)

-- ---- w
-- the byte is told from now on where it lies in the block's slot; else nothing is written
abbrev pub WritesTo : State → ℕ → ℕ → Option Standing → Written → State → Type 0
WritesTo before offset byte (Some block) written.Done after = (offset < block.gap)
    × (after ≡ record before { blocks = with_bytes block.at ((offset, byte) ∷ block.bytes) before.blocks })
WritesTo before offset byte (Some block) written.Range after = (block.gap ≤ offset) × (after ≡ before)
WritesTo before offset byte (Some block) written.Absent after = ⊥
WritesTo before offset byte None answer after = (answer ≡ written.Absent) × (after ≡ before)

-- ---- u
-- the usable size of a standing block by the verdict on it
abbrev pub MeasuredAs : Result ℕ NominalFault → Measured → Type 0
MeasuredAs (Ok len) answer = answer ≡ measured.Bytes len
MeasuredAs (Err nominal.BadReserved) answer = answer ≡ measured.Damaged damage.BadReserved
MeasuredAs (Err nominal.Overrun) answer = answer ≡ measured.Damaged damage.Overrun
MeasuredAs (Err nominal.EndByte) answer = ⊥

-- the block stands with the bytes that were told
abbrev pub MeasuresAt : State → Option Standing → Measured → State → Type 0
MeasuresAt before (Some block) answer after =
    (bytes : List (ℕ × ℕ)) × (verdict : Result ℕ NominalFault) × Judges block bytes verdict × MeasuredAs verdict answer
    × (after ≡ record before { blocks = with_bytes block.at bytes before.blocks })
MeasuresAt before None answer after = (answer ≡ measured.Absent) × (after ≡ before)

-- ---- a command
-- the block that stands at a name's address, if it has one
abbrev pub standing_of : ℕ → State → Option Standing
standing_of name state = at_address (slice_index_or state.names name None)
  where
    at_address : Option ℕ → Option Standing
    at_address (Some at) = standing_at at state.blocks
    at_address None = None

-- the command may have the answer, and leaves the state after
abbrev pub IsStep : ℕ → State → Command → Answer → State → Type 0
IsStep pages before (Malloc name n) (answer.Malloc made) after = Mallocs pages name n before made after
IsStep pages before (Free place) (answer.Free done) after = Frees pages before (address_of before.names place) done after
IsStep pages before (Write name offset byte) (answer.Write done) after =
    WritesTo before offset byte (standing_of name before) done after
IsStep pages before (Usable name) (answer.Usable size) after = MeasuresAt before (standing_of name before) size after
IsStep pages before command reply after = ⊥

-- ---- its entries
-- the number of a fault in the entry of a refused pointer
abbrev pub number_of : AtFault → ℕ
number_of (Bad fault) = check.number_of fault
number_of NotHeld = 15

-- the entries of a request
abbrev pub malloc_entries : ℕ → Malloced → List Entry
malloc_entries n (Given at) = entry.Give n 16 at ∷ []
malloc_entries n (NoMemory excuse) = entry.NoMemory n excuse ∷ []
malloc_entries n TooLarge = entry.TooLarge 1 n 16 ∷ []

-- the entries of the free of an address
abbrev pub free_entries : ℕ → Freed → List Entry
free_entries at freed.Done = entry.Take at ∷ []
free_entries at (freed.Refused fault) = entry.Refused at (number_of fault) ∷ []
free_entries at freed.Absent = []

-- the entries of the free of a place
abbrev pub place_entries : Option ℕ → Freed → List Entry
place_entries (Some at) reply = free_entries at reply
place_entries None reply = []

-- the entries that the answer to a command stands for
abbrev pub entries_of : List (Option ℕ) → Command → Answer → List Entry
entries_of names (Malloc name n) (answer.Malloc made) = malloc_entries n made
entries_of names (Free place) (answer.Free done) = place_entries (address_of names place) done
entries_of names command reply = []
