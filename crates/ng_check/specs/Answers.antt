-- What a check of a pointer answers.
use Rattle.std.specs.Prelude.{◌≡◌, ℕ, Option, Some, None, Result, Ok, Err, unwrap_or, List}
use Rattle.ng_header.specs.declared.reading.NominalFault.{NominalFault}
use Rattle.ng_header.specs.declared.reading.NominalFault.TheVariants as nominal
use Rattle.ng_frame.specs.Inspects.{gap_of}
use Rattle.ng_frame.specs.Judging.{IsJudged}
use Rattle.ng_space.specs.Blocks.{BlockToken, HasBlock, OfSlot}
use Rattle.ng_space.specs.Callers.{Caller}
use Rattle.ng_view.specs.declared.view.View.{View}
use Rattle.ng_check.specs.Cells.{AreOnce, loaded_in_turn}
use Rattle.ng_check.specs.Queries as query
use Rattle.ng_check.specs.Checks.{check}
use Rattle.ng_check.specs.declared.fault.BadPointer.{BadPointer}
use Rattle.ng_check.specs.declared.fault.Found.{Found}
use Rattle.ng_check.specs.declared.fault.Seen.{Seen}
use Rattle.ng_check.specs.declared.fault.PointerFault.{PointerFault}
use Rattle.ng_check.specs.declared.fault.PointerFault.TheVariants.{Misaligned, Outside, BadWide, NotGroup, BadIndex, Available, Freed, BadSecret, BadOffset, BadClass, BadMaplen, BadReserved, Overrun, EndByte}

-- the number of a fault
abbrev pub number_of : PointerFault → ℕ
number_of Misaligned = 1
number_of Outside = 2
number_of BadWide = 3
number_of NotGroup = 4
number_of BadIndex = 5
number_of Available = 6
number_of Freed = 7
number_of BadSecret = 8
number_of BadOffset = 9
number_of BadClass = 10
number_of BadMaplen = 11
number_of BadReserved = 12
number_of Overrun = 13
number_of EndByte = 14

-- ---- what was read, and what was found: 0 where a cell wasn't read
abbrev pub or_zero : Option ℕ → ℕ
or_zero x = unwrap_or x 0

abbrev pub seen_of : query.Query → Seen
seen_of q = record {
  header = or_zero (query.header q);
  wide = or_zero (query.wide q);
  meta = or_zero (query.named q);
  mem = or_zero (query.mem q);
  flags = or_zero (query.flags q);
  avail = or_zero (query.avail q);
  freed = or_zero (query.freed q);
  check = or_zero (query.check_word q);
  word = or_zero (query.word q);
  fifth = or_zero (query.fifth q);
  mark = or_zero (query.mark q);
  last = or_zero (query.last q);
}

abbrev pub found_of : query.Query → Found
found_of q = record {
  meta = or_zero (query.meta q);
  index = or_zero (query.index q);
  start = or_zero (query.start q);
  end = or_zero (query.end q);
  len = or_zero (query.len q);
}

-- ---- the answer by what was read
abbrev pub IsAnswer : query.Query → Result Found BadPointer → Type 0
IsAnswer q (Ok found) = (check q ≡ Some None) × (found ≡ found_of q)
IsAnswer q (Err bad) = (check q ≡ Some (Some bad.fault)) × (bad.seen ≡ seen_of q)

-- cells were loaded, none twice and nothing else was done, and the answer is by these
pub record Checks (pages secret addr : ℕ) (before : View) (result : Result Found BadPointer) (after : View) : Type 0 where
  pub cells : List (ℕ × ℕ)
  pub view : after ≡ loaded_in_turn before cells
  pub once : AreOnce cells
  pub answer : IsAnswer (record { pages = pages; secret = secret; addr = addr; cells = cells }) result

-- ---- the answer for a block of the hand
-- the pointer was refused by that check
abbrev pub IsRefused : PointerFault → Result Found BadPointer → Type 0
IsRefused fault result = (seen : Seen) × (result ≡ Err (record { fault = fault; seen = seen }))

-- what is found of a block with that length
abbrev pub found_in : BlockToken → ℕ → Found
found_in block len = record {
  meta = block.slot.meta;
  index = block.slot.index;
  start = block.slot.start;
  end = block.slot.end;
  len = len;
}

-- the answer is as the verdict on the block's frame
abbrev pub Follows : BlockToken → Result ℕ NominalFault → Result Found BadPointer → Type 0
Follows block (Ok len) result = result ≡ Ok (found_in block len)
Follows block (Err nominal.BadReserved) result = IsRefused BadReserved result
Follows block (Err nominal.Overrun) result = IsRefused Overrun result
Follows block (Err nominal.EndByte) result = ⊥

-- by what the hand knows of the block's slot then, its frame has a verdict, and the answer is as that
pub record Judges (block : BlockToken) (result : Result Found BadPointer) (after : Caller) : Type 0 where
  pub verdict : Result ℕ NominalFault
  pub judged : OfSlot after block.slot (λ h. IsJudged h block.at (gap_of block) verdict)
  pub follows : Follows block verdict result

-- where the address is that of a block of the hand, and the secret the heap's, the answer is so
abbrev pub JudgesOwn : ℕ → ℕ → ℕ → Caller → Result Found BadPointer → Caller → Type 0
JudgesOwn heap secret addr before result after =
    (block : BlockToken) → HasBlock before block → block.at ≡ addr → secret ≡ heap → Judges block result after
