-- A trailer reads back.
use Rattle.std.proofs.Common.{◌≡◌, ℕ, ◌-◌, ◌<◌, ◌≤◌, min, Ok, arith}
use Rattle.std.proofs.lemmas.Grind.{common_steps}
use Rattle.ng_header.specs.Reading.{reserved_in, nominal_in}
use Rattle.ng_header.specs.Tail.{ReadsBack, trailer_of}

-- the reserved number of a trailer, where its number and the byte before that stand in the last bytes
pub reserved_in-trailer : (reserved word fifth gap : ℕ) → reserved ≤ gap → (5 ≤ reserved → word ≡ reserved) → (5 ≤ reserved → fifth ≡ 0) → reserved_in (min reserved 5) word fifth gap ≡ Ok reserved
reserved_in-trailer reserved word fifth gap within number zero = grind (arith, common_steps, number, zero)

-- the length, where the first reserved byte is 0 and the one at the end too
pub nominal_in-trailer : (gap reserved mark : ℕ) → (0 < reserved → mark ≡ 0) → nominal_in gap reserved mark 0 ≡ Ok (gap - reserved)
nominal_in-trailer gap reserved mark clean = grind (arith, common_steps, clean)

-- any bytes that have a trailer read as the length
pub trailer_of-reads_back : (gap reserved : ℕ) → reserved ≤ gap → ReadsBack (trailer_of reserved) gap (gap - reserved)
trailer_of-reads_back gap reserved within tail has end = grind (arith, common_steps, has.zero, has.word, has.fifth)
