use Rattle.std.proofs.Common.{◌≡◌, ap, ◌∙◌, arith}
use Rattle.ng_header.specs.Bytes.{byte_of}
use Rattle.ng_bytes.proofs.Bytes.{low_above, low_below, low_in, low_small}
use Rattle.ng_bytes.proofs.cell.with_low.Goals as goal

-- both numbers are as they were passed
same_in : (c : goal.After-from-2) → low_in c.from.result c.from-2.result c.args.count ≡ low_in c.args.cell c.args.bytes c.args.count
same_in c = (λ i. low_in (c.from.ensures i) (c.from-2.ensures i) c.args.count)

pub overflow_cast-result : goal.overflow_cast-result
overflow_cast-result c =
    let small = low_small c.args.cell c.args.bytes c.args.count c.requires.some c.requires.few c.ranges.cell.fits in
    let is = same_in c in
    omega (arith, small, is)

pub returns-clause-low : goal.returns-clause-low
returns-clause-low c = λ j lt.
    ap (λ x. byte_of x j) (same_in c) ∙ low_below c.args.cell c.args.bytes c.args.count j c.requires.some c.requires.few lt

pub returns-clause-high : goal.returns-clause-high
returns-clause-high c = λ j le lt.
    ap (λ x. byte_of x j) (same_in c) ∙ low_above c.args.cell c.args.bytes c.args.count j c.requires.some c.requires.few le lt
