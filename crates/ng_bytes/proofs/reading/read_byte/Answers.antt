use Rattle.std.proofs.Common.{◌≡◌, ℕ, ◌+◌, ◌*◌, ◌/◌, ◌%◌, sym, subst, arith}
use Rattle.ng_frame.specs.Judging.{IsSureByte}
use Rattle.ng_header.specs.Bytes.{byte_of}
use Rattle.ng_space.specs.Blocks.{OfSlot}
use Rattle.ng_bytes.proofs.reading.read_byte.Goals as goal

pub returns-clause-sure : goal.returns-clause-sure
returns-clause-sure g c =
    let block = c.args.block.now in
    let new = c.load_cell-word.new.hand in
    let at = c.at.ensures.at in
    let place : ℕ = c.args.from % 4 in
    let here : (c.at.result + c.args.from / 4 * 4) + place ≡ block.at + c.args.from = omega (arith, at) in
    subst (λ b. OfSlot new block.slot (IsSureByte (block.at + c.args.from) b)) (sym c.byte.ensures.value)
    (subst (λ y. OfSlot new block.slot (IsSureByte y (byte_of c.load_cell-word.result place))) here
    (c.load_cell-word.ensures.sure place (omega arith)))
