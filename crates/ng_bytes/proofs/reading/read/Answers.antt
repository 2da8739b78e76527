use Rattle.std.proofs.Common.{◌≡◌, ◌≢◌, ℕ, ◌+◌, ◌<◌, length, arith, sym, subst, get_or, set, get_or-set_other, get_or-set_same, below_more}
use Rattle.ng_frame.specs.Judging.{IsSureByte}
use Rattle.ng_space.specs.Blocks.{OfSlot}
use Rattle.ng_space.proofs.LeavingFrames.{leaves_all_then}
use Rattle.ng_bytes.proofs.Changes.{book_then}
use Rattle.ng_bytes.proofs.Sure.{sure_still}
use Rattle.ng_bytes.proofs.reading.read.Goals as goal

pub loop-i-preserved : goal.loop-i-preserved
loop-i-preserved g c =
    let block = c.args.block.now in
    let old = c.loop-i.hand in let new = c.read_byte.new.hand in
    let first : ℕ = block.at + c.args.from in
    let k : ℕ = c.loop-i.i in let b : ℕ = c.read_byte.result in
    let is = c.loop-i.invariant in
    let lt : k < length c.loop-i.out = (let test = c.loop-i-test.true in let same = c.loop-i.auto.out in omega (arith, test, same)) in
    let here : block.at + (c.args.from + k) ≡ first + k = omega arith in record {
      has = c.read_byte.ensures.has;
      bytes = below_more (λ i. OfSlot new block.slot (IsSureByte (first + i) (get_or (set c.loop-i.out k b) i 0))) k
          (λ i below. (
          let ne : i ≢ k = omega (arith, below) in
          subst (λ x. OfSlot new block.slot (IsSureByte (first + i) x)) (sym (get_or-set_other c.loop-i.out k i b 0 ne))
          (sure_still old new block is.has (c.read_byte.ensures.kept block.slot.meta block.slot.index) (first + i) (get_or c.loop-i.out i 0) (is.bytes i below))))
          (subst (λ x. OfSlot new block.slot (IsSureByte (first + k) x)) (sym (get_or-set_same c.loop-i.out k b 0 lt))
          (subst (λ y. OfSlot new block.slot (IsSureByte y b)) here c.read_byte.ensures.sure));
      leaves = leaves_all_then c.args.hand.now.view old.view new.view is.leaves c.read_byte.ensures.leaves;
      book = book_then c.args.hand.now old new is.book c.read_byte.ensures.book;
    }
