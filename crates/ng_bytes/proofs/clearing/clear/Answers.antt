use Rattle.std.proofs.Common.{◌≡◌, ℕ, ◌+◌, arith, subst, inl}
use Rattle.ng_header.specs.Bytes.{byte_of}
use Rattle.ng_space.specs.Blocks.{OfSlot}
use Rattle.ng_view.specs.Frame.{KnowsByte}
use Rattle.ng_bytes.proofs.Bytes.{below_part, zero_byte}
use Rattle.ng_bytes.proofs.Changes.{changes_byte, changes_framed, changes_then, wider_changes}
use Rattle.ng_bytes.proofs.clearing.clear.Goals as goal

pub loop-done-preserved : goal.loop-done-preserved
loop-done-preserved g c =
    let block = c.args.block.now in
    let first = c.args.hand.now in let old = c.loop-done.hand in let new = c.store_low.new.hand in
    let a : ℕ = c.at-at.result in let n : ℕ = c.loop-done.done in let k : ℕ = c.min-some.result in
    let is = c.loop-done.invariant in
    let at = c.at-at.ensures.at in let some = c.min-some.ensures in
    let test = c.loop-done-test.true in let whole = is.whole test in
    let change = c.store_low.ensures.changes in record {
      within = omega (arith, some, test);
      whole = λ more. omega (arith, more, some, whole);
      zeros = below_part (λ i. OfSlot new block.slot (KnowsByte (block.at + i) 0)) n k
          (λ i lt. changes_byte (a + n) (a + n + k) block old new change is.changes.has (block.at + i) 0 (inl (omega (arith, lt, at))) (is.zeros i lt))
          (λ j lt. (
          let here : a + n + j ≡ block.at + (n + j) = omega (arith, at) in
          subst (λ b. OfSlot new block.slot (KnowsByte (block.at + (n + j)) b)) (zero_byte j (omega (arith, lt, some)))
          (subst (λ y. OfSlot new block.slot (KnowsByte y (byte_of 0 j))) here (c.store_low.ensures.stored j lt))));
      changes = changes_then block.at (block.at + (n + k)) block first old new
          (wider_changes block.at (block.at + n) block.at (block.at + (n + k)) block first old (omega arith) (omega arith) is.changes)
          (wider_changes (a + n) (a + n + k) block.at (block.at + (n + k)) block old new (omega (arith, at)) (omega (arith, at)) change);
    }

pub returns-clause-framed : goal.returns-clause-framed
returns-clause-framed g c =
    let block = c.args.block.now in
    let n : ℕ = c.loop-done.done in
    let done = c.loop-done.invariant.within in let within = c.requires.within in
    changes_framed block.at (block.at + n) block c.args.hand.now c.loop-done.hand c.loop-done.invariant.changes (omega arith) (omega (arith, done, within))
