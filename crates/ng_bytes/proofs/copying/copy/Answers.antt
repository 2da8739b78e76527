use Rattle.std.proofs.Common.{◌≡◌, ℕ, ◌+◌, ◌<◌, arith, subst, inl}
use Rattle.ng_frame.specs.Judging.{IsSureByte}
use Rattle.ng_frame.proofs.Bytes.{byte_of-low}
use Rattle.ng_frame.proofs.Tokens.{block_kept, framed_kept}
use Rattle.ng_header.specs.Bytes.{byte_of}
use Rattle.ng_space.specs.Blocks.{OfSlot}
use Rattle.ng_view.specs.Frame.{KnowsByte}
use Rattle.ng_bytes.specs.Steps.{Changes, HasCopied}
use Rattle.ng_bytes.proofs.Bytes.{below_part}
use Rattle.ng_bytes.proofs.Changes.{changes_byte, changes_framed, changes_then, learns_changes, wider_changes}
use Rattle.ng_bytes.proofs.Sure.{sure_still}
use Rattle.ng_bytes.proofs.copying.copy.Given.{Over}
use Rattle.ng_bytes.proofs.copying.copy.Goals as goal

-- the load of this turn changes nothing of the target
load_changes : (g : Over) (c : goal.After-store_low g) (first behind : ℕ) → Changes first behind c.args.to.now c.loop-done.hand c.load_cell-word.new.hand
load_changes g c first behind =
    let to = c.args.to.now in
    let step = c.load_cell-word.ensures in
    learns_changes first behind to c.loop-done.hand c.load_cell-word.new.hand (step.blocks to c.loop-done.invariant.changes.has) step.leaves step.book

-- and the source is there after its store
from_there : (g : Over) (c : goal.After-store_low g) → Rattle.ng_space.specs.Blocks.HasBlock c.store_low.new.hand c.args.from.now
from_there g c =
    let from = c.args.from.now in
    let change = c.store_low.ensures.changes in
    block_kept c.load_cell-word.new.hand c.store_low.new.hand c.args.to.now.slot change.book.number change.leaves.others from c.requires.apart
    (c.load_cell-word.ensures.blocks from c.loop-done.invariant.from)

-- a byte that was copied is so still, and those of this turn are
copied_more : (g : Over) (c : goal.After-store_low g) → HasCopied c.store_low.new.hand c.args.from.now c.args.to.now (c.loop-done.done + c.min-some.result)
copied_more g c =
    let from = c.args.from.now in let to = c.args.to.now in
    let old = c.loop-done.hand in let mid = c.load_cell-word.new.hand in let new = c.store_low.new.hand in
    let s : ℕ = c.at-first.result in let a : ℕ = c.at-at.result in
    let n : ℕ = c.loop-done.done in let k : ℕ = c.min-some.result in let x : ℕ = c.load_cell-word.result in
    let is = c.loop-done.invariant in
    let source = c.at-first.ensures.at in let target = c.at-at.ensures.at in let some = c.min-some.ensures in
    let load = c.load_cell-word.ensures in let store = c.store_low.ensures in
    let there = load.blocks from is.from in
    let still : (y b : ℕ) → OfSlot mid from.slot (IsSureByte y b) → OfSlot new from.slot (IsSureByte y b) =
    sure_still mid new from there (store.others from.slot.meta from.slot.index c.requires.apart) in
    below_part (λ i. (b : ℕ) × OfSlot new from.slot (IsSureByte (from.at + i) b) × OfSlot new to.slot (KnowsByte (to.at + i) b)) n k
    (λ i lt. (
    let was = is.copied i lt in
    let b : ℕ = was.0 in
    let before : to.at + i < a + n = omega (arith, lt, target) in (
      b,
      still (from.at + i) b (sure_still old mid from is.from (load.kept from.slot.meta from.slot.index) (from.at + i) b was.1),
      changes_byte (a + n) (a + n + k) to mid new store.changes (load.blocks to is.changes.has) (to.at + i) b (inl before)
          (changes_byte (a + n) (a + n + k) to old mid (load_changes g c (a + n) (a + n + k)) is.changes.has (to.at + i) b (inl before) was.2),
    )))
    (λ j lt. (
    let lt4 : j < 4 = omega (arith, lt, some) in
    let here : s + n + j ≡ from.at + (n + j) = omega (arith, source) in
    let there_at : a + n + j ≡ to.at + (n + j) = omega (arith, target) in (
      byte_of x j,
      subst (λ y. OfSlot new from.slot (IsSureByte y (byte_of x j))) here (still (s + n + j) (byte_of x j) (load.sure j lt4)),
      subst (λ y. OfSlot new to.slot (KnowsByte y (byte_of x j))) there_at
          (subst (λ b. OfSlot new to.slot (KnowsByte (a + n + j) b)) (byte_of-low x j lt4) (store.stored j lt)),
    )))

pub loop-done-preserved : goal.loop-done-preserved
loop-done-preserved g c =
    let to = c.args.to.now in
    let first = c.args.hand.now in let old = c.loop-done.hand in let mid = c.load_cell-word.new.hand in let new = c.store_low.new.hand in
    let a : ℕ = c.at-at.result in let n : ℕ = c.loop-done.done in let k : ℕ = c.min-some.result in
    let is = c.loop-done.invariant in
    let at = c.at-at.ensures.at in let some = c.min-some.ensures in
    let test = c.loop-done-test.true in let whole = is.whole test in
    let end : ℕ = to.at + (n + k) in record {
      within = omega (arith, some, test);
      whole = λ more. omega (arith, more, some, whole);
      from = from_there g c;
      copied = copied_more g c;
      changes = changes_then to.at end to first old new
          (wider_changes to.at (to.at + n) to.at end to first old (omega arith) (omega arith) is.changes)
          (changes_then to.at end to old mid new (load_changes g c to.at end)
          (wider_changes (a + n) (a + n + k) to.at end to mid new (omega (arith, at)) (omega (arith, at)) c.store_low.ensures.changes));
    }

pub returns-clause-copied : goal.returns-clause-copied
returns-clause-copied g c = λ h k source target i lt.
    let all = c.loop-done-test.false in
    let b = c.loop-done.invariant.copied i (omega (arith, lt, all)) in (b.0, b.1 h source, b.2 k target)

pub returns-clause-framed : goal.returns-clause-framed
returns-clause-framed g c =
    let to = c.args.to.now in
    let done = c.loop-done.invariant.within in let within = c.requires.within in
    changes_framed to.at (to.at + c.loop-done.done) to c.args.hand.now c.loop-done.hand c.loop-done.invariant.changes (omega arith) (omega (arith, done, within))

pub returns-clause-framed_from : goal.returns-clause-framed_from
returns-clause-framed_from g c =
    let change = c.loop-done.invariant.changes in
    framed_kept c.args.hand.now c.loop-done.hand c.args.to.now.slot change.book.number change.leaves.others c.args.from.now c.requires.apart
