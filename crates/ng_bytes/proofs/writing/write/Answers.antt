use Rattle.std.proofs.Common.{◌≡◌, ℕ, ◌+◌, ◌*◌, ◌/◌, ◌%◌, arith, refl, subst, get_or, inl, below_more}
use Rattle.ng_space.specs.Blocks.{OfSlot}
use Rattle.ng_space.specs.Callers.{Caller}
use Rattle.ng_view.specs.Frame.{KnowsByte}
use Rattle.ng_view.specs.Steps.{loaded}
use Rattle.ng_bytes.specs.Scribbles.{with_byte}
use Rattle.ng_bytes.specs.Steps.{Changes}
use Rattle.ng_bytes.proofs.Bytes.{scribbled_around}
use Rattle.ng_bytes.proofs.Changes.{changes_byte, changes_framed, changes_then, stored_changes, wider_changes}
use Rattle.ng_bytes.proofs.writing.write.Given.{Over}
use Rattle.ng_bytes.proofs.writing.write.Goals as goal

-- the byte of this turn alone has changed
byte_changes : (g : Over) (c : goal.After-store_byte g)
    → Changes (c.args.block.now.at + (c.args.from + c.loop-i.i)) (c.args.block.now.at + (c.args.from + c.loop-i.i) + 1) c.args.block.now c.loop-i.hand c.store_byte.new.hand
byte_changes g c =
    let block = c.args.block.now in
    let old = c.loop-i.hand in let new = c.store_byte.new.hand in
    let y : ℕ = block.at + (c.args.from + c.loop-i.i) in
    let step = c.store_byte.ensures in
    let word : ℕ = step.view.word in
    let mid : Caller = record old { view = loaded old.view (4 * (y / 4)) word } in
    let value : ℕ = with_byte (word % 4294967296) (y % 4) (get_or c.args.bytes.now c.loop-i.i 0) in
    let has = c.loop-i.invariant.changes.has in
    let within = c.requires.within in let test = c.loop-i-test.true in
    stored_changes old mid new block has (4 * (y / 4)) word value y (y + 1) refl step.view.view
    (scribbled_around old mid new block has y word value refl step.view.view step.bytes)
    (omega arith) (omega (arith, within, test)) step.has step.book

pub loop-i-preserved : goal.loop-i-preserved
loop-i-preserved g c =
    let block = c.args.block.now in
    let first = c.args.hand.now in let old = c.loop-i.hand in let new = c.store_byte.new.hand in
    let k : ℕ = c.loop-i.i in
    let a : ℕ = block.at + c.args.from in
    let y : ℕ = block.at + (c.args.from + k) in
    let is = c.loop-i.invariant in
    let change = byte_changes g c in
    let here : y ≡ a + k = omega arith in record {
      written = below_more (λ i. OfSlot new block.slot (KnowsByte (a + i) (get_or c.args.bytes.now i 0))) k
          (λ i below. changes_byte y (y + 1) block old new change is.changes.has (a + i) (get_or c.args.bytes.now i 0) (inl (omega (arith, below))) (is.written i below))
          (subst (λ z. OfSlot new block.slot (KnowsByte z (get_or c.args.bytes.now k 0))) here c.store_byte.ensures.written);
      changes = changes_then a (a + (k + 1)) block first old new
          (wider_changes a (a + k) a (a + (k + 1)) block first old (omega arith) (omega arith) is.changes)
          (wider_changes y (y + 1) a (a + (k + 1)) block old new (omega arith) (omega arith) change);
    }

pub returns-clause-framed : goal.returns-clause-framed
returns-clause-framed g c =
    let block = c.args.block.now in
    let a : ℕ = block.at + c.args.from in
    let within = c.requires.within in let end = c.loop-i.auto.i-end in
    changes_framed a (a + c.loop-i.i) block c.args.hand.now c.loop-i.hand c.loop-i.invariant.changes (omega arith) (omega (arith, within, end))
