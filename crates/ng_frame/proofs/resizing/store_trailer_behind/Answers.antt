use Rattle.std.proofs.Common.{◌≡◌, ◌≢◌, ℕ, ◌+◌, ◌-◌, ◌*◌, ◌/◌, ◌%◌, ◌<◌, ap, ◌∙◌, arith}
use Rattle.ng_space.proofs.Leaving.{stays_then}
use Rattle.ng_frame.proofs.Besides.{besides_store, besides_then}
use Rattle.ng_frame.proofs.Tails.{tail_bytes, tail_first, tail_long, tail_own, tail_short}
use Rattle.ng_frame.proofs.resizing.store_trailer_behind.Goals as goal

pub returns-then-reserved-ge5-clause-trailer : goal.returns-then-reserved-ge5-clause-trailer
returns-then-reserved-ge5-clause-trailer g c =
    let block = c.args.block.now in
    let e : ℕ = c.at.result + c.gap.result in let r : ℕ = c.args.reserved in
    let end : e ≡ block.slot.end = ap (λ a. a + c.gap.result) c.at.ensures.at ∙ c.gap.ensures.gap in
    let whole : block.at % 16 ≡ 0 = (let at = c.at.ensures.at in let is = c.at.ensures.whole in omega (arith, at, is)) in
    let one = c.clear_byte_behind.new.hand in let two = c.store_in.new.hand in let three = c.clear_byte_behind-then-reserved-ge5.new.hand in
    let first = c.clear_byte_behind.ensures in let last = c.clear_byte_behind-then-reserved-ge5.ensures in
    tail_long block e r end c.requires.whole whole c.requires.within c.if-reserved-ge5.true one two three first.block last.block c.store_in.ensures.view last.zero last.others last.own first.zero

pub returns-then-reserved-ge5-clause-own : goal.returns-then-reserved-ge5-clause-own
returns-then-reserved-ge5-clause-own g c =
    let block = c.args.block.now in
    let e : ℕ = c.at.result + c.gap.result in let r : ℕ = c.args.reserved in
    let end : e ≡ block.slot.end = ap (λ a. a + c.gap.result) c.at.ensures.at ∙ c.gap.ensures.gap in
    let whole : block.at % 16 ≡ 0 = (let at = c.at.ensures.at in let is = c.at.ensures.whole in omega (arith, at, is)) in
    let one = c.clear_byte_behind.new.hand in let two = c.store_in.new.hand in let three = c.clear_byte_behind-then-reserved-ge5.new.hand in
    let first = c.clear_byte_behind.ensures in let last = c.clear_byte_behind-then-reserved-ge5.ensures in
    stays_then (λ a. a ≢ 4 * ((e - r) / 4)) (λ a. a < block.at) (λ a. a < block.at) block.slot.meta block.slot.index c.args.hand.now.view one.view three.view
    (λ a lt. (tail_first block e r end c.requires.whole whole c.requires.within a lt, lt)) first.own
    (tail_own block e r end c.requires.whole whole c.requires.within c.if-reserved-ge5.true one two three first.block last.block c.store_in.ensures.view last.zero last.others last.own)

pub returns-then-reserved-ge5-clause-bytes : goal.returns-then-reserved-ge5-clause-bytes
returns-then-reserved-ge5-clause-bytes g c =
    let block = c.args.block.now in
    let e : ℕ = c.at.result + c.gap.result in let r : ℕ = c.args.reserved in
    let end : e ≡ block.slot.end = ap (λ a. a + c.gap.result) c.at.ensures.at ∙ c.gap.ensures.gap in
    let whole : block.at % 16 ≡ 0 = (let at = c.at.ensures.at in let is = c.at.ensures.whole in omega (arith, at, is)) in
    let one = c.clear_byte_behind.new.hand in let two = c.store_in.new.hand in let three = c.clear_byte_behind-then-reserved-ge5.new.hand in
    let first = c.clear_byte_behind.ensures in let last = c.clear_byte_behind-then-reserved-ge5.ensures in
    λ y b lt known. tail_bytes block e r end c.requires.whole whole c.requires.within c.if-reserved-ge5.true one two three first.block last.block c.store_in.ensures.view last.zero last.others last.own y b (omega (arith, lt, end)) (first.others y b (λ same. omega (arith, lt, end, same)) known)

pub returns-then-reserved-ge5-clause-leaves : goal.returns-then-reserved-ge5-clause-leaves
returns-then-reserved-ge5-clause-leaves g c =
    let one = c.clear_byte_behind.new.hand in let two = c.store_in.new.hand in let three = c.clear_byte_behind-then-reserved-ge5.new.hand in
    let first = c.clear_byte_behind.ensures in let last = c.clear_byte_behind-then-reserved-ge5.ensures in
    let slot = c.args.block.now.slot in
    besides_then slot c.args.hand.now.view one.view three.view first.leaves
    (besides_then slot one.view two.view three.view (besides_store slot one.view two.view _ _ c.store_in.ensures.view) last.leaves)

pub returns-else-reserved-ge5-clause-trailer : goal.returns-else-reserved-ge5-clause-trailer
returns-else-reserved-ge5-clause-trailer g c =
    let block = c.args.block.now in
    let e : ℕ = c.at.result + c.gap.result in let r : ℕ = c.args.reserved in
    let end : e ≡ block.slot.end = ap (λ a. a + c.gap.result) c.at.ensures.at ∙ c.gap.ensures.gap in
    let whole : block.at % 16 ≡ 0 = (let at = c.at.ensures.at in let is = c.at.ensures.whole in omega (arith, at, is)) in
    tail_short block e r end c.requires.whole whole c.requires.within c.clear_byte_behind.new.hand c.clear_byte_behind.ensures.block
    (let f = c.if-reserved-eq0.false in omega (arith, f)) (let f = c.if-reserved-ge5.false in omega (arith, f)) c.clear_byte_behind.ensures.zero

pub returns-else-reserved-ge5-clause-own : goal.returns-else-reserved-ge5-clause-own
returns-else-reserved-ge5-clause-own g c =
    let block = c.args.block.now in
    let e : ℕ = c.at.result + c.gap.result in let r : ℕ = c.args.reserved in
    let end : e ≡ block.slot.end = ap (λ a. a + c.gap.result) c.at.ensures.at ∙ c.gap.ensures.gap in
    let whole : block.at % 16 ≡ 0 = (let at = c.at.ensures.at in let is = c.at.ensures.whole in omega (arith, at, is)) in
    λ h found. (let k = c.clear_byte_behind.ensures.own h found in (
      k.0,
      k.1,
      record {
        place = k.2.place;
        block = k.2.block;
        cells = λ a x lt s. k.2.cells a x (tail_first block e r end c.requires.whole whole c.requires.within a lt) s;
      },
    ))
