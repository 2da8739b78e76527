use Rattle.std.proofs.Common.{◌≢◌, ℕ, ◌-◌, ◌*◌, ◌/◌, ◌<◌, arith}
use Rattle.ng_space.proofs.LeavingFrames.{all_leaves, leaves_itself, leaves_stored, leaves_then}
use Rattle.ng_frame.proofs.Frames.{knows_still, lies, long_trailer, short_trailer, stored_byte, stored_knows}
use Rattle.ng_space.proofs.Leaving.{stays_stored, stays_then}
use Rattle.ng_frame.proofs.Trailers.{before_first, before_last, cells_apart, fifth_apart}
use Rattle.ng_frame.proofs.trailer.store_trailer.Goals as goal

pub returns-then-reserved-ge5-clause-trailer : goal.returns-then-reserved-ge5-clause-trailer
returns-then-reserved-ge5-clause-trailer g c =
    let slot = c.args.slot.now in
    let e : ℕ = c.end-end.result in let r : ℕ = c.args.reserved in
    let end = c.end-end.ensures.end in
    let one = c.clear_byte.new.hand in let two = c.store_own.new.hand in let three = c.clear_byte-then-reserved-ge5.new.hand in
    let last = c.clear_byte-then-reserved-ge5.ensures in
    let has = c.clear_byte.ensures.slot in
    let two_has = c.store_own.ensures.slot in
    long_trailer three slot r e end c.if-reserved-ge5.true (lies three slot last.slot)
    (last.zeros (e - r) (stored_byte one two slot has.held has.found (e - 4) r c.store_own.ensures.view (e - r) 0 (cells_apart slot e r end c.requires.whole c.if-reserved-ge5.true c.requires.within) c.clear_byte.ensures.zero))
    (knows_still two three slot two_has.held (λ a. a ≢ 4 * ((e - 5) / 4)) (e - 4) r two_has.found last.own (fifth_apart slot e end c.requires.whole) (stored_knows one two slot has.held has.found (e - 4) r c.store_own.ensures.view))
    last.zero

pub returns-then-reserved-ge5-clause-own : goal.returns-then-reserved-ge5-clause-own
returns-then-reserved-ge5-clause-own g c =
    let slot = c.args.slot.now in
    let e : ℕ = c.end-end.result in let r : ℕ = c.args.reserved in
    let end = c.end-end.ensures.end in
    let one = c.clear_byte.new.hand in let two = c.store_own.new.hand in let three = c.clear_byte-then-reserved-ge5.new.hand in
    stays_then (λ a. a ≢ 4 * ((e - r) / 4)) (λ a. a < slot.start) (λ a. a < slot.start) slot.meta slot.index c.args.hand.now.view one.view three.view (λ a lt. (before_first slot e r a end c.requires.whole c.requires.within lt, lt)) c.clear_byte.ensures.own
    (stays_then (λ a. a ≢ e - 4) (λ a. a ≢ 4 * ((e - 5) / 4)) (λ a. a < slot.start) slot.meta slot.index one.view two.view three.view (λ a lt. before_last slot e r a end c.requires.whole c.if-reserved-ge5.true c.requires.within lt) (stays_stored one.view two.view slot.meta slot.index (e - 4) r c.store_own.ensures.view) c.clear_byte-then-reserved-ge5.ensures.own)

pub returns-else-reserved-ge5-clause-trailer : goal.returns-else-reserved-ge5-clause-trailer
returns-else-reserved-ge5-clause-trailer g c =
    short_trailer c.clear_byte.new.hand c.args.slot.now c.args.reserved c.end-end.result c.end-end.ensures.end (let f = c.if-reserved-eq0.false in omega (arith, f)) (let f = c.if-reserved-ge5.false in omega (arith, f)) (lies c.clear_byte.new.hand c.args.slot.now c.clear_byte.ensures.slot) c.clear_byte.ensures.zero

pub returns-else-reserved-ge5-clause-own : goal.returns-else-reserved-ge5-clause-own
returns-else-reserved-ge5-clause-own g c =
    let slot = c.args.slot.now in
    let e : ℕ = c.end-end.result in let r : ℕ = c.args.reserved in
    λ h found. (let k = c.clear_byte.ensures.own h found in (
      k.0,
      k.1,
      record {
        place = k.2.place;
        block = k.2.block;
        cells = λ a x lt s. k.2.cells a x (before_first slot e r a c.end-end.ensures.end c.requires.whole c.requires.within lt) s;
      },
    ))

pub returns-then-reserved-ge5-clause-leaves : goal.returns-then-reserved-ge5-clause-leaves
returns-then-reserved-ge5-clause-leaves g c =
    let slot = c.args.slot.now in
    let one = c.clear_byte.new.hand in let two = c.store_own.new.hand in let three = c.clear_byte-then-reserved-ge5.new.hand in
    leaves_then slot c.args.hand.now.view one.view three.view c.clear_byte.ensures.leaves
    (leaves_then slot one.view two.view three.view (leaves_stored one two slot _ _ c.clear_byte.ensures.slot c.store_own.ensures.view)
    c.clear_byte-then-reserved-ge5.ensures.leaves)

pub returns-then-reserved-eq0-clause-leaves : goal.returns-then-reserved-eq0-clause-leaves
returns-then-reserved-eq0-clause-leaves g c = all_leaves c.args.slot.now c.args.hand.now.view c.args.hand.now.view (leaves_itself c.args.hand.now.view)
