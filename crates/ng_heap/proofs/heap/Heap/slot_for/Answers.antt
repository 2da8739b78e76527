use Rattle.ng_group.proofs.HandSlotLemmas.{answered_excuse, answered_excused}
use Rattle.ng_group.proofs.WorkingLemmas.{goes_then}
use Rattle.ng_heap.proofs.SlotLemmas.{answered_builds, answered_cause, answered_fresh, answered_lone, answered_lone_cause, answered_serves, class_allowed, class_roomy, lone_allowed, looked_on}
use Rattle.ng_heap.proofs.heap.Heap.slot_for.Goals as goal

-- ---- a group by itself
pub returns-then-n-ge-THRESHOLD-clause-builds : goal.returns-then-n-ge-THRESHOLD-clause-builds
returns-then-n-ge-THRESHOLD-clause-builds g c =
    let alloc = c.alloc_lone.ensures in
    answered_lone _ _ _ c.args.n c.alloc_lone.new.hand c.alloc_lone.result c.if-n-ge-THRESHOLD.true alloc.slot alloc.builds alloc.stores

pub returns-then-n-ge-THRESHOLD-clause-serves : goal.returns-then-n-ge-THRESHOLD-clause-serves
returns-then-n-ge-THRESHOLD-clause-serves g c =
    answered_serves c.alloc_lone.new.hand 63 c.args.n c.alloc_lone.result c.alloc_lone.ensures.slot (lone_allowed c.args.n c.if-n-ge-THRESHOLD.true)

pub returns-then-n-ge-THRESHOLD-clause-fresh : goal.returns-then-n-ge-THRESHOLD-clause-fresh
returns-then-n-ge-THRESHOLD-clause-fresh g c =
    let alloc = c.alloc_lone.ensures in
    answered_fresh c.args.hand.now c.alloc_lone.new.hand 63 c.args.n c.alloc_lone.result alloc.slot alloc.apart alloc.book alloc.slots

pub returns-then-n-ge-THRESHOLD-clause-cause : goal.returns-then-n-ge-THRESHOLD-clause-cause
returns-then-n-ge-THRESHOLD-clause-cause g c =
    let alloc = c.alloc_lone.ensures in
    answered_lone_cause _ g.M.Mapper.refused _ _ c.args.n _ _ c.alloc_lone.result c.if-n-ge-THRESHOLD.true alloc.excuse alloc.cause alloc.leaves

pub returns-then-n-ge-THRESHOLD-clause-excuse : goal.returns-then-n-ge-THRESHOLD-clause-excuse
returns-then-n-ge-THRESHOLD-clause-excuse g c = answered_excuse _ _ _ _ _ c.alloc_lone.result c.alloc_lone.ensures.excuse

pub returns-then-n-ge-THRESHOLD-clause-excused : goal.returns-then-n-ge-THRESHOLD-clause-excused
returns-then-n-ge-THRESHOLD-clause-excused g c = answered_excused _ _ _ _ _ c.alloc_lone.result c.alloc_lone.ensures.excuse

-- ---- a slot of a class
pub alloc_slot-requires-clause-bytes : goal.alloc_slot-requires-clause-bytes
alloc_slot-requires-clause-bytes g c =
    class_roomy _ _ c.args.n c.class_for-class.result c.class_for-class.ensures.class c.class_for-class.ensures.known

pub returns-clause-builds : goal.returns-clause-builds
returns-clause-builds g c =
    let alloc = c.alloc_slot.ensures in
    let class = c.class_for-class.ensures in
    answered_builds g.P.Rules.count_gives _ _ _ c.args.n c.class_for-class.result c.alloc_slot.new.hand c.alloc_slot.result
    (record { only = class.looked; class_is = class.class }) c.if-n-ge-THRESHOLD.false alloc.slot alloc.builds alloc.untouched

pub returns-clause-serves : goal.returns-clause-serves
returns-clause-serves g c =
    let class = c.class_for-class.ensures in
    answered_serves c.alloc_slot.new.hand c.class_for-class.result c.args.n c.alloc_slot.result c.alloc_slot.ensures.slot
    (class_allowed _ _ c.args.n c.class_for-class.result class.class class.known c.if-n-ge-THRESHOLD.false)

pub returns-clause-fresh : goal.returns-clause-fresh
returns-clause-fresh g c =
    let alloc = c.alloc_slot.ensures in
    answered_fresh c.args.hand.now c.alloc_slot.new.hand c.class_for-class.result c.args.n c.alloc_slot.result alloc.slot alloc.apart alloc.book alloc.slots

pub returns-clause-cause : goal.returns-clause-cause
returns-clause-cause g c =
    let alloc = c.alloc_slot.ensures in
    let class = c.class_for-class.ensures in
    answered_cause g.P.Rules.count_gives g.M.Mapper.refused _ _ _ c.args.n c.class_for-class.result _ _ c.alloc_slot.result
    (record { only = class.looked; class_is = class.class }) c.if-n-ge-THRESHOLD.false alloc.excuse alloc.cause alloc.leaves

pub returns-clause-excuse : goal.returns-clause-excuse
returns-clause-excuse g c = answered_excuse _ _ _ _ _ c.alloc_slot.result c.alloc_slot.ensures.excuse

pub returns-clause-excused : goal.returns-clause-excused
returns-clause-excused g c = answered_excused _ _ _ _ _ c.alloc_slot.result c.alloc_slot.ensures.excuse

pub returns-clause-on : goal.returns-clause-on
returns-clause-on g c =
    goes_then _ _ _ (looked_on _ _ c.class_for-class.ensures.looked) c.alloc_slot.ensures.on
