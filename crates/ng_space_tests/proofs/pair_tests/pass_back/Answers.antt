use Rattle.std.proofs.Common.{◌≡◌, ap, ◌∙◌, arith}
use Rattle.ng_view.specs.declared.view.View.{View}
use Rattle.ng_space.specs.Tokens.{Token}
use Rattle.ng_mask.proofs.Trading.{pop_even, push_even}
use Rattle.ng_space_tests.proofs.Partings.{came_both, came_metas, came_stands, captured_all, captured_metas, captured_stands, has_pair}
use Rattle.ng_space_tests.proofs.Writing.{popped_serves}
use Rattle.ng_space_tests.proofs.pair_tests.pass_back.Goals as goal

pub use_slot-slot-requires-clause-serves : goal.use_slot-slot-requires-clause-serves
use_slot-slot-requires-clause-serves g c = let wins = c.in-Won.ensures.cause in popped_serves _ _ c.in-Won.slot _ c.in-Won.ensures.meta wins.pops wins.slots.tag

pub capture-requires : goal.capture-requires
capture-requires g c = record {
  live = (
      let same = c.in-Left.ensures.left ∙ c.use_slot-slot.ensures.slot in
      let meta = ap (λ (slot : Token). slot.meta) same ∙ c.in-Won.ensures.meta in
      let index : c.in-Left.slot.index ≡ 1 = ap (λ (slot : Token). slot.index) same ∙ omega arith in
      has_pair _ (came_stands _ _ _ _ c.requires.stands c.requires.metas c.requires.slot c.in-Left.ensures.held meta index c.slot_to_seat.ensures.seat));
}

pub returns-clause-stands : goal.returns-clause-stands
returns-clause-stands g c =
    let same = c.in-Left.ensures.left ∙ c.use_slot-slot.ensures.slot in
    let meta = ap (λ (slot : Token). slot.meta) same ∙ c.in-Won.ensures.meta in
    let index : c.in-Left.slot.index ≡ 1 = ap (λ (slot : Token). slot.index) same ∙ omega arith in
    captured_stands _ _ (came_stands _ _ _ _ c.requires.stands c.requires.metas c.requires.slot c.in-Left.ensures.held meta index c.slot_to_seat.ensures.seat) _ _ c.capture.ensures.captured

pub returns-clause-metas : goal.returns-clause-metas
returns-clause-metas g c =
    let same = c.in-Left.ensures.left ∙ c.use_slot-slot.ensures.slot in
    let meta = ap (λ (slot : Token). slot.meta) same ∙ c.in-Won.ensures.meta in
    let index : c.in-Left.slot.index ≡ 1 = ap (λ (slot : Token). slot.index) same ∙ omega arith in
    captured_metas _ _ (came_stands _ _ _ _ c.requires.stands c.requires.metas c.requires.slot c.in-Left.ensures.held meta index c.slot_to_seat.ensures.seat) _ _ c.capture.ensures.captured
    (came_metas _ _ _ _ c.requires.stands c.requires.metas c.requires.slot c.in-Left.ensures.held meta index c.slot_to_seat.ensures.seat)

pub returns-clause-slots : goal.returns-clause-slots
returns-clause-slots g c =
    let same = c.in-Left.ensures.left ∙ c.use_slot-slot.ensures.slot in
    let meta = ap (λ (slot : Token). slot.meta) same ∙ c.in-Won.ensures.meta in
    let index : c.in-Left.slot.index ≡ 1 = ap (λ (slot : Token). slot.index) same ∙ omega arith in
    captured_all _ _ (came_stands _ _ _ _ c.requires.stands c.requires.metas c.requires.slot c.in-Left.ensures.held meta index c.slot_to_seat.ensures.seat) _ _ c.capture.ensures.captured
    (came_both _ _ _ _ c.requires.stands c.requires.metas c.requires.slot c.in-Left.ensures.held meta index c.slot_to_seat.ensures.seat)

pub returns-clause-hand : goal.returns-clause-hand
returns-clause-hand g c =
    let won = pop_even c.args.hand.now.view 4120 23 c.pop.result c.pop.new.hand.view c.pop.ensures.cause in
    let used = c.use_slot-slot.ensures.hand in
    let bare = c.find_bare.ensures.hand in
    let left = push_even _ _ _ _ _ c.in-Left.ensures.cause in
    let went = c.slot_to_seat.ensures.view in
    record {
      number = c.slot_to_seat.ensures.number ∙ c.push.ensures.number ∙ bare.number ∙ used.number ∙ c.pop.ensures.number;
      sent = ap (λ (v : View). v.sent) went ∙ left.sent ∙ bare.sent ∙ used.sent ∙ won.sent;
      taken = ap (λ (v : View). v.taken) went ∙ left.taken ∙ bare.taken ∙ used.taken ∙ won.taken;
    }
