use Rattle.std.proofs.Common.{ap, ◌∙◌, arith}
use Rattle.ng_view.specs.Steps.{given}
use Rattle.ng_view.specs.Views.{numbered}
use Rattle.ng_space.specs.Callers.{Caller}
use Rattle.ng_space.proofs.Apart.{apart_from_new}
use Rattle.ng_space.proofs.Entering.{one_number}
use Rattle.ng_space.proofs.Granting.{given_block, gives_block}
use Rattle.ng_space.proofs.LeavingFrames.{leaves_given}
use Rattle.ng_space.proofs.space.Space.give.Goals as goal

pub header_told-requires-clause-may : goal.header_told-requires-clause-may
header_told-requires-clause-may g c =
    let r = c.requires in let header = c.header-header.ensures in
    gives_block _ _ _ c.args.hand.now _ _ (ap (λ (hand : Caller). hand.view) c.hand.view_is) (ap (λ k. numbered k c.hand.inside.seat.me.0) c.number-number.ensures ∙ one_number c.hand.inside.seat.me.0 _ _ c.hand.invariant.own_book)
    c.args.slot c.args.at c.args.n c.args.align r.slot header.token r.alignment r.aligned r.serves r.ready header.value

pub returns-clause-has : goal.returns-clause-has
returns-clause-has g c =
    let r = c.requires in let header = c.header-header.ensures in let hand = c.hand.view_is in
    let ready = r.ready r.slot.held r.slot.found in
    given_block c.args.hand.now _ c.args.slot c.args.at c.args.n c.args.align c.number-number.result c.header-header.result r.slot (c.push.ensures.number ∙ ap (λ (hand : Caller). hand.number) hand)
    (c.header_told.ensures.told.0 ∙ ap (λ (hand : Caller). given hand.view c.args.slot.meta c.args.slot.index c.args.at c.args.n c.args.align c.number-number.result c.header-header.result) hand)
    header.token.few header.token.whole header.token.first (let from = ready.from in let start = r.slot.place.start in omega arith) ready header.value

pub returns-clause-apart : goal.returns-clause-apart
returns-clause-apart g c =
    apart_from_new c.args.hand.now _ c.args.at (ap (λ (hand : Caller). hand.view) c.hand.view_is) c.header_told.ensures.told.1

pub returns-clause-leaves : goal.returns-clause-leaves
returns-clause-leaves g c =
    leaves_given c.args.hand.now _ c.args.slot c.args.at c.args.n c.number-number.result c.header-header.result c.requires.slot
    (c.header_told.ensures.told.0 ∙ ap (λ (hand : Caller). given hand.view c.args.slot.meta c.args.slot.index c.args.at c.args.n c.args.align c.number-number.result c.header-header.result) c.hand.view_is)
    (returns-clause-has g c)
