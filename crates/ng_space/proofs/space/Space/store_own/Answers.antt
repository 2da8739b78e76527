use Rattle.std.proofs.Common.{ℕ, ◌%◌, ap, ◌∙◌, arith}
use Rattle.ng_space.specs.Callers.{Caller}
use Rattle.ng_space.specs.Tokens.{Token}
use Rattle.ng_view.specs.Steps.{stored}
use Rattle.ng_space.proofs.Granting.{stored_slot}
use Rattle.ng_space.proofs.Holding.{stores_in_slot}
use Rattle.ng_space.proofs.LeavingFrames.{leaves_stored}
use Rattle.ng_space.proofs.space.Space.store_own.Goals as goal

pub store_told-requires-clause-may : goal.store_told-requires-clause-may
store_told-requires-clause-may g c =
    let is = c.slot.view_is in let r = c.requires in
    stores_in_slot _ _ _ _ _ _ _ _ _ r.slot (ap (λ (hand : Caller). hand.view) c.hand.view_is) (ap (λ (slot : Token). slot.meta) is) (ap (λ (slot : Token). slot.index) is)
    r.cell r.from r.below (let e = c.from-value.ensures in let f = c.ranges.value.fits in omega arith) (λ q. ap (λ (n : ℕ). n % 256) c.from-value.ensures ∙ r.header q)

pub returns-clause-slot : goal.returns-clause-slot
returns-clause-slot g c =
    let hand = c.hand.view_is in let slot = c.slot.view_is in
    stored_slot c.args.hand.now _ c.args.slot.now c.args.addr c.from-value.result c.requires.slot (ap (λ (hand : Caller). hand.number) hand) (c.store_told.ensures.told ∙ (λ t. stored (hand t).view (slot t).meta (slot t).index c.args.addr c.from-value.result))

pub returns-clause-leaves : goal.returns-clause-leaves
returns-clause-leaves g c =
    let hand = c.hand.view_is in let slot = c.slot.view_is in
    leaves_stored c.args.hand.now (record c.args.hand.now { view = c.store_told.new.seat.me.0 }) c.args.slot.now c.args.addr c.from-value.result c.requires.slot
    (c.store_told.ensures.told ∙ (λ t. stored (hand t).view (slot t).meta (slot t).index c.args.addr c.from-value.result))
