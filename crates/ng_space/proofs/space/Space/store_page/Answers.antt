use Rattle.std.proofs.Common.{sym, subst, arith}
use Rattle.ng_view.specs.declared.view.View.{View}
use Rattle.ng_view.specs.Stores.{MayStore}
use Rattle.ng_rule.proofs.lock.Storing.{stores}
use Rattle.ng_space.proofs.Stepped.{stores_stays}
use Rattle.ng_space.proofs.space.Space.store_page.Goals as goal

pub store_told-requires-clause-may : goal.store_told-requires-clause-may
store_told-requires-clause-may g c =
    stores _ _ _ c.seat.invariant.leads c.seat.invariant.moving c.args.addr c.from.result (let e = c.from.ensures in let f = c.ranges.value.fits in omega arith)
    (subst (λ n. MayStore c.seat.inside.seat.me.0 c.args.addr n) (sym c.from.ensures) (subst (λ (v : View). MayStore v c.args.addr c.args.value) (sym c.seat.view_is) c.requires.may))

pub invariant_of-seat : goal.invariant_of-seat
invariant_of-seat g c = stores_stays _ _ _ _ _ c.seat.invariant c.store_told.ensures.table c.store_told.ensures.slots c.args.addr c.from.result
    (subst (λ n. MayStore c.seat.inside.seat.me.0 c.args.addr n) (sym c.from.ensures) (subst (λ (v : View). MayStore v c.args.addr c.args.value) (sym c.seat.view_is) c.requires.may)) c.store_told.ensures.told
