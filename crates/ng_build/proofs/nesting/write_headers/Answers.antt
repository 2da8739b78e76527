use Rattle.std.proofs.Common.{ℕ, ◌+◌, ◌*◌, inr, sym, subst, arith}
use Rattle.ng_view.specs.Stores.{MayStore, Stores}
use Rattle.ng_build.proofs.Heads.{carrier_at, headers_fit, headers_low, next_fits, no_headers, one_header, step_is}
use Rattle.ng_build.proofs.nesting.write_headers.Goals as goal

pub own_headers-i-end-requires-clause-fits : goal.own_headers-i-end-requires-clause-fits
own_headers-i-end-requires-clause-fits g c = headers_fit _ c.args.parent.now c.args.draft.now c.stride-step.result c.requires.carrier c.stride-step.ensures.value

pub loop-i-init : goal.loop-i-init
loop-i-init g c = no_headers _ c.args.parent.now.meta c.args.parent.now.index c.args.draft.now.base c.stride-step.result c.args.parent.now.stride (carrier_at _ c.args.parent.now _ c.requires.carrier)

pub store_page-requires-clause-may : goal.store_page-requires-clause-may
store_page-requires-clause-may g c =
    let base = c.args.draft.now.base in let step = c.stride-step.result in
    subst (λ (n : ℕ). MayStore c.loop-i.seat (base + 12 + step * n) 0) (sym c.from.ensures) (inr (inr (next_fits _ _ c.args.parent.now.meta c.args.parent.now.index c.args.draft.now.base c.stride-step.result c.args.parent.now.stride c.args.draft.now.last c.own_headers-i-end.result c.loop-i.i
    (carrier_at _ c.args.parent.now _ c.requires.carrier) c.requires.whole c.stride-step.ensures.aligned c.stride-step.ensures.least c.own_headers-i-end.ensures c.loop-i-test.true c.loop-i.invariant)))

pub loop-i-preserved : goal.loop-i-preserved
loop-i-preserved g c =
    let base = c.args.draft.now.base in let step = c.stride-step.result in
    one_header _ _ c.args.parent.now.meta c.args.parent.now.index c.args.draft.now.base c.stride-step.result c.args.parent.now.stride c.args.draft.now.last c.own_headers-i-end.result c.loop-i.i
    (carrier_at _ c.args.parent.now _ c.requires.carrier) c.requires.whole c.stride-step.ensures.aligned c.stride-step.ensures.least c.own_headers-i-end.ensures c.loop-i-test.true c.loop-i.invariant _ (subst (λ (n : ℕ). Stores c.loop-i.seat (base + 12 + step * n) 0 c.store_page.new.seat) c.from.ensures c.store_page.ensures)

pub returns-clause-view : goal.returns-clause-view
returns-clause-view g c = c.loop-i.invariant.only

pub returns-clause-lows : goal.returns-clause-lows
returns-clause-lows g c = headers_low _ _ c.args.parent.now.meta c.args.parent.now.index c.args.parent.now.stride c.own_headers-i-end.result c.loop-i.i c.args.draft.now c.stride-step.result
    (step_is c.args.draft.now c.stride-step.result c.requires.carrier.nested.unmapped c.stride-step.ensures.value) c.own_headers-i-end.ensures (omega (arith, c.loop-i-test.false)) c.loop-i.invariant

pub returns-clause-kept : goal.returns-clause-kept
returns-clause-kept g c = c.loop-i.invariant.kept

pub returns-clause-stores : goal.returns-clause-stores
returns-clause-stores g c = c.loop-i.invariant.stores
