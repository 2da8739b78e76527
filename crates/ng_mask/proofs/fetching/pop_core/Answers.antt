use Rattle.std.proofs.Common.{sym, subst, refl}
use Rattle.std.specs.Prelude.{IfNone}
use Rattle.ng_mask.specs.Fetches.{FindsNone}
use Rattle.ng_mask.proofs.Fetches.{lowest_taken, may_stock_others, none_found}
use Rattle.ng_mask.proofs.fetching.pop_core.Goals as goal

pub returns-in_err-index-clause-none : goal.returns-in_err-index-clause-none
returns-in_err-index-clause-none g c =
    let told = c.empty_avail-found.ensures in
    subst (λ r. IfNone r (FindsNone c.args.seat.now c.args.meta c.empty_avail-found.new.seat)) (sym c.from_residual.ensures) (none_found _ _ c.args.meta _ told.0 c.requires.live told.1 told.2 (c.in_err-index.ensures.none.0 refl))

pub stock-requires : goal.stock-requires
stock-requires g c = record { may = (let told = c.empty_avail-found.ensures in may_stock_others _ _ c.args.meta _ told.0 c.in_ok-index.index c.requires.live told.1 told.2 c.in_ok-index.ensures.lowest) }

pub returns-clause-taken : goal.returns-clause-taken
returns-clause-taken g c = let told = c.empty_avail-found.ensures in lowest_taken _ _ _ c.args.meta _ told.0 c.in_ok-index.index c.requires.live told.1 told.2 c.in_ok-index.ensures.lowest c.stock.ensures.none c.stock.ensures.stocked
