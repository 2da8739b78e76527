use Rattle.ng_serve.proofs.Freed.{lowest_of, may_stock_others, some_lowest, some_taken, takes_freed}
use Rattle.ng_serve.proofs.taking.take_freed.Goals as goal

pub unwrap-index-requires : goal.unwrap-index-requires
unwrap-index-requires g c =
    some_lowest _ _ (some_taken _ _ c.args.meta c.args.upto _ c.requires.live c.take-taken.ensures.taken c.requires.freed) c.lowest_bit.ensures.none.0

pub stock-requires : goal.stock-requires
stock-requires g c = record {
  may = (
      may_stock_others _ _ c.args.meta c.args.upto _ c.requires.live c.take-taken.ensures.taken c.requires.freed c.unwrap-index.result (lowest_of _ _ _ c.unwrap-index.ensures c.lowest_bit.ensures.lowest) c.requires.bare);
}

pub returns : goal.returns
returns g c =
    takes_freed _ _ c.args.meta c.args.upto _ c.requires.live c.take-taken.ensures.taken c.requires.freed c.unwrap-index.result (lowest_of _ _ _ c.unwrap-index.ensures c.lowest_bit.ensures.lowest) _ c.stock.ensures.none c.stock.ensures.stocked
