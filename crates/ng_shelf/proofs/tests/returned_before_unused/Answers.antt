use Rattle.std.proofs.Common.{Contains, subst, sym, arith}
use Rattle.ng_shelf.specs.Stock.{Stock, free_of}
use Rattle.ng_shelf.proofs.StockLemmas.{behind_area}
use Rattle.ng_shelf.proofs.tests.returned_before_unused.Goals as goal

pub put-requires-clause-absent : goal.put-requires-clause-absent
put-requires-clause-absent g c =
    subst (λ (stock : Stock). ¬ Contains (free_of stock) 8216) (sym c.add_area.ensures.metas) (behind_area c.in_ok-stock.stock 4096 8216 c.in_ok-stock.ensures.empty (omega arith))
