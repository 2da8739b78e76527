use Rattle.std.proofs.Common.{All, subst}
use Rattle.ng_meta.specs.Place.{IsMetaPlace}
use Rattle.ng_shelf.specs.Stock.{free_of}
use Rattle.ng_shelf.proofs.StockLemmas.{stock_places}
use Rattle.ng_shelf.proofs.meta_stock.MetaStock.stand_once.Goals as goal

pub returns-clause-places : goal.returns-clause-places
returns-clause-places c =
    subst (λ stock. All (λ meta. IsMetaPlace meta stock.pages) (free_of stock)) c.self.view_is (stock_places c.self.invariant c.stand_once.ensures.places)
