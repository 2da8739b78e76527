use Rattle.std.proofs.Common.{Contains, subst, sym}
use Rattle.ng_shelf.specs.Stock.{free_of}
use Rattle.ng_shelf.proofs.StockLemmas.{more_returned}
use Rattle.ng_shelf.proofs.meta_stock.MetaStock.put.Goals as goal

pub invariant_of-self : goal.invariant_of-self
invariant_of-self c =
    let absent = subst (λ stock. ¬ Contains (free_of stock) c.args.meta) (sym c.self.view_is) c.requires.absent in
    rw c.put.ensures.appended (more_returned c.self.invariant c.args.meta absent)
