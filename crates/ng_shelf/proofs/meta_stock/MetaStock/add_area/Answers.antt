use Rattle.std.proofs.Common.{◌<◌, ◌≡◌, ◌*◌, ◌∙◌, ap, [], arith}
use Rattle.ng_shelf.specs.Stock.{free_of}
use Rattle.ng_shelf.specs.Stocked.{unused_of}
use Rattle.ng_shelf.proofs.StockLemmas.{front_empty, stocked_area}
use Rattle.ng_shelf.proofs.meta_stock.MetaStock.add_area.Goals as goal

pub invariant_of-self : goal.invariant_of-self
invariant_of-self c =
    let none : c.self.inside.returned.metas ≡ [] = front_empty c.self.inside.returned.metas (unused_of c.self.inside.area c.self.inside.unused) (ap free_of c.self.view_is ∙ c.requires.empty) in
    let below : c.args.area < 4096 * c.self.inside.returned.pages = omega (arith, c.requires.below, ap (λ stock. stock.pages) c.self.view_is) in
    rw none (stocked_area c.args.area c.self.inside.returned.pages c.self.invariant.greatest c.requires.page c.requires.above below)
