use Rattle.std.proofs.Common.{◌<◌, ◌∙◌, ap, sym, drop, arith}
use Rattle.ng_shelf.specs.Stock.{free_of, unused_left}
use Rattle.ng_shelf.proofs.StockLemmas.{area_low, less_returned, less_unused, rest_unused, unused_taken}
use Rattle.ng_shelf.proofs.meta_stock.MetaStock.take.Goals as goal

pub invariant_of-self : goal.invariant_of-self
invariant_of-self c = rw c.take.ensures.rest (less_returned c.self.invariant)

pub meta_at-meta-requires-clause-low : goal.meta_at-meta-requires-clause-low
meta_at-meta-requires-clause-low c = area_low c.self.invariant

pub invariant_of-self-2 : goal.invariant_of-self-2
invariant_of-self-2 c =
    let some : c.self.inside.unused < 101 = omega (arith, c.self.invariant.some, c.if-self-eq-METAS.false) in
    rw c.take.ensures.rest (less_unused c.self.invariant some)

pub returns-clause-rest : goal.returns-clause-rest
returns-clause-rest c =
    let some : c.self.inside.unused < 101 = omega (arith, c.self.invariant.some, c.if-self-eq-METAS.false) in
    rw c.take.ensures.rest (rest_unused c.self.inside.returned.metas c.self.inside.area c.self.inside.unused (sym c.take.ensures.first ∙ c.in_default.is) some ∙ ap (λ stock. drop 1 (free_of stock)) c.self.view_is)

pub returns-clause-unused : goal.returns-clause-unused
returns-clause-unused c =
    let some : c.self.inside.unused < 101 = omega (arith, c.self.invariant.some, c.if-self-eq-METAS.false) in
    unused_taken c.self.inside.returned.metas c.self.inside.area c.self.inside.unused (sym c.take.ensures.first ∙ c.in_default.is) some ∙ ap (λ stock. unused_left stock.returned stock.unused) c.self.view_is
