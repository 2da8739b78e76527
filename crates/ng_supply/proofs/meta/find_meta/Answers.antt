use Rattle.std.proofs.Common.{subst}
use Rattle.ng_shelf.specs.Stock.{Stock}
use Rattle.ng_supply.specs.Metas.{AddsArea}
use Rattle.ng_supply.proofs.AreaLemmas.{none_there}
use Rattle.ng_supply.proofs.StockLemmas.{finds_next, finds_of_area, some_metas, stock_left}
use Rattle.ng_supply.proofs.meta.find_meta.Goals as goal

pub returns-in-Some-clause-stock : goal.returns-in-Some-clause-stock
returns-in-Some-clause-stock g c = stock_left g.N.Name.facts.start c.args.seat.now c.args.stock.now c.requires.stock c.in-Some.meta c.take_next.new.stock c.in-Some.ensures.next

pub returns-in-Some-clause-ok : goal.returns-in-Some-clause-ok
returns-in-Some-clause-ok g c = finds_next g.N.Name.facts.start c.args.seat.now c.args.stock.now c.requires.stock c.in-Some.meta c.take_next.new.stock c.in-Some.ensures.next _

pub unreachable-requires : goal.unreachable-requires
unreachable-requires g c = some_metas c.take_next.new.stock c.add_area.new.stock c.in_ok-add_area.field-0 c.in_ok-add_area.ensures.ok.stock c.in_default-take_next.ensures.none

pub returns-clause-stock : goal.returns-clause-stock
returns-clause-stock g c = stock_left g.N.Name.facts.start c.add_area.new.seat c.add_area.new.stock c.in_ok-add_area.ensures.stock c.in-Some-take_next.meta c.take_next-2.new.stock c.in-Some-take_next.ensures.next

pub returns-clause-ok : goal.returns-clause-ok
returns-clause-ok g c =
    let mapper = c.args.mapper.now in
    let adds = subst (λ (s : Stock). AddsArea g.N.Name.facts.start c.args.seat.now (g.M.Mapper.runs mapper) s c.in_ok-add_area.field-0 c.add_area.new.seat (g.M.Mapper.runs c.add_area.new.mapper) c.add_area.new.stock) c.in_default.ensures.kept c.in_ok-add_area.ensures.ok in
    let none = none_there g.N.Name.facts.start c.args.seat.now (g.M.Mapper.span mapper) (g.M.Mapper.runs mapper) (g.M.Mapper.refused mapper) c.requires.mapper (g.met.M.Mapper.laid mapper) c.in_ok-add_area.field-0 adds.new in
    finds_of_area g.N.Name.facts.start c.args.seat.now _ c.args.stock.now c.in_ok-add_area.field-0 c.add_area.new.seat _ c.add_area.new.stock adds c.in_default.ensures.none none c.in_ok-add_area.ensures.stock c.in-Some-take_next.meta c.take_next-2.new.stock c.in-Some-take_next.ensures.next
