use Rattle.std.proofs.Common.{◌<◌, arith}
use Rattle.ng_supply.proofs.AreaLemmas.{area_low, cleared, kept_area, mapper_area, noted_twice, none_there, only_area, stock_area}
use Rattle.ng_supply.proofs.meta.add_area.Goals as goal

pub make_area-requires-clause-run : goal.make_area-requires-clause-run
make_area-requires-clause-run g c = cleared g.N.Name.facts.start c.args.seat.now c.map_run.new.seat c.in_ok-addr.addr c.in_ok-addr.ensures.ok

pub make_area-requires-clause-low : goal.make_area-requires-clause-low
make_area-requires-clause-low g c =
    let mapper = c.args.mapper.now in
    let some : 0 < g.N.Name.facts.start.pages = omega (arith, c.in_ok-addr.ensures.ok.space.below) in
    rw c.area-before.ensures (area_low g.N.Name.facts.start c.args.seat.now (g.M.Mapper.span mapper) (g.M.Mapper.runs mapper) (g.M.Mapper.refused mapper) c.requires.mapper (g.met.M.Mapper.laid mapper) c.args.stock.now.area (g.met.M.Mapper.bounded mapper) some c.requires.stock.area)

pub returns-clause-mapper : goal.returns-clause-mapper
returns-clause-mapper g c =
    let run = cleared g.N.Name.facts.start c.args.seat.now c.map_run.new.seat c.in_ok-addr.addr c.in_ok-addr.ensures.ok in
    mapper_area g.N.Name.facts.start c.map_run.new.seat c.make_area.new.seat _ _ _ c.in_ok-addr.addr c.in_ok-addr.ensures.mapper run c.make_area.ensures.view

pub returns-clause-ok : goal.returns-clause-ok
returns-clause-ok g c =
    let mapper = c.args.mapper.now in
    let maps = c.in_ok-addr.ensures.ok in
    let none = none_there g.N.Name.facts.start c.args.seat.now (g.M.Mapper.span mapper) (g.M.Mapper.runs mapper) (g.M.Mapper.refused mapper) c.requires.mapper (g.met.M.Mapper.laid mapper) c.in_ok-addr.addr maps.new in
    record {
      space = maps.space;
      new = maps.new;
      mapped = c.in_ok-addr.ensures.mapped;
      view = only_area g.N.Name.facts.start c.args.seat.now c.map_run.new.seat c.make_area.new.seat c.in_ok-addr.addr maps none c.make_area.ensures.view;
      kept = kept_area g.N.Name.facts.start c.args.seat.now c.map_run.new.seat c.make_area.new.seat c.in_ok-addr.addr maps none c.make_area.ensures.view c.make_area.ensures.kept;
      reads = noted_twice g.N.Name.facts.start c.args.seat.now c.map_run.new.seat c.make_area.new.seat c.in_ok-addr.addr maps c.make_area.ensures.reads;
      stock = c.add_area.ensures.metas;
    }

pub returns-clause-stock : goal.returns-clause-stock
returns-clause-stock g c =
    let mapper = c.args.mapper.now in
    let maps = c.in_ok-addr.ensures.ok in
    let none = none_there g.N.Name.facts.start c.args.seat.now (g.M.Mapper.span mapper) (g.M.Mapper.runs mapper) (g.M.Mapper.refused mapper) c.requires.mapper (g.met.M.Mapper.laid mapper) c.in_ok-addr.addr maps.new in
    let only = only_area g.N.Name.facts.start c.args.seat.now c.map_run.new.seat c.make_area.new.seat c.in_ok-addr.addr maps none c.make_area.ensures.view in
    stock_area g.N.Name.facts.start c.args.seat.now c.make_area.new.seat c.in_ok-addr.addr maps.new maps.space only c.args.stock.now c.add_area.new.self c.requires.stock c.requires.none c.add_area.ensures.metas c.make_area.ensures.metas
