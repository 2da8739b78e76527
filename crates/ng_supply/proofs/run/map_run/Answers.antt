use Rattle.ng_supply.proofs.MapLemmas.{mapper_noted, maps, new}
use Rattle.ng_supply.proofs.run.map_run.Goals as goal

pub note_run-requires : goal.note_run-requires
note_run-requires g c = record {
  run = new g.N.Name.facts.start c.args.seat.now (g.M.Mapper.span c.args.mapper.now) (g.M.Mapper.runs c.args.mapper.now) (g.M.Mapper.refused c.args.mapper.now) c.requires.mapper c.in-Ok.addr c.args.pages c.in-Ok.ensures.free;
}

pub returns-in-Ok-clause-mapper : goal.returns-in-Ok-clause-mapper
returns-in-Ok-clause-mapper g c =
    let mapper = c.args.mapper.now in
    mapper_noted g.N.Name.facts.start c.args.seat.now (g.M.Mapper.span mapper) (g.M.Mapper.runs mapper) (g.M.Mapper.refused mapper) c.requires.mapper c.in-Ok.addr c.args.pages c.in-Ok.ensures.free c.note_run.new.seat c.note_run.ensures _ _ _ (g.met.M.Mapper.laid mapper) c.in-Ok.ensures.constant c.in-Ok.ensures.mapped c.in-Ok.ensures.calm

pub returns-in-Ok-clause-ok : goal.returns-in-Ok-clause-ok
returns-in-Ok-clause-ok g c =
    let mapper = c.args.mapper.now in
    maps g.N.Name.facts.start c.args.seat.now (g.M.Mapper.span mapper) (g.M.Mapper.runs mapper) (g.M.Mapper.refused mapper) c.requires.mapper c.in-Ok.addr c.args.pages c.in-Ok.ensures.free c.note_run.new.seat c.note_run.ensures (g.met.M.Mapper.bounded mapper) c.args.space.now.range.addressed
