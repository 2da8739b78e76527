use Rattle.std.proofs.Common.{subst, sym, arith}
use Rattle.ng_group.specs.Opening.{AreEmpty, Empty}
use Rattle.ng_group.proofs.OpeningLemmas.{resting_open}
use Rattle.ng_group.proofs.heap_core.Core.open.Goals as goal

pub invariant_of-result : goal.invariant_of-result
invariant_of-result g c = (
  resting_open
      g.N.Name.facts.start
      (g.M.Mapper.span c.args.mapper)
      (g.M.Mapper.runs c.args.mapper)
      (g.M.Mapper.refused c.args.mapper)
      c.tables.inside.rings
      c.tables.inside.stock
      c.tables.inside.parents
      (subst (λ (tables : Empty). AreEmpty g.N.Name.facts.start.pages tables) (sym c.tables.view_is) c.requires.tables)
      c.requires.mapper
      c.args.seat
      c.requires.seat,
  (let most = c.requires.most in omega arith),
)
