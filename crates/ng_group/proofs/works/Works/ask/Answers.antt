use Rattle.std.proofs.Common.{◌<◌, ℕ, ◌+◌, ◌^◌, subst, sym, arith}
use Rattle.ng_group.proofs.OpeningLemmas.{usage_at}
use Rattle.ng_group.proofs.works.Works.ask.Goals.{then-class-eq0+then-class-lt32, else-class-eq0}
use Rattle.ng_group.proofs.works.Works.ask.Goals as goal

pub returns-clause-range : goal.returns-clause-range
returns-clause-range g c = record {
  class = c.requires.class;
  usage = usage_at g.N.Name.facts.start g.M.Mapper.span g.M.Mapper.runs g.M.Mapper.refused c.args.class c.self.view_is c.requires.working c.requires.few c.requires.class;
  near = elim c.if-class-eq0.branch [
    | then-class-eq0+then-class-lt32 w ↦
        subst (λ (n : ℕ). n < 2 ^ 32) (sym w.near-is)
        (usage_at g.N.Name.facts.start g.M.Mapper.span g.M.Mapper.runs g.M.Mapper.refused (c.args.class + 1) c.self.view_is c.requires.working c.requires.few (omega (arith, w.if-class-lt32)))
    | else-class-eq0 w ↦ subst (λ (n : ℕ). n < 2 ^ 32) (sym w.near-is) (omega arith)
  ];
}
