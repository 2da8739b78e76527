use Rattle.std.proofs.Common.{ℕ, ◌+◌, ◌<◌, IfSome, Option, ap, subst, ◌∙◌, arith}
use Rattle.ng_class.specs.Class.{IsLeastClass}
use Rattle.ng_group.specs.declared.heap_core.Core.TheInside.{Inside}
use Rattle.ng_group.proofs.ClassForLemmas.{greatest_serves, least_serves, looked_same}
use Rattle.ng_group.proofs.OpeningLemmas.{usage_at}
use Rattle.ng_group.proofs.heap_core.Core.class_for.Goals as goal

pub returns-then-next-eq-CLASSES-clause-class : goal.returns-then-next-eq-CLASSES-clause-class
returns-then-next-eq-CLASSES-clause-class g c =
    let least = subst (λ (answer : Option ℕ). IfSome answer (IsLeastClass c.args.bytes)) c.unwrap-class.ensures c.class_of.ensures.least in
    greatest_serves c.args.self.now c.args.bytes c.unwrap-class.result (omega (arith, c.if-next-eq-CLASSES.true)) least

pub returns-then-next-eq-CLASSES-clause-looked : goal.returns-then-next-eq-CLASSES-clause-looked
returns-then-next-eq-CLASSES-clause-looked g c = looked_same c.args.self.now

pub coarse-requires-clause-usage : goal.coarse-requires-clause-usage
coarse-requires-clause-usage g c =
    let least = subst (λ (answer : Option ℕ). IfSome answer (IsLeastClass c.args.bytes)) c.unwrap-class.ensures c.class_of.ensures.least in
    usage_at g.N.Name.facts.start g.M.Mapper.span g.M.Mapper.runs g.M.Mapper.refused c.unwrap-class.result (ap (λ (x : Inside g.row.N.Denot g.row.M.Denot g.row.P.Denot). x.works) c.self-inside.view_is) c.self.invariant.0.working c.args.space.now.range.addressed least.known

pub coarse-requires-clause-next_usage : goal.coarse-requires-clause-next_usage
coarse-requires-clause-next_usage g c =
    let least = subst (λ (answer : Option ℕ). IfSome answer (IsLeastClass c.args.bytes)) c.unwrap-class.ensures c.class_of.ensures.least in
    let known : c.unwrap-class.result + 1 < 48 = omega (arith, c.if-next-eq-CLASSES.false, least.known) in
    usage_at g.N.Name.facts.start g.M.Mapper.span g.M.Mapper.runs g.M.Mapper.refused (c.unwrap-class.result + 1) (ap (λ (x : Inside g.row.N.Denot g.row.M.Denot g.row.P.Denot). x.works) c.self-inside.view_is) c.self.invariant.0.working c.args.space.now.range.addressed known

pub returns-then-coarse-class-clause-class : goal.returns-then-coarse-class-clause-class
returns-then-coarse-class-clause-class g c =
    let least = subst (λ (answer : Option ℕ). IfSome answer (IsLeastClass c.args.bytes)) c.unwrap-class.ensures c.class_of.ensures.least in
    least_serves c.args.bytes c.unwrap-class.result c.coarse.result c.first.result c.is_some-has_group.result
    (ap (λ (x : Inside g.row.N.Denot g.row.M.Denot g.row.P.Denot). x.works) c.self-inside.view_is ∙ c.self.view_is)
    c.is_some-has_group.ensures c.first.ensures.none c.coarse.ensures.up c.if-coarse-class.true least
