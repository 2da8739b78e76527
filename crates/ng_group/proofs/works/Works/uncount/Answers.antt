use Rattle.std.proofs.Common.{ap, subst, sym, ℕ, ◌+◌, ◌-◌, ◌≤◌, List, slice_index, slice_set}
use Rattle.ng_view.specs.LockSteps.{groups_but}
use Rattle.ng_ledger.specs.Usage.{AreUsed}
use Rattle.ng_group.specs.States.{State, ledger_of}
use Rattle.ng_group.proofs.UncountLemmas.{few_enough, known, uncounted, uncounted_lone}
use Rattle.ng_group.proofs.works.Works.uncount.Goals as goal

pub returns-then-group-eq-LONE-clause-used : goal.returns-then-group-eq-LONE-clause-used
returns-then-group-eq-LONE-clause-used g c =
    uncounted_lone g.N.Name.facts.start (g.M.Mapper.span c.args.self.now.mapper) (g.M.Mapper.runs c.args.self.now.mapper) (g.M.Mapper.refused c.args.self.now.mapper) (ledger_of c.args.self.now) c.requires.working c.args.meta c.requires.whole c.args.group.now c.requires.group c.if-group-eq-LONE.true

pub bounds-usage-group : goal.bounds-usage-group
bounds-usage-group g c =
    known g.N.Name.facts.start (g.M.Mapper.span c.args.self.now.mapper) (g.M.Mapper.runs c.args.self.now.mapper) (g.M.Mapper.refused c.args.self.now.mapper) (ledger_of c.args.self.now) c.requires.working c.args.meta c.requires.whole c.args.group.now c.requires.group c.if-group-eq-LONE.false

pub overflow_sub-usage : goal.overflow_sub-usage
overflow_sub-usage g c =
    subst (λ (us : List ℕ). c.from.result + 1 ≤ slice_index us c.args.group.now.class) (sym (ap (λ (s : State g.row.M.Denot g.row.P.Denot). s.usage) c.self.view_is)) (few_enough g.N.Name.facts.start (g.M.Mapper.span c.args.self.now.mapper) (g.M.Mapper.runs c.args.self.now.mapper) (g.M.Mapper.refused c.args.self.now.mapper) (ledger_of c.args.self.now) c.requires.working c.args.meta c.requires.whole c.args.group.now c.requires.group c.if-group-eq-LONE.false c.from.result c.from.ensures)

pub bounds-usage-group-2 : goal.bounds-usage-group-2
bounds-usage-group-2 g c =
    known g.N.Name.facts.start (g.M.Mapper.span c.args.self.now.mapper) (g.M.Mapper.runs c.args.self.now.mapper) (g.M.Mapper.refused c.args.self.now.mapper) (ledger_of c.args.self.now) c.requires.working c.args.meta c.requires.whole c.args.group.now c.requires.group c.if-group-eq-LONE.false

pub returns-clause-used : goal.returns-clause-used
returns-clause-used g c =
    subst (λ (us : List ℕ). AreUsed (groups_but c.args.meta c.args.self.now.seat.desk.groups) (slice_set us c.args.group.now.class (slice_index us c.args.group.now.class - (c.from.result + 1)))) (sym (ap (λ (s : State g.row.M.Denot g.row.P.Denot). s.usage) c.self.view_is)) (uncounted g.N.Name.facts.start (g.M.Mapper.span c.args.self.now.mapper) (g.M.Mapper.runs c.args.self.now.mapper) (g.M.Mapper.refused c.args.self.now.mapper) (ledger_of c.args.self.now) c.requires.working c.args.meta c.requires.whole c.args.group.now c.requires.group c.if-group-eq-LONE.false c.from.result c.from.ensures)
