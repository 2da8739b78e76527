use Rattle.std.proofs.Common.{◌+◌, sym, subst, arith}
use Rattle.std.specs.List.{slice_index}
use Rattle.ng_policy.specs.Ask.{SpareInRange}
use Rattle.ng_group.specs.States.{State, ledger_of}
use Rattle.ng_group.proofs.ReturningLemmas.{found_few, spare_range}
use Rattle.ng_group.proofs.works.Works.spare.Goals as goal

pub overflow_add-result : goal.overflow_add-result
overflow_add-result g c = omega (arith, found_few g.N.Name.facts.start _ _ _ (ledger_of c.args.self.now) c.requires.working c.args.meta c.args.group.now c.requires.live c.requires.group)

pub returns-clause-range : goal.returns-clause-range
returns-clause-range g c = subst
    (λ (s : State g.row.M.Denot g.row.P.Denot). SpareInRange (record { class = c.args.group.now.class; slots = c.args.group.now.last + 1; usage = slice_index s.usage c.args.group.now.class; alone = c.if-has.result; bouncing = c.bouncing.result }))
    (sym c.self.view_is)
    (spare_range g.N.Name.facts.start _ _ _ (ledger_of c.args.self.now) c.requires.working c.args.meta c.args.group.now c.requires.live c.requires.group c.requires.few c.requires.class c.if-has.result c.bouncing.result)
