use Rattle.ng_group.specs.States.{ledger_of}
use Rattle.ng_group.proofs.ReturningLemmas.{found_few}
use Rattle.ng_group.proofs.works.Works.may_end.Goals as goal

pub fills-requires-clause-last : goal.fills-requires-clause-last
fills-requires-clause-last g c = found_few g.N.Name.facts.start _ _ _ (ledger_of c.args.self.now) c.requires.working c.args.meta c.args.group.now c.requires.live c.requires.group
