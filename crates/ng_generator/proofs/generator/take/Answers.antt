use Rattle.ng_generator.proofs.TakeLemmas.{taken_rest}
use Rattle.ng_generator.proofs.generator.take.Goals as goal
use Rattle.std.proofs.Common.{arith}

pub returns-clause-rest : goal.returns-clause-rest
returns-clause-rest c =
    taken_rest c.args.lists.now c.args.at c.args.place c.index-lists-at.result _ (omega arith) c.remove.ensures.items
