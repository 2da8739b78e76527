use Rattle.std.proofs.Common.{arith}
use Rattle.std.proofs.lemmas.Grind.{common_steps}
use Rattle.ng_mapper.proofs.run_list.page_sum.Goals as goal

pub loop-run-preserved : goal.loop-run-preserved
loop-run-preserved c =
    let lies = c.requires.ordered.lie c.loop-run.run-index (0, 0) c.loop-run-test.true in
    let end = lies.below in
    let start = c.loop-run.invariant.below c.loop-run.run-index (omega arith) c.loop-run-test.true in
    record {
      sum = grind (arith, common_steps);
      small = omega arith;
      below = λ k from within. let apart = c.requires.ordered.ordered c.loop-run.run-index k (0, 0) (omega arith) within in omega arith;
    }
