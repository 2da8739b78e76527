use Rattle.ng_plan.proofs.FitLemmas.{left_few, left_numbered}
use Rattle.ng_plan.proofs.RoundLemmas.{skip_done, skip_first}
use Rattle.ng_plan.proofs.rounds.skip.Goals as goal

pub returns-in_default-clause-turns : goal.returns-in_default-clause-turns
returns-in_default-clause-turns c = λ names turns are.
    rw (skip_done names c.args.schedule.now turns c.args.logs.now are c.in_default.ensures.none) are

pub finish-requires-clause-few : goal.finish-requires-clause-few
finish-requires-clause-few c = left_few c.args.schedule.now c.args.logs.now c.in-Some.log c.in-Some.step c.requires c.in-Some.ensures.first

pub finish-requires-clause-posts : goal.finish-requires-clause-posts
finish-requires-clause-posts c = (left_numbered c.args.schedule.now c.args.logs.now c.in-Some.log c.in-Some.step c.requires c.in-Some.ensures.first).posts

pub returns-clause-turns : goal.returns-clause-turns
returns-clause-turns c = λ names turns are.
    rw (skip_first names c.args.schedule.now turns c.args.logs.now c.in-Some.log c.in-Some.step are c.in-Some.ensures.first) (c.in_ok-finish.ensures.turns names turns are)
