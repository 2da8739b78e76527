use Rattle.std.proofs.Common.{◌+◌, ap, arith, Ok}
use Rattle.ng_plan.specs.Schedules.{named_logs}
use Rattle.ng_plan.specs.Turns.{start}
use Rattle.ng_plan.proofs.FitLemmas.{all_done, at_total}
use Rattle.ng_plan.proofs.RoundLemmas.{rounds_more}
use Rattle.ng_plan.proofs.rounds.all_turns.Goals as goal

pub returns-then-not-branch : goal.returns-then-not-branch
returns-then-not-branch c = λ names rising long.
    all_done names c.go_on.new.schedule c.args.logs.now (c.loop.counter + 1) (omega (arith, c.count-total.ensures, c.loop-test.true)) (c.in_ok-go_on.ensures.all (ap Ok c.if-not-branch.true))
    (rw (rounds_more c.loop.counter (named_logs names c.args.logs.now) (start (named_logs names c.args.logs.now))) (c.in_ok-go_on.ensures.turns names _ (c.loop.invariant.turns names rising long)))

pub loop-preserved : goal.loop-preserved
loop-preserved c = record {
  fits = c.in_ok-go_on.ensures.fits;
  turns = λ names rising long. rw (rounds_more c.loop.counter (named_logs names c.args.logs.now) (start (named_logs names c.args.logs.now))) (c.in_ok-go_on.ensures.turns names _ (c.loop.invariant.turns names rising long));
}

pub returns : goal.returns
returns c = λ names rising long. at_total names c.loop.schedule c.args.logs.now c.loop.counter (omega (arith, c.count-total.ensures, c.loop-test.false, c.loop.auto.counter-end)) (c.loop.invariant.turns names rising long)
