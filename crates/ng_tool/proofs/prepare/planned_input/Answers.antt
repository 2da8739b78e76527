use Rattle.ng_tool.proofs.InputLemmas.{few-logs, few-ops}
use Rattle.ng_tool.proofs.prepare.planned_input.Goals as goal

pub returns-in-Ok-plan-clause-few : goal.returns-in-Ok-plan-clause-few
returns-in-Ok-plan-clause-few g c = few-logs _ _ c.in-Ok-plan.ensures.plan c.in-Ok.ensures.limits

pub returns-in-Ok-plan-clause-short : goal.returns-in-Ok-plan-clause-short
returns-in-Ok-plan-clause-short g c = few-ops _ _ c.in-Ok-plan.ensures.plan c.in-Ok.ensures.limits
