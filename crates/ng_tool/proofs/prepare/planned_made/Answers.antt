use Rattle.ng_tool.proofs.InputLemmas.{few-logs, few-ops}
use Rattle.ng_tool.proofs.prepare.planned_made.Goals as goal

pub returns-in-Ok-clause-few : goal.returns-in-Ok-clause-few
returns-in-Ok-clause-few c = few-logs _ _ c.in-Ok.ensures.plan c.in_ok-logs.ensures.limits

pub returns-in-Ok-clause-short : goal.returns-in-Ok-clause-short
returns-in-Ok-clause-short c = few-ops _ _ c.in-Ok.ensures.plan c.in_ok-logs.ensures.limits
