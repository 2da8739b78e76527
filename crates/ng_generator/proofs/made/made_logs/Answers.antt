use Rattle.ng_generator.proofs.LimitLemmas.{within_limits}
use Rattle.ng_generator.proofs.made.made_logs.Goals as goal

pub returns-in-Ok-clause-limits : goal.returns-in-Ok-clause-limits
returns-in-Ok-clause-limits c = within_limits c.in-Ok.logs c.args.seed c.in-Ok.ensures
