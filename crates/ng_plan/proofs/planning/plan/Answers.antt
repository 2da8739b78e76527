use Rattle.std.proofs.Common.{subst, sym}
use Rattle.ng_plan.specs.Plans.{lines_of}
use Rattle.ng_plan.specs.Sound.{IsSound}
use Rattle.ng_plan.proofs.PlanSound.{plan_sound}
use Rattle.ng_plan.proofs.planning.plan.Goals as goal

pub returns-in-Ok-clause-sound : goal.returns-in-Ok-clause-sound
returns-in-Ok-clause-sound c = subst IsSound (sym c.in-Ok.ensures) (plan_sound (lines_of c.as_slice.result.now))
