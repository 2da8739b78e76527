use Rattle.ng_policy.proofs.Stamps.{no_stamps-past}
use Rattle.ng_policy.proofs.bounce.Bounce.step.Goals as goal

pub invariant_of-self : goal.invariant_of-self
invariant_of-self c = no_stamps-past 1
