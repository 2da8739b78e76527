use Rattle.ng_policy.proofs.Stamps.{no_stamps-past}
use Rattle.ng_policy.proofs.bounce.Bounce.new.Goals as goal

pub invariant_of-result : goal.invariant_of-result
invariant_of-result c = no_stamps-past 0
