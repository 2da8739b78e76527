use Rattle.ng_class.proofs.Places.{owns_apart}
use Rattle.ng_class.proofs.laws.slots_are_apart.Goals as goal

pub returns : goal.returns
returns c = owns_apart
