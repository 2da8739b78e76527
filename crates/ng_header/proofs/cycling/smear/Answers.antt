use Rattle.ng_header.proofs.CycleLemmas.{halves-power_above}
use Rattle.ng_header.proofs.cycling.smear.Goals as goal

pub returns : goal.returns
returns c = halves-power_above c.args.slack c.requires
