use Rattle.ng_class.proofs.Classes.{units_of_first, units_of_last, units_of_rises}
use Rattle.ng_class.proofs.laws.units_rise.Goals as goal

pub returns : goal.returns
returns c = record { first = units_of_first; last = units_of_last; rises = units_of_rises }
