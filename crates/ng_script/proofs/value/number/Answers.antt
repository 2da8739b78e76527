use Rattle.std.proofs.Common.{◌∙◌}
use Rattle.ng_script.proofs.NumberLemmas.{number_of-hex, number_of-decimal}
use Rattle.ng_script.proofs.value.number.Goals as goal

pub returns-in-Some : goal.returns-in-Some
returns-in-Some c = c.value.ensures ∙ number_of-hex _ _ c.in-Some.ensures.cases.0 c.in-Some.ensures.cases.1

pub returns-in-None : goal.returns-in-None
returns-in-None c = c.value-in-None.ensures ∙ number_of-decimal _ c.in-None.ensures.cases
