use Rattle.std.proofs.Common.{ap, ◌∙◌}
use Rattle.std.specs.Option.{option_map, unwrap_or}
use Rattle.ng_mtrace.specs.declared.kind.Kind.TheVariants.{Old, Bad}
use Rattle.ng_mtrace.proofs.LineForms.{kind_from-old}
use Rattle.ng_mtrace.proofs.kind.old.Goals as goal

pub returns-in-Some : goal.returns-in-Some
returns-in-Some c = λ before. ap (λ found. unwrap_or (option_map (λ name. Old name) found) Bad) c.in-Some.ensures ∙ kind_from-old c.args.last.now before

pub returns-in-None : goal.returns-in-None
returns-in-None c = λ before. ap (λ found. unwrap_or (option_map (λ name. Old name) found) Bad) c.in-None.ensures ∙ kind_from-old c.args.last.now before
