use Rattle.std.proofs.Common.{ap, ◌∙◌}
use Rattle.std.specs.Str.{bytes_eq}
use Rattle.ng_script.specs.Scripts.{is_among, number_in}
use Rattle.ng_script.proofs.NameLemmas.{position-map, list_any-map}
use Rattle.ng_script.proofs.names.Names.number.Goals as goal

pub returns-in-Some-clause-number : goal.returns-in-Some-clause-number
returns-in-Some-clause-number c = c.in-Some.ensures.index ∙ position-map (λ other. bytes_eq c.args.name.now other) (λ name. name.items) c.self.inside.set.keys ∙ ap (λ names. number_in names c.args.name.now) c.self.view_is

pub returns-in-Some-clause-among : goal.returns-in-Some-clause-among
returns-in-Some-clause-among c = c.in-Some.ensures.found ∙ list_any-map (λ other. bytes_eq c.args.name.now other) (λ name. name.items) c.self.inside.set.keys ∙ ap (λ names. is_among names c.args.name.now) c.self.view_is

pub returns-in-None-clause-number : goal.returns-in-None-clause-number
returns-in-None-clause-number c = c.in-None.ensures.index ∙ position-map (λ other. bytes_eq c.args.name.now other) (λ name. name.items) c.self.inside.set.keys ∙ ap (λ names. number_in names c.args.name.now) c.self.view_is

pub returns-in-None-clause-among : goal.returns-in-None-clause-among
returns-in-None-clause-among c = c.in-None.ensures.found ∙ list_any-map (λ other. bytes_eq c.args.name.now other) (λ name. name.items) c.self.inside.set.keys ∙ ap (λ names. is_among names c.args.name.now) c.self.view_is
