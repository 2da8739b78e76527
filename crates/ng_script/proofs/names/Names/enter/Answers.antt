use Rattle.std.proofs.Common.{◌≡◌, ◌++◌, ◌∷◌, [], false, map, ap, sym, ◌∙◌, Some}
use Rattle.ng_script.specs.Scripts.{is_among, number_in}
use Rattle.ng_script.proofs.NameLemmas.{key-inserted, with_name-new, number-new}
use Rattle.ng_script.proofs.names.Names.enter.Goals as goal

pub returns-clause-names : goal.returns-clause-names
returns-clause-names c =
    let new : is_among c.args.self.now c.args.name.now ≡ false = sym c.in_default.ensures.among in
    ap (λ keys. map (λ name. name.items) keys) c.in-Ok-insert.ensures.keys
    ∙ key-inserted (λ name. name.items) c.self.inside.set.keys c.in-Ok.owned c.args.name.now c.in-Ok.ensures.items (ap (λ names. is_among names c.args.name.now) c.self.view_is ∙ new)
    ∙ ap (λ names. names ++ c.args.name.now ∷ []) c.self.view_is
    ∙ sym (with_name-new c.args.self.now c.args.name.now new)

pub returns-clause-number : goal.returns-clause-number
returns-clause-number c =
    let new : is_among c.args.self.now c.args.name.now ≡ false = sym c.in_default.ensures.among in
    ap (λ keys. number_in (map (λ name. name.items) keys) c.args.name.now) c.in-Ok-insert.ensures.keys
    ∙ ap (λ names. number_in names c.args.name.now) (key-inserted (λ name. name.items) c.self.inside.set.keys c.in-Ok.owned c.args.name.now c.in-Ok.ensures.items (ap (λ names. is_among names c.args.name.now) c.self.view_is ∙ new) ∙ ap (λ names. names ++ c.args.name.now ∷ []) c.self.view_is)
    ∙ number-new c.args.self.now c.args.name.now new
    ∙ ap (λ n. Some n) (sym c.len-number.ensures)
