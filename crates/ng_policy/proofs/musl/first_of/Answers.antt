use Rattle.std.proofs.Common.{◌≡◌, ◌*◌, nat_le, rules, tests, ℕ, Bool, length, get_or, ◌-◌, Option, Some, None, unwrap_or, refl}
use Rattle.std.specs.List.{find}
use Rattle.std.specs.Option.{option_map}
use Rattle.std.proofs.lemmas.Iterator.{YieldsList-from_slice}
use Rattle.std.proofs.lemmas.Iterator.Consumers.{YieldsList-from_copied}
use Rattle.std.proofs.lemmas.Iterator.Search.{find_from_yields_List}
use Rattle.ng_policy.proofs.musl.first_of.Goals as goal

-- an option whose value is passed on as it is
unwrap_or-option_map_same : (found same : Option ℕ) (d : ℕ) → option_map (λ x. x) found ≡ same → unwrap_or found d ≡ unwrap_or same d
unwrap_or-option_map_same None same d e = rw (← e) refl
unwrap_or-option_map_same (Some x) same d e = rw (← e) refl

pub returns : goal.returns
returns c =
    let test : ℕ → Bool = λ slots. nat_le (4 * slots) c.args.usage in
    let found : option_map (λ x. x) c.find-choice.result ≡ find test c.args.choices.now = find_from_yields_List test _ _ c.find-choice.result c.find-choice.ensures.ran (YieldsList-from_copied (YieldsList-from_slice c.args.choices.now cc)) (λ x b q k. search (rules, tests)) in
    let same = unwrap_or-option_map_same c.find-choice.result _ (get_or c.args.choices.now (length c.args.choices.now - 1) 0) found in
    search (rules, same)
