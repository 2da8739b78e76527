use Rattle.std.proofs.Common.{None, sym, ◌∙◌}
use Rattle.ng_script.specs.declared.command.Shift.TheVariants.{Up, Down}
use Rattle.ng_script.proofs.PlaceLemmas.{named_of-plain, named_of-up, named_of-down}
use Rattle.ng_script.proofs.place.named.Goals as goal

pub returns-then-is_name : goal.returns-then-is_name
returns-then-is_name c = named_of-plain c.args.token.now (sym c.is_name.ensures ∙ c.if-is_name.true)

pub returns-in-Some : goal.returns-in-Some
returns-in-Some c = named_of-up c.args.token.now _ (sym c.is_name.ensures ∙ c.if-is_name.false) (c.in-Some.ensures (λ n. Up n))

pub returns-in-Some-shifted : goal.returns-in-Some-shifted
returns-in-Some-shifted c = named_of-down c.args.token.now _ (sym c.is_name.ensures ∙ c.if-is_name.false) (c.in_default.ensures (λ n. Up n)) (c.in-Some-shifted.ensures (λ n. Down n))

pub returns : goal.returns
returns c = named_of-down c.args.token.now None (sym c.is_name.ensures ∙ c.if-is_name.false) (c.in_default.ensures (λ n. Up n)) (c.in_default-shifted.ensures (λ n. Down n))
