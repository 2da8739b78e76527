use Rattle.std.proofs.Common.{◌≡◌, ◌∙◌, ap, arith}
use Rattle.ng_generator.specs.Generated.{State, after, made}
use Rattle.ng_generator.proofs.StepLemmas.{made_after}
use Rattle.ng_generator.proofs.made.run.Goals as goal

pub returns : goal.returns
returns c =
    let all : c.loop-number.number ≡ 8000 = omega arith in
    let lines : State.lines c.loop-number.generator ≡ made c.args.seed =
    ap (λ state. State.lines state) c.loop-number.invariant
    ∙ ap (λ steps. State.lines (after c.args.seed steps)) all
    ∙ made_after c.args.seed in
    rw lines at c.into_logs.ensures
