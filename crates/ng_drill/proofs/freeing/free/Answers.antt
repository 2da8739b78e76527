use Rattle.std.proofs.Common.{ℕ, List, sym, ap, ◌∙◌, subst}
use Rattle.std.specs.Prelude.{Option}
use Rattle.ng_drill.specs.States.{address_of}
use Rattle.ng_drill.specs.Steps.{Frees}
use Rattle.ng_drill.proofs.freeing.free.Goals as goal

pub returns-in-Some-clause-steps : goal.returns-in-Some-clause-steps
returns-in-Some-clause-steps g c = λ state s.
    let r = c.free_at.ensures.steps state s in (
      r.0,
      subst (λ (at : Option ℕ). Frees g.N.Name.facts.start.pages state at c.free_at.result r.0)
          (sym (ap (λ (xs : List (Option ℕ)). address_of xs c.args.place) s.names ∙ sym c.address.ensures ∙ c.in-Some.is)) r.1,
      r.2,
    )
