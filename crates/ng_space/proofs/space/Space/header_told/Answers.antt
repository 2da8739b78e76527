use Rattle.std.proofs.Common.{ℕ, ◌-◌, ◌/◌, sym, subst}
use Rattle.ng_view.specs.May.{May}
use Rattle.ng_space.proofs.space.Space.header_told.Goals as goal

pub store_told-requires-clause-may : goal.store_told-requires-clause-may
store_told-requires-clause-may g c =
    subst (λ (n : ℕ). May g.N.Name.facts.start c.args.seat.now.id c.args.seat.now.me.0 ((c.args.at - 4) / 4) (λ _. n) (λ before found after. g.T.Telling.told before n after)) (sym c.from.ensures) c.requires.may
