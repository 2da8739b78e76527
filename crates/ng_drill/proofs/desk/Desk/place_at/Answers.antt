use Rattle.ng_drill.proofs.IndexLemmas.{placed_at}
use Rattle.std.proofs.Common.{None, get_or, sym, ap, ◌∙◌, ◌/◌, arith}
use Rattle.ng_drill.proofs.desk.Desk.place_at.Goals as goal

pub returns-in-Some-Some : goal.returns-in-Some-Some
returns-in-Some-Some g c =
    placed_at c.args.self.now.held.items c.args.self.now.places.items c.args.at c.in-Some-Some.place c.requires (omega (arith, c.if-at-ne0.false))
    (ap (λ xs. get_or xs (c.args.at / 16) None) (sym c.deref.ensures.value) ∙ sym (c.in-Some-Some.ensures.lookup.3.1 None) ∙ c.in-Some-Some.field-0-is)
