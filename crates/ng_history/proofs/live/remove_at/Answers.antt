use Rattle.std.proofs.Common.{eqb, rules}
use Rattle.std.specs.Prelude.{not}
use Rattle.ng_terms.specs.declared.entry.Extent.{Extent}
use Rattle.ng_history.proofs.LiveLemmas.{filter-kept}
use Rattle.ng_history.proofs.live.remove_at.Goals as goal

pub returns-clause-items : goal.returns-clause-items
returns-clause-items c = filter-kept _ _ (λ (b : Extent). not (eqb b.at c.args.at)) (λ x b q says. search rules) _ _ c.retain.ensures.filtered
