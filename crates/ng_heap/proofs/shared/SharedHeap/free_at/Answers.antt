use Rattle.ng_heap.proofs.AtLemmas.{cause_by}
use Rattle.ng_heap.proofs.shared.SharedHeap.free_at.Goals as goal

pub returns-clause-cause : goal.returns-clause-cause
returns-clause-cause g c = cause_by g.N.Name.facts.start _ _ (λ probed block frees. frees.hand) _ _ _ _ _ _ c.free_at.ensures.cause
