use Rattle.std.proofs.Common.{ap, ◌∙◌}
use Rattle.ng_space.specs.Callers.{Caller}
use Rattle.ng_space.proofs.Counting.{all_of_two}
use Rattle.ng_heap_tests.proofs.beside_tests.ask_beside.Goals as goal

pub close-image-requires-clause-all : goal.close-image-requires-clause-all
close-image-requires-clause-all g c =
    let joined = c.join-first.ensures in
    all_of_two _ _ c.join-first.result.0 c.join-first.result.1 c.requires.hands
    c.in_ok-vec.ensures.items (joined.first.number ∙ ap (λ (h : Caller). h.number) c.hands_of_two-first.ensures.first)
    (joined.second.number ∙ ap (λ (h : Caller). h.number) c.hands_of_two-first.ensures.second)
