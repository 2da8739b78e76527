use Rattle.std.proofs.Common.{[], ◌∷◌, refl}
use Rattle.ng_space.specs.Callers.{Caller}
use Rattle.ng_space.proofs.Counting.{all_of_one}
use Rattle.ng_heap_tests.proofs.tests.end.Goals as goal

pub close-image-requires-clause-all : goal.close-image-requires-clause-all
close-image-requires-clause-all g c =
    let hand : Caller = c.args.hand in
    let may = c.requires.closes in
    all_of_one _ _ (hand ∷ []) hand hand c.requires.hands refl c.in_ok-vec.ensures.items may.number
