use lib.ListN.{get_or}
use Rattle.std.proofs.Common.{List, ap, ◌∙◌, refl}
use Rattle.ng_space.specs.Callers.{Caller, fresh_callers}
use Rattle.ng_space.proofs.Counting.{all_of_one}
use Rattle.ng_mask.proofs.tests.pop_once.Goals as goal

pub close-image-requires-clause-all : goal.close-image-requires-clause-all
close-image-requires-clause-all g c =
    let made = c.in_ok-space.ensures in
    let rooms = c.requires.rooms in
    all_of_one _ _ c.in_ok-space.hands.items _ c.enter.new.hand
    c.requires.hands
    (made.hands ∙ ap (fresh_callers 1) rooms) refl (c.enter.ensures.number ∙ c.finds_none.ensures.hand.number ∙ ap (λ (h : Caller). h.number) (c.index_mut-hand.ensures.value ∙ ap (λ (hs : List Caller). get_or hs 0 c.index_mut-hand.result.now) (made.hands ∙ ap (fresh_callers 1) rooms)))
