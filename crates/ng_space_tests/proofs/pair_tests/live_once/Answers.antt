use lib.ListN.{get_or}
use Rattle.std.proofs.Common.{List, ap, ◌∙◌, refl, arith}
use Rattle.ng_space.specs.Callers.{Caller, fresh_callers}
use Rattle.ng_space.proofs.Counting.{all_of_one}
use Rattle.ng_space_tests.proofs.Groups.{pair_fills}
use Rattle.ng_space_tests.proofs.Partings.{blanked, first_moves}
use Rattle.ng_space_tests.proofs.pair_tests.live_once.Goals as goal

pub close-image-requires-clause-all : goal.close-image-requires-clause-all
close-image-requires-clause-all g c =
    let made = c.in_ok-space.ensures.hands ∙ ap (fresh_callers 1) c.requires.rooms in
    all_of_one _ _ c.in_ok-space.hands.items _ c.pass_back.new.hand c.requires.hands made refl
    (c.pass_back.ensures.hand.number ∙ ap (λ (h : Caller). h.number) (c.index_mut-hand.ensures.value ∙ ap (λ (hs : List Caller). get_or hs 0 c.index_mut-hand.result.now) made))

pub close-image-requires-clause-blanked : goal.close-image-requires-clause-blanked
close-image-requires-clause-blanked g c = blanked _ c.end_group.ensures.stands c.end_group.ensures.metas

pub build_group-requires-clause-fills : goal.build_group-requires-clause-fills
build_group-requires-clause-fills g c = pair_fills

pub pass_back-requires-clause-slot : goal.pass_back-requires-clause-slot
pass_back-requires-clause-slot g c = first_moves _ c.build_group.ensures

pub end_group-requires-clause-stands : goal.end_group-requires-clause-stands
end_group-requires-clause-stands g c = (23, 1, c.pass_back.ensures.stands)

pub pass_back-requires-clause-spare : goal.pass_back-requires-clause-spare
pass_back-requires-clause-spare g c =
    let made = c.in_ok-space.ensures.hands ∙ ap (fresh_callers 1) c.requires.rooms in
    let spare = ap (λ (h : Caller). h.spare) (c.index_mut-hand.ensures.value ∙ ap (λ (hs : List Caller). get_or hs 0 c.index_mut-hand.result.now) made) in omega arith
