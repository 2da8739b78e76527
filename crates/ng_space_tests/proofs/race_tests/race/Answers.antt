use lib.ListN.{get_or}
use Rattle.std.proofs.Common.{List, ap, ◌∙◌, refl}
use Rattle.ng_space.specs.Callers.{Caller, fresh_callers}
use Rattle.ng_space.proofs.Counting.{all_of_one}
use Rattle.ng_space_tests.proofs.Groups.{race_fills}
use Rattle.ng_space_tests.proofs.Race.{blanked, serves-built, settled}
use Rattle.ng_space_tests.proofs.race_tests.race.Goals as goal

pub close-image-requires-clause-all : goal.close-image-requires-clause-all
close-image-requires-clause-all g c =
    let made = c.in_ok-space.ensures.hands ∙ ap (fresh_callers 1) c.requires.rooms in
    all_of_one _ _ c.in_ok-space.hands.items _ c.gather.new.hand c.requires.hands made refl
    (c.gather.ensures.hand.number ∙ c.run_both-kept.ensures.hand.number ∙ ap (λ (h : Caller). h.number) (c.index_mut-hand.ensures.value ∙ ap (λ (hs : List Caller). get_or hs 0 c.index_mut-hand.result.now) made))

pub close-image-requires-clause-settled : goal.close-image-requires-clause-settled
close-image-requires-clause-settled g c = settled _ c.gather.ensures.serves

pub close-image-requires-clause-blanked : goal.close-image-requires-clause-blanked
close-image-requires-clause-blanked g c = blanked _ c.gather.ensures.serves

pub build_group-requires-clause-fills : goal.build_group-requires-clause-fills
build_group-requires-clause-fills g c = race_fills

pub serve_once-requires-clause-serves : goal.serve_once-requires-clause-serves
serve_once-requires-clause-serves g c = serves-built _ _ c.build_group.ensures
