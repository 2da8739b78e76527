use Rattle.std.proofs.Common.{List, ◌∷◌, subst, sym}
use Rattle.std.proofs.lemmas.List.Sorted.{IsPermutation-swap_remove}
use Rattle.std.specs.List.Sorted.{IsPermutation}
use Rattle.ng_space.specs.Tokens.{Token}
use Rattle.ng_group.proofs.TestLemmas.{went_one}
use Rattle.ng_group_tests.proofs.random_tests.return_one.Goals as goal

pub returns-clause-slots : goal.returns-clause-slots
returns-clause-slots g c =
    let tokens : List Token = c.args.slots.now.items in
    let slot : Token = c.swap_remove.result in
    let moves = subst (λ (rest : List Token). IsPermutation tokens (slot ∷ rest)) (sym c.swap_remove.ensures.items)
    (IsPermutation-swap_remove tokens c.args.place slot c.requires.place c.swap_remove.ensures.value) in
    went_one c.args.hand.now c.return_slot.new.hand slot tokens c.swap_remove.new.self.items moves c.return_slot.ensures.others c.requires.slots
