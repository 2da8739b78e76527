use Rattle.std.proofs.Common.{◌∙◌, List, ℕ, length, drop, sym, ap, lit<, ◌==◌}
use Rattle.std.specs.List.{slice_split}
use Rattle.std.proofs.lemmas.Iterator.Consumers.{YieldsList-turn, YieldsList-end}
use Rattle.std.proofs.lemmas.Iterator.Splits.{YieldsList-from_str_split}
use Rattle.std.proofs.lemmas.List.{length_push}
use Rattle.ng_words.specs.Lists.{list_of, numbers_added}
use Rattle.ng_words.proofs.ListLemmas.{numbers_added-step, numbers_added-end}
use Rattle.ng_words.proofs.texts.listed.Goals as goal

pub returns-in_err-numbers : goal.returns-in_err-numbers
unfolding list_of
returns-in_err-numbers c =
    let turn = YieldsList-turn (YieldsList-from_str_split 44 c.args.text.now (lit< tt) (cc) (cc) (cc)) c.loop-part.yielded _ c.loop-part.yielded_by _ _ c.in-Some.part c.in-Some.is c.next.ensures.steps in
    c.from_residual.ensures ∙ numbers_added-step _ _ _ (length c.loop-part.yielded) _ _ turn c.loop-part.invariant.2 (sym c.in_err-numbers.was ∙ c.with_number.ensures)

pub loop-part-preserved : goal.loop-part-preserved
loop-part-preserved c =
    let turn = YieldsList-turn (YieldsList-from_str_split 44 c.args.text.now (lit< tt) (cc) (cc) (cc)) c.loop-part.yielded _ c.loop-part.yielded_by _ _ c.in-Some.part c.in-Some.is c.next.ensures.steps in
    let parts : List (List ℕ) = slice_split (λ byte. byte == 44) c.args.text.now in (
      tt,
      tt,
      ap (λ (k : ℕ). numbers_added c.in_ok-numbers.numbers (drop k parts)) (length_push c.loop-part.yielded c.in-Some.part)
          ∙ numbers_added-step _ _ _ (length c.loop-part.yielded) _ _ turn c.loop-part.invariant.2 (sym c.in_ok-numbers.was ∙ c.with_number.ensures),
    )

pub returns : goal.returns
unfolding list_of
returns c =
    let end = YieldsList-end (YieldsList-from_str_split 44 c.args.text.now (lit< tt) (cc) (cc) (cc)) c.loop-part.yielded _ c.loop-part.yielded_by _ _ c.in-None.is c.next.ensures.steps in
    numbers_added-end _ _ _ _ end.1 c.loop-part.invariant.2
