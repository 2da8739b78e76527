use Rattle.std.proofs.Common.{◌≡◌, length, drop, ◌==◌, []}
use Rattle.std.specs.List.{slice_split}
use Rattle.ng_words.specs.Lists.{numbers_added}
use Rattle.ng_words.proofs.texts.listed.Given as goal

abbrev pub invariant-loop-part : goal.invariant-loop-part
invariant-loop-part l =
    (goal.iterator-loop-part).can_next l.part-iterator
    × (goal.iterator-loop-part).is_finite l.part-iterator
    × (numbers_added l.numbers (drop (length l.yielded) (slice_split (λ byte. byte == 44) l.text)) ≡ numbers_added [] (slice_split (λ byte. byte == 44) l.text))
