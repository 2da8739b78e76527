use Rattle.std.proofs.lemmas.List.Sorted.{IsPermutation-map, IsPermutation-swap_remove}
use Rattle.std.proofs.Common.{rules}
use Rattle.ng_post.specs.Letters.{pair_of}
use Rattle.ng_post.proofs.boxes.Boxes.take_kept.Goals as goal

pub returns-clause-moved : goal.returns-clause-moved
returns-clause-moved g c =
    rw c.swap_remove-letter.ensures.items (IsPermutation-map pair_of _ _ (IsPermutation-swap_remove c.args.kept.now.items _ c.swap_remove-letter.result (search rules) (search rules)))
