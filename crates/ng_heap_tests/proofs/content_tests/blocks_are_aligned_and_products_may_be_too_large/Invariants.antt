use Rattle.std.specs.Prelude.{length}
use Rattle.ng_heap_tests.proofs.content_tests.blocks_are_aligned_and_products_may_be_too_large.Given as goal

-- the heap that was just made
abbrev pub ghosts-give_aligned : goal.ghosts-give_aligned
ghosts-give_aligned g a = record { facts = record { table = a.blank.table; start = a.blank.start; hands = length a.blank.rooms; most = 0 } }
