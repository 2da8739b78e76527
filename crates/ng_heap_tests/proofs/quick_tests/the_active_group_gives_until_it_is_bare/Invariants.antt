use Rattle.std.specs.Prelude.{length}
use Rattle.ng_heap_tests.proofs.quick_tests.the_active_group_gives_until_it_is_bare.Given as goal

-- the heap that was just made
abbrev pub ghosts-give_until_bare : goal.ghosts-give_until_bare
ghosts-give_until_bare g a = record { facts = record { table = a.blank.table; start = a.blank.start; hands = length a.blank.rooms; most = 0 } }
