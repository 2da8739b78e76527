use Rattle.ng_mask.proofs.tests.two_threads_pop.Given as goal

-- the heap that was just made
abbrev pub ghosts-pop_in_two : goal.ghosts-pop_in_two
ghosts-pop_in_two g a = record { facts = record { table = a.blank.table; start = a.blank.start; hands = 2; most = 0 } }
