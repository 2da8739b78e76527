use Rattle.ng_space_tests.proofs.pair_tests.a_group_lives_and_ends.Given as goal

-- the heap that was just made
abbrev pub ghosts-live_once : goal.ghosts-live_once
ghosts-live_once g a = record { facts = record { table = a.blank.table; start = a.blank.start; hands = 1; most = 0 } }
