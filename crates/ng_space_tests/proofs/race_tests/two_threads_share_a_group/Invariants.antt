use Rattle.ng_space_tests.proofs.race_tests.two_threads_share_a_group.Given as goal

-- the heap that was just made
abbrev pub ghosts-race : goal.ghosts-race
ghosts-race g a = record { facts = record { table = a.blank.table; start = a.blank.start; hands = 1; most = 0 } }
