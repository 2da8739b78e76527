use Rattle.ng_space.proofs.tests.two_threads_enter.Given as goal

-- the heap that was just made
abbrev pub ghosts-enter_in_two : goal.ghosts-enter_in_two
ghosts-enter_in_two g a = record { facts = record { table = a.blank.table; start = a.blank.start; hands = 2; most = 0 } }
