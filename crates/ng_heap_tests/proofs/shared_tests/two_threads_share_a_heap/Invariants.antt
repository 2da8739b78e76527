use Rattle.ng_heap_tests.proofs.shared_tests.two_threads_share_a_heap.Given as goal

-- the heap that was just made
abbrev pub ghosts-share_in_two : goal.ghosts-share_in_two
ghosts-share_in_two g a = record { facts = record { table = a.blank.table; start = a.blank.start; hands = 2; most = 0 } }
