use Rattle.ng_heap_tests.proofs.beside_tests.a_hand_is_judged_by_its_own_cells.Given as goal

-- the heap that was just made
abbrev pub ghosts-ask_beside : goal.ghosts-ask_beside
ghosts-ask_beside g a = record { facts = record { table = a.blank.table; start = a.blank.start; hands = 2; most = 0 } }
