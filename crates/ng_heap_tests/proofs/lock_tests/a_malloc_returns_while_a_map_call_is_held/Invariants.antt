use Rattle.ng_heap_tests.proofs.lock_tests.a_malloc_returns_while_a_map_call_is_held.Given as goal

-- the heap that was just made
abbrev pub ghosts-call_beside : goal.ghosts-call_beside
ghosts-call_beside g a = record { facts = record { table = a.blank.table; start = a.blank.start; hands = 2; most = 0 } }
