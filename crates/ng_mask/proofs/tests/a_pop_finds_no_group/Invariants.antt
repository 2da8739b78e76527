use Rattle.ng_mask.proofs.tests.a_pop_finds_no_group.Given as goal

-- the heap that was just made
abbrev pub ghosts-pop_once : goal.ghosts-pop_once
ghosts-pop_once g a = record { facts = record { table = a.blank.table; start = a.blank.start; hands = 1; most = 0 } }
