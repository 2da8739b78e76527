use Rattle.ng_space.proofs.tests.a_refusal_is_entered.Given as goal

-- the heap that was just made
abbrev pub ghosts-enter_once : goal.ghosts-enter_once
ghosts-enter_once g a = record { facts = record { table = a.blank.table; start = a.blank.start; hands = 1; most = 0 } }
