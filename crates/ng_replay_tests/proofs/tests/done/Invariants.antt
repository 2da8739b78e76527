use Rattle.std.specs.Prelude.{length}
use Rattle.ng_replay_tests.proofs.tests.done.Given as goal

-- the heap that was just made
abbrev pub ghosts-replayed : goal.ghosts-replayed
ghosts-replayed g a = record { facts = record { table = a.blank.table; start = a.blank.start; hands = length a.blank.rooms; most = 0 } }
