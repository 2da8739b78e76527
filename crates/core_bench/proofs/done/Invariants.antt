use Rattle.std.specs.Prelude.{length}
use Rattle.core_bench.proofs.done.Given as goal

-- the heap that was just made
abbrev pub ghosts-run : goal.ghosts-run
ghosts-run a = record { facts = record { table = a.blank.table; start = a.blank.start; hands = length a.blank.rooms; most = 0 } }
