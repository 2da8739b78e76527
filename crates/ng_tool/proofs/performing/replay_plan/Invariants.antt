use Rattle.std.specs.Prelude.{length}
use Rattle.ng_tool.proofs.performing.replay_plan.Given as goal

-- the name of the heap whose memory was just taken
abbrev pub ghosts-run : goal.ghosts-run
ghosts-run g a = record { facts = record { table = a.fresh.blank.table; start = a.fresh.blank.start; hands = length a.prepared.plan.logs; most = (g.M.Mapper.refused a.mapper).most } }
