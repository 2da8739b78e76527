use Rattle.ng_tool.proofs.performing.do_script.Given as goal

-- the name of the heap whose memory was just taken
abbrev pub ghosts-run_script : goal.ghosts-run_script
ghosts-run_script g a = record { facts = record { table = a.fresh.blank.table; start = a.fresh.blank.start; hands = 1; most = (g.M.Mapper.refused a.mapper).most } }
