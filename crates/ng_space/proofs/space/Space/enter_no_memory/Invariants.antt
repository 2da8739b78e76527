use Rattle.std.specs.Prelude.{◌≡◌}
use Rattle.ng_view.specs.Steps.{answered, read}
use Rattle.ng_space.specs.Passed.{left_excuses}
use Rattle.ng_space.proofs.space.Space.enter_no_memory.Given as goal

abbrev pub ghosts-enter_told : goal.ghosts-enter_told
ghosts-enter_told g a = record { told = λ before found after. after ≡ read (answered before a._number a._entry.now (left_excuses a._entry.now before.excuses)) 0 found }
