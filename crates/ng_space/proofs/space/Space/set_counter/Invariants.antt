use Rattle.std.specs.Prelude.{◌≡◌}
use Rattle.ng_view.specs.LockSteps.{counter_set}
use Rattle.ng_space.proofs.space.Space.set_counter.Given as goal

abbrev pub ghosts-store_told : goal.ghosts-store_told
ghosts-store_told g a = record { told = λ before found after. after ≡ counter_set before found }
