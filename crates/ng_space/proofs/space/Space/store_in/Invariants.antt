use Rattle.std.specs.Prelude.{◌≡◌}
use Rattle.ng_view.specs.Steps.{stored}
use Rattle.ng_space.proofs.space.Space.store_in.Given as goal

abbrev pub ghosts-store_told : goal.ghosts-store_told
ghosts-store_told g a = record { told = λ before found after. after ≡ stored before a._meta a._index a.addr found }
