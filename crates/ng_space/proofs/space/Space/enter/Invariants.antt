use Rattle.std.specs.Prelude.{◌≡◌}
use Rattle.ng_view.specs.Steps.{entered, read}
use Rattle.ng_space.proofs.space.Space.enter.Given as goal

abbrev pub ghosts-enter_told : goal.ghosts-enter_told
ghosts-enter_told g a = record { told = λ before found after. after ≡ read (entered before a._number a._entry.now) 0 found }
