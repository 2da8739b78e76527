use Rattle.ng_view.specs.Fetches.{PushesFreed}
use Rattle.ng_space.proofs.space.Space.push_parent.Given as goal

abbrev pub ghosts-or_told : goal.ghosts-or_told
ghosts-or_told g a = record { told = λ before found after. PushesFreed before a._meta a._bits found after }
