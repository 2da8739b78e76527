use Rattle.ng_view.specs.Fetches.{ClearsFreed}
use Rattle.ng_space.proofs.space.Space.clear_freed.Given as goal

abbrev pub ghosts-and_told : goal.ghosts-and_told
ghosts-and_told g a = record { told = λ before found after. ClearsFreed before a._meta a._bits found after }
