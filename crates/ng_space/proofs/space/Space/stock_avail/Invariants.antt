use Rattle.ng_view.specs.Fetches.{StocksAvail}
use Rattle.ng_space.proofs.space.Space.stock_avail.Given as goal

abbrev pub ghosts-or_told : goal.ghosts-or_told
ghosts-or_told g a = record { told = λ before found after. StocksAvail before a._meta a._bits found after }
