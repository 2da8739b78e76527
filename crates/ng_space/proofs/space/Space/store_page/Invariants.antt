use Rattle.ng_view.specs.Stores.{Stores}
use Rattle.ng_space.proofs.space.Space.store_page.Given as goal

abbrev pub ghosts-store_told : goal.ghosts-store_told
ghosts-store_told g a = record { told = λ before found after. Stores before a.addr found after }
