use Rattle.std.specs.Prelude.{◌≡◌}
use Rattle.ng_view.specs.Steps.{loaded}
use Rattle.ng_view.specs.Tells.{Tells}
use Rattle.ng_space.specs.Placed.{AreOnce, ArePlaced, IsSmall}
use Rattle.ng_space.proofs.space.Space.load.Given as goal

abbrev pub ghosts-load_told : goal.ghosts-load_told
ghosts-load_told g a = record { told = λ before found after. (after ≡ loaded before a.addr found) × Tells g.N.Name.facts.start before a.addr found × ArePlaced g.N.Name.facts.start before × AreOnce before × IsSmall before a.addr found }
