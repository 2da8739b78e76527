use Rattle.ng_view.specs.Groups.{Publishes}
use Rattle.ng_space.proofs.space.Space.publish.Given as goal

abbrev pub ghosts-publish_told : goal.ghosts-publish_told
ghosts-publish_told g a = record { told = λ before found after. Publishes before a.meta a._class a.mask after }
