use Rattle.std.specs.Prelude.{◌≡◌}
use Rattle.ng_space.proofs.Apart.{IsNewAt}
use Rattle.ng_space.proofs.Granting.{after_header}
use Rattle.ng_space.proofs.space.Space.give.Given as goal

abbrev pub ghosts-header_told : goal.ghosts-header_told
ghosts-header_told g a = record { told = λ before found after. (after ≡ after_header before a._slot.now.meta a._slot.now.index a.header a._number a._entry.now) × IsNewAt a.at before }
