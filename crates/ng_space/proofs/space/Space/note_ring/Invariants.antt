use Rattle.ng_view.specs.Notes.{NotesRing}
use Rattle.ng_space.proofs.space.Space.note_ring.Given as goal

abbrev pub ghosts-ring_told : goal.ghosts-ring_told
ghosts-ring_told g a = record { told = λ before found after. NotesRing before a._meta a._listed found after }
