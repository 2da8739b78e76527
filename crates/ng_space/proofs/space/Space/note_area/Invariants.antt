use Rattle.ng_view.specs.Notes.{NotesArea}
use Rattle.ng_space.proofs.space.Space.note_area.Given as goal

abbrev pub ghosts-note_told : goal.ghosts-note_told
ghosts-note_told g a = record { told = λ before found after. NotesArea before a._addr after }
