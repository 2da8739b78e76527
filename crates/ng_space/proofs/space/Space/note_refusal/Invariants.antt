use Rattle.ng_view.specs.Notes.{NotesRefusal}
use Rattle.ng_space.proofs.space.Space.note_refusal.Given as goal

abbrev pub ghosts-note_told : goal.ghosts-note_told
ghosts-note_told g a = record { told = λ before found after. NotesRefusal before a._number after }
