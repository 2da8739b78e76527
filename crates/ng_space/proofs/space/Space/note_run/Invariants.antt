use Rattle.ng_view.specs.Notes.{NotesRun}
use Rattle.ng_space.proofs.space.Space.note_run.Given as goal

abbrev pub ghosts-note_told : goal.ghosts-note_told
ghosts-note_told g a = record { told = λ before found after. NotesRun before a._addr a._number a._live after }
