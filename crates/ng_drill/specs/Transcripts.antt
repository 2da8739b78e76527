-- The answers to a script's commands.
use Rattle.std.specs.Prelude.{◌≡◌, ℕ, ◌++◌, List, [], ◌∷◌}
use Rattle.ng_script.specs.declared.command.Command.{Command}
use Rattle.ng_script.specs.declared.script.Script.{Script}
use Rattle.ng_terms.specs.declared.entry.Entry.{Entry}
use Rattle.ng_drill.specs.States.{State, first_state}
use Rattle.ng_drill.specs.Steps.{IsStep, entries_of}
use Rattle.ng_drill.specs.declared.answer.Answer.{Answer}

-- commands in a space of so many pages have these answers, for which these entries stand, and lead from one state to another
abbrev pub Answers : ℕ → State → List Command → List Answer → List Entry → State → Type 0
Answers pages before [] [] entries after = (entries ≡ []) × (after ≡ before)
Answers pages before (command ∷ commands) (answer ∷ answers) entries after =
    (between : State) × (later : List Entry) × IsStep pages before command answer between
    × (entries ≡ entries_of before.names command answer ++ later) × Answers pages between commands answers later after
Answers pages before [] (answer ∷ answers) entries after = ⊥
Answers pages before (command ∷ commands) [] entries after = ⊥

-- the script's commands have these answers and entries, from the state before the first
pub record IsTranscript (pages : ℕ) (script : Script) (answers : List Answer) (entries : List Entry) : Type 0 where
  pub after : State
  pub answered : Answers pages (first_state script.names) script.commands answers entries after
