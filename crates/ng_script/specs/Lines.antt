-- What the code takes of one line. No public clause cites this module.
use Rattle.std.specs.Prelude.{ℕ, ◌≡◌, false, List, [], ◌∷◌, Option}
use Rattle.ng_script.specs.Forms.{Form}
use Rattle.ng_script.specs.Scripts.{names_behind, command_in}
use Rattle.ng_script.specs.Faults.{is_bad}
use Rattle.ng_script.specs.declared.command.Command.{Command}

-- a line was taken, behind which these names are known: it isn't bad, and this is its command, if any
pub record IsTaken (old : List (List ℕ)) (form : Form) (now : List (List ℕ)) (command : Option Command) : Type 0 where
  pub fine : is_bad old form ≡ false
  pub names : now ≡ names_behind old (form ∷ [])
  pub command_is : command ≡ command_in now form
