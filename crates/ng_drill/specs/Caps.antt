-- What a script asks of the heap.
use Rattle.std.specs.Prelude.{◌≡◌, ◌⊎◌, ℕ, ◌<◌, ◌≤◌, Contains, List}
use Rattle.ng_script.specs.declared.command.Command.{Command}
use Rattle.ng_script.specs.declared.command.Command.TheVariants.{Malloc, Free, Write, Usable}
use Rattle.ng_terms.specs.Heap.{large}

-- the bytes that a command asks for, or 0
abbrev pub size_of : Command → ℕ
size_of (Malloc name size) = size
size_of (Free place) = 0
size_of (Write name offset byte) = 0
size_of (Usable name) = 0

-- so many bytes, which aren't too many, are asked by one of the commands
pub record AskedBy (commands : List Command) (bytes : ℕ) : Type 0 where
  pub command : Command
  pub there : Contains commands command
  pub asks : (name : ℕ) × (command ≡ Malloc name bytes)
  pub small : bytes < large

-- the most bytes that are asked, or 0
pub record IsCapOf (commands : List Command) (cap : ℕ) : Type 0 where
  pub asked : (cap ≡ 0) ⊎ AskedBy commands cap
  pub greatest : (bytes : ℕ) → AskedBy commands bytes → bytes ≤ cap
