-- The names of commands.
use Rattle.std.specs.Prelude.{ℕ, List, codes}
use Rattle.ng_words.specs.declared.verb.Verb.{Verb}
use Rattle.ng_words.specs.declared.verb.Verb.TheVariants.{Serial, Replay, Check, Drill, Make}

-- the word that calls a command
abbrev pub name_of : Verb → List ℕ
name_of Serial = codes "serial"
name_of Replay = codes "replay"
name_of Check = codes "check"
name_of Drill = codes "drill"
name_of Make = codes "make"
