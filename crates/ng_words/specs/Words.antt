-- The command-line language: a command's name, and behind it words that the kit's reader of command lines takes for it, with
-- values in their ranges.
use Rattle.std.specs.Prelude.{◌≡◌, ◌↔◌, ℕ, ◌+◌, ◌-◌, ◌^◌, true, List, ◌∷◌, [], String, codes, map, string_bytes, IsTrue, Option, Some, None}
use Rattle.std.specs.declared.alloc.Global.{Global}
use Rattle.ng_script.specs.Numbers.{number_of}
use Rattle.ng_terms.specs.declared.reply.Mode.{Mode}
use Rattle.ng_words.specs.Apps.{AreTaken, value_at}
use Rattle.ng_words.specs.Texts.{IsBetween, IsList}
use Rattle.ng_words.specs.Verbs.{name_of}
use Rattle.ng_words.specs.declared.asked.Command.{Command}
use Rattle.ng_words.specs.declared.verb.Verb.{Verb}

-- the bytes of each word
abbrev pub texts_of : List (String Global) → List (List ℕ)
texts_of words = map (λ word. string_bytes word) words

-- the value is what a text means, or the common one where no text is given
abbrev pub MeansOption : {A : Type 0} → (List ℕ → A → Type 0) → A → Option (List ℕ) → A → Type 0
MeansOption Means common None value = value ≡ common
MeansOption Means common (Some text) value = Means text value

-- a text writes this alignment, which may be any number
abbrev pub IsAlign : List ℕ → Option ℕ → Type 0
IsAlign text align = (number : ℕ) × (number_of text ≡ Some number) × (align ≡ Some number)

-- how blocks are made, by the text of each option: not both aligned and cleared
pub record MeansMode (value : List ℕ → Option (List ℕ)) (mode : Mode) : Type 0 where
  pub align : MeansOption IsAlign None (value (codes "align")) mode.align
  pub zero : IsTrue mode.zero ↔ (value (codes "zero") ≡ Some (codes "true"))
  pub not_both : mode.zero ≡ true → mode.align ≡ None

-- what is asked, by the text of each option and argument: pages from 16 to 16384, or 4096; a quota up to 16384, or all pages; map
-- calls to refuse, or none; whether calls are shown; how blocks are made; and the number that logs are made of
pub record MeansBy (value : List ℕ → Option (List ℕ)) (command : Command) : Type 0 where
  pub pages : MeansOption (IsBetween 16 16384) 4096 (value (codes "pages")) command.pages
  pub quota : MeansOption (IsBetween 0 16384) command.pages (value (codes "quota")) command.quota
  pub refuse : MeansOption IsList [] (value (codes "refuse")) command.refuse
  pub calls_shown : IsTrue command.calls_shown ↔ (value (codes "calls") ≡ Some (codes "true"))
  pub mode : MeansMode value command.mode
  pub seed : MeansOption (IsBetween 0 (2 ^ 64 - 1)) 0 (value (codes "number")) command.seed

-- the first text is the name of a command
abbrev pub IsNamed : Verb → List (List ℕ) → Type 0
IsNamed verb [] = ⊥
IsNamed verb (name ∷ texts) = name ≡ name_of verb

-- the texts are those of a command, and this is what they ask
pub record IsCommand (texts : List (List ℕ)) (command : Command) : Type 0 where
  pub named : IsNamed command.verb texts
  pub taken : AreTaken command.verb texts
  pub means : MeansBy (value_at command.verb texts) command

-- the texts are those of this command
pub record InLanguage (verb : Verb) (texts : List (List ℕ)) : Type 0 where
  pub command : Command
  pub asked : IsCommand texts command
  pub verb_is : command.verb ≡ verb
