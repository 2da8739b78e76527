-- What the kit's reader of command lines tells, in the words of this crate.
use Rattle.std.proofs.Common.{◌≡◌, ◌⊎◌, Bool, true, false, List, [], ◌∷◌, ◌∙◌, refl, sym, subst, inl, inr, ◌&&◌}
use Rattle.clap.specs.Words.{App, HasKind, Row, Text, fault_of, is_simple, is_simple_and_free, kind_of, matches_of}
use Rattle.clap.specs.Kinds.{Kinds}
use Rattle.clap.specs.declared.error.Error.{Error}
use Rattle.clap.specs.declared.error.kind.ErrorKind.TheVariants as kind
use Rattle.ng_words.specs.Apps.{app_for, faults_at, rows_at}
use Rattle.ng_words.specs.declared.verb.Verb.{Verb}
use Rattle.ng_words.specs.declared.verb.Verb.TheVariants.{Serial, Replay, Check, Drill, Make}

-- each command is one of which the reader tells all
pub simple_for : (verb : Verb) → is_simple_and_free (app_for verb) ≡ true
simple_for Serial = refl
simple_for Replay = refl
simple_for Check = refl
simple_for Drill = refl
simple_for Make = refl

-- so is one that is made in its likeness
pub free_along : (a b : App) → a ≡ b → is_simple_and_free b ≡ true → is_simple_and_free a ≡ true
free_along a b same free = subst (λ (x : App). is_simple_and_free x ≡ true) (sym same) free

both-left : (a b : Bool) → (a && b) ≡ true → a ≡ true
both-left true b h = refl
both-left false b h = absurd (cc)

pub simple-from_free : (app : App) → is_simple_and_free app ≡ true → is_simple app ≡ true
simple-from_free app h = both-left _ _ h

pub taken-from : (app : App) (words : List Text) → fault_of app words ≡ [] → faults_at app words ≡ []
unfolding faults_at
taken-from app words h = h

pub rows-from : (app : App) (words : List Text) (rows : List Row) → rows ≡ matches_of app words → rows ≡ rows_at app words
unfolding rows_at
rows-from app words rows h = h

-- where nothing is wrong with the words, only memory can have failed
pub memory-from : (app : App) (words : List Text) (e : Error) → HasKind (fault_of app words) e → faults_at app words ≡ [] → kind_of e ≡ kind.OutOfMemory
unfolding faults_at
memory-from app words e h none = memory (fault_of app words) h none
  where
    memory : (kinds : Kinds) → HasKind kinds e → kinds ≡ [] → kind_of e ≡ kind.OutOfMemory
    memory [] (inl m) _ = m
    memory [] (inr none_of) _ = elim none_of [ ]
    memory (k ∷ ks) _ none = absurd (cc)
