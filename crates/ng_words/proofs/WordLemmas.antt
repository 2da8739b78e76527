-- The words of one command are those of no other.
use Rattle.std.proofs.Common.{◌≡◌, ℕ, List, [], ◌∷◌, ◌∙◌, refl, sym, ap, subst, arith, slice_index}
use Rattle.std.specs.Prelude.{Option}
use Rattle.clap.proofs.WalkLemmas.{first_value-rows}
use Rattle.clap.specs.Words.{Row, first_of, first_value, rows_of}
use Rattle.clap.specs.declared.parser.matches.Found.{Found}
use Rattle.ng_words.specs.Apps.{AreTaken, app_for, rows_at, value_at}
use Rattle.ng_words.specs.Verbs.{name_of}
use Rattle.ng_words.specs.Words.{InLanguage, IsCommand, IsNamed, MeansBy}
use Rattle.ng_words.specs.declared.asked.Command.{Command}
use Rattle.ng_words.specs.declared.verb.Verb.{Verb}
use Rattle.ng_words.specs.declared.verb.Verb.TheVariants.{Serial, Replay, Check, Drill, Make}

-- commands with one name are one
same_name : (a b : Verb) → name_of a ≡ name_of b → a ≡ b
same_name Serial Serial is = refl
same_name Serial Replay is = let first : ◌≡◌ {A = ℕ} 115 114 = ap (λ (t : List ℕ). slice_index t 0) is in absurd (omega arith)
same_name Serial Check is = let first : ◌≡◌ {A = ℕ} 115 99 = ap (λ (t : List ℕ). slice_index t 0) is in absurd (omega arith)
same_name Serial Drill is = let first : ◌≡◌ {A = ℕ} 115 100 = ap (λ (t : List ℕ). slice_index t 0) is in absurd (omega arith)
same_name Serial Make is = let first : ◌≡◌ {A = ℕ} 115 109 = ap (λ (t : List ℕ). slice_index t 0) is in absurd (omega arith)
same_name Replay Serial is = let first : ◌≡◌ {A = ℕ} 114 115 = ap (λ (t : List ℕ). slice_index t 0) is in absurd (omega arith)
same_name Replay Replay is = refl
same_name Replay Check is = let first : ◌≡◌ {A = ℕ} 114 99 = ap (λ (t : List ℕ). slice_index t 0) is in absurd (omega arith)
same_name Replay Drill is = let first : ◌≡◌ {A = ℕ} 114 100 = ap (λ (t : List ℕ). slice_index t 0) is in absurd (omega arith)
same_name Replay Make is = let first : ◌≡◌ {A = ℕ} 114 109 = ap (λ (t : List ℕ). slice_index t 0) is in absurd (omega arith)
same_name Check Serial is = let first : ◌≡◌ {A = ℕ} 99 115 = ap (λ (t : List ℕ). slice_index t 0) is in absurd (omega arith)
same_name Check Replay is = let first : ◌≡◌ {A = ℕ} 99 114 = ap (λ (t : List ℕ). slice_index t 0) is in absurd (omega arith)
same_name Check Check is = refl
same_name Check Drill is = let first : ◌≡◌ {A = ℕ} 99 100 = ap (λ (t : List ℕ). slice_index t 0) is in absurd (omega arith)
same_name Check Make is = let first : ◌≡◌ {A = ℕ} 99 109 = ap (λ (t : List ℕ). slice_index t 0) is in absurd (omega arith)
same_name Drill Serial is = let first : ◌≡◌ {A = ℕ} 100 115 = ap (λ (t : List ℕ). slice_index t 0) is in absurd (omega arith)
same_name Drill Replay is = let first : ◌≡◌ {A = ℕ} 100 114 = ap (λ (t : List ℕ). slice_index t 0) is in absurd (omega arith)
same_name Drill Check is = let first : ◌≡◌ {A = ℕ} 100 99 = ap (λ (t : List ℕ). slice_index t 0) is in absurd (omega arith)
same_name Drill Drill is = refl
same_name Drill Make is = let first : ◌≡◌ {A = ℕ} 100 109 = ap (λ (t : List ℕ). slice_index t 0) is in absurd (omega arith)
same_name Make Serial is = let first : ◌≡◌ {A = ℕ} 109 115 = ap (λ (t : List ℕ). slice_index t 0) is in absurd (omega arith)
same_name Make Replay is = let first : ◌≡◌ {A = ℕ} 109 114 = ap (λ (t : List ℕ). slice_index t 0) is in absurd (omega arith)
same_name Make Check is = let first : ◌≡◌ {A = ℕ} 109 99 = ap (λ (t : List ℕ). slice_index t 0) is in absurd (omega arith)
same_name Make Drill is = let first : ◌≡◌ {A = ℕ} 109 100 = ap (λ (t : List ℕ). slice_index t 0) is in absurd (omega arith)
same_name Make Make is = refl

pub one_named : (texts : List (List ℕ)) (a b : Verb) → IsNamed a texts → IsNamed b texts → a ≡ b
one_named [] a b is other = absurd is
one_named (name ∷ texts) a b is other = same_name a b (sym is ∙ other)

pub one_verb : (texts : List (List ℕ)) (c d : Command) → IsCommand texts c → IsCommand texts d → c.verb ≡ d.verb
one_verb texts c d is other = one_named texts c.verb d.verb is.named other.named

-- ---- the texts of options, as the reader's matches have them
module _ (texts : List (List ℕ)) (verb : Verb) (found : Found) (rows : rows_of found ≡ rows_at (app_for verb) texts) where
  same_values : (name : List ℕ) → first_value found name ≡ value_at verb texts name
  same_values name = first_value-rows found name ∙ ap (λ (r : List Row). first_of name r) rows

  pub is_command : (command : Command) → command.verb ≡ verb → IsNamed verb texts → AreTaken verb texts → MeansBy (first_value found) command
      → IsCommand texts command
  is_command command same named taken means =
      let values : first_value found ≡ value_at verb texts = λ i. λ name. same_values name i in
      let here : MeansBy (value_at verb texts) command = subst (λ (v : List ℕ → Option (List ℕ)). MeansBy v command) values means in
      record {
        named = subst (λ (v : Verb). IsNamed v texts) (sym same) named;
        taken = subst (λ (v : Verb). AreTaken v texts) (sym same) taken;
        means = subst (λ (v : Verb). MeansBy (value_at v texts) command) (sym same) here;
      }

  -- what another command would mean by these words, it means by the matches
  pub means_too : (other : Command) → IsNamed verb texts → IsCommand texts other → MeansBy (first_value found) other
  means_too other named is =
      let same : other.verb ≡ verb = one_named texts other.verb verb is.named named in
      let here : MeansBy (value_at verb texts) other = subst (λ (v : Verb). MeansBy (value_at v texts) other) same is.means in
      let values : value_at verb texts ≡ first_value found = λ i. λ name. sym (same_values name) i in
      subst (λ (v : List ℕ → Option (List ℕ)). MeansBy v other) values here

-- words that the reader refuses are not the command's
pub not_taken : (texts : List (List ℕ)) (verb : Verb) → IsNamed verb texts → ¬ AreTaken verb texts → (other : Verb) → ¬ InLanguage other texts
not_taken texts verb named refused other words =
    refused (subst (λ (v : Verb). AreTaken v texts) (one_named texts words.command.verb verb words.asked.named named) words.asked.taken)
