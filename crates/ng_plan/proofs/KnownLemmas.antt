-- Names that are known, one more line and some more names.
use Rattle.std.proofs.Common.{ℕ, ◌+◌, ◌<◌, List, length, get_or, subst, sym, arith, ⊎_elim}
use Rattle.std.specs.Prelude.{Contains}
use Rattle.std.proofs.lemmas.Bool.{cases_eq}
use Rattle.std.proofs.lemmas.List.{get_or_default}
use Rattle.ng_mtrace.specs.declared.log.Line.{Line}
use Rattle.ng_plan.specs.Tables.{IsKnown}

-- a line that is known among names is known among more names
pub still_known : (names more : List ℕ) (line : Line) → ((name : ℕ) → Contains names name → Contains more name) → IsKnown names line → IsKnown more line
still_known names more line kept known = record {
  ends = λ name is. kept name (known.ends name is);
  makes = λ name is. kept name (known.makes name is);
}

-- the lines up to one more are known
pub known_more : (names more : List ℕ) (lines : List Line) (i : ℕ) (here : Line) → ((name : ℕ) → Contains names name → Contains more name) → ((k : ℕ) (line : Line) → k < i → IsKnown names (get_or lines k line)) → i < length lines → IsKnown more (get_or lines i here) → (k : ℕ) (line : Line) → k < i + 1 → IsKnown more (get_or lines k line)
known_more names more lines i here kept known within last k line below = ⊎_elim
    (λ same. subst (λ (at : ℕ). IsKnown more (get_or lines at line)) (sym same) (subst (IsKnown more) (get_or_default lines i here line within) last))
    (λ other. still_known names more (get_or lines k line) kept (known k line (omega arith)))
    (cases_eq k i)
