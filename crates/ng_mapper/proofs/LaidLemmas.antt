-- What a caller knows of the live runs of any mapper, by the trait's law `laid`.
use Rattle.std.proofs.Common.{ℕ, ◌≡◌, ◌≢◌, ◌<◌, ◌≤◌, ◌∙◌, inl, inr, ⊎_elim, sym, ap, List, Contains, slice_index_or}
use Rattle.std.proofs.lemmas.Bool.{cases_lt}
use Rattle.std.proofs.lemmas.List.{get_or_default}
use Rattle.std.proofs.lemmas.List.Elements.{All-contains}
use Rattle.std.proofs.Math.Nat.{eq-or-lt_of_le}
use Rattle.ng_mapper.specs.Runs.{Run, AreApart, LiesIn}
use Rattle.ng_mapper.specs.Mapping.{Span, AreLaid}

-- apart is symmetric
pub apart-sym : (a b : Run) → AreApart a b → AreApart b a
apart-sym a b = ⊎_elim (λ h. inr h) (λ h. inl h)

module _ (span : Span) (runs : List Run) (laid : AreLaid span runs) where
  -- a live run lies between the bounds
  pub lies-contained : (run : Run) → Contains runs run → LiesIn span.lower span.upper run
  lies-contained run there = All-contains (LiesIn span.lower span.upper) runs run laid.lie there

  -- two live runs are one, or share no byte
  pub apart-contained : (a b : Run) → Contains runs a → Contains runs b → a ≢ b → AreApart a b
  apart-contained a b (i, under, is) (j, below, also) other = ⊎_elim
      (λ (h : i < j). rw (← first, ← second) (laid.apart i j (0, 0) h below))
      (λ (h : j ≤ i). ⊎_elim
      (λ (e : j ≡ i). absurd (other (sym first ∙ ap (λ (k : ℕ). slice_index_or runs k (0, 0)) (sym e) ∙ second)))
      (λ (g : j < i). apart-sym b a (rw (← first, ← second) (laid.apart j i (0, 0) g under)))
      (eq-or-lt_of_le h))
      (cases_lt i j)
    where
      first : slice_index_or runs i (0, 0) ≡ a
      first = get_or_default runs i (0, 0) a under ∙ is

      second : slice_index_or runs j (0, 0) ≡ b
      second = get_or_default runs j (0, 0) b below ∙ also
