-- Entries without a block, as code asks for them: at a load of word 0.
use Rattle.std.proofs.Common.{◌≡◌, ℕ, ◌/◌, ◌≤◌, refl, arith}
use Rattle.ng_view.specs.declared.view.View.{View}
use Rattle.ng_view.specs.declared.view.Start.{Start}
use Rattle.ng_view.specs.Lists.{Among}
use Rattle.ng_view.specs.Views.{numbered}
use Rattle.ng_view.specs.Steps.{read, answered, without_one}
use Rattle.ng_view.specs.May.{May}
use Rattle.ng_terms.specs.Heap.{IsTooLarge, IsAlignment}
use Rattle.ng_view.specs.declared.view.Excuse.{Excuse}
use Rattle.ng_terms.specs.declared.entry.Entry.TheVariants.{NoMemory, TooLarge, BadAlign, Refused}
use Rattle.ng_rule.proofs.geometry.Readings.{loads_by}
use Rattle.ng_rule.proofs.entry.Answer.{answers, too_large, no_memory}

module _ (key : Start) (id : ℕ) (v : View) (k : ℕ) (mine : numbered k v ≡ 1) where
  pub too_large_may : (c s a : ℕ) → IsTooLarge c s a → May key id v (0 / 4) (λ n. n) (λ v n u. u ≡ read (answered v k (TooLarge c s a) v.excuses) 0 n)
  too_large_may c s a why = loads_by key id v 0 (λ n. answered v k (TooLarge c s a) v.excuses) (λ ws vs kept e. too_large key ws vs id v kept e k mine c s a why)

  pub bad_align_may : (a : ℕ) → ¬ IsAlignment a → May key id v (0 / 4) (λ n. n) (λ v n u. u ≡ read (answered v k (BadAlign a) v.excuses) 0 n)
  bad_align_may a why = loads_by key id v 0 (λ n. answered v k (BadAlign a) v.excuses) (λ ws vs kept e. answers key ws vs id v kept e k mine (BadAlign a) v.excuses why refl (λ n. omega arith))

  pub refused_may : (p name : ℕ) → 1 ≤ name → name ≤ 15 → May key id v (0 / 4) (λ n. n) (λ v n u. u ≡ read (answered v k (Refused p name) v.excuses) 0 n)
  refused_may p name lo hi = loads_by key id v 0 (λ n. answered v k (Refused p name) v.excuses) (λ ws vs kept e. answers key ws vs id v kept e k mine (Refused p name) v.excuses (lo, hi) refl (λ n. omega arith))

  pub no_memory_may : (n : ℕ) (y : Excuse) → Among y v.excuses → May key id v (0 / 4) (λ n. n) (λ v x u. u ≡ read (answered v k (NoMemory n y.number) (without_one y.number v.excuses)) 0 x)
  no_memory_may n y s = loads_by key id v 0 (λ x. answered v k (NoMemory n y.number) (without_one y.number v.excuses)) (λ ws vs kept e. no_memory key ws vs id v kept e k mine n y s)
