-- What the lock's seat stored in its slots.
use Rattle.std.proofs.Common.{◌≡◌, ◌⊎◌, ℕ, ◌<◌, ◌≤◌, List, [], ◌∷◌, ◌++◌, ap, sym, ◌∙◌, ⊎_elim, inl, inr, arith}
use Rattle.std.proofs.lemmas.List.{append-nil, append_assoc}
use Rattle.std.proofs.lemmas.List.Elements.{All-append, All-cons, All-nil}
use Rattle.ng_view.specs.declared.view.Store.{Store}
use Rattle.ng_view.specs.declared.view.View.{View}
use Rattle.ng_build.specs.Nestings.{StoresBefore}

-- a store lies before an address, or is of 0
abbrev pub IsBefore : ℕ → Store → Type 0
IsBefore to store = (store.at < to) ⊎ (store.value ≡ 0)

pub stores_none : (v w : View) (to : ℕ) → w.stores ≡ v.stores → StoresBefore v w to
stores_none v w to same = record { more = []; stores = same ∙ sym (append-nil v.stores); each = All-nil (IsBefore to) }

pub stores_one : (v w : View) (to : ℕ) (s : Store) → w.stores ≡ v.stores ++ s ∷ [] → IsBefore to s → StoresBefore v w to
stores_one v w to s noted before = record { more = s ∷ []; stores = noted; each = All-cons (IsBefore to) s [] before (All-nil (IsBefore to)) }

pub stores_both : (v u w : View) (to : ℕ) → StoresBefore v u to → StoresBefore u w to → StoresBefore v w to
stores_both v u w to one two = record {
  more = one.more ++ two.more;
  stores = two.stores ∙ ap (λ (ss : List Store). ss ++ two.more) one.stores ∙ append_assoc v.stores one.more two.more;
  each = All-append (IsBefore to) one.more two.more one.each two.each;
}

pub stores_less : (v w : View) (from to : ℕ) → from ≤ to → StoresBefore v w from → StoresBefore v w to
stores_less v w from to less one = record {
  more = one.more;
  stores = one.stores;
  each = λ k d lt. ⊎_elim (λ b. inl (omega (arith, b, less))) (λ z. inr z) (one.each k d lt);
}
