-- A live list whose block at an address gets another length.
use Rattle.std.specs.List.{filter, items_where_true}
use Rattle.std.specs.List.Retain.{IsFiltered, ReturnsInTurn}
use Rattle.std.proofs.Common.{◌≡◌, ℕ, ◌<◌, Bool, true, false, List, [], ◌∷◌, subst, length, eqb, cond, get_or, arith, refl, ap, sym, ◌∙◌}
use Rattle.std.proofs.lemmas.List.{get_or-map, length-map, same_lists}
use Rattle.ng_terms.specs.declared.entry.Extent.{Extent}
use Rattle.ng_terms.specs.Heap.{extent, resized}

-- a block with another length where it is at the address
abbrev pub with_length : ℕ → ℕ → Extent → Extent
with_length at len block = cond (eqb block.at at) (extent at len 16) block

-- a list in which each block is so is the resized list
pub resized-from : (at len : ℕ) (old new : List Extent) → length new ≡ length old → ((k : ℕ) (d : Extent) → k < length old → get_or new k d ≡ with_length at len (get_or old k d)) → new ≡ resized at len old
resized-from at len old new same each =
    same_lists new (resized at len old) (same ∙ sym (length-map old (with_length at len))) (λ k d below.
    let inside : k < length old = omega arith in
    each k d inside ∙ sym (get_or-map (with_length at len) old k d d inside))

-- what a test that doesn't change keeps is what passes it
kept : {X P : Type 0} → (R : P → X → Bool → P → Type 0) (f : P) (test : X → Bool) → ((x : X) (b : Bool) (q : P) → R f x b q → (q ≡ f) × (b ≡ test x))
    → (bs : List Bool) (xs : List X) (q : P) → length bs ≡ length xs → ReturnsInTurn R f bs xs q → items_where_true bs xs ≡ filter test xs
kept R f test says [] [] q same turns = refl
kept R f test says [] (x ∷ xs) q same turns = absurd (omega arith)
kept R f test says (b ∷ bs) [] q same turns = absurd (omega arith)
kept R f test says (b ∷ bs) (x ∷ xs) q same (j, one, others) =
    let told = says x b j one in
    let rest : ReturnsInTurn R f bs xs q = subst (λ s. ReturnsInTurn R s bs xs q) told.0 others in
    let tail : items_where_true bs xs ≡ filter test xs = kept R f test says bs xs q (omega arith) rest in
    let by_answer : items_where_true (test x ∷ bs) (x ∷ xs) ≡ cond (test x) (x ∷ filter test xs) (filter test xs) =
    elim (test x) as (λ t. items_where_true (t ∷ bs) (x ∷ xs) ≡ cond t (x ∷ filter test xs) (filter test xs)) [ true ↦ ap (λ others. x ∷ others) tail | false ↦ tail ] in
    rw told.1 by_answer

pub filter-kept : {X P : Type 0} → (R : P → X → Bool → P → Type 0) (f : P) (test : X → Bool) → ((x : X) (b : Bool) (q : P) → R f x b q → (q ≡ f) × (b ≡ test x))
    → (xs ys : List X) → IsFiltered R f xs ys → ys ≡ filter test xs
filter-kept R f test says xs ys (bs, q, same, turns, is) = is ∙ kept R f test says bs xs q same turns
