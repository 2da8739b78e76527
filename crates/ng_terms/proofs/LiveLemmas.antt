-- The live list, one entry on.
use Rattle.std.proofs.Common.{◌≡◌, ◌≢◌, ◌⊎◌, ℕ, zero, suc, ◌+◌, ◌<◌, ◌≤◌, max, Bool, true, false, cond, eqb, List, [], ◌∷◌, ◌++◌, length, get_or, arith, refl, ap, sym, subst, inl, inr, ⊎_elim, rules, ◌∙◌}
use Rattle.std.specs.Prelude.{Contains, filter, slice_index_or, not}
use Rattle.std.proofs.lemmas.List.Elements.{Contains-append_right}
use Rattle.std.proofs.lemmas.Grind.{common_steps}
use Rattle.ng_terms.specs.declared.entry.Extent.{Extent}
use Rattle.ng_terms.specs.Heap.{Apart, IsLive, MayGive, Space, extent, end_of, without}

-- a block that lives still lives once another is given
pub IsLive-given : (block : Extent) (live : List Extent) (at : ℕ) → IsLive live at → IsLive (block ∷ live) at
IsLive-given block live at (other, there, is) = (other, Contains-append_right (block ∷ []) live other there, is)

-- the block that was given lives
pub IsLive-new : (block : Extent) (live : List Extent) → IsLive (block ∷ live) block.at
IsLive-new block live = (block, (0, omega arith, refl), refl)

-- an element is the first or one of the others
pub Contains-cons_cases : (first : Extent) (others : List Extent) (block : Extent) → Contains (first ∷ others) block → (first ≡ block) ⊎ Contains others block
Contains-cons_cases first others block (zero, below, is) = inl is
Contains-cons_cases first others block (suc k, below, is) = inr (k, omega arith, is)

-- an element that passes the test is kept by the filter
pub Contains-filter : (test : Extent → Bool) (live : List Extent) (block : Extent) → test block ≡ true → Contains live block → Contains (filter test live) block
Contains-filter test [] block passes (k, below, is) = absurd (omega arith)
Contains-filter test (b ∷ bs) block passes (zero, below, is) =
    let kept : test b ≡ true = ap test is ∙ passes in
    rw kept (0, omega arith, is)
Contains-filter test (b ∷ bs) block passes (suc k, below, is) =
    let rest : Contains (filter test bs) block = Contains-filter test bs block passes (k, omega arith, is) in
    elim (test b) as (λ t. Contains (cond t (b ∷ filter test bs) (filter test bs)) block) [
      | true ↦ Contains-append_right (b ∷ []) (filter test bs) block rest
      | false ↦ rest
    ]

-- the filter keeps only elements of the list
pub Contains-of_filter : (test : Extent → Bool) (live : List Extent) (block : Extent) → Contains (filter test live) block → Contains live block
Contains-of_filter test [] block (k, below, is) = absurd (omega arith)
Contains-of_filter test (b ∷ bs) block there =
    let rest : Contains (filter test bs) block → Contains (b ∷ bs) block =
    λ h. Contains-append_right (b ∷ []) bs block (Contains-of_filter test bs block h) in
    let first : b ≡ block → Contains (b ∷ bs) block = λ is. (0, omega arith, is) in
    let cases : Contains (cond (test b) (b ∷ filter test bs) (filter test bs)) block → Contains (b ∷ bs) block =
    elim (test b) as (λ t. Contains (cond t (b ∷ filter test bs) (filter test bs)) block → Contains (b ∷ bs) block) [
      | true ↦ λ h. ⊎_elim first rest (Contains-cons_cases b (filter test bs) block h)
      | false ↦ rest
    ] in
    cases there

-- a block at another address still lives once one is taken
pub IsLive-without : (live : List Extent) (taken at : ℕ) → at ≢ taken → IsLive live at → IsLive (without taken live) at
IsLive-without live taken at other (block, there, is) =
    let kept : not (eqb block.at taken) ≡ true = grind (arith, common_steps) in
    (block, Contains-filter (λ b. not (eqb b.at taken)) live block kept there, is)

-- a block that may be given has the address of no live one
pub MayGive-fresh : (space : Space) (live : List Extent) (block : Extent) (at : ℕ) → MayGive space live block → IsLive live at → at ≢ block.at
MayGive-fresh space live block at may (other, there, is) = λ same. ⊎_elim (λ h. absurd (omega arith)) (λ h. absurd (omega arith)) (may.apart other there)
