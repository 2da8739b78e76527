-- The blocks of one row: one out, one in, and where they stand.
use Rattle.std.proofs.Common.{◌≡◌, ◌≢◌, ◌⊎◌, ℕ, zero, suc, ◌-◌, ◌<◌, ◌≤◌, List, [], ◌∷◌, ◌++◌, Option, Some, None, length, get_or, arith, refl, ap, sym, subst, inl, inr, ⊎_elim, ◌∙◌}
use Rattle.std.specs.Prelude.{All, IfSome}
use Rattle.std.proofs.Math.ListN.{set}
use Rattle.std.proofs.lemmas.Bool.{cases_eq, cases_lt}
use Rattle.std.proofs.lemmas.List.{get_or-set_other, get_or-set_same, get_or_append_left, get_or_past, get_or_push, length_push, length-set, map-set}
use Rattle.std.proofs.lemmas.List.Sums.{sum_by-cons}
use Rattle.ng_group.specs.Hands.{IsApart}
use Rattle.ng_heap.specs.Keeps.{IsFresh}
use Rattle.ng_space.specs.Blocks.{BlockToken, HasFramed}
use Rattle.ng_space.specs.Callers.{Caller}
use Rattle.ng_space.specs.Parcels.{ParcelToken}
use Rattle.ng_terms.specs.declared.plan.Origin.{Origin}
use Rattle.ng_terms.specs.declared.plan.Origin.TheVariants.{Own, Claim, Skip}
use Rattle.ng_replay.specs.Serial.{AreApartFrom, AreHeld, at_of_parcel, handed_in, handed_without, one_of, places_of, row_without, underway}
use Rattle.ng_replay.specs.Serving.{IsApartFrom, at_of}
use Rattle.ng_replay.proofs.MoveLemmas.{IsApart-flip}

-- an element that is there doesn't depend on what stands for a missing one
pub get_or-there : {X : Type 0} → (xs : List X) (i : ℕ) (d e : X) → i < length xs → get_or xs i d ≡ get_or xs i e
get_or-there [] i d e below = absurd (omega arith)
get_or-there (x ∷ xs) zero d e below = refl
get_or-there (x ∷ xs) (suc i) d e below = get_or-there xs i d e (omega arith)

-- where the blocks stand, place by place
pub get_or-places_of : (row : List (Option BlockToken)) (op : ℕ) → get_or (places_of row) op None ≡ at_of (get_or row op None)
get_or-places_of [] op = refl
get_or-places_of (block ∷ row) zero = refl
get_or-places_of (block ∷ row) (suc op) = get_or-places_of row op

pub get_or-handed_in : (parcels : List (Option ParcelToken)) (i : ℕ) → get_or (handed_in parcels) i None ≡ at_of_parcel (get_or parcels i None)
get_or-handed_in [] i = refl
get_or-handed_in (parcel ∷ parcels) zero = refl
get_or-handed_in (parcel ∷ parcels) (suc i) = get_or-handed_in parcels i

pub places_of-without : (origin : Origin) (row : List (Option BlockToken)) → places_of (row_without origin row) ≡ row_without origin (places_of row)
places_of-without (Own op) row = map-set at_of row op None
places_of-without (Claim number) row = refl
places_of-without Skip row = refl

pub handed_in-without : (origin : Origin) (parcels : List (Option ParcelToken))
    → handed_in (handed_without origin parcels) ≡ handed_without origin (handed_in parcels)
handed_in-without (Own op) parcels = refl
handed_in-without (Claim number) parcels = map-set at_of_parcel parcels (number - 1) None
handed_in-without Skip parcels = refl

pub at_of_parcel-none : (parcel : Option ParcelToken) → at_of_parcel parcel ≡ None → parcel ≡ None
at_of_parcel-none None none = refl
at_of_parcel-none (Some parcel) none = absurd (cc)

-- where no parcel is there is none to be put back
pub set-none : {X : Type 0} → (xs : List (Option X)) (i : ℕ) → get_or xs i None ≡ None → set xs i None ≡ xs
set-none [] i none = refl
set-none (x ∷ xs) zero none = ap (λ (y : Option _). y ∷ xs) (sym none)
set-none (x ∷ xs) (suc i) none = ap (λ (ys : List (Option _)). x ∷ ys) (set-none xs i none)

-- a block that is in the row without one was in the row, and isn't that one
stays-in : (row : List (Option BlockToken)) (taken op : ℕ) (block : BlockToken) → get_or (set row taken None) op None ≡ Some block
    → (op ≢ taken) × (get_or row op None ≡ Some block)
stays-in row taken op block is = ⊎_elim (λ same. absurd (gone same)) (λ other. (other, sym (get_or-set_other row taken op None None other) ∙ is)) (cases_eq op taken)
  where
    gone : op ≡ taken → ⊥
    gone same =
        ⊎_elim
        (λ within. let none : get_or (set row taken None) op None ≡ None = ap (λ (k : ℕ). get_or (set row taken None) k None) same ∙ get_or-set_same row taken None None (omega arith) in absurd (cc))
        (λ past. let none : get_or (set row taken None) op None ≡ None = get_or_past (set row taken None) op None (omega (arith, length-set {A = Option BlockToken} row taken None)) in absurd (cc))
        (cases_lt op (length row))

pub AreHeld-taken : (hand : Caller) (row : List (Option BlockToken)) (taken : ℕ) → AreHeld hand row → AreHeld hand (set row taken None)
AreHeld-taken hand row taken held = record {
  framed = λ op block is. held.framed op block (stays-in row taken op block is).1;
  apart = λ op other block another away is also. held.apart op other block another away (stays-in row taken op block is).1 (stays-in row taken other another also).1;
}

pub AreApartFrom-taken : (hand : Caller) (row : List (Option BlockToken)) (taken : ℕ) (source : Option BlockToken) → source ≡ get_or row taken None
    → AreHeld hand row → AreApartFrom source (set row taken None)
AreApartFrom-taken hand row taken None is held op block at = tt
AreApartFrom-taken hand row taken (Some source) is held op block at =
    let (away, was) = stays-in row taken op block at in
    held.apart op taken block source away was (sym is)

-- a row of blocks that the hand still has
pub AreHeld-kept : (before after : Caller) (row : List (Option BlockToken))
    → ((op : ℕ) (block : BlockToken) → get_or row op None ≡ Some block → HasFramed before block → HasFramed after block)
    → AreHeld before row → AreHeld after row
AreHeld-kept before after row kept held = record { framed = λ op block is. kept op block is (held.framed op block is); apart = held.apart }

pub AreApartFrom-fresh : (hand : Caller) (row : List (Option BlockToken)) (source : BlockToken) → IsFresh hand source.slot → AreHeld hand row
    → AreApartFrom (Some source) row
AreApartFrom-fresh hand row source fresh held op block is = fresh.blocks block (held.framed op block is).has

-- one block more in the row
pub AreHeld-push : (hand : Caller) (row : List (Option BlockToken)) (block : Option BlockToken) → IfSome block (HasFramed hand)
    → AreApartFrom block row → AreHeld hand row → AreHeld hand (row ++ block ∷ [])
AreHeld-push hand row block new away held = record { framed = framed; apart = apart }
  where
    -- where a block of the longer row comes from
    cases : (op : ℕ) (one : BlockToken) → get_or (row ++ block ∷ []) op None ≡ Some one
        → ((op < length row) × (get_or row op None ≡ Some one)) ⊎ ((op ≡ length row) × (block ≡ Some one))
    cases op one is = ⊎_elim (λ below. inl (below, sym (get_or_append_left row (block ∷ []) None op below) ∙ is)) from (cases_lt op (length row))
      where
        from : length row ≤ op → ((op < length row) × (get_or row op None ≡ Some one)) ⊎ ((op ≡ length row) × (block ≡ Some one))
        from later =
            ⊎_elim
            (λ last. inr (last, sym (get_or_push row block None op (sym last)) ∙ is))
            (λ beyond. absurd (let none : get_or (row ++ block ∷ []) op None ≡ None = get_or_past (row ++ block ∷ []) op None (omega (arith, length_push row block)) in cc))
            (cases_eq op (length row))

    framed : (op : ℕ) (one : BlockToken) → get_or (row ++ block ∷ []) op None ≡ Some one → HasFramed hand one
    framed op one is = ⊎_elim (λ old. held.framed op one old.1) (λ last. subst (λ (b : Option BlockToken). IfSome b (HasFramed hand)) last.1 new) (cases op one is)

    beside : (op : ℕ) (one last : BlockToken) → get_or row op None ≡ Some one → block ≡ Some last → IsApart one.slot last.slot
    beside op one last is new_is = subst (λ (b : Option BlockToken). IsApartFrom b one) new_is (away op one is)

    apart : (op other : ℕ) (one another : BlockToken) → op ≢ other → get_or (row ++ block ∷ []) op None ≡ Some one
        → get_or (row ++ block ∷ []) other None ≡ Some another → IsApart one.slot another.slot
    apart op other one another differ is also =
        ⊎_elim
        (λ old. ⊎_elim
        (λ old_2. held.apart op other one another differ old.1 old_2.1)
        (λ last_2. beside op one another old.1 last_2.1)
        (cases other another also))
        (λ last. ⊎_elim
        (λ old_2. IsApart-flip another.slot one.slot (beside other another one old_2.1 last.1))
        (λ last_2. absurd (differ (last.0 ∙ sym last_2.0)))
        (cases other another also))
        (cases op one is)

-- no block is on its way where none is under a number
pub underway-none : (parcels : List (Option ParcelToken)) → All (λ (parcel : Option ParcelToken). parcel ≡ None) parcels → underway parcels ≡ 0
underway-none [] none = refl
underway-none (parcel ∷ parcels) none =
    let first : one_of parcel ≡ 0 = ap one_of (none 0 parcel (omega arith)) in
    let rest : underway parcels ≡ 0 = underway-none parcels (λ k d below. none (suc k) d (omega arith)) in
    omega (arith, sum_by-cons one_of parcel parcels)
