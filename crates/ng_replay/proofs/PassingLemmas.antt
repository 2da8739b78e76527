-- A row and the blocks under numbers, once one of them is out and another in.
use Rattle.std.proofs.Common.{◌≡◌, ◌≢◌, ℕ, ◌-◌, ◌≤◌, List, Option, Some, None, length, get_or, arith, refl, ap, ⊎_elim, ◌∙◌}
use Rattle.std.proofs.lemmas.Bool.{cases_eq, cases_lt}
use Rattle.std.proofs.lemmas.List.{get_or-set_other, get_or-set_same, get_or_past, length-set}
use Rattle.ng_terms.specs.declared.plan.Origin.{Origin}
use Rattle.ng_terms.specs.declared.plan.Origin.TheVariants.{Own, Claim, Skip}
use Rattle.ng_replay.specs.Serial.{handed_with, handed_without, row_without}

pub length-row_without : {X : Type 0} → (origin : Origin) (row : List (Option X)) → length (row_without origin row) ≡ length row
length-row_without (Own op) row = length-set row op None
length-row_without (Claim number) row = refl
length-row_without Skip row = refl

pub length-handed_without : {X : Type 0} → (origin : Origin) (handed : List (Option X)) → length (handed_without origin handed) ≡ length handed
length-handed_without (Own op) handed = refl
length-handed_without (Claim number) handed = length-set handed (number - 1) None
length-handed_without Skip handed = refl

pub length-handed_with : (given : Option ℕ) (block : Option ℕ) (handed : List (Option ℕ)) → length (handed_with given block handed) ≡ length handed
length-handed_with None block handed = refl
length-handed_with (Some number) block handed = length-set handed (number - 1) block

-- the others of the row stay
pub row_without-other : {X : Type 0} → (origin : Origin) (row : List (Option X)) (op : ℕ) → origin ≢ Own op
    → get_or (row_without origin row) op None ≡ get_or row op None
row_without-other (Own taken) row op other = get_or-set_other row taken op None None (λ same. other (ap Own (cc)))
row_without-other (Claim number) row op other = refl
row_without-other Skip row op other = refl

-- what is under no number stays so
pub handed_without-none : {X : Type 0} → (origin : Origin) (handed : List (Option X)) (i : ℕ) → get_or handed i None ≡ None
    → get_or (handed_without origin handed) i None ≡ None
handed_without-none (Own op) handed i none = none
handed_without-none {X} (Claim number) handed i none = ⊎_elim here there (cases_eq i (number - 1))
  where
    here : i ≡ number - 1 → get_or (handed_without {X = X} (Claim number) handed) i None ≡ None
    here same =
        ⊎_elim
        (λ within. ap (λ (k : ℕ). get_or (handed_without {X = X} (Claim number) handed) k None) same ∙ get_or-set_same handed (number - 1) None None (omega arith))
        (λ past. get_or_past (handed_without {X = X} (Claim number) handed) i None (omega (arith, length-set {A = Option X} handed (number - 1) None)))
        (cases_lt i (length handed))

    there : i ≢ number - 1 → get_or (handed_without {X = X} (Claim number) handed) i None ≡ None
    there apart = get_or-set_other handed (number - 1) i None None apart ∙ none
handed_without-none Skip handed i none = none

-- what is under another number stays
pub handed_without-other : {X : Type 0} → (origin : Origin) (handed : List (Option X)) (number : ℕ) → 1 ≤ number
    → ((claimed : ℕ) → origin ≡ Claim claimed → (1 ≤ claimed) × (claimed ≢ number))
    → get_or (handed_without origin handed) (number - 1) None ≡ get_or handed (number - 1) None
handed_without-other (Own op) handed number some other = refl
handed_without-other (Claim claimed) handed number some other =
    let (least, apart) = other claimed refl in
    get_or-set_other handed (claimed - 1) (number - 1) None None (λ same. apart (omega arith))
handed_without-other Skip handed number some other = refl

-- what is claimed is gone
pub handed_without-claimed : {X : Type 0} → (origin : Origin) (handed : List (Option X)) (number : ℕ) → origin ≡ Claim number → 1 ≤ number
    → number ≤ length handed → get_or (handed_without origin handed) (number - 1) None ≡ None
handed_without-claimed {X} origin handed number is some within =
    ap (λ (o : Origin). get_or (handed_without {X = X} o handed) (number - 1) None) is ∙ get_or-set_same handed (number - 1) None None (omega arith)

pub handed_with-other : (given : Option ℕ) (block : Option ℕ) (handed : List (Option ℕ)) (number : ℕ) → 1 ≤ number
    → ((other : ℕ) → given ≡ Some other → (1 ≤ other) × (other ≢ number))
    → get_or (handed_with given block handed) (number - 1) None ≡ get_or handed (number - 1) None
handed_with-other None block handed number some other = refl
handed_with-other (Some given) block handed number some other =
    let (least, apart) = other given refl in
    get_or-set_other handed (given - 1) (number - 1) block None (λ same. apart (omega arith))

pub handed_with-here : (given : Option ℕ) (block : Option ℕ) (handed : List (Option ℕ)) (number : ℕ) → given ≡ Some number → 1 ≤ number
    → number ≤ length handed → get_or (handed_with given block handed) (number - 1) None ≡ block
handed_with-here given block handed number is some within =
    ap (λ (g : Option ℕ). get_or (handed_with g block handed) (number - 1) None) is ∙ get_or-set_same handed (number - 1) block None (omega arith)
