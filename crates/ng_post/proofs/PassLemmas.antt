-- Passes stay those of their boxes through a call on one of them.
use Rattle.std.proofs.Common.{◌≡◌, ◌∙◌, ◌+◌, ◌<◌, ◌∷◌, ◌++◌, [], ℕ, List, arith, get_or, length, set, subst, sym}
use Rattle.std.proofs.lemmas.List.{get_or_default}
use Rattle.std.specs.Prelude.{Option}
use Rattle.crossbeam_queue.specs.Passes.{IsPassOf, IsSamePass, Pass}
use Rattle.crossbeam_queue.specs.declared.array_queue.Doing.{Doing}
use Rattle.crossbeam_queue.specs.declared.array_queue.Slotted.{Slotted}
use Rattle.ng_post.proofs.Rows.{each-pushed, each-set}

pub passes-set : {T V Q A : Type 0} (boxes : List (Slotted (Option T) (Doing T V) Q A)) (leads : List (Pass T V)) (k n : ℕ) (old new : Pass T V)
    → k < n → length leads ≡ n → old ≡ get_or leads k old → IsSamePass old new
    → ((i : ℕ) (q : Slotted (Option T) (Doing T V) Q A) (p : Pass T V) → i < n → IsPassOf (get_or boxes i q) (get_or leads i p))
    → (i : ℕ) (q : Slotted (Option T) (Doing T V) Q A) (p : Pass T V) → i < n → IsPassOf (get_or boxes i q) (get_or (set leads k new) i p)
passes-set {T} {V} {Q} {A} boxes leads k n old new lt long is same before i q p within =
    let now : (s : Slotted (Option T) (Doing T V) Q A) → IsPassOf (get_or boxes k s) new = λ s.
    let was : IsPassOf (get_or boxes k s) old = subst (λ x. IsPassOf (get_or boxes k s) x) (sym is) (before k s old lt) in
    (same.0 ∙ was.0, same.2 ∙ was.1) in
    each-set (λ j x. (s : Slotted (Option T) (Doing T V) Q A) → IsPassOf (get_or boxes j s) x) leads k new (omega (arith, long, lt)) now
    (λ j x inside apart s. before j s x (omega (arith, long, inside))) i p (omega (arith, long, within)) q

-- one more pass, of the next box
pub passes-pushed : {T V Q A : Type 0} (boxes : List (Slotted (Option T) (Doing T V) Q A)) (ways : List (Pass T V)) (n : ℕ) (queue : Slotted (Option T) (Doing T V) Q A) (way : Pass T V)
    → length ways ≡ n → n < length boxes → queue ≡ get_or boxes n queue → IsPassOf queue way
    → ((i : ℕ) (q : Slotted (Option T) (Doing T V) Q A) (p : Pass T V) → i < n → IsPassOf (get_or boxes i q) (get_or ways i p))
    → (i : ℕ) (q : Slotted (Option T) (Doing T V) Q A) (p : Pass T V) → i < n + 1 → IsPassOf (get_or boxes i q) (get_or (ways ++ way ∷ []) i p)
passes-pushed {T} {V} {Q} {A} boxes ways n queue way long within is fits before i q p lt =
    let last : (s : Slotted (Option T) (Doing T V) Q A) → IsPassOf (get_or boxes n s) way = λ s.
    subst (λ x. IsPassOf x way) (is ∙ get_or_default boxes n queue s within) fits in
    each-pushed (λ j a b. (s : Slotted (Option T) (Doing T V) Q A) → IsPassOf (get_or boxes j s) a) ways ways way way n long long
    (λ j a b below s. before j s a below) last i p p lt q

-- one more box, with its pass
pub passes-pushed-both : {T V Q A : Type 0} (boxes : List (Slotted (Option T) (Doing T V) Q A)) (leads : List (Pass T V)) (n : ℕ) (queue : Slotted (Option T) (Doing T V) Q A) (lead : Pass T V)
    → length boxes ≡ n → length leads ≡ n → IsPassOf queue lead
    → ((i : ℕ) (q : Slotted (Option T) (Doing T V) Q A) (p : Pass T V) → i < n → IsPassOf (get_or boxes i q) (get_or leads i p))
    → (i : ℕ) (q : Slotted (Option T) (Doing T V) Q A) (p : Pass T V) → i < n + 1 → IsPassOf (get_or (boxes ++ queue ∷ []) i q) (get_or (leads ++ lead ∷ []) i p)
passes-pushed-both boxes leads n queue lead long long' fits before = each-pushed (λ j a b. IsPassOf a b) boxes leads queue lead n long long' before fits
