-- Loads, and entries that are legal at any time.
use Rattle.std.proofs.Common.{◌≡◌, ℕ, ◌+◌, ◌/◌, ◌%◌, ◌≤◌, [], ◌∷◌, ◌++◌, List, cond, eqb, eq-eqb, refl, ap, ◌∙◌, arith}
use mathlib.Core.Option.{some}
use lib.ListN.{get_elem?}
use Rattle.ng_terms.specs.declared.entry.Entry.{Entry}
use Rattle.ng_terms.specs.declared.entry.Entry.TheVariants.{Give, Take, Resize, NoMemory, TooLarge, BadAlign, Refused}
use Rattle.ng_view.specs.declared.view.Book.{Book}
use Rattle.ng_view.specs.declared.view.View.{View}
use Rattle.ng_view.specs.declared.view.Start.{Start}
use Rattle.ng_view.specs.Lists.{total_by, count_of}
use Rattle.ng_view.specs.May.{May}
use Rattle.ng_view.specs.Tells.{Tells}
use Rattle.ng_view.specs.Rule.{Rule}
use Rattle.ng_view.specs.Cells.{cell}
use Rattle.ng_view.specs.Views.{desk_of, has, numbered}
use Rattle.ng_view.specs.Steps.{loaded, entered, read, write}
use Rattle.ng_rule.proofs.geometry.Facts as facts
use Rattle.ng_rule.proofs.geometry.Frames.{own_is}
use Rattle.ng_rule.proofs.hand.Moves.{loads_may}
use Rattle.ng_rule.proofs.hand.Tell.{tells}
use Rattle.ng_rule.proofs.entry.EnterMoves.{too_large_may, bad_align_may, refused_may}
use Rattle.ng_space.proofs.Placing.{lies_in}
use Rattle.ng_space.specs.Placed.{AreOnce, ArePlaced, IsSmall}
use Rattle.ng_space.specs.Entries.{IsLegalAnytime}

-- each slot of a seat is there once
pub once_held : (key : Start) (ws : List ℕ) (vs : List View) (id : ℕ) (v : View) → Rule key ws vs → get_elem? vs id ≡ some v → AreOnce v
once_held key ws vs id v kept at h there =
    let o : has h.place.group.meta h.place.index v ≤ 1 = facts.once ws vs kept.slots id v h.place at (kept.slots.held id v at h there) in omega arith

-- a word of a slot's own cell
small_held : (key : Start) (ws : List ℕ) (vs : List View) (id : ℕ) (v : View) → Rule key ws vs → get_elem? vs id ≡ some v → (a : ℕ) → a % 4 ≡ 0 → IsSmall v a (cell ws a)
small_held key ws vs id v kept at a al h there owns =
    (own_is key ws (desk_of vs).layout kept.words.lawful (facts.nested ws vs kept.slots) a h.place al (facts.held_slot ws vs kept.slots id v h at there) (facts.held_leaf ws vs kept.slots id v h at there) owns).2

-- a load, with what it tells
pub loads_and_tells : (key : Start) (id : ℕ) (v : View) (a : ℕ) → a % 4 ≡ 0 → May key id v (a / 4) (λ n. n) (λ v n w. (w ≡ loaded v a n) × Tells key v a n × ArePlaced key v × AreOnce v × IsSmall v a n)
loads_and_tells key id v a al ws vs kept at fits =
    let step = loads_may key id v a al ws vs kept at fits in
    (step.0, step.1, (step.2, tells key ws vs id v kept at a al, (λ h s. lies_in key ws vs id v kept at h s), once_held key ws vs id v kept at, small_held key ws vs id v kept at a al))

-- the number of a view with one book
pub one_number : (v : View) (k : ℕ) (es : List Entry) → v.books ≡ record { number = k; entries = es } ∷ [] → numbered k v ≡ 1
one_number v k es own = ap (total_by (λ (b : Book). count_of (eqb b.number k))) own ∙ (let one : count_of (eqb k k) ≡ 1 = ap count_of (eq-eqb k k refl) in let e : count_of (eqb k k) + 0 ≡ 1 = omega arith in e)

pub enters_anytime : (key : Start) (id : ℕ) (v : View) (k : ℕ) (e : Entry) → numbered k v ≡ 1 → IsLegalAnytime e → May key id v (0 / 4) (λ n. n) (λ v n w. w ≡ read (entered v k e) 0 n)
enters_anytime key id v k (Give n a p) own legal = absurd legal
enters_anytime key id v k (Take p) own legal = absurd legal
enters_anytime key id v k (Resize p n) own legal = absurd legal
enters_anytime key id v k (NoMemory n x) own legal = absurd legal
enters_anytime key id v k (TooLarge c s a) own legal = too_large_may key id v k own c s a legal
enters_anytime key id v k (BadAlign a) own legal = bad_align_may key id v k own a legal
enters_anytime key id v k (Refused p name) own legal = refused_may key id v k own p name legal.0 legal.1

-- the one book after an entry
pub one_book : (bs : List Book) (k : ℕ) (es : List Entry) (e : Entry) → bs ≡ record { number = k; entries = es } ∷ [] → write k e bs ≡ record { number = k; entries = es ++ e ∷ [] } ∷ []
one_book bs k es e own = ap (write k e) own ∙ ap (λ t. cond t (record { number = k; entries = es ++ e ∷ [] } ∷ []) (record { number = k; entries = es } ∷ [])) (eq-eqb k k refl)
