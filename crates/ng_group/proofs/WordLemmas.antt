-- The words of page 0, as the ring of a class changes, and the counter.
use Rattle.std.proofs.Common.{◌≡◌, ◌⊎◌, ℕ, zero, suc, ◌<◌, List, [], ◌∷◌, ◌++◌, All, Option, Some, length, map, set, refl, sym, ap, ◌∙◌, subst, inl, inr, arith}
use Rattle.std.specs.List.{slice_get, slice_index, slice_index_or, slice_set}
use Rattle.std.specs.Option.{unwrap_or}
use Rattle.std.proofs.lemmas.List.{map-set, set-get_or, set-set}
use Rattle.std.proofs.lemmas.Option.{unwrap_or-slice_get}
use Rattle.ng_meta.specs.Place.{IsMetaPlace}
use Rattle.ng_lists.specs.Rings.{RingTable, ring_of, rotated, with_ring}
use Rattle.ng_mapper.specs.Mapping.{Span}
use Rattle.ng_mapper.specs.Runs as mapper
use Rattle.ng_mapper.specs.declared.refusals.Refusals.{Refusals}
use Rattle.ng_view.specs.LockSteps.{active_set}
use Rattle.ng_view.specs.declared.view.Start.{Start}
use Rattle.ng_view.specs.declared.view.View.{View}
use Rattle.ng_ledger.specs.Rings.{entered, entered_first}
use Rattle.ng_group.specs.Serving.{with_search}
use Rattle.ng_group.specs.States.{AreFollowed, State, Working, first_of}
use Rattle.ng_group.specs.Steps.{Came}

-- ---- one word

-- the first meta of a ring is the number that its first is
pub first_word : (ring : List ℕ) (m : ℕ) → slice_get ring 0 ≡ Some m → first_of ring ≡ m
first_word ring m begins = sym (unwrap_or-slice_get ring 0 0) ∙ ap (λ (o : Option ℕ). unwrap_or o 0) begins

word_at : (rings : List (List ℕ)) (class : ℕ) → slice_index (map first_of rings) class ≡ first_of (slice_index_or rings class [])
word_at [] class = refl
word_at (ring ∷ rings) zero = refl
word_at (ring ∷ rings) (suc class) = word_at rings class

-- the active word of a class is the first of its ring
pub word_is : {active : List ℕ} {word counter : ℕ} {table : RingTable} → AreFollowed active word table counter → (class : ℕ)
    → first_of (ring_of table class) ≡ slice_index active class
word_is {table = table} followed class = sym (ap (λ (ws : List ℕ). slice_index ws class) followed.firsts ∙ word_at table.rings class)

-- it is 0, or the place of a meta
first_place : (pages : ℕ) (ring : List ℕ) → All (λ m. IsMetaPlace m pages) ring → (first_of ring ≡ 0) ⊎ IsMetaPlace (first_of ring) pages
first_place pages [] places = inl refl
first_place pages (m ∷ ms) places = inr (places 0 0 (omega arith))

pub word_place : (table : RingTable) (class pages m : ℕ) → class < length table.rings → All (All (λ n. IsMetaPlace n table.pages)) table.rings
    → table.pages ≡ pages → m ≡ first_of (ring_of table class) → (m ≡ 0) ⊎ IsMetaPlace m pages
word_place table class pages m known places same is =
    subst (λ (n : ℕ). (n ≡ 0) ⊎ IsMetaPlace n pages) (sym is)
    (subst (λ (p : ℕ). (first_of (ring_of table class) ≡ 0) ⊎ IsMetaPlace (first_of (ring_of table class)) p) same
    (first_place table.pages (ring_of table class) (places class [] known)))

-- a word that stays needs no store
pub same_word : (v : View) (class m : ℕ) → m ≡ slice_index v.desk.active class → v ≡ active_set v class m
same_word v class m is =
    ap (λ (ws : List ℕ). record v { desk = record v.desk { active = ws } }) (sym (set-get_or v.desk.active class 0))
    ∙ ap (active_set v class) (sym is)

-- ---- all words, where the rings are as before
pub followed_same : {was now : List ℕ} {word counter : ℕ} {table : RingTable} → AreFollowed was word table counter → now ≡ was
    → AreFollowed now word table counter
followed_same followed same = record { firsts = same ∙ followed.firsts; low = followed.low }

-- ---- where that of one class is another, and its word follows
set_first : (rings : List (List ℕ)) (class : ℕ) (ring : List ℕ)
    → set (map first_of rings) class (first_of (slice_index_or (slice_set rings class ring) class [])) ≡ map first_of (slice_set rings class ring)
set_first [] class ring = refl
set_first (r ∷ rings) zero ring = refl
set_first (r ∷ rings) (suc class) ring = ap (λ (ws : List ℕ). first_of r ∷ ws) (set_first rings class ring)

pub followed_ring : {was : List ℕ} {word counter : ℕ} {table : RingTable} → AreFollowed was word table counter
    → (now : List ℕ) (t : RingTable) (class : ℕ) (ring : List ℕ) → now ≡ was → t ≡ with_ring table class ring
    → AreFollowed (set now class (first_of (ring_of t class))) word t counter
followed_ring {word = word} {counter = counter} {table = table} followed now t class ring same turned =
    subst (λ (x : RingTable). AreFollowed (set now class (first_of (ring_of x class))) word x counter) (sym turned) (record {
      firsts = ap (λ (ws : List ℕ). set ws class (first_of (ring_of (with_ring table class ring) class))) (same ∙ followed.firsts)
          ∙ set_first table.rings class ring;
      low = followed.low;
    })

-- ---- where a meta comes first into one
pub followed_first : {was : List ℕ} {word counter : ℕ} {table : RingTable} → AreFollowed was word table counter → (class m : ℕ)
    → AreFollowed (set was class m) word (entered_first table class m) counter
followed_first {was = was} {table = table} followed class m = record {
  firsts = ap (λ (ws : List ℕ). set ws class m) followed.firsts
      ∙ sym (set-set (map first_of table.rings) class (first_of last) m)
      ∙ ap (λ (ws : List ℕ). set ws class m) (sym (map-set first_of table.rings class last))
      ∙ sym (map-set first_of (slice_set table.rings class last) class (rotated m (ring_of (entered table class m) class)));
  low = followed.low;
}
  where
    last : List ℕ
    last = ring_of table class ++ m ∷ []

-- ---- the views then
pub set_search : (v w : View) (class m : ℕ) → w ≡ with_search v w → active_set w class m ≡ with_search v (active_set w class m)
set_search v w class m view = ap (λ (u : View). active_set u class m) view

pub set_came : (v w : View) (class m : ℕ) → Came v w → Came v (active_set w class m)
set_came v w class m came = record { words = came.words; readings = came.readings }

-- ---- what a call is asked that lets a word follow
module _ {M P : Type 0} (start : Start) (span : M → Span) (runs : M → List mapper.Run) (refused : M → Refusals) {s now : State M P} (same : s ≡ now)
    (works : Working start span runs refused now) where
  pub word_pages : (t : RingTable) → t.pages ≡ s.rings.pages → t.pages ≡ start.pages
  word_pages t kept = kept ∙ ap (λ (x : State M P). x.rings.pages) same ∙ works.space.rings

  pub word_was : (w : View) (class m : ℕ) → m ≡ first_of (ring_of s.rings class) → w.desk.active ≡ s.seat.desk.active → m ≡ slice_index w.desk.active class
  word_was w class m is kept = is
      ∙ ap (λ (x : State M P). first_of (ring_of x.rings class)) same
      ∙ word_is works.followed class
      ∙ ap (λ (ws : List ℕ). slice_index ws class) (sym (kept ∙ ap (λ (x : State M P). x.seat.desk.active) same))
