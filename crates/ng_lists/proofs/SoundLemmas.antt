-- The rings of all classes, and what a step that changes one of them keeps.
use Rattle.std.proofs.Common.{◌≡◌, ◌≢◌, ℕ, zero, suc, ◌+◌, ◌*◌, ◌<◌, ◌≤◌, List, [], ◌∷◌, length, get_or, set, map, Contains, refl, ap, sym, subst, ◌∙◌, arith, ⊎_elim, length-set}
use Rattle.std.proofs.lemmas.Bool.{cases_eq, cases_lt}
use Rattle.std.proofs.lemmas.List.{ext_get_or, get_or_past, get_or-set_same, get_or-set_other}
use Rattle.ng_lists.specs.Arrays.{IsRing, IsSound, ring_at, rings_from}
use Rattle.ng_lists.specs.Place.{address_at}
use Rattle.ng_lists.proofs.RingLemmas.{mark_of, ring_at-is}

pub length-rings_from : (next marks : List ℕ) (class : ℕ) (heads : List ℕ) → length (rings_from next marks class heads) ≡ length heads
length-rings_from next marks class [] = refl
length-rings_from next marks class (head ∷ heads) = ap suc (length-rings_from next marks (class + 1) heads)

pub get_or-rings_from : (next marks : List ℕ) (first : ℕ) (heads : List ℕ) (c class : ℕ) → c < length heads → first + c ≡ class → get_or (rings_from next marks first heads) c [] ≡ map address_at (ring_at next marks class (get_or heads c 0))
get_or-rings_from next marks first [] c class inside is = absurd (omega arith)
get_or-rings_from next marks first (head ∷ heads) zero class inside is =
    let same : first ≡ class = omega arith in
    ap (λ k. map address_at (ring_at next marks k head)) same
get_or-rings_from next marks first (head ∷ heads) (suc c) class inside is =
    get_or-rings_from next marks (first + 1) heads c class (omega arith) (omega arith)

-- what a step makes of the arrays: one ring is another, and the rest are as they were
pub record Changes (heads next marks heads' next' prev' marks' : List ℕ) (pages class : ℕ) (ring : List ℕ) : Type 0 where
  pub heads_kept : length heads' ≡ length heads
  pub nexts : length next' ≡ 101 * pages
  pub prevs : length prev' ≡ 101 * pages
  pub all_marks : length marks' ≡ 101 * pages
  pub inside : (c : ℕ) → c < 48 → get_or heads' c 0 < 101 * pages
  pub known : (index : ℕ) → get_or marks' index 0 ≤ 48
  pub placed : (index : ℕ) → 0 < get_or marks' index 0 → 101 ≤ index
  pub this : IsRing next' prev' marks' (get_or heads' class 0) class ring
  pub others : (c : ℕ) → c < 48 → c ≢ class → IsRing next' prev' marks' (get_or heads' c 0) c (ring_at next marks c (get_or heads c 0))

module _ {heads next prev marks : List ℕ} {pages : ℕ} (sound : IsSound heads next prev marks pages) where
  -- a marked index is one of the arrays'
  pub marked_inside : (i : ℕ) → 0 < get_or marks i 0 → i < 101 * pages
  marked_inside i marked = ⊎_elim
      (λ inside. omega (arith, sound.all_marks))
      (λ past. absurd (omega (arith, get_or_past marks i 0 past)))
      (cases_lt i (length marks))

  -- the ring of a class as contracts see it
  pub ring_shown : (class : ℕ) → class < 48 → get_or (rings_from next marks 0 heads) class [] ≡ map address_at (ring_at next marks class (get_or heads class 0))
  ring_shown class known = get_or-rings_from next marks 0 heads class class (omega (arith, sound.classes)) (omega arith)

  pub member_inside : (class i : ℕ) → class < 48 → Contains (ring_at next marks class (get_or heads class 0)) i → i < 101 * pages
  member_inside class i known in' =
      marked_inside i (omega (arith, mark_of (sound.rings class known) i in'))

  module _ {heads' next' prev' marks' : List ℕ} {class : ℕ} (below : class < 48) {ring : List ℕ} (changes : Changes heads next marks heads' next' prev' marks' pages class ring) where
    -- each ring of the new arrays is as the change says
    new_this : ring_at next' marks' class (get_or heads' class 0) ≡ ring
    new_this = ring_at-is changes.this

    new_other : (c : ℕ) → c < 48 → c ≢ class → ring_at next' marks' c (get_or heads' c 0) ≡ ring_at next marks c (get_or heads c 0)
    new_other c known apart =
        ring_at-is (changes.others c known apart)

    pub still_sound : IsSound heads' next' prev' marks' pages
    still_sound = record {
      least = sound.least;
      greatest = sound.greatest;
      classes = omega (arith, changes.heads_kept, sound.classes);
      nexts = changes.nexts;
      prevs = changes.prevs;
      all_marks = changes.all_marks;
      inside = changes.inside;
      known = changes.known;
      placed = changes.placed;
      rings = λ c known. ⊎_elim
          (λ same. subst
          (λ k. IsRing next' prev' marks' (get_or heads' k 0) k (ring_at next' marks' k (get_or heads' k 0)))
          (sym same)
          (subst (IsRing next' prev' marks' (get_or heads' class 0) class) (sym new_this) changes.this))
          (λ apart. subst (IsRing next' prev' marks' (get_or heads' c 0) c) (sym (new_other c known apart)) (changes.others c known apart))
          (cases_eq c class);
    }

    -- contracts see one ring change
    pub shown_changed : rings_from next' marks' 0 heads' ≡ set (rings_from next marks 0 heads) class (map address_at ring)
    shown_changed =
        let old : List (List ℕ) = rings_from next marks 0 heads in
        let new : List (List ℕ) = rings_from next' marks' 0 heads' in
        let old_length : length (rings_from next marks 0 heads) ≡ 48 = length-rings_from next marks 0 heads ∙ sound.classes in
        let heads_length : length heads' ≡ 48 = changes.heads_kept ∙ sound.classes in
        let new_length : length (rings_from next' marks' 0 heads') ≡ 48 = length-rings_from next' marks' 0 heads' ∙ heads_length in
        ext_get_or
        []
        (rings_from next' marks' 0 heads')
        (set (rings_from next marks 0 heads) class (map address_at ring))
        (omega (arith, new_length, old_length, length-set (rings_from next marks 0 heads) class (map address_at ring)))
        (λ c within.
        let known : c < 48 = omega (arith, new_length) in
        let read : get_or (rings_from next' marks' 0 heads') c [] ≡ map address_at (ring_at next' marks' c (get_or heads' c 0)) =
        get_or-rings_from next' marks' 0 heads' c c (omega (arith, heads_length)) (omega arith) in
        read ∙ ⊎_elim
        (λ same. subst (λ k. map address_at (ring_at next' marks' k (get_or heads' k 0)) ≡ get_or (set (rings_from next marks 0 heads) class (map address_at ring)) k []) (sym same) (ap (map address_at) new_this ∙ sym (get_or-set_same (rings_from next marks 0 heads) class (map address_at ring) [] (omega (arith, old_length)))))
        (λ apart. ap (map address_at) (new_other c known apart) ∙ sym (get_or-set_other (rings_from next marks 0 heads) class c (map address_at ring) [] apart ∙ ring_shown c known))
        (cases_eq c class))
