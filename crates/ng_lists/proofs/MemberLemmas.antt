-- Which metas the rings have, for callers.
use Rattle.std.proofs.Common.{◌≡◌, ◌≢◌, ◌⊎◌, ℕ, ◌<◌, List, [], ◌∷◌, ◌++◌, length, Contains, Some, refl, ap, sym, subst, inl, inr, ◌∙◌, arith, ⊎_elim, length-append}
use Rattle.std.specs.List.{slice_get}
use Rattle.std.proofs.lemmas.List.{get_or_default, get_or-set_same, get_or-set_other}
use Rattle.std.proofs.lemmas.List.Elements.{Contains-append_left, Contains-append_right, Contains-append_cases, Contains-get_or, Contains-push_cases}
use Rattle.ng_lists.specs.Rings.{IsListed, RingTable, after, next_in, ring_of, rotated, with_ring, without}
use Rattle.ng_lists.proofs.ChainLemmas.{Contains-head}
use Rattle.ng_lists.proofs.CircleLemmas.{only}
use Rattle.ng_lists.proofs.DistinctLemmas.{IsDistinct, distinct_back, distinct_head}
use Rattle.ng_lists.proofs.RingLemmas.{swapped}
use Rattle.ng_lists.proofs.TableLemmas.{Split, after-split, first_split, rotated-split, without-split}

-- a member of one ring is listed
pub listed_in : (table : RingTable) (class meta : ℕ) → class < length table.rings → Contains (ring_of table class) meta → IsListed table meta
listed_in table class meta known in' =
    (class, ring_of table class, known, get_or_default table.rings class (ring_of table class) [] known, in')

-- the class of a listed meta
pub class_of : (table : RingTable) (meta : ℕ) → IsListed table meta → (class : ℕ) × (class < length table.rings) × Contains (ring_of table class) meta
class_of table meta (class, ring, known, read, in') =
    (class, known, subst (λ xs. Contains xs meta) (sym read ∙ get_or_default table.rings class ring [] known) in')

-- another ring of one class
pub ring_of-with_ring_same : (table : RingTable) (class : ℕ) (ring : List ℕ) → class < length table.rings → ring_of (with_ring table class ring) class ≡ ring
ring_of-with_ring_same table class ring known = get_or-set_same table.rings class ring [] known

pub ring_of-with_ring_other : (table : RingTable) (class other : ℕ) (ring : List ℕ) → other ≢ class → ring_of (with_ring table class ring) other ≡ ring_of table other
ring_of-with_ring_other table class other ring apart = get_or-set_other table.rings class other ring [] apart

-- after the meta's enqueue
pub Contains-enqueued : (ring : List ℕ) (meta other : ℕ) → Contains (ring ++ meta ∷ []) other → Contains ring other ⊎ (other ≡ meta)
Contains-enqueued ring meta other in' =
    ⊎_elim (λ old. inl old) (λ same. inr (sym same)) (Contains-push_cases ring meta other in')

-- after its dequeue
pub Contains-without : (ring : List ℕ) (meta other : ℕ) → Contains ring meta → Contains (without meta ring) other → Contains ring other
Contains-without ring meta other member in' =
    let split : Split ring meta = first_split ring meta member in
    let parts : Contains (split.front ++ split.back) other = subst (λ xs. Contains xs other) (ap (without meta) split.whole ∙ without-split split.front meta split.back split.away) in' in
    subst
    (λ xs. Contains xs other)
    (sym split.whole)
    (⊎_elim
    (λ left. Contains-append_left split.front (meta ∷ split.back) other left)
    (λ right. Contains-append_right split.front (meta ∷ split.back) other (Contains-append_right (meta ∷ []) split.back other right))
    (Contains-append_cases split.front split.back other parts))

pub without_meta : (ring : List ℕ) (meta : ℕ) → IsDistinct ring → Contains ring meta → ¬ Contains (without meta ring) meta
without_meta ring meta distinct member in' =
    let split : Split ring meta = first_split ring meta member in
    let whole : IsDistinct (split.front ++ meta ∷ split.back) = subst IsDistinct split.whole distinct in
    let parts : Contains (split.front ++ split.back) meta = subst (λ xs. Contains xs meta) (ap (without meta) split.whole ∙ without-split split.front meta split.back split.away) in' in
    ⊎_elim
    split.away
    (λ right. distinct_head meta split.back (distinct_back split.front (meta ∷ split.back) whole) meta right refl)
    (Contains-append_cases split.front split.back meta parts)

pub without_other : (ring : List ℕ) (meta other : ℕ) → Contains ring meta → Contains ring other → other ≢ meta → Contains (without meta ring) other
without_other ring meta other member in' apart =
    let split : Split ring meta = first_split ring meta member in
    let parts : Contains (split.front ++ split.back) other = ⊎_elim
    (λ left. Contains-append_left split.front split.back other left)
    (λ right. ⊎_elim
    (λ here. absurd (apart (only meta other here)))
    (λ later. Contains-append_right split.front split.back other later)
    (Contains-append_cases (meta ∷ []) split.back other right))
    (Contains-append_cases split.front (meta ∷ split.back) other (subst (λ xs. Contains xs other) split.whole in')) in
    subst (λ xs. Contains xs other) (sym (ap (without meta) split.whole ∙ without-split split.front meta split.back split.away)) parts

-- after a rotation
pub Contains-rotated : (ring : List ℕ) (meta other : ℕ) → Contains ring meta → Contains (rotated meta ring) other → Contains ring other
Contains-rotated ring meta other member in' =
    let split : Split ring meta = first_split ring meta member in
    let parts : Contains (meta ∷ split.back ++ split.front) other = subst (λ xs. Contains xs other) (ap (rotated meta) split.whole ∙ rotated-split split.front meta split.back split.away) in' in
    subst (λ xs. Contains xs other) (sym split.whole) (swapped (meta ∷ split.back) split.front other parts)

pub rotated_has : (ring : List ℕ) (meta other : ℕ) → Contains ring meta → Contains ring other → Contains (rotated meta ring) other
rotated_has ring meta other member in' =
    let split : Split ring meta = first_split ring meta member in
    subst
    (λ xs. Contains xs other)
    (sym (ap (rotated meta) split.whole ∙ rotated-split split.front meta split.back split.away))
    (swapped split.front (meta ∷ split.back) other (subst (λ xs. Contains xs other) split.whole in'))

-- the first of a ring, and the next after a meta, are in the ring
pub Contains-first : (ring : List ℕ) (meta : ℕ) → Some meta ≡ slice_get ring 0 → Contains ring meta
Contains-first [] meta first = cc
Contains-first (x ∷ xs) meta first =
    let same : meta ≡ x = cc in
    subst (Contains (x ∷ xs)) (sym same) (Contains-head x xs)

pub Contains-next_in : (ring : List ℕ) (meta : ℕ) → Contains ring meta → Contains ring (next_in ring meta)
Contains-next_in ring meta member =
    let split : Split ring meta = first_split ring meta member in
    let behind : after meta ring ≡ split.back = ap (after meta) split.whole ∙ after-split split.front meta split.back split.away in
    ⊎_elim
    (λ left. subst
    (λ xs. Contains xs (next_in ring meta))
    (sym split.whole)
    (Contains-append_right split.front (meta ∷ split.back) (next_in ring meta) (Contains-append_right (meta ∷ []) split.back (next_in ring meta) (subst (λ xs. Contains xs (next_in ring meta)) behind left))))
    (λ right. right)
    (Contains-append_cases (after meta ring) ring (next_in ring meta) (Contains-get_or (after meta ring ++ ring) 0 0 (some ring meta member)))
  where
    some : (ring : List ℕ) (meta : ℕ) → Contains ring meta → 0 < length (after meta ring ++ ring)
    some ring meta (k, within, is) = omega (arith, length-append (after meta ring) ring)
