-- Which metas the rings of a table have, and a table in which one ring changes.
use Rattle.std.proofs.Common.{◌≡◌, ◌≢◌, ◌⊎◌, ℕ, ◌<◌, ◌≤◌, List, [], ◌∷◌, ◌++◌, length, drop, Contains, Some, refl, ap, sym, subst, ◌∙◌, ⊎_elim, inl, inr, arith, length-set}
use Rattle.std.specs.List.{slice_get}
use Rattle.std.proofs.lemmas.Bool.{cases_eq, cases_lt, cases_order}
use Rattle.std.proofs.lemmas.List.{get_or_default, get_or_past}
use Rattle.std.proofs.lemmas.List.Elements.{Contains-append_left, Contains-append_right, Contains-append_cases, Contains-push_cases}
use Rattle.ng_lists.specs.Rings.{IsListed, RingTable, ring_of, with_ring, without}
use Rattle.ng_lists.proofs.ChainLemmas.{Contains-head}
use Rattle.ng_lists.proofs.DistinctLemmas.{IsDistinct}
use Rattle.ng_lists.proofs.MemberLemmas.{class_of, listed_in, ring_of-with_ring_other, ring_of-with_ring_same}
use Rattle.ng_lists.proofs.TableLemmas.{Split, first_split, without-split}
use Rattle.ng_ledger.specs.Rings.{ChangesRing, IsIn, IsTable}

-- nothing is in the empty list
pub nowhere : (m : ℕ) → ¬ Contains [] m
nowhere m (k, within, is) = omega (arith, within)

-- what is behind the first of a ring is in the ring
pub tail_in : (ring : List ℕ) (m : ℕ) → Contains (drop 1 ring) m → Contains ring m
tail_in [] m in' = in'
tail_in (x ∷ xs) m in' = Contains-append_right (x ∷ []) xs m in'

-- a ring is its first meta and what is behind it
pub first_is : (ring : List ℕ) (m : ℕ) → slice_get ring 0 ≡ Some m → ring ≡ m ∷ drop 1 ring
first_is [] m first = cc
first_is (x ∷ xs) m first =
    let same : x ≡ m = cc in
    ap (λ (y : ℕ). y ∷ xs) same

-- the table has a ring for each class of a member
pub in_within : (table : RingTable) (class m : ℕ) → IsIn table class m → class < length table.rings
in_within table class m in' = ⊎_elim
    (λ (within : class < length table.rings). within)
    (λ (past : length table.rings ≤ class). absurd (nowhere m (subst (λ ring. Contains ring m) (get_or_past table.rings class [] past) in')))
    (cases_lt class (length table.rings))

pub in_known : (table : RingTable) (class m : ℕ) → IsTable table → IsIn table class m → class < 48
in_known table class m is in' = omega (arith, in_within table class m in', is.classes)

-- a meta of a class's ring is listed
pub in_listed : (table : RingTable) (class m : ℕ) → IsIn table class m → IsListed table m
in_listed table class m in' = listed_in table class m (in_within table class m in') in'

-- a listed meta is in the ring of a class
pub listed_class : (table : RingTable) (m : ℕ) → IsTable table → IsListed table m → (class : ℕ) × (class < 48) × IsIn table class m
listed_class table m is listed =
    let found : (class : ℕ) × (class < length table.rings) × IsIn table class m = class_of table m listed in
    (found.0, in_known table found.0 m is found.2, found.2)

-- a meta is in one ring
pub one_ring : (table : RingTable) (class other m : ℕ) → IsTable table → IsIn table class m → IsIn table other m → class ≡ other
one_ring table class other m is in' also = ⊎_elim
    (λ (same : class ≡ other). same)
    (λ order. ⊎_elim
    (λ (less : class < other). absurd (is.apart class other [] less (in_within table other m also) m in' also))
    (λ (more : other < class). absurd (is.apart other class [] more (in_within table class m in') m also in'))
    order)
    (cases_order class other)

-- and stands there once
pub ring_once : (table : RingTable) (class : ℕ) → IsTable table → IsDistinct (ring_of table class)
ring_once table class is = ⊎_elim
    (λ (within : class < length table.rings). is.once class [] within)
    (λ (past : length table.rings ≤ class). subst IsDistinct (sym (get_or_past table.rings class [] past)) (λ i j d less within. absurd (omega (arith, within))))
    (cases_lt class (length table.rings))

-- a meta that is alone in a ring is alone in its own
pub alone_is : (table : RingTable) (class m : ℕ) → IsTable table → IsIn table class m → Contains table.rings (m ∷ []) → ring_of table class ≡ m ∷ []
alone_is table class m is in' (some, within, whole) =
    let ring : ring_of table some ≡ m ∷ [] = get_or_default table.rings some [] (m ∷ []) within ∙ whole in
    let here : IsIn table some m = subst (λ xs. Contains xs m) (sym ring) (Contains-head m []) in
    ap (ring_of table) (one_ring table class some m is in' here) ∙ ring

-- a table with another ring of one class
pub with_ring_changes : (table : RingTable) (class : ℕ) (ring : List ℕ) → class < length table.rings → ChangesRing table (with_ring table class ring) class ring
with_ring_changes table class ring within = record {
  here = ring_of-with_ring_same table class ring within;
  others = λ other apart. ring_of-with_ring_other table class other ring apart;
  classes = length-set table.rings class ring;
  pages = refl;
}

-- what holds of the metas of each ring, or of a part of each, once one ring has changed
pub changed_each : (part : List ℕ → List ℕ) (P : ℕ → ℕ → Type 0) (before after : RingTable) (class : ℕ) (ring : List ℕ) → ChangesRing before after class ring
    → ((m : ℕ) → Contains (part ring) m → P class m) → ((other m : ℕ) → other ≢ class → Contains (part (ring_of before other)) m → P other m)
    → (some m : ℕ) → Contains (part (ring_of after some)) m → P some m
changed_each part P before after class ring changed here others some m in' = ⊎_elim
    (λ (same : some ≡ class). subst (λ c. P c m) (sym same) (here m (subst (λ xs. Contains (part xs) m) (ap (ring_of after) same ∙ changed.here) in')))
    (λ (apart : some ≢ class). others some m apart (subst (λ xs. Contains (part xs) m) (changed.others some apart) in'))
    (cases_eq some class)

-- a meta of the new ring is in it
pub changed_here : (before after : RingTable) (class : ℕ) (ring : List ℕ) (m : ℕ) → ChangesRing before after class ring → Contains ring m → IsIn after class m
changed_here before after class ring m changed in' = subst (λ xs. Contains xs m) (sym changed.here) in'

-- a meta that the new ring has where the old one had it stays in its ring
pub changed_stays : (before after : RingTable) (class : ℕ) (ring : List ℕ) (some m : ℕ) → ChangesRing before after class ring → (IsIn before class m → Contains ring m) → IsIn before some m → IsIn after some m
changed_stays before after class ring some m changed here in' = ⊎_elim
    (λ (same : some ≡ class). subst (λ c. IsIn after c m) (sym same) (changed_here before after class ring m changed (here (subst (λ c. IsIn before c m) same in'))))
    (λ (apart : some ≢ class). subst (λ xs. Contains xs m) (sym (changed.others some apart)) in')
    (cases_eq some class)

-- and is still listed
pub changed_listed : (before after : RingTable) (class : ℕ) (ring : List ℕ) (m : ℕ) → ChangesRing before after class ring → (IsIn before class m → Contains ring m) → IsListed before m → IsListed after m
changed_listed before after class ring m changed here listed =
    let found : (some : ℕ) × (some < length before.rings) × IsIn before some m = class_of before m listed in
    in_listed after found.0 m (changed_stays before after class ring found.0 m changed here found.2)

-- what is behind the first of a ring without a meta was behind the first
pub tail_without : (ring : List ℕ) (m n : ℕ) → Contains ring m → Contains (drop 1 (without m ring)) n → Contains (drop 1 ring) n
tail_without ring m n member in' =
    let split : Split ring m = first_split ring m member in
    let parts : without m ring ≡ split.front ++ split.back = ap (without m) split.whole ∙ without-split split.front m split.back split.away in
    subst (λ xs. Contains (drop 1 xs) n) (sym split.whole) (joined split.front split.back (subst (λ xs. Contains (drop 1 xs) n) parts in'))
  where
    joined : (front back : List ℕ) → Contains (drop 1 (front ++ back)) n → Contains (drop 1 (front ++ m ∷ back)) n
    joined [] back in' = tail_in back n in'
    joined (x ∷ xs) back in' = ⊎_elim
        (λ left. Contains-append_left xs (m ∷ back) n left)
        (λ right. Contains-append_right xs (m ∷ back) n (Contains-append_right (m ∷ []) back n right))
        (Contains-append_cases xs back n in')

-- what is behind the first of a ring with one more meta is that meta, or was behind the first
pub tail_with : (ring : List ℕ) (m n : ℕ) → Contains (drop 1 (ring ++ m ∷ [])) n → Contains (drop 1 ring) n ⊎ (n ≡ m)
tail_with [] m n in' = absurd (nowhere n in')
tail_with (x ∷ xs) m n in' = ⊎_elim (λ old. inl old) (λ same. inr (sym same)) (Contains-push_cases xs m n in')
