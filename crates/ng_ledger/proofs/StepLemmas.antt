-- A table as a meta comes into a ring or leaves it, and as a ring is turned.
use Rattle.std.proofs.Common.{◌≡◌, ◌≢◌, ℕ, ◌<◌, List, [], ◌∷◌, ◌++◌, length, drop, Contains, Some, refl, ap, sym, subst, ◌∙◌, arith}
use Rattle.std.specs.List.{slice_get}
use Rattle.std.proofs.lemmas.List.Elements.{Contains-push}
use Rattle.ng_lists.specs.Rings.{IsListed, RingTable, ring_of, rotated, without}
use Rattle.ng_lists.proofs.MemberLemmas.{Contains-first, Contains-rotated, Contains-without, class_of, rotated_has, without_meta, without_other}
use Rattle.ng_lists.proofs.TableLemmas.{rotated-split, without-split}
use Rattle.ng_ledger.specs.Rings.{ChangesRing, IsIn, IsTable, entered, entered_first, left, turned}
use Rattle.ng_ledger.proofs.TableLemmas.{changed_each, changed_here, changed_stays, first_is, in_listed, in_within, nowhere, one_ring, ring_once, with_ring_changes}

-- a ring without its first meta
without_first : (m : ℕ) (rest : List ℕ) → without m (m ∷ rest) ≡ rest
without_first m rest = without-split [] m rest (nowhere m)

-- a meta comes last into a ring
pub entered_changes : (table : RingTable) (class m : ℕ) → class < length table.rings → ChangesRing table (entered table class m) class (ring_of table class ++ m ∷ [])
entered_changes table class m within = with_ring_changes table class (ring_of table class ++ m ∷ []) within

-- and is in it
pub entered_here : (table : RingTable) (class m : ℕ) → class < length table.rings → IsIn (entered table class m) class m
entered_here table class m within =
    changed_here table (entered table class m) class (ring_of table class ++ m ∷ []) m (entered_changes table class m within) (Contains-push (ring_of table class) m)

-- a ring is turned to one of its metas
pub turned_changes : (table : RingTable) (class m : ℕ) → class < length table.rings → ChangesRing table (turned table class m) class (rotated m (ring_of table class))
turned_changes table class m within = with_ring_changes table class (rotated m (ring_of table class)) within

-- a meta comes first into a ring
pub first_changes : (table : RingTable) (class m : ℕ) → class < length table.rings → ¬ IsListed table m → ChangesRing table (entered_first table class m) class (m ∷ ring_of table class)
first_changes table class m within absent =
    let last : ChangesRing table (entered table class m) class (ring_of table class ++ m ∷ []) = entered_changes table class m within in
    let turn : ChangesRing (entered table class m) (entered_first table class m) class (rotated m (ring_of (entered table class m) class)) =
    turned_changes (entered table class m) class m (omega (arith, within, last.classes)) in
    let away : ¬ Contains (ring_of table class) m = λ in'. absent (in_listed table class m in') in
    record {
      here = turn.here ∙ ap (rotated m) last.here ∙ rotated-split (ring_of table class) m [] away;
      others = λ other apart. turn.others other apart ∙ last.others other apart;
      classes = turn.classes ∙ last.classes;
      pages = refl;
    }

-- a meta leaves its ring
pub left_changes : (table : RingTable) (class m : ℕ) → IsIn table class m → ChangesRing table (left table class m) class (without m (ring_of table class))
left_changes table class m in' = with_ring_changes table class (without m (ring_of table class)) (in_within table class m in')

-- where it is the first, what is behind it is left
pub left_first : (table : RingTable) (class m : ℕ) → slice_get (ring_of table class) 0 ≡ Some m → ring_of (left table class m) class ≡ drop 1 (ring_of table class)
left_first table class m first =
    let whole : ring_of table class ≡ m ∷ drop 1 (ring_of table class) = first_is (ring_of table class) m first in
    let in' : IsIn table class m = Contains-first (ring_of table class) m (sym first) in
    (left_changes table class m in').here ∙ ap (without m) whole ∙ without_first m (drop 1 (ring_of table class))

-- what is in a ring once a meta has left was there, and isn't that meta
pub left_was : (table : RingTable) (class m some n : ℕ) → IsTable table → IsIn table class m → IsIn (left table class m) some n → IsIn table some n × (n ≢ m)
left_was table class m some n is in' = changed_each
    (λ xs. xs)
    (λ c k. IsIn table c k × (k ≢ m))
    table
    (left table class m)
    class
    (without m (ring_of table class))
    (left_changes table class m in')
    (λ k here. (
      Contains-without (ring_of table class) m k in' here,
      λ same.
          without_meta (ring_of table class) m (ring_once table class is) in' (subst (Contains (without m (ring_of table class))) same here),
    ))
    (λ other k apart here. (here, λ same. apart (one_ring table other class m is (subst (IsIn table other) same here) in')))
    some
    n

-- each other meta stays in its ring
pub left_stays : (table : RingTable) (class m some n : ℕ) → IsIn table class m → n ≢ m → IsIn table some n → IsIn (left table class m) some n
left_stays table class m some n in' other =
    changed_stays table (left table class m) class (without m (ring_of table class)) some n (left_changes table class m in') (λ here. without_other (ring_of table class) m n in' here other)

-- the meta that left is in no ring
pub left_unlisted : (table : RingTable) (class m : ℕ) → IsTable table → IsIn table class m → ¬ IsListed (left table class m) m
left_unlisted table class m is in' listed =
    let found : (some : ℕ) × (some < length (left table class m).rings) × IsIn (left table class m) some m = class_of (left table class m) m listed in
    (left_was table class m found.0 m is in' found.2).1 refl

-- the rings have the same metas once one is turned
pub turned_was : (table : RingTable) (class m some n : ℕ) → IsIn table class m → IsIn (turned table class m) some n → IsIn table some n
turned_was table class m some n in' = changed_each
    (λ xs. xs)
    (IsIn table)
    table
    (turned table class m)
    class
    (rotated m (ring_of table class))
    (turned_changes table class m (in_within table class m in'))
    (λ k here. Contains-rotated (ring_of table class) m k in' here)
    (λ other k apart here. here)
    some
    n

pub turned_stays : (table : RingTable) (class m some n : ℕ) → IsIn table class m → IsIn table some n → IsIn (turned table class m) some n
turned_stays table class m some n in' =
    changed_stays table (turned table class m) class (rotated m (ring_of table class)) some n (turned_changes table class m (in_within table class m in')) (rotated_has (ring_of table class) m n in')

-- the meta is then the first of its ring
pub turned_first : (table : RingTable) (class m : ℕ) → IsIn table class m → slice_get (ring_of (turned table class m) class) 0 ≡ Some m
turned_first table class m in' = ap (λ ring. slice_get ring 0) (turned_changes table class m (in_within table class m in')).here
