-- The list law as a meta comes into a ring or leaves it, as a ring is turned, and as metas are noted.
use Rattle.std.proofs.Common.{◌≡◌, ◌≢◌, ◌⊎◌, ℕ, ◌+◌, ◌<◌, List, [], ◌∷◌, ◌++◌, drop, Contains, Some, refl, ap, sym, subst, ◌∙◌, ⊎_elim, inl, inr, arith}
use Rattle.std.specs.List.{slice_get}
use Rattle.std.proofs.lemmas.List.Elements.{Contains-append_cases, Contains-append_left, Contains-append_right, Contains-push}
use Rattle.ng_view.specs.Lists.{Among}
use Rattle.ng_view.specs.LockSteps.{groups_but, others}
use Rattle.ng_view.specs.declared.view.Group.{Group}
use Rattle.ng_lists.specs.Rings.{IsListed, RingTable, ring_of, rotated, without}
use Rattle.ng_lists.proofs.ChainLemmas.{Contains-head}
use Rattle.ng_lists.proofs.CircleLemmas.{only}
use Rattle.ng_lists.proofs.DistinctLemmas.{IsDistinct, distinct_head}
use Rattle.ng_lists.proofs.MemberLemmas.{Contains-enqueued, Contains-rotated, Contains-without, rotated_has, without_other}
use Rattle.ng_ledger.specs.Groups.{AreGroups, IsOfClass, IsUnborn}
use Rattle.ng_ledger.specs.Rings.{AreRinged, ChangesRing, IsBare, IsIn, IsTable, entered, entered_first, left, turned}
use Rattle.ng_ledger.proofs.AmongLemmas.{among_others, others_were}
use Rattle.ng_ledger.proofs.GroupLemmas.{class_first, class_more, class_stays, one_class, unborn_class}
use Rattle.ng_ledger.proofs.TableLemmas.{changed_each, changed_here, changed_listed, first_is, in_known, in_listed, in_within, listed_class, one_ring, ring_once, tail_in, tail_with, tail_without}
use Rattle.ng_ledger.proofs.StepLemmas.{entered_changes, first_changes, left_changes, left_was, turned_changes}

-- ---- what the law says of one meta

-- a meta of a ring is noted as listed
pub noted_from_listed : (gs : List Group) (ls z : List ℕ) (table : RingTable) (m : ℕ)
    → IsTable table → AreRinged gs ls z table → IsListed table m → Among m ls
noted_from_listed gs ls z table m is ringed listed =
    let found : (class : ℕ) × (class < 48) × IsIn table class m = listed_class table m is listed in
    ringed.noted_listed found.0 m found.1 found.2

-- a meta without a group is in no ring
pub unlisted : (gs : List Group) (ls z : List ℕ) (table : RingTable) (m : ℕ)
    → IsTable table → AreRinged gs ls z table → IsUnborn gs m → ¬ IsListed table m
unlisted gs ls z table m is ringed unborn listed =
    let found : (class : ℕ) × (class < 48) × IsIn table class m = listed_class table m is listed in
    unborn_class gs m found.0 unborn (ringed.grouped found.0 m found.1 found.2)

-- the class of a meta's ring is its group's
pub class_of_member : (pages : ℕ) (gs : List Group) (ls z : List ℕ) (table : RingTable) (class other m : ℕ)
    → AreGroups pages gs → IsTable table → AreRinged gs ls z table → IsIn table class m → IsOfClass gs m other → class ≡ other
class_of_member pages gs ls z table class other m are is ringed in' of_class =
    one_class pages gs m class other are (ringed.grouped class m (in_known table class m is in') in') of_class

-- ---- steps that change no ring

-- more metas have avail noted as 0
pub grow : (gs : List Group) (ls z more : List ℕ) (table : RingTable)
    → ((m : ℕ) → Among m z → Among m more) → AreRinged gs ls z table → AreRinged gs ls more table
grow gs ls z more table keeps ringed = record {
  grouped = ringed.grouped;
  noted_listed = ringed.noted_listed;
  ringed = ringed.ringed;
  tails = λ class m known in'. keeps m (ringed.tails class m known in');
}

-- a group comes
pub more_groups : (gs : List Group) (g : Group) (ls z : List ℕ) (table : RingTable)
    → AreRinged gs ls z table → AreRinged (g ∷ gs) ls z table
more_groups gs g ls z table ringed = record {
  grouped = λ class m known in'. class_more gs g m class (ringed.grouped class m known in');
  noted_listed = ringed.noted_listed;
  ringed = ringed.ringed;
  tails = ringed.tails;
}

-- the groups of a meta that is in no ring go
pub retire : (gs : List Group) (ls z : List ℕ) (table : RingTable) (m : ℕ)
    → ¬ IsListed table m → AreRinged gs ls z table → AreRinged (groups_but m gs) ls (others m z) table
retire gs ls z table m absent ringed = record {
  grouped = λ class n known in'. class_stays gs m n class (ringed.grouped class n known in') (apart class n in');
  noted_listed = ringed.noted_listed;
  ringed = ringed.ringed;
  tails = λ class n known in'. among_others m z n (apart class n (tail_in (ring_of table class) n in')) (ringed.tails class n known in');
}
  where
    apart : (class n : ℕ) → IsIn table class n → n ≢ m
    apart class n in' same = absent (subst (IsListed table) same (in_listed table class n in'))

-- the avail of a ring's first is no longer noted
pub stock : (gs : List Group) (ls z less : List ℕ) (table : RingTable) (class m : ℕ) (rest : List ℕ)
    → IsTable table → ring_of table class ≡ m ∷ rest → ((n : ℕ) → n ≢ m → Among n z → Among n less) → AreRinged gs ls z table → AreRinged gs ls less table
stock gs ls z less table class m rest is whole keeps ringed = record {
  grouped = ringed.grouped;
  noted_listed = ringed.noted_listed;
  ringed = ringed.ringed;
  tails = λ other n known in'. keeps n (apart other n in') (ringed.tails other n known in');
}
  where
    first : IsIn table class m
    first = subst (λ xs. Contains xs m) (sym whole) (Contains-head m rest)

    apart : (other n : ℕ) → Contains (drop 1 (ring_of table other)) n → n ≢ m
    apart other n in' same =
        let behind : Contains (drop 1 (ring_of table other)) m = subst (Contains (drop 1 (ring_of table other))) same in' in
        let here : class ≡ other = one_ring table class other m is first (tail_in (ring_of table other) m behind) in
        let tail : Contains rest m = subst (λ xs. Contains (drop 1 xs) m) (ap (ring_of table) (sym here) ∙ whole) behind in
        distinct_head m rest (subst IsDistinct whole (ring_once table class is)) m tail refl

-- the same where a read says that it is the first
pub stock_alone : (gs : List Group) (ls z less : List ℕ) (table : RingTable) (class m : ℕ)
    → IsTable table → slice_get (ring_of table class) 0 ≡ Some m → ((n : ℕ) → n ≢ m → Among n z → Among n less) → AreRinged gs ls z table → AreRinged gs ls less table
stock_alone gs ls z less table class m is first keeps ringed =
    stock gs ls z less table class m (drop 1 (ring_of table class)) is (first_is (ring_of table class) m first) keeps ringed

-- ---- steps that change one ring

-- what such a step owes of the ring, and of the metas that are noted as listed
record OwesRing (gs : List Group) (listed zero : List ℕ) (before after : RingTable) (class : ℕ) (ring : List ℕ) : Type 0 where
  changed : ChangesRing before after class ring
  grouped : (m : ℕ) → class < 48 → Contains ring m → IsOfClass gs m class
  noted : (m : ℕ) → class < 48 → Contains ring m → Among m listed
  others_noted : (other m : ℕ) → other < 48 → other ≢ class → IsIn before other m → Among m listed
  found : (m : ℕ) → Among m listed → IsListed after m
  tail : (m : ℕ) → class < 48 → Contains (drop 1 ring) m → Among m zero

ringed_changed : (gs : List Group) (ls listed z : List ℕ) (before after : RingTable) (class : ℕ) (ring : List ℕ)
    → AreRinged gs ls z before → OwesRing gs listed z before after class ring → AreRinged gs listed z after
ringed_changed gs ls listed z before after class ring ringed owed = record {
  grouped = λ some m known in'. changed_each (λ xs. xs) (λ c k. c < 48 → IsOfClass gs k c) before after class ring owed.changed
      (λ k here below. owed.grouped k below here)
      (λ other k apart here below. ringed.grouped other k below here)
      some m in' known;
  noted_listed = λ some m known in'. changed_each (λ xs. xs) (λ c k. c < 48 → Among k listed) before after class ring owed.changed
      (λ k here below. owed.noted k below here)
      (λ other k apart here below. owed.others_noted other k below apart here)
      some m in' known;
  ringed = owed.found;
  tails = λ some m known in'. changed_each (drop 1) (λ c k. c < 48 → Among k z) before after class ring owed.changed
      (λ k here below. owed.tail k below here)
      (λ other k apart here below. ringed.tails other k below here)
      some m in' known;
}

-- a meta of the class comes into the ring, at some place of it
joined : (gs : List Group) (ls z : List ℕ) (before after : RingTable) (class m : ℕ) (ring : List ℕ) → ChangesRing before after class ring → IsOfClass gs m class
    → ((n : ℕ) → Contains ring n → IsIn before class n ⊎ (n ≡ m)) → ((n : ℕ) → IsIn before class n → Contains ring n) → Contains ring m → ((n : ℕ) → class < 48 → Contains (drop 1 ring) n → Among n z)
    → AreRinged gs ls z before → AreRinged gs (m ∷ ls) z after
joined gs ls z before after class m ring changed of_class was stays here tail ringed = ringed_changed gs ls (m ∷ ls) z before after class ring ringed (record {
  changed = changed;
  grouped = λ n below in'. ⊎_elim (λ old. ringed.grouped class n below old) (λ same. subst (λ k. IsOfClass gs k class) (sym same) of_class) (was n in');
  noted = λ n below in'. ⊎_elim (λ old. inr (ringed.noted_listed class n below old)) (λ same. inl same) (was n in');
  others_noted = λ other n below apart in'. inr (ringed.noted_listed other n below in');
  found = found;
  tail = tail;
})
  where
    found : (n : ℕ) → Among n (m ∷ ls) → IsListed after n
    found n (inl same) = subst (IsListed after) (sym same) (in_listed after class m (changed_here before after class ring m changed here))
    found n (inr there) = changed_listed before after class ring n changed (stays n) (ringed.ringed n there)

-- a meta of the class comes last, with avail noted as 0
pub enter : (gs : List Group) (ls z : List ℕ) (table : RingTable) (class m : ℕ)
    → IsTable table → class < 48 → IsOfClass gs m class → Among m z → AreRinged gs ls z table → AreRinged gs (m ∷ ls) z (entered table class m)
enter gs ls z table class m is known of_class zero ringed = joined
    gs
    ls
    z
    table
    (entered table class m)
    class
    m
    (ring_of table class ++ m ∷ [])
    (entered_changes table class m (omega (arith, known, is.classes)))
    of_class
    (Contains-enqueued (ring_of table class) m)
    (Contains-append_left (ring_of table class) (m ∷ []))
    (Contains-push (ring_of table class) m)
    (λ n below in'. ⊎_elim (ringed.tails class n below) (λ same. subst (λ k. Among k z) (sym same) zero) (tail_with (ring_of table class) m n in'))
    ringed

-- a new group comes first in its ring, whose metas all have avail noted as 0
pub first : (gs : List Group) (ls z more : List ℕ) (table : RingTable) (class : ℕ) (g : Group)
    → IsTable table → class < 48 → g.tag ≡ class + 1 → IsUnborn gs g.meta → IsBare z table class → ((m : ℕ) → Among m z → Among m more)
    → AreRinged gs ls z table → AreRinged (g ∷ gs) (g.meta ∷ ls) more (entered_first table class g.meta)
first gs ls z more table class g is known of_class unborn bare keeps ringed = joined
    (g ∷ gs)
    ls
    more
    table
    (entered_first table class g.meta)
    class
    g.meta
    (g.meta ∷ ring_of table class)
    (first_changes table class g.meta (omega (arith, known, is.classes)) (unlisted gs ls z table g.meta is ringed unborn))
    (class_first gs g class of_class)
    (λ n in'. ⊎_elim (λ new. inr (only g.meta n new)) (λ old. inl old) (Contains-append_cases (g.meta ∷ []) (ring_of table class) n in'))
    (Contains-append_right (g.meta ∷ []) (ring_of table class))
    (Contains-head g.meta (ring_of table class))
    (λ n below in'. keeps n (bare n in'))
    (more_groups gs g ls more table (grow gs ls z more table keeps ringed))

-- a meta leaves its ring
pub leave : (gs : List Group) (ls z : List ℕ) (table : RingTable) (class m : ℕ)
    → IsTable table → IsIn table class m → AreRinged gs ls z table → AreRinged gs (others m ls) z (left table class m)
leave gs ls z table class m is in' ringed = ringed_changed gs ls (others m ls) z table (left table class m) class (without m (ring_of table class)) ringed (record {
  changed = left_changes table class m in';
  grouped = λ n below here. ringed.grouped class n below (Contains-without (ring_of table class) m n in' here);
  noted = λ n below here. noted class n below (changed_here table (left table class m) class (without m (ring_of table class)) n (left_changes table class m in') here);
  others_noted = λ other n below apart here. among_others m ls n (λ same. apart (one_ring table other class m is (subst (IsIn table other) same here) in')) (ringed.noted_listed other n below here);
  found = found;
  tail = λ n below here. ringed.tails class n below (tail_without (ring_of table class) m n in' here);
})
  where
    noted : (some n : ℕ) → some < 48 → IsIn (left table class m) some n → Among n (others m ls)
    noted some n below here =
        let was : IsIn table some n × (n ≢ m) = left_was table class m some n is in' here in
        among_others m ls n was.1 (ringed.noted_listed some n below was.0)

    found : (n : ℕ) → Among n (others m ls) → IsListed (left table class m) n
    found n there =
        let was : Among n ls × (n ≢ m) = others_were m ls n there in
        changed_listed table (left table class m) class (without m (ring_of table class)) n (left_changes table class m in') (λ here. without_other (ring_of table class) m n in' here was.1) (ringed.ringed n was.0)

-- a ring is turned whose metas all have avail noted as 0
pub turn : (gs : List Group) (ls z : List ℕ) (table : RingTable) (class m : ℕ)
    → IsIn table class m → IsBare z table class → AreRinged gs ls z table → AreRinged gs ls z (turned table class m)
turn gs ls z table class m in' bare ringed = ringed_changed gs ls ls z table (turned table class m) class (rotated m (ring_of table class)) ringed (record {
  changed = changed;
  grouped = λ n below here. ringed.grouped class n below (was n here);
  noted = λ n below here. ringed.noted_listed class n below (was n here);
  others_noted = λ other n below apart here. ringed.noted_listed other n below here;
  found = λ n there. changed_listed table (turned table class m) class (rotated m (ring_of table class)) n changed (rotated_has (ring_of table class) m n in') (ringed.ringed n there);
  tail = λ n below here. bare n (was n (tail_in (rotated m (ring_of table class)) n here));
})
  where
    changed : ChangesRing table (turned table class m) class (rotated m (ring_of table class))
    changed = turned_changes table class m (in_within table class m in')

    was : (n : ℕ) → Contains (rotated m (ring_of table class)) n → IsIn table class n
    was n = Contains-rotated (ring_of table class) m n in'
