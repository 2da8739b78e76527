-- Rings whose metas all have avail noted as 0, the first too.
use Rattle.std.proofs.Common.{◌≡◌, ◌≢◌, ℕ, ◌<◌, List, [], ◌∷◌, drop, Contains, Some, sym, subst, ⊎_elim}
use Rattle.std.specs.List.{slice_get}
use Rattle.std.proofs.lemmas.List.Elements.{Contains-append_cases}
use Rattle.ng_view.specs.Lists.{Among}
use Rattle.ng_view.specs.declared.view.Group.{Group}
use Rattle.ng_lists.specs.Rings.{RingTable, ring_of}
use Rattle.ng_lists.proofs.CircleLemmas.{only}
use Rattle.ng_lists.proofs.MemberLemmas.{Contains-first}
use Rattle.ng_ledger.specs.Rings.{AreRinged, IsBare, IsIn, IsTable, left, turned}
use Rattle.ng_ledger.proofs.TableLemmas.{first_is, in_known, one_ring}
use Rattle.ng_ledger.proofs.StepLemmas.{left_first, left_was, turned_was}

-- they stay so as more are noted
pub bare_grows : (z more : List ℕ) (table : RingTable) (class : ℕ)
    → ((m : ℕ) → Among m z → Among m more) → IsBare z table class → IsBare more table class
bare_grows z more table class keeps bare m in' = keeps m (bare m in')

-- as the avail of a meta of another ring is no longer noted
pub bare_stocked : (z less : List ℕ) (table : RingTable) (class m other : ℕ)
    → IsTable table → IsIn table class m → other ≢ class → ((n : ℕ) → n ≢ m → Among n z → Among n less) → IsBare z table other → IsBare less table other
bare_stocked z less table class m other is in' apart keeps bare n here =
    keeps n (λ same. apart (one_ring table other class m is (subst (IsIn table other) same here) in')) (bare n here)

-- as a meta leaves
pub bare_leaves : (z : List ℕ) (table : RingTable) (class m other : ℕ)
    → IsTable table → IsIn table class m → IsBare z table other → IsBare z (left table class m) other
bare_leaves z table class m other is in' bare n here = bare n (left_was table class m other n is in' here).0

-- and as one is turned
pub bare_turns : (z : List ℕ) (table : RingTable) (class m other : ℕ)
    → IsIn table class m → IsBare z table other → IsBare z (turned table class m) other
bare_turns z table class m other in' bare n here = bare n (turned_was table class m other n in' here)

-- a ring whose first has avail noted as 0 is so
pub bare_first : (gs : List Group) (ls z : List ℕ) (table : RingTable) (class m : ℕ)
    → class < 48 → slice_get (ring_of table class) 0 ≡ Some m → Among m z → AreRinged gs ls z table → IsBare z table class
bare_first gs ls z table class m known first zero ringed n here = ⊎_elim
    (λ (new : Contains (m ∷ []) n). subst (λ k. Among k z) (sym (only m n new)) zero)
    (λ (old : Contains (drop 1 (ring_of table class)) n). ringed.tails class n known old)
    (Contains-append_cases (m ∷ []) (drop 1 (ring_of table class)) n (subst (λ xs. Contains xs n) (first_is (ring_of table class) m first) here))

-- what is left of a ring whose first leaves is so
pub bare_left : (gs : List Group) (ls z : List ℕ) (table : RingTable) (class m : ℕ)
    → IsTable table → slice_get (ring_of table class) 0 ≡ Some m → AreRinged gs ls z table → IsBare z (left table class m) class
bare_left gs ls z table class m is first ringed n here =
    let in' : IsIn table class m = Contains-first (ring_of table class) m (sym first) in
    ringed.tails class n (in_known table class m is in') (subst (λ xs. Contains xs n) (left_first table class m first) here)
