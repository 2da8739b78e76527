-- A group whose slots are all in the seat leaves its ring, and the next of the ring becomes its first.
use Rattle.std.proofs.Common.{◌≡◌, ◌≢◌, ℕ, ◌+◌, ◌<◌, eqb, cond, Bool, true, false, true≢false, List, [], ◌∷◌, ◌++◌, Contains, IfNone, IfSome, None, Option, Some, drop, set, refl, sym, ap, ◌∙◌, subst, inl, inr, arith}
use Rattle.std.specs.List.{slice_get}
use Rattle.std.specs.Option.{option_eq}
use Rattle.std.proofs.lemmas.Bool.{eq-eqb, eqb-false, eqb-true}
use Rattle.ng_meta.specs.Place.{IsMetaPlace}
use Rattle.ng_mapper.specs.Mapping.{Span}
use Rattle.ng_mapper.specs.Runs as mapper
use Rattle.ng_mapper.specs.declared.refusals.Refusals.{Refusals}
use Rattle.ng_lists.specs.Rings.{IsListed, RingTable, ring_of, without}
use Rattle.ng_view.specs.Fetches.{HasGroup}
use Rattle.ng_view.specs.Masks.{TellsFreed}
use Rattle.ng_view.specs.Notes.{NotesRing}
use Rattle.ng_view.specs.Lists.{Among, find}
use Rattle.ng_view.specs.LockSteps.{active_set, has_number, others, outside, read_bits, ring_noted, ring_read}
use Rattle.ng_view.specs.Steps.{read}
use Rattle.ng_view.specs.declared.view.Group.{Group}
use Rattle.ng_view.specs.declared.view.Held.{Held}
use Rattle.ng_view.specs.declared.view.Start.{Start}
use Rattle.ng_view.specs.declared.view.View.{View}
use Rattle.ng_serve.specs.Groups.{AreInSpace}
use Rattle.ng_serve.specs.Takes.{StocksFreed, StocksInUse, with_masks}
use Rattle.ng_ledger.specs.Groups.{AreGroups, IsOfClass}
use Rattle.ng_ledger.specs.Rings.{AreRinged, IsIn, IsTable, left}
use Rattle.ng_ledger.specs.Standing.{Ledger}
use Rattle.ng_ledger.proofs.ElementLemmas.{contains_get}
use Rattle.ng_ledger.proofs.RingLemmas.{leave, stock_alone}
use Rattle.ng_ledger.proofs.StepLemmas.{left_first, left_unlisted}
use Rattle.ng_ledger.proofs.TableLemmas.{in_listed, one_ring}
use Rattle.ng_group.specs.Ending.{LeavesRing, Unlists}
use Rattle.ng_group.specs.Returning.{HasWhole}
use Rattle.ng_group.specs.Serving.{OnlyRing, with_search}
use Rattle.ng_group.specs.States.{AreFollowed, IsWorking, State, first_of, with_active}
use Rattle.ng_group.proofs.WordLemmas.{followed_ring, followed_same}
use Rattle.ng_group.proofs.WorkingLemmas.{searched}

-- ---- it is no more noted as listed

-- a number of a list is found in it
number_found : (m : ℕ) (ns : List ℕ) → Among m ns → has_number m ns ≡ true
number_found m [] there = elim there [ ]
number_found m (x ∷ xs) there = by_test (number_found m xs) (eqb x m) refl there
  where
    by_test : (Among m xs → has_number m xs ≡ true) → (b : Bool) → eqb x m ≡ b → Among m (x ∷ xs) → cond b true (has_number m xs) ≡ true
    by_test rest true is there = refl
    by_test rest false is (inl same) = absurd (eqb-false x m is (sym same))
    by_test rest false is (inr there) = rest there

-- the view where a meta is no more listed, whose masks were noted as 0
abbrev pub unlisted : View → ℕ → View
unlisted v m = read (ring_noted v (others m v.desk.listed) v.desk.zero_avail (m ∷ v.desk.zero_freed) (read_bits m 0 ++ v.desk.set_freed)) (m + 28) 0

pub unlisted_is : (v : View) (m n : ℕ) (w : View) → w ≡ read (ring_read v m false n) (m + 28) n → n ≡ 0 → Among m v.desk.zero_avail → w ≡ unlisted v m
unlisted_is v m n w view none there = view
    ∙ ap (λ k. read (ring_read v m false k) (m + 28) k) none
    ∙ ap (λ (b : Bool). read (ring_noted v (cond b (others m v.desk.listed) v.desk.listed) v.desk.zero_avail (m ∷ v.desk.zero_freed) (read_bits m 0 ++ v.desk.set_freed)) (m + 28) 0)
    (number_found m v.desk.zero_avail there)

pub noted_unlisted : (v w : View) (m n : ℕ) → HasWhole v m → NotesRing v m false n w → w ≡ unlisted v m
noted_unlisted v w m n whole notes =
    let tells : TellsFreed v whole.group n = notes.tells whole.group whole.there whole.of_meta in
    unlisted_is v m n w notes.view (tells.zero (subst (λ k. Among k v.desk.zero_freed) (sym whole.of_meta) whole.no_freed)) whole.no_avail

module _ (v w u : View) (m class word : ℕ) (is : w ≡ unlisted v m) (sets : u ≡ active_set w class word) where
  unlisted_set : u ≡ active_set (unlisted v m) class word
  unlisted_set = sets ∙ ap (λ (x : View). active_set x class word) is

  unlisted_search : u ≡ with_search v u
  unlisted_search = subst (λ (x : View). x ≡ with_search v x) (sym unlisted_set) refl

  pub unlisted_whole : HasWhole v m → HasWhole u m
  unlisted_whole whole = subst (λ (x : View). HasWhole x m) (sym unlisted_set) (record {
    group = whole.group;
    there = whole.there;
    of_meta = whole.of_meta;
    each = whole.each;
    only = whole.only;
    no_avail = whole.no_avail;
    no_freed = inl refl;
  })

  pub unlisted_works : (start : Start) (span : Span) (live : List mapper.Run) (refused : Refusals) (l : Ledger) (t : RingTable)
      → l.seat ≡ v → IsWorking start span live refused l → IsTable l.rings → IsIn l.rings class m → t ≡ left l.rings class m
      → word ≡ first_of (ring_of t class) → IsWorking start span live refused (record l { seat = u; rings = t })
  unlisted_works start span live refused l t seat works table in' turned first =
      searched start span live refused l u t works
      (subst (λ (x : View). u ≡ with_search x u) (sym seat) unlisted_search)
      (ap (λ (x : RingTable). x.pages) turned)
      (subst (λ (x : View). AreRinged l.seat.desk.groups x.desk.listed x.desk.zero_avail t) (sym unlisted_set)
      (subst (λ (x : View). AreRinged l.seat.desk.groups (others m x.desk.listed) x.desk.zero_avail t) seat
      (subst (AreRinged l.seat.desk.groups (others m l.seat.desk.listed) l.seat.desk.zero_avail) (sym turned)
      (leave l.seat.desk.groups l.seat.desk.listed l.seat.desk.zero_avail l.rings class m table in' works.stands.ringed))))
      (subst (λ (ws : List ℕ). AreFollowed ws l.seat.desk.counter t l.counter)
      (ap (λ (k : ℕ). set v.desk.active class k) (sym first) ∙ ap (λ (x : View). x.desk.active) (sym unlisted_set))
      (followed_ring works.followed v.desk.active t class (without m (ring_of l.rings class)) (ap (λ (x : View). x.desk.active) (sym seat)) turned))

-- and is in no ring
pub left_out : (before after : RingTable) (class m : ℕ) → IsTable before → IsIn before class m → after ≡ left before class m → ¬ IsListed after m
left_out before after class m table in' turned = subst (λ (t : RingTable). ¬ IsListed t m) (sym turned) (left_unlisted before class m table in')

-- ---- freed slots of the next become available

-- the live groups lie in the space
pub in_space : (pages : ℕ) (gs : List Group) → AreGroups pages gs → AreInSpace pages gs
in_space pages gs are g there = let is = are.each g there in record { whole = is.whole; inside = omega (arith, is.inside) }

-- a meta of a class's ring has its group
pub ring_group : (pages : ℕ) (v : View) (t : RingTable) (class m : ℕ) → AreGroups pages v.desk.groups → AreRinged v.desk.groups v.desk.listed v.desk.zero_avail t → class < 48 → IsIn t class m → HasGroup v m × IsMetaPlace m pages
ring_group pages v t class m are ringed known in' =
    let of : IsOfClass v.desk.groups m class = ringed.grouped class m known in' in
    (record { group = of.group; there = of.there; of_meta = of.of_meta }, subst (λ n. IsMetaPlace n pages) of.of_meta (are.each of.group of.there).place)

-- a number that is found is the one
pub number_is : (o : Option ℕ) (m : ℕ) → true ≡ option_eq eqb o (Some m) → o ≡ Some m
number_is None m is = absurd (true≢false is)
number_is (Some x) m is = ap (λ (k : ℕ). Some k) (eqb-true x m (sym is))

-- and one that isn't found is another
pub number_not : (o : Option ℕ) (m : ℕ) → false ≡ option_eq eqb o (Some m) → o ≢ Some m
number_not o m is same = true≢false (sym (ap (λ (x : Option ℕ). option_eq eqb x (Some m)) same ∙ eq-eqb m m refl) ∙ sym is)

-- the meta behind a ring's first has avail noted as 0, and is the first once that one has left
pub next_bare : (gs : List Group) (ls z : List ℕ) (before after : RingTable) (class m next : ℕ) → class < 48 → AreRinged gs ls z before
    → slice_get (ring_of before class) 0 ≡ Some m → after ≡ left before class m → slice_get (ring_of after class) 0 ≡ Some next → Among next z
next_bare gs ls z before after class m next known ringed first turned second =
    let rest : ring_of after class ≡ drop 1 (ring_of before class) = ap (λ (x : RingTable). ring_of x class) turned ∙ left_first before class m first in
    ringed.tails class next known (subst (λ xs. Contains xs next) rest (contains_get (ring_of after class) next second))

module _ (v w : View) (next : ℕ) (stocks : StocksFreed v next w) where
  stocked_search : w ≡ with_search v w
  stocked_search =
      let view : w ≡ with_masks v w stocks.changes.words = stocks.changes.view in
      view
      ∙ ap (λ (r : List (ℕ × ℕ)). record (with_search v w) { readings = r; desk = record (with_search v w).desk { listed = v.desk.listed; active = v.desk.active } }) (ap (λ (x : View). x.readings) (sym view))
      ∙ ap (λ (ls : List ℕ). record (with_search v w) { desk = record (with_search v w).desk { listed = ls; active = v.desk.active } }) (ap (λ (x : View). x.desk.listed) (sym view))
      ∙ ap (λ (ws : List ℕ). record (with_search v w) { desk = record (with_search v w).desk { active = ws } }) (ap (λ (x : View). x.desk.active) (sym view))

  stocked_groups : w.desk.groups ≡ v.desk.groups
  stocked_groups = ap (λ (x : View). x.desk.groups) stocks.changes.view

  pub stocked_whole : (m : ℕ) → m ≢ next → HasWhole v m → HasWhole w m
  stocked_whole m apart whole = record {
    group = whole.group;
    there = subst (Among whole.group) (sym stocked_groups) whole.there;
    of_meta = whole.of_meta;
    each = λ i within. subst (λ (hs : List Held). (h : Held) × (find m i hs ≡ Some h)) (sym stocks.held) (whole.each i within);
    only = ap (outside m) stocks.held ∙ whole.only;
    no_avail = stocks.changes.zero_avail m apart whole.no_avail;
    no_freed = stocks.changes.zero_freed m apart whole.no_freed;
  }

  pub stocked_works : (start : Start) (span : Span) (live : List mapper.Run) (refused : Refusals) (l : Ledger) (class : ℕ)
      → l.seat ≡ v → IsWorking start span live refused l → IsTable l.rings → slice_get (ring_of l.rings class) 0 ≡ Some next
      → IsWorking start span live refused (record l { seat = w })
  stocked_works start span live refused l class seat works table first =
      searched start span live refused l w l.rings works
      (subst (λ (x : View). w ≡ with_search x w) (sym seat) stocked_search)
      refl
      (subst (λ (ls : List ℕ). AreRinged l.seat.desk.groups ls w.desk.zero_avail l.rings) (ap (λ (x : View). x.desk.listed) seat ∙ sym (ap (λ (x : View). x.desk.listed) stocks.changes.view))
      (stock_alone l.seat.desk.groups l.seat.desk.listed l.seat.desk.zero_avail w.desk.zero_avail l.rings class next table first
      (λ n apart there. stocks.changes.zero_avail n apart (subst (λ (x : View). Among n x.desk.zero_avail) seat there)) works.stands.ringed))
      (followed_same works.followed (ap (λ (x : View). x.desk.active) stocks.changes.view ∙ ap (λ (x : View). x.desk.active) (sym seat)))

  pub stocked_only : {M P : Type 0} (class : ℕ) (s : State M P)
      → s.seat ≡ v → IsTable s.rings → slice_get (ring_of s.rings class) 0 ≡ Some next
      → OnlyRing class s (record s { seat = w })
  stocked_only {M} {P} class s seat table first = record {
    state = refl;
    view = subst (λ (x : View). w ≡ with_search x w) (sym seat) stocked_search;
    came = record { words = stocks.changes.words; readings = ap (λ (x : View). x.readings) stocks.changes.view ∙ ap (λ (x : View). x.readings ++ stocks.changes.words) (sym seat) };
    rings = λ k apart. refl;
    bare = λ k n known apart there noted. stocks.changes.zero_avail n
        (λ same. apart (one_ring s.rings k class next table (subst (IsIn s.rings k) same there) (contains_get (ring_of s.rings class) next first)))
        (subst (λ (x : View). Among n x.desk.zero_avail) seat noted);
  }

-- a meta in no ring isn't a ring's first
pub not_first : (t : RingTable) (class m next : ℕ) → ¬ IsListed t m → slice_get (ring_of t class) 0 ≡ Some next → m ≢ next
not_first t class m next absent first same = absent (subst (IsListed t) (sym same) (in_listed t class next (contains_get (ring_of t class) next first)))

-- ---- each step is told

module _ {M P : Type 0} {s now : State M P} (class meta : ℕ) (same : s ≡ now) where
  pub unlists_now : (n : ℕ) (w u : View) (t : RingTable) → IsIn now.rings class meta → NotesRing s.seat meta false n w → t ≡ left s.rings class meta
      → u ≡ active_set w class (first_of (ring_of t class)) → Unlists class meta now (record s { seat = u; rings = t })
  unlists_now n w u t member notes turned sets = record {
    member = member;
    mask = n;
    state = subst
        (λ (x : State M P). record s { seat = u; rings = t } ≡ with_active (record x { seat = read (ring_read x.seat meta false n) (meta + 28) n; rings = left x.rings class meta }) class) same
        (ap (λ (v : View). record s { seat = v; rings = t }) sets
        ∙ ap (λ (v : View). with_active (record s { seat = v; rings = t }) class) notes.view
        ∙ ap (λ (r : RingTable). with_active (record s { seat = read (ring_read s.seat meta false n) (meta + 28) n; rings = r }) class) turned);
  }

  module _ (before : State M P) (unlists : Unlists class meta before now) where
    unlists_named : Unlists class meta before s
    unlists_named = subst (Unlists class meta before) (sym same) unlists

    pub leaves_next : (next : ℕ) (w : View) → slice_get (ring_of before.rings class) 0 ≡ Some meta → slice_get (ring_of s.rings class) 0 ≡ Some next → StocksFreed s.seat next w
        → LeavesRing class meta before (record s { seat = w })
    leaves_next next w first second stocks = record {
      unlisted = s;
      unlists = unlists_named;
      first = λ is. (
        subst (λ (o : Option ℕ). IfNone o (record s { seat = w } ≡ s)) (sym second) tt,
        subst (λ (o : Option ℕ). IfSome o (λ n. StocksInUse s.seat n w × (record s { seat = w } ≡ record s { seat = w }))) (sym second) (stocks.steps, refl),
      );
      other = λ not. absurd (not first);
    }

    pub leaves_last : (after : State M P) → after ≡ s → slice_get (ring_of s.rings class) 0 ≡ None → LeavesRing class meta before after
    leaves_last after is none = record {
      unlisted = s;
      unlists = unlists_named;
      first = λ first. (
        subst (λ (o : Option ℕ). IfNone o (after ≡ s)) (sym none) is,
        subst (λ (o : Option ℕ). IfSome o (λ n. StocksInUse s.seat n after.seat × (after ≡ record s { seat = after.seat }))) (sym none) tt,
      );
      other = λ not. is;
    }

    pub leaves_other : (slice_get (ring_of before.rings class) 0 ≢ Some meta) → LeavesRing class meta before s
    leaves_other apart = record { unlisted = s; unlists = unlists_named; first = λ first. absurd (apart first); other = λ not. refl }
