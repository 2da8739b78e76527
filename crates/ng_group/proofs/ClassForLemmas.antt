-- What is left where the masks of a ring's first group were read.
use Rattle.std.proofs.Common.{◌≡◌, ◌≢◌, ◌⊎◌, ℕ, ◌+◌, ◌*◌, ◌%◌, ◌^◌, ◌<◌, ◌≤◌, ◌↔◌, eqb, cond, Bool, true, false, List, [], ◌∷◌, ◌++◌, None, Some, refl, sym, ap, subst, ◌∙◌, ⊎_elim, inl, inr, not, nat_eq, true≢false, arith}
use Rattle.std.specs.Bool.{IsTrue}
use Rattle.std.proofs.lemmas.Bool.{cases_eq, eq-eqb, ne_eqb}
use Rattle.std.specs.List.{slice_get, slice_index}
use Rattle.std.specs.Option.{is_some}
use Rattle.std.specs.Prelude.{IsNone, Option}
use Rattle.std.proofs.lemmas.List.{append-nil, append_cancel_left}
use Rattle.ng_lists.specs.Rings.{ring_of}
use Rattle.ng_lists.proofs.MemberLemmas.{Contains-first}
use Rattle.ng_view.specs.Loads.{Loads, freed_read}
use Rattle.ng_mapper.specs.Mapping.{Span}
use Rattle.ng_mapper.specs.Runs as mapper
use Rattle.ng_mapper.specs.declared.refusals.Refusals.{Refusals}
use Rattle.ng_meta.specs.Place.{IsMetaPlace}
use Rattle.ng_view.specs.Lists.{Among}
use Rattle.ng_view.specs.LockSteps.{avail_read}
use Rattle.ng_view.specs.Steps.{read}
use Rattle.ng_view.specs.declared.view.Group.{Group}
use Rattle.ng_view.specs.declared.view.Start.{Start}
use Rattle.ng_view.specs.declared.view.View.{View}
use Rattle.ng_ledger.specs.Groups.{IsOfClass}
use Rattle.ng_ledger.specs.Rings.{AreRinged}
use Rattle.ng_ledger.specs.Standing.{Ledger}
use Rattle.ng_ledger.proofs.RingLemmas.{grow}
use Rattle.ng_serve.specs.Reads.{Notes, NotesBy, Reads}
use Rattle.ng_serve.proofs.Readings.{notes_avail, notes_freed, notes_reads, notes_then, reads_none}
use Rattle.ng_class.specs.Class.{IsLeastClass}
use Rattle.ng_policy.specs.Coarse.{GoesUp}
use Rattle.ng_group.specs.ClassFor.{IsClassFor, IsLooked, IsReady}
use Rattle.ng_group.specs.Serving.{with_search}
use Rattle.ng_group.specs.States.{IsResting, Resting, State, ledger_of}
use Rattle.ng_group.specs.Steps.{Came}
use Rattle.ng_group.proofs.MappingLemmas.{with_seat}
use Rattle.ng_group.proofs.WordLemmas.{followed_same}
use Rattle.ng_group.proofs.WorkingLemmas.{searched, searched_hand}

-- ---- the first group of a ring
pub first_live : {M P : Type 0} (start : Start) (span : M → Span) (runs : M → List mapper.Run) (refused : M → Refusals) (s : State M P) (class m : ℕ)
    → Resting start span runs refused s → class < 48 → Some m ≡ slice_get (ring_of s.rings class) 0 → IsOfClass s.seat.desk.groups m class
first_live start span runs refused s class m rests known first =
    rests.working.stands.ringed.grouped class m known (Contains-first (ring_of s.rings class) m first)

-- where its meta's cells are
pub record HasCells (pages m : ℕ) : Type 0 where
  pub whole : m % 4 ≡ 0
  pub inside : m + 40 ≤ 4096 * pages

pub first_cells : {M P : Type 0} (start : Start) (span : M → Span) (runs : M → List mapper.Run) (refused : M → Refusals) (s : State M P) (class m : ℕ)
    → Resting start span runs refused s → class < 48 → Some m ≡ slice_get (ring_of s.rings class) 0 → HasCells start.pages m
first_cells start span runs refused s class m rests known first =
    let is = first_live start span runs refused s class m rests known first in
    let place : IsMetaPlace m start.pages = subst (λ (k : ℕ). IsMetaPlace k start.pages) is.of_meta (rests.working.stands.groups.each is.group is.there).place in
    let stands : m ≡ 4096 * place.page + 24 + 40 * place.i = place.stands in
    record { whole = omega (arith, stands); inside = omega (arith, stands, place.inside, place.counted) }

-- both masks of a meta are the words, and tell whether there is a slot in one of them
abbrev Shows : Bool → ℕ → List (ℕ × ℕ) → Type 0
Shows ready m words = (avail : ℕ) × (freed : ℕ) × (words ≡ (m + 24, avail) ∷ (m + 28, freed) ∷ []) × (IsTrue ready ↔ ((0 < avail % 2 ^ 32) ⊎ (0 < freed)))

-- ---- both masks were read
pub record ReadsMasks (v : View) (m avail freed : ℕ) (u w : View) : Type 0 where
  pub live : (group : Group) × Among group v.desk.groups × (group.meta ≡ m)
  pub first : Loads v (m + 24) avail u
  pub then' : Loads u (m + 28) freed w

abbrev pub with_masks : View → ℕ → ℕ → ℕ → View
with_masks v m avail freed = read (freed_read (read (avail_read v m avail) (m + 24) avail) m freed) (m + 28) freed

module _ {v : View} {m avail freed : ℕ} {u w : View} (reads : ReadsMasks v m avail freed u w) where
  mid : u ≡ read (avail_read v m avail) (m + 24) avail
  mid =
      let same : reads.live.0.meta ≡ m = reads.live.2 in
      subst (λ (k : ℕ). u ≡ read (avail_read v k avail) (m + 24) avail) same
      (reads.first.avail reads.live.0 reads.live.1 (ap (λ k. k + 24) (sym same)))

  last : w ≡ read (freed_read u m freed) (m + 28) freed
  last =
      let same : reads.live.0.meta ≡ m = reads.live.2 in
      let still : Among reads.live.0 u.desk.groups = subst (λ (x : View). Among reads.live.0 x.desk.groups) (sym mid) reads.live.1 in
      subst (λ (k : ℕ). w ≡ read (freed_read u k freed) (m + 28) freed) same
      (reads.then'.freed reads.live.0 still (ap (λ k. k + 28) (sym same)))

  pub masks_view : w ≡ with_masks v m avail freed
  masks_view = subst (λ (x : View). w ≡ read (freed_read x m freed) (m + 28) freed) mid last

  pub masks_search : w ≡ with_search v w
  masks_search = subst (λ (x : View). x ≡ with_search v x) (sym masks_view) refl

  abbrev pub words : List (ℕ × ℕ)
  words = (m + 24, avail) ∷ (m + 28, freed) ∷ []

  noted : NotesBy v words w
  noted =
      let first : NotesBy v ((m + 24, avail) ∷ []) u = notes_avail v u m (m + 24) avail mid in
      let second : NotesBy u ((m + 28, freed) ∷ []) w = notes_freed u w m (m + 28) freed last in
      notes_then v u w ((m + 24, avail) ∷ []) ((m + 28, freed) ∷ []) first second

  pub masks_notes : Notes v w
  masks_notes = record { words = words; noted = noted }

  readings : w.readings ≡ v.readings ++ words
  readings = ap (λ (x : View). x.readings) noted.view

  pub masks_came : Came v w
  masks_came = record { words = words; readings = readings }

  pub masks_words : (came : Came v w) → came.words ≡ words
  masks_words came = append_cancel_left {A = ℕ × ℕ} v.readings came.words words (sym came.readings ∙ readings)

  grown : (k : ℕ) → Among k v.desk.zero_avail → Among k (cond (eqb (avail % 4294967296) 0) (m ∷ v.desk.zero_avail) v.desk.zero_avail)
  grown k there = by_test (eqb (avail % 4294967296) 0)
    where
      by_test : (b : Bool) → Among k (cond b (m ∷ v.desk.zero_avail) v.desk.zero_avail)
      by_test true = inr there
      by_test false = there

  -- whether there is a slot in one of them
  pub masks_ready : (came : Came v w) (ring : List ℕ) (ready : Bool) → Some m ≡ slice_get ring 0 → (IsTrue ready ↔ ((0 < avail % 2 ^ 32) ⊎ (0 < freed))) → IsReady came.words ring ready
  masks_ready came ring ready first is = record {
    empty = λ none. absurd (never none);
    first = λ k firsts. subst (Shows ready k) (sym (masks_words came)) (subst (λ (n : ℕ). Shows ready n words) (same k firsts) (avail, freed, refl, is));
  }
    where
      same : (k : ℕ) → slice_get ring 0 ≡ Some k → m ≡ k
      same k firsts = some_same m k (first ∙ firsts)
        where
          some_same : (a b : ℕ) → Some a ≡ Some b → a ≡ b
          some_same a b e = cc

      never : ring ≡ [] → ⊥
      never none = none_some m (first ∙ ap (λ (xs : List ℕ). slice_get xs 0) none)
        where
          none_some : (a : ℕ) → Some a ≡ None → ⊥
          none_some a e = cc

-- a core at rest still is
pub rests_read : {start : Start} {span : Span} {live : List mapper.Run} {refused : Refusals} {l : Ledger} {m avail freed : ℕ} {u w : View}
    → ReadsMasks l.seat m avail freed u w → IsResting start span live refused l → IsResting start span live refused (with_seat l w)
rests_read {start = start} {span = span} {live = live} {refused = refused} {l = l} {m = m} {avail = avail} {w = w} reads rests = record {
  working = searched start span live refused l w l.rings rests.working (masks_search reads) refl ringed
      (followed_same rests.working.followed (ap (λ (x : View). x.desk.active) (masks_view reads)));
  still = ap (λ (x : View). x.held) (masks_view reads) ∙ rests.still;
  answered = ap (λ (x : View). x.excuses) (masks_view reads) ∙ rests.answered;
  at_rest = λ n hand. rests.at_rest n ((searched_hand l w l.rings (masks_search reads)).none_more n hand);
}
  where
    ringed : AreRinged l.seat.desk.groups w.desk.listed w.desk.zero_avail l.rings
    ringed = subst (λ (x : View). AreRinged l.seat.desk.groups x.desk.listed x.desk.zero_avail l.rings) (sym (masks_view reads))
        (grow l.seat.desk.groups l.seat.desk.listed l.seat.desk.zero_avail (cond (eqb (avail % 4294967296) 0) (m ∷ l.seat.desk.zero_avail) l.seat.desk.zero_avail) l.rings (grown reads) rests.working.stands.ringed)

-- ---- the same of a view that a call is given of its core
module _ {M P : Type 0} (start : Start) (span : M → Span) (runs : M → List mapper.Run) (refused : M → Refusals) where
  rests_there : {s s' : State M P} → s ≡ s' → Resting start span runs refused s' → Resting start span runs refused s
  rests_there {s} {s'} same rests = subst (λ (x : State M P). Resting start span runs refused x) (sym same) rests

  pub cells_at : {s s' : State M P} (class m : ℕ) → s ≡ s' → Resting start span runs refused s' → class < 48 → Some m ≡ slice_get (ring_of s.rings class) 0 → HasCells start.pages m
  cells_at {s} {s'} class m same rests known first = first_cells start span runs refused s class m (rests_there same rests) known first

  pub masks_at : {s s' : State M P} (class m avail freed : ℕ) {u w : View} → s ≡ s' → Resting start span runs refused s' → class < 48 → Some m ≡ slice_get (ring_of s.rings class) 0
      → Loads s.seat (m + 24) avail u → Loads u (m + 28) freed w → ReadsMasks s.seat m avail freed u w
  masks_at {s} {s'} class m avail freed same rests known first loads next =
      let is = first_live start span runs refused s class m (rests_there same rests) known first in
      record { live = (is.group, is.there, is.of_meta); first = loads; then' = next }

  pub rests_at : {s s' : State M P} {m avail freed : ℕ} {u w : View} → s ≡ s' → Resting start span runs refused s' → ReadsMasks s.seat m avail freed u w
      → IsResting start (span s.mapper) (runs s.mapper) (refused s.mapper) (with_seat (ledger_of s) w)
  rests_at {s} {s'} same rests reads = rests_read {l = ledger_of s} reads (rests_there same rests)

pub came_at : {M P : Type 0} {s s' : State M P} {m avail freed : ℕ} {u w : View} → s ≡ s' → ReadsMasks s.seat m avail freed u w → Came s'.seat w
came_at {M = M} {P = P} {w = w} same reads = subst (λ (x : State M P). Came x.seat w) same (masks_came reads)

pub notes_at : {M P : Type 0} {s s' : State M P} {m avail freed : ℕ} {u w : View} → s ≡ s' → ReadsMasks s.seat m avail freed u w → Notes s'.seat w
notes_at {M = M} {P = P} {w = w} same reads = subst (λ (x : State M P). Notes x.seat w) same (masks_notes reads)

pub ready_at : {M P : Type 0} {s s' : State M P} {m avail freed : ℕ} {u w : View} (class : ℕ) (ready : Bool) → s ≡ s' → ReadsMasks s.seat m avail freed u w
    → Some m ≡ slice_get (ring_of s.rings class) 0 → (IsTrue ready ↔ ((0 < avail % 2 ^ 32) ⊎ (0 < freed)))
    → (came : Came s'.seat w) → IsReady came.words (ring_of s'.rings class) ready
ready_at {M = M} {P = P} {s = s} {w = w} class ready same reads first is =
    subst (λ (x : State M P). (came : Came x.seat w) → IsReady came.words (ring_of x.rings class) ready) same (λ came. masks_ready reads came (ring_of s.rings class) ready first is)

-- an empty ring has no slot, and no word was read
pub empty_ready : (v : View) (ring : List ℕ) → ring ≡ [] → (came : Came v v) → IsReady came.words ring false
empty_ready v ring none came = record {
  empty = λ same. (refl, append_cancel_left {A = ℕ × ℕ} v.readings came.words [] (sym came.readings ∙ sym (append-nil v.readings)));
  first = λ m first. absurd (no_first m (sym (ap (λ (xs : List ℕ). slice_get xs 0) none) ∙ first));
}
  where
    no_first : (m : ℕ) → None ≡ Some m → ⊥
    no_first m e = cc

-- nothing was read
pub looked_same : {M P : Type 0} (s : State M P) → IsLooked s s
looked_same s =
    let none : Reads s.seat s.seat = reads_none s.seat s.seat refl in
    record { state = refl; notes = record { words = none.words; noted = notes_reads s.seat s.seat none } }

-- ---- a test of the two masks
some_test : (n : ℕ) → IsTrue (not (nat_eq n 0)) ↔ (0 < n)
some_test n = (to, from)
  where
    to : IsTrue (not (nat_eq n 0)) → 0 < n
    to t = ⊎_elim (λ (none : n ≡ 0). absurd (true≢false (sym t ∙ ap not (eq-eqb n 0 none)))) (λ (other : n ≢ 0). omega arith) (cases_eq n 0)

    from : 0 < n → IsTrue (not (nat_eq n 0))
    from some = ap not (ne_eqb n 0 (λ none. omega (arith, some, none)))

pub test_avail : (mask avail freed : ℕ) → mask ≡ avail % 2 ^ 32 → 0 < mask → IsTrue (not (nat_eq mask 0)) ↔ ((0 < avail % 2 ^ 32) ⊎ (0 < freed))
test_avail mask avail freed same some = (λ t. inl (subst (λ n. 0 < n) same some), λ h. (some_test mask).1 some)

pub test_freed : (mask avail freed : ℕ) → mask ≡ avail % 2 ^ 32 → mask ≡ 0 → IsTrue (not (nat_eq freed 0)) ↔ ((0 < avail % 2 ^ 32) ⊎ (0 < freed))
test_freed mask avail freed same none =
    (λ t. inr ((some_test freed).0 t), λ h. ⊎_elim (λ (x : 0 < avail % 2 ^ 32). absurd (let y : 0 < 0 = subst (λ n. 0 < n) (sym same ∙ none) x in omega (arith, y))) (λ (x : 0 < freed). (some_test freed).1 x) h)

-- ---- the greatest class

-- whether a ring has a meta
has_some : List ℕ → Bool
has_some [] = false
has_some (m ∷ ring) = true

has_some_is : (ring : List ℕ) → IsTrue (has_some ring) ↔ (ring ≢ [])
unfolding has_some
has_some_is [] = (λ t. absurd (true≢false (sym t)), λ some. absurd (some refl))
has_some_is (m ∷ ring) = (λ t e. never e, λ some. refl)
  where
    never : m ∷ ring ≡ [] → ⊥
    never e = cc

-- serves by itself
pub greatest_serves : {M P : Type 0} (s : State M P) (bytes class : ℕ) → class + 1 ≡ 48 → IsLeastClass bytes class → IsClassFor s s bytes class
greatest_serves s bytes class greatest least = record {
  least = class;
  is_least = least;
  came = record { words = []; readings = sym (append-nil s.seat.readings) };
  has_group = has_some (ring_of s.rings class);
  has_is = has_some_is (ring_of s.rings class);
  ready = true;
  ready_is = λ up. absurd (odd up.fine.even);
  unread = λ down. refl;
  up = (λ more. absurd (omega (arith, more)), λ up. absurd (odd up.fine.even));
  stays = λ other. refl;
}
  where
    odd : class % 2 ≡ 0 → ⊥
    odd even = omega (arith, even, greatest)

-- ---- the least class serves where the next wouldn't with a slot
has_tells : (first : Option ℕ) (has : Bool) (ring : List ℕ) → has ≡ is_some first → (IsNone first ↔ (ring ≡ [])) → IsTrue has ↔ (ring ≢ [])
has_tells None has ring is none = (λ t. absurd (true≢false (sym t ∙ is)), λ some. absurd (some (none.0 refl)))
has_tells (Some m) has ring is none = (λ t empty. true≢false (none.1 empty), λ some. is)

pub least_serves : {M P : Type 0} {s now : State M P} (bytes class answer : ℕ) (first : Option ℕ) (has : Bool) → s ≡ now → has ≡ is_some first
    → (IsNone first ↔ (ring_of s.rings class ≡ []))
    → ((answer ≡ class + 1) ↔ GoesUp class has (slice_index s.usage class) (slice_index s.usage (class + 1)) true) → answer ≡ class
    → IsLeastClass bytes class → IsClassFor now now bytes class
least_serves {M = M} {P = P} {s = s} bytes class answer first has same has_is none up is least = subst (λ (x : State M P). IsClassFor x x bytes class) same (record {
  least = class;
  is_least = least;
  came = record { words = []; readings = sym (append-nil s.seat.readings) };
  has_group = has;
  has_is = has_tells first has (ring_of s.rings class) has_is none;
  ready = true;
  ready_is = λ goes. absurd (down goes);
  unread = λ stays. refl;
  up = (λ more. absurd (omega (arith, more)), λ goes. absurd (down goes));
  stays = λ other. refl;
})
  where
    down : ¬ GoesUp class has (slice_index s.usage class) (slice_index s.usage (class + 1)) true
    down goes =
        let more : answer ≡ class + 1 = up.1 goes in
        omega (arith, more, is)
