-- What a search of a ring leaves, and what calls leave one after the other.
use Rattle.std.proofs.Common.{◌≡◌, ◌≢◌, ℕ, ◌<◌, List, [], ◌++◌, Contains, refl, sym, ap, ◌∙◌, subst, arith}
use Rattle.std.specs.List.{slice_index}
use Rattle.std.proofs.lemmas.List.{append_assoc, append-nil}
use Rattle.ng_mapper.specs.Mapping.{Span}
use Rattle.ng_mapper.specs.Runs as mapper
use Rattle.ng_mapper.specs.declared.refusals.Refusals.{Refusals}
use Rattle.ng_lists.specs.Rings.{RingTable}
use Rattle.ng_view.specs.declared.view.Start.{Start}
use Rattle.ng_view.specs.declared.view.View.{View}
use Rattle.ng_ledger.specs.Rings.{AreRinged, IsIn}
use Rattle.ng_ledger.specs.Standing.{KeepsHand, Ledger}
use Rattle.ng_group.specs.Serving.{OnlyRing, with_search}
use Rattle.ng_group.specs.States.{AreFollowed, IsWorking, State, Working, ledger_of}
use Rattle.ng_group.specs.Steps.{Came, GoesOn, LeavesBelow}

-- ---- a ring was searched
pub searched : (start : Start) (span : Span) (live : List mapper.Run) (refused : Refusals) (l : Ledger) (w : View) (t : RingTable)
    → IsWorking start span live refused l → w ≡ with_search l.seat w → t.pages ≡ l.rings.pages
    → AreRinged l.seat.desk.groups w.desk.listed w.desk.zero_avail t → AreFollowed w.desk.active l.seat.desk.counter t l.counter
    → IsWorking start span live refused (record l { seat = w; rings = t })
searched start span live refused l w t works view pages ringed followed =
    subst (λ (v : View). IsWorking start span live refused (record l { seat = v; rings = t })) (sym view) (record {
      space = record {
        lower = works.space.lower;
        upper = works.space.upper;
        size = works.space.size;
        rings = pages ∙ works.space.rings;
        stock = works.space.stock;
        parents = works.space.parents;
      };
      stands = record {
        groups = works.stands.groups;
        ringed = ringed;
        free = works.stands.free;
        of_areas = works.stands.of_areas;
        area = works.stands.area;
        mapped = works.stands.mapped;
        served = works.stands.served;
        founded = works.stands.founded;
        used = works.stands.used;
        nested = works.stands.nested;
        carried = works.stands.carried;
      };
      followed = followed;
      counted = works.counted;
      leads = works.leads;
      bookless = works.bookless;
    })

-- nothing in hand changes
pub searched_hand : (l : Ledger) (w : View) (t : RingTable)
    → w ≡ with_search l.seat w → KeepsHand l (record l { seat = w; rings = t })
searched_hand l w t view =
    subst (λ (v : View). KeepsHand l (record l { seat = v; rings = t })) (sym view) (record {
      none_more = λ m h. h;
      none_less = λ m h. h;
      blank = λ m h known. known;
    })

-- ---- words were read
pub came_same : (v : View) → Came v v
came_same v = record { words = []; readings = sym (append-nil v.readings) }

pub came_then : (v u w : View) → Came v u → Came u w → Came v w
came_then v u w first second = record {
  words = first.words ++ second.words;
  readings = second.readings
      ∙ ap (λ (l : List (ℕ × ℕ)). l ++ second.words) first.readings
      ∙ append_assoc v.readings first.words second.words;
}

-- ---- what a call leaves whatever it answers
pub goes_same : (v : View) → GoesOn v v
goes_same v = record { came = came_same v; next = refl }

pub goes_then : (v u w : View) → GoesOn v u → GoesOn u w → GoesOn v w
goes_then v u w first second = record {
  came = came_then v u w first.came second.came;
  next = second.next ∙ first.next;
}

-- ---- the classes below one
pub below_then : (class : ℕ) (before mid after : Ledger)
    → LeavesBelow class before mid → LeavesBelow class mid after → LeavesBelow class before after
below_then class before mid after first second = record {
  rings = λ k below. second.rings k below ∙ first.rings k below;
  usage = λ k below. second.usage k below ∙ first.usage k below;
  bare = λ k m below in' noted. second.bare k m below (moved k m below in') (first.bare k m below in' noted);
}
  where
    moved : (k m : ℕ) → k < class → IsIn before.rings k m → IsIn mid.rings k m
    moved k m below in' = subst (λ (ring : List ℕ). Contains ring m) (sym (first.rings k below)) in'

-- ---- the ring of a class alone
pub only_then : {M P : Type 0} (class : ℕ) (before mid after : State M P)
    → OnlyRing class before mid → OnlyRing class mid after → OnlyRing class before after
only_then {M} {P} class before mid after first second = record {
  state = second.state
      ∙ ap (λ (s : State M P). record s { seat = after.seat; rings = after.rings; bounces = after.bounces }) first.state;
  view = second.view ∙ ap (λ (v : View). with_search v after.seat) first.view;
  came = came_then before.seat mid.seat after.seat first.came second.came;
  rings = λ k apart. second.rings k apart ∙ first.rings k apart;
  bare = λ k m known apart in' noted. second.bare k m known apart (moved k m apart in') (first.bare k m known apart in' noted);
}
  where
    moved : (k m : ℕ) → k ≢ class → IsIn before.rings k m → IsIn mid.rings k m
    moved k m apart in' = subst (λ (ring : List ℕ). Contains ring m) (sym (first.rings k apart)) in'

pub only_goes : {M P : Type 0} (class : ℕ) (before after : State M P)
    → OnlyRing class before after → GoesOn before.seat after.seat
only_goes class before after only = record {
  came = only.came;
  next = ap (λ (v : View). v.desk.next) only.view;
}

pub only_below : {M P : Type 0} (class : ℕ) (before after : State M P)
    → class < 48 → OnlyRing class before after → LeavesBelow class (ledger_of before) (ledger_of after)
only_below {M} {P} class before after known only = record {
  rings = λ k below. only.rings k (apart k below);
  usage = λ k below. ap (λ (s : State M P). slice_index s.usage k) only.state;
  bare = λ k m below in' noted. only.bare k m (omega (arith, below, known)) (apart k below) in' noted;
}
  where
    apart : (k : ℕ) → k < class → k ≢ class
    apart k below same = absurd (omega (arith, below, same))

-- the books after it are those before with another seat and other rings
only_ledger : {M P : Type 0} (class : ℕ) (before after : State M P)
    → OnlyRing class before after → ledger_of after ≡ record (ledger_of before) { seat = after.seat; rings = after.rings }
only_ledger {M} {P} class before after only = ap (λ (s : State M P). ledger_of s) only.state

pub only_hand : {M P : Type 0} (class : ℕ) (before after : State M P)
    → OnlyRing class before after → KeepsHand (ledger_of before) (ledger_of after)
only_hand class before after only =
    subst (KeepsHand (ledger_of before)) (sym (only_ledger class before after only))
    (searched_hand (ledger_of before) after.seat after.rings only.view)

-- and what holds whenever a call runs still does
pub only_works : {M P : Type 0} (start : Start) (span : M → Span) (runs : M → List mapper.Run) (refused : M → Refusals) (class : ℕ) (before after : State M P)
    → OnlyRing class before after → after.rings.pages ≡ before.rings.pages
    → AreRinged before.seat.desk.groups after.seat.desk.listed after.seat.desk.zero_avail after.rings
    → Working start span runs refused before → AreFollowed after.seat.desk.active before.seat.desk.counter after.rings before.counter
    → Working start span runs refused after
only_works {M} {P} start span runs refused class before after only pages ringed works followed =
    subst (λ (s : State M P). Working start span runs refused s) (sym only.state)
    (searched start (span before.mapper) (runs before.mapper) (refused before.mapper) (ledger_of before) after.seat after.rings works only.view pages ringed followed)
