-- The first group of a ring, which stays in it or leaves it.
use Rattle.std.proofs.Common.{◌≡◌, ◌≢◌, ℕ, ◌+◌, ◌%◌, ◌^◌, ◌<◌, false, List, [], ◌∷◌, Contains, Some, refl, sym, ap, ◌∙◌, subst, inl, inr, arith}
use Rattle.std.specs.Prelude.{IfSome, None, Option}
use Rattle.std.specs.Int.{trailing_zeros, w32}
use Rattle.std.specs.List.{slice_get}
use Rattle.std.proofs.lemmas.Nat.Bits.{bit_at-trailing_zeros}
use Rattle.ng_mapper.specs.Runs as mapper
use Rattle.ng_mapper.specs.Mapping.{Span}
use Rattle.ng_mapper.specs.declared.refusals.Refusals.{Refusals}
use Rattle.ng_lists.specs.Rings.{RingTable, ring_of, without}
use Rattle.ng_lists.proofs.MemberLemmas.{Contains-first}
use Rattle.ng_view.specs.Lists.{Among}
use Rattle.ng_view.specs.LockSteps.{active_set, others, read_bits}
use Rattle.ng_view.specs.declared.view.Start.{Start}
use Rattle.ng_view.specs.declared.view.View.{View}
use Rattle.ng_view.specs.Notes.{NotesRing}
use Rattle.ng_serve.specs.Reads.{AllBare}
use Rattle.ng_serve.proofs.Looks.{is_read}
use Rattle.ng_serve.proofs.Readings.{among_left}
use Rattle.ng_ledger.specs.Rings.{AreRinged, IsBare, IsIn, IsTable, left}
use Rattle.ng_ledger.proofs.BareLemmas.{bare_left}
use Rattle.ng_ledger.proofs.RingLemmas.{leave}
use Rattle.ng_ledger.proofs.StepLemmas.{left_changes, left_first}
use Rattle.ng_ledger.proofs.TableLemmas.{first_is}
use Rattle.ng_group.specs.Serving.{OnlyRing, StartsWalk}
use Rattle.ng_group.specs.States.{State, Working, first_of}
use Rattle.ng_group.proofs.WordLemmas.{followed_ring, followed_same, set_came, set_search}
use Rattle.ng_group.proofs.WorkingLemmas.{only_works}
use Rattle.ng_group.proofs.ServingLemmas.{live_at, noted_active, noted_avail, noted_came, noted_held, noted_leaves, noted_search, noted_stays, only_here, only_seat}

-- ---- the first group stays in its ring, or leaves it
pub record Walks {M P : Type 0} (start : Start) (span : M → Span) (runs : M → List mapper.Run) (refused : M → Refusals) (class first : ℕ) (before after : State M P) : Type 0 where
  pub working : Working start span runs refused after
  pub only : OnlyRing class before after
  pub walk : StartsWalk class first before after

-- a freed mask that isn't 0 has a bit, which is noted
some_marked : (v w : View) (first n : ℕ) → n < 2 ^ 32 → n ≢ 0 → NotesRing v first false n w → (i : ℕ) × Among {A = ℕ × ℕ} (first, i) w.desk.set_freed
some_marked v w first n fits some notes =
    let bit = bit_at-trailing_zeros w32 n (omega (arith, some)) fits in (
      trailing_zeros w32 n,
      subst (λ (x : View). Among {A = ℕ × ℕ} (first, trailing_zeros w32 n) x.desk.set_freed) (sym notes.view)
          (among_left (read_bits first n) v.desk.set_freed (first, trailing_zeros w32 n) (is_read first n (trailing_zeros w32 n) bit.0 bit.1)),
    )

pub first_stays : {M P : Type 0} (start : Start) (span : M → Span) (runs : M → List mapper.Run) (refused : M → Refusals) (s now : State M P) (class first n : ℕ) (w : View)
    → s ≡ now → class < 48 → slice_get (ring_of now.rings class) 0 ≡ Some first → IsBare now.seat.desk.zero_avail now.rings class → n ≢ 0
    → NotesRing s.seat first false n w → Working start span runs refused now
    → Walks start span runs refused class first now (record s { seat = w })
first_stays {M} {P} start span runs refused s now class first n w same known begins bare some notes works =
    subst (λ (t : State M P). Walks start span runs refused class first t (record s { seat = w })) same
    (stays (subst (λ (t : State M P). IsBare t.seat.desk.zero_avail t.rings class) (sym same) bare) (subst (λ (t : State M P). Working start span runs refused t) (sym same) works))
  where
    kept : (m : ℕ) → Among m s.seat.desk.zero_avail → Among m w.desk.zero_avail
    kept m = subst (Among m) (sym (noted_avail s.seat w first n notes))

    only : OnlyRing class s (record s { seat = w })
    only = only_seat class s w (noted_search s.seat w first n notes) (noted_came s.seat w first n notes) (λ k m known apart in' zero. kept m zero)

    ringed : AreRinged s.seat.desk.groups s.seat.desk.listed s.seat.desk.zero_avail s.rings → AreRinged s.seat.desk.groups w.desk.listed w.desk.zero_avail s.rings
    ringed are =
        subst (λ (ls : List ℕ). AreRinged s.seat.desk.groups ls w.desk.zero_avail s.rings) (sym (noted_stays s.seat w first n some notes))
        (subst (λ (z : List ℕ). AreRinged s.seat.desk.groups s.seat.desk.listed z s.rings) (sym (noted_avail s.seat w first n notes)) are)

    marked : (i : ℕ) × Among {A = ℕ × ℕ} (first, i) w.desk.set_freed
    marked =
        let live = live_at start span runs refused s now class first same works known (Contains-first (ring_of now.rings class) first (sym begins)) in
        some_marked s.seat w first n (notes.tells live.group live.there live.of_meta).fits some notes

    stays : IsBare s.seat.desk.zero_avail s.rings class → Working start span runs refused s → Walks start span runs refused class first s (record s { seat = w })
    stays bare' works' = record {
      working = only_works start span runs refused class s (record s { seat = w }) only refl (ringed works'.stands.ringed) works'
          (followed_same works'.followed (noted_active s.seat w first n notes));
      only = only;
      walk = record {
        came = noted_came s.seat w first n notes;
        left = inl (refl, marked);
        bare = λ m in'. kept m (bare' m in');
        held = noted_held s.seat w first n notes;
        bounces = refl;
      };
    }

pub first_leaves : {M P : Type 0} (start : Start) (span : M → Span) (runs : M → List mapper.Run) (refused : M → Refusals) (s now : State M P) (class first n : ℕ) (w u : View) (t : RingTable)
    → s ≡ now → IsTable s.rings → class < 48 → slice_get (ring_of now.rings class) 0 ≡ Some first → IsBare now.seat.desk.zero_avail now.rings class → n ≡ 0
    → NotesRing s.seat first false n w → t ≡ left s.rings class first → u ≡ active_set w class (first_of (ring_of t class))
    → Working start span runs refused now → Walks start span runs refused class first now (record s { seat = u; rings = t })
first_leaves {M} {P} start span runs refused s now class first n w u t same is known begins bare none noted gone sets works =
    subst (λ (x : View). Walks start span runs refused class first now (record s { seat = x; rings = t })) (sym sets)
    (subst (λ (t' : RingTable). Walks start span runs refused class first now (record s { seat = active_set w class (first_of (ring_of t' class)); rings = t' })) (sym gone)
    (subst (λ (before : State M P). Walks start span runs refused class first before after) same
    (leaves
    (subst (λ (u : State M P). slice_get (ring_of u.rings class) 0 ≡ Some first) (sym same) begins)
    (subst (λ (u : State M P). IsBare u.seat.desk.zero_avail u.rings class) (sym same) bare)
    (subst (λ (u : State M P). Working start span runs refused u) (sym same) works))))
  where
    notes : NotesRing s.seat first false 0 w
    notes = subst (λ (k : ℕ). NotesRing s.seat first false k w) none noted

    word : ℕ
    word = first_of (ring_of (left s.rings class first) class)

    after : State M P
    after = record s { seat = active_set w class word; rings = left s.rings class first }

    kept : (m : ℕ) → Among m s.seat.desk.zero_avail → Among m w.desk.zero_avail
    kept m = subst (Among m) (sym (noted_avail s.seat w first 0 notes))

    only : IsIn s.rings class first → OnlyRing class s after
    only in' = only_here class s (active_set w class word) (left s.rings class first) (without first (ring_of s.rings class))
        (set_search s.seat w class word (noted_search s.seat w first 0 notes)) (set_came s.seat w class word (noted_came s.seat w first 0 notes)) (left_changes s.rings class first in') (λ k m below apart there zero. kept m zero)

    ringed : IsIn s.rings class first → Among first s.seat.desk.zero_avail → AreRinged s.seat.desk.groups s.seat.desk.listed s.seat.desk.zero_avail s.rings
        → AreRinged s.seat.desk.groups w.desk.listed w.desk.zero_avail (left s.rings class first)
    ringed in' zero are =
        subst (λ (ls : List ℕ). AreRinged s.seat.desk.groups ls w.desk.zero_avail (left s.rings class first)) (sym (noted_leaves s.seat w first zero notes))
        (subst (λ (z : List ℕ). AreRinged s.seat.desk.groups (others first s.seat.desk.listed) z (left s.rings class first)) (sym (noted_avail s.seat w first 0 notes))
        (leave s.seat.desk.groups s.seat.desk.listed s.seat.desk.zero_avail s.rings class first is in' are))

    only_bare : AllBare ((first + 28, 0) ∷ [])
    only_bare word (inl is') = inr (ap (λ (x : ℕ × ℕ). x.1 % 2 ^ 32) is')
    only_bare word (inr none') = absurd none'

    leaves : slice_get (ring_of s.rings class) 0 ≡ Some first → IsBare s.seat.desk.zero_avail s.rings class → Working start span runs refused s → Walks start span runs refused class first s after
    leaves begins' bare' works' =
        let in' : IsIn s.rings class first = Contains-first (ring_of s.rings class) first (sym begins') in
        record {
          working = only_works start span runs refused class s after (only in') refl (ringed in' (bare' first in') works'.stands.ringed) works'
              (followed_ring works'.followed w.desk.active (left s.rings class first) class (without first (ring_of s.rings class)) (noted_active s.seat w first 0 notes) refl);
          only = only in';
          walk = record {
            came = record { words = (first + 28, 0) ∷ []; readings = ap (λ (u : View). u.readings) notes.view };
            left = inr (first_is (ring_of s.rings class) first begins' ∙ ap (λ (xs : List ℕ). first ∷ xs) (sym (left_first s.rings class first begins')), inl refl, only_bare);
            bare = λ m there. kept m (bare_left s.seat.desk.groups s.seat.desk.listed s.seat.desk.zero_avail s.rings class first is begins' works'.stands.ringed m there);
            held = noted_held s.seat w first 0 notes;
            bounces = refl;
          };
        }

-- the first of a ring, if there is one, is in it
pub some_first : (found : Option ℕ) (ring : List ℕ) → found ≡ slice_get ring 0 → IfSome found (λ m. Contains ring m)
some_first None ring is = tt
some_first (Some m) ring is = Contains-first ring m is
