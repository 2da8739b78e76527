-- Steps on the seat by which more is noted of avail masks, and the slot that one of them takes.
use Rattle.std.proofs.Common.{◌≡◌, ℕ, ◌+◌, ◌*◌, ◌%◌, ◌^◌, ◌<◌, ◌≤◌, List, [], ◌∷◌, Some, refl, sym, ap, ◌∙◌, subst, ⊎_elim, inr, arith}
use Rattle.std.specs.Int.{bit_at}
use Rattle.std.specs.List.{slice_get}
use Rattle.std.proofs.lemmas.Bool.{cases_lt}
use Rattle.std.proofs.lemmas.List.{append_assoc}
use Rattle.std.proofs.lemmas.Nat.Bits.{bit_at-zero}
use Rattle.ng_class.specs.Class.{units_of}
use Rattle.ng_mapper.specs.Runs as mapper
use Rattle.ng_mapper.specs.Mapping.{Span}
use Rattle.ng_mapper.specs.declared.refusals.Refusals.{Refusals}
use Rattle.ng_lists.specs.Rings.{ring_of}
use Rattle.ng_lists.proofs.MemberLemmas.{Contains-first}
use Rattle.ng_view.specs.Lists.{Among}
use Rattle.ng_view.specs.Steps.{in_motion}
use Rattle.ng_view.specs.declared.view.Held.{Held}
use Rattle.ng_view.specs.declared.view.Start.{Start}
use Rattle.ng_view.specs.declared.view.View.{View}
use Rattle.ng_view.specs.Fetches.{HasGroup}
use Rattle.ng_view.specs.Masks.{TellsAvail}
use Rattle.ng_mask.specs.Fetches.{FindsNone, LeavesOthers, TakesLast, TakesLowest}
use Rattle.ng_mask.proofs.Bits.{bit_at_low}
use Rattle.ng_serve.specs.Reads.{Notes}
use Rattle.ng_ledger.specs.Groups.{IsOfClass}
use Rattle.ng_ledger.specs.Rings.{AreRinged}
use Rattle.ng_ledger.proofs.RingLemmas.{grow}
use Rattle.ng_group.specs.Serving.{HasServed, OnlyRing, with_search}
use Rattle.ng_group.specs.States.{State, Working}
use Rattle.ng_group.specs.Steps.{Came}
use Rattle.ng_group.proofs.ServingLemmas.{only_seat}
use Rattle.ng_group.proofs.TakeLemmas.{Serves, plain_room}
use Rattle.ng_group.proofs.WordLemmas.{followed_same}
use Rattle.ng_group.proofs.WorkingLemmas.{only_works}

-- ---- steps on the seat by which more is noted of avail masks
pub record Grows (v w : View) : Type 0 where
  pub view : w ≡ with_search v w
  pub came : Came v w
  pub listed : w.desk.listed ≡ v.desk.listed
  pub active : w.desk.active ≡ v.desk.active
  pub zero : (m : ℕ) → Among m v.desk.zero_avail → Among m w.desk.zero_avail

pub grows_groups : (v w : View) → Grows v w → w.desk.groups ≡ v.desk.groups
grows_groups v w grows = ap (λ (u : View). u.desk.groups) grows.view

-- loads by which masks are noted
pub notes_grow : (v w : View) → Notes v w → Grows v w
notes_grow v w notes = record {
  view = subst (λ (u : View). u ≡ with_search v u) (sym notes.noted.view) refl;
  came = record { words = notes.words; readings = ap (λ (u : View). u.readings) notes.noted.view };
  listed = ap (λ (u : View). u.desk.listed) notes.noted.view;
  active = ap (λ (u : View). u.desk.active) notes.noted.view;
  zero = notes.noted.zero_avail;
}

pub notes_held : (v w : View) → Notes v w → w.held ≡ v.held
notes_held v w notes = ap (λ (u : View). u.held) notes.noted.view

-- the avail mask was found to be 0
pub none_grows : (v w : View) (meta : ℕ) → FindsNone v meta w → Grows v w
none_grows v w meta finds = subst (Grows v) (sym finds.view) (record {
  view = refl;
  came = record { words = (meta + 24, finds.word) ∷ []; readings = refl };
  listed = refl;
  active = refl;
  zero = λ m there. inr there;
})

-- its lowest slot was taken
pub lowest_grows : (v w : View) (meta index : ℕ) → HasGroup v meta → TakesLowest v meta index w → Grows v w
lowest_grows v w meta index has takes = ⊎_elim
    (λ (last : TakesLast v meta index takes.word w). subst (Grows v) (sym (last.view has.group has.there has.of_meta)) (record {
      view = refl;
      came = record { words = (meta + 24, takes.word) ∷ []; readings = refl };
      listed = refl;
      active = refl;
      zero = λ m there. inr there;
    }))
    (λ (others : LeavesOthers v meta index takes.word w). subst (Grows v) (sym (others.view has.group has.there has.of_meta)) (record {
      view = refl;
      came = record { words = (meta + 24, takes.word) ∷ (meta + 24, others.again) ∷ []; readings = append_assoc v.readings ((meta + 24, takes.word) ∷ []) ((meta + 24, others.again) ∷ []) };
      listed = refl;
      active = refl;
      zero = λ m there. there;
    }))
    takes.views

-- what it leaves
pub record Passes {M P : Type 0} (start : Start) (span : M → Span) (runs : M → List mapper.Run) (refused : M → Refusals) (class : ℕ) (before after : State M P) : Type 0 where
  pub working : Working start span runs refused after
  pub only : OnlyRing class before after

pub passes : {M P : Type 0} (start : Start) (span : M → Span) (runs : M → List mapper.Run) (refused : M → Refusals) (s now : State M P) (class : ℕ) (w : View)
    → s ≡ now → Grows s.seat w → Working start span runs refused now → Passes start span runs refused class now (record s { seat = w })
passes {M} {P} start span runs refused s now class w same grows works =
    subst (λ (u : State M P). Passes start span runs refused class u (record s { seat = w })) same
    (at (subst (λ (u : State M P). Working start span runs refused u) (sym same) works))
  where
    only' : OnlyRing class s (record s { seat = w })
    only' = only_seat class s w grows.view grows.came (λ k m below apart there. grows.zero m)

    ringed : AreRinged s.seat.desk.groups s.seat.desk.listed s.seat.desk.zero_avail s.rings → AreRinged s.seat.desk.groups w.desk.listed w.desk.zero_avail s.rings
    ringed are =
        subst (λ (ls : List ℕ). AreRinged s.seat.desk.groups ls w.desk.zero_avail s.rings) (sym grows.listed)
        (grow s.seat.desk.groups s.seat.desk.listed s.seat.desk.zero_avail w.desk.zero_avail s.rings grows.zero are)

    at : Working start span runs refused s → Passes start span runs refused class s (record s { seat = w })
    at works' = record {
      working = only_works start span runs refused class s (record s { seat = w }) only' refl (ringed works'.stands.ringed) works' (followed_same works'.followed grows.active);
      only = only';
    }

-- ---- the lowest slot of the first group serves
some_bit : (n i : ℕ) → bit_at n i ≡ 1 → 0 < n
some_bit n i set = ⊎_elim
    (λ (more : 0 < n). more)
    (λ (none : n ≤ 0).
    let zero : n ≡ 0 = omega (arith, none) in
    let clear : bit_at n i ≡ 0 = subst (λ (k : ℕ). bit_at k i ≡ 0) (sym zero) (bit_at-zero i) in
    absurd (omega (arith, clear, set)))
    (cases_lt 0 n)

pub lowest_serves : {M P : Type 0} (start : Start) (span : M → Span) (runs : M → List mapper.Run) (refused : M → Refusals) (s now : State M P) (class bytes first index : ℕ) (w : View)
    → s ≡ now → class < 48 → bytes + 4 ≤ 16 * units_of class → slice_get (ring_of now.rings class) 0 ≡ Some first → now.seat.held ≡ [] → TakesLowest s.seat first index w
    → Working start span runs refused now → Serves start span runs refused class bytes first index now (record s { seat = w })
lowest_serves {M} {P} start span runs refused s now class bytes first index w same known fits begins idle takes works =
    subst (λ (u : State M P). Serves start span runs refused class bytes first index u (record s { seat = w })) same
    (at
    (subst (λ (u : State M P). slice_get (ring_of u.rings class) 0 ≡ Some first) (sym same) begins)
    (subst (λ (u : State M P). u.seat.held ≡ []) (sym same) idle)
    (subst (λ (u : State M P). Working start span runs refused u) (sym same) works))
  where
    served : IsOfClass s.seat.desk.groups first class → Grows s.seat w → s.seat.held ≡ [] → HasServed class bytes w first index
    served of grows idle' =
        let tells : TellsAvail s.seat of.group takes.word = takes.tells of.group of.there of.of_meta in
        record {
          group = of.group;
          there = subst (Among of.group) (sym (grows_groups s.seat w grows)) of.there;
          of_meta = of.of_meta;
          of_class = of.of_class;
          within = tells.within index takes.lowest.known (bit_at_low takes.word index takes.lowest.known ∙ takes.lowest.set);
          motion = subst (λ (hs : List Held). w.held ≡ in_motion of.group index ∷ hs) idle' (takes.slot of.group of.there of.of_meta);
          roomy = plain_room of.group class bytes (tells.serves (some_bit (takes.word % 2 ^ 32) index takes.lowest.set)).plain of.of_class known fits;
        }

    at : slice_get (ring_of s.rings class) 0 ≡ Some first → s.seat.held ≡ [] → Working start span runs refused s → Serves start span runs refused class bytes first index s (record s { seat = w })
    at begins' idle' works' =
        let of = works'.stands.ringed.grouped class first known (Contains-first (ring_of s.rings class) first (sym begins')) in
        let has : HasGroup s.seat first = record { group = of.group; there = of.there; of_meta = of.of_meta } in
        let grows = lowest_grows s.seat w first index has takes in
        let passed = passes start span runs refused s s class w refl grows works' in
        record { working = passed.working; only = passed.only; served = served of grows idle' }
