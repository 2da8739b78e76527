-- A ring that is searched, and what none of its groups has.
use Rattle.std.proofs.Common.{◌≡◌, ◌≢◌, ℕ, ◌+◌, ◌%◌, ◌^◌, ◌<◌, ◌≤◌, List, [], ◌∷◌, ◌++◌, Contains, Some, refl, sym, ap, ◌∙◌, subst, ⊎_elim, inl, inr, arith}
use Rattle.std.specs.Prelude.{IfNone, IfSome, None, Option}
use Rattle.std.specs.List.{slice_get}
use Rattle.std.proofs.lemmas.Bool.{cases_eq}
use Rattle.std.proofs.lemmas.List.{append-nil, append_assoc}
use Rattle.std.proofs.lemmas.Nat.{pow_pos}
use Rattle.ng_class.proofs.Masks.{pow-le}
use Rattle.ng_mapper.specs.Runs as mapper
use Rattle.ng_mapper.specs.Mapping.{Span}
use Rattle.ng_mapper.specs.declared.refusals.Refusals.{Refusals}
use Rattle.ng_lists.specs.Rings.{ring_of}
use Rattle.ng_lists.proofs.CircleLemmas.{only}
use Rattle.ng_lists.proofs.MemberLemmas.{Contains-first}
use Rattle.ng_view.specs.Lists.{Among}
use Rattle.ng_view.specs.declared.view.Start.{Start}
use Rattle.ng_view.specs.declared.view.View.{View}
use Rattle.ng_mask.specs.Fetches.{FindsNone, LeavesOthers, TakesLast, TakesLowest}
use Rattle.ng_policy.specs.Bounce.{decayed}
use Rattle.ng_serve.specs.Choices.{FindsAllBare}
use Rattle.ng_serve.specs.Reads.{AllBare, IsBareIn, Notes}
use Rattle.ng_serve.proofs.Readings.{all_then, among_left, bare_right}
use Rattle.ng_ledger.specs.Rings.{IsBare, IsIn}
use Rattle.ng_ledger.proofs.BareLemmas.{bare_first, bare_grows}
use Rattle.ng_ledger.proofs.ElementLemmas.{first_or_behind}
use Rattle.ng_ledger.proofs.RingLemmas.{grow}
use Rattle.ng_ledger.proofs.TableLemmas.{nowhere}
use Rattle.ng_group.specs.Serving.{FindsNoFreed, FindsNoSlot, IsServedBy, OnlyRing, StartsWalk}
use Rattle.ng_group.specs.States.{State, Working}
use Rattle.ng_group.proofs.GrowLemmas.{none_grows, notes_held}
use Rattle.ng_group.proofs.ServingLemmas.{live_at}

-- ---- none is available in it
pub none_bare : {M P : Type 0} (start : Start) (span : M → Span) (runs : M → List mapper.Run) (refused : M → Refusals) (s now : State M P) (class first : ℕ) (w : View)
    → s ≡ now → class < 48 → slice_get (ring_of now.rings class) 0 ≡ Some first → FindsNone s.seat first w → Working start span runs refused now
    → IsBare w.desk.zero_avail s.rings class
none_bare {M} {P} start span runs refused s now class first w same known begins finds works =
    bare_first s.seat.desk.groups s.seat.desk.listed w.desk.zero_avail s.rings class first known
    (subst (λ (u : State M P). slice_get (ring_of u.rings class) 0 ≡ Some first) (sym same) begins)
    (subst (λ (u : View). Among first u.desk.zero_avail) (sym finds.view) (inl refl))
    (grow s.seat.desk.groups s.seat.desk.listed s.seat.desk.zero_avail w.desk.zero_avail s.rings (none_grows s.seat w first finds).zero
    (subst (λ (u : State M P). Working start span runs refused u) (sym same) works).stands.ringed)

pub none_held : (v w : View) (meta : ℕ) → FindsNone v meta w → w.held ≡ v.held
none_held v w meta finds = ap (λ (u : View). u.held) finds.view

readings_then : (first second third ws xs : List (ℕ × ℕ)) → second ≡ first ++ ws → third ≡ second ++ xs → third ≡ first ++ (ws ++ xs)
readings_then first second third ws xs one two = two ∙ ap (λ (l : List (ℕ × ℕ)). l ++ xs) one ∙ append_assoc first ws xs

one_bare : (a word : ℕ) → word % 2 ^ 32 ≡ 0 → AllBare ((a, word) ∷ [])
one_bare a word bare x (inl same) = inr (ap (λ (y : ℕ × ℕ). y.1 % 2 ^ 32) same ∙ bare)
one_bare a word bare x (inr none) = absurd none

-- and none is freed in any
pub no_slot : {M P : Type 0} (s now after : State M P) (class first : ℕ) (w : View)
    → s ≡ now → FindsNone s.seat first w → FindsNoFreed class first (record s { seat = w }) after → FindsNoSlot class now after
no_slot {M} {P} s now after class first w same finds freed = subst (λ (u : State M P). FindsNoSlot class u after) same (record {
  came = record {
    words = (first + 24, finds.word) ∷ freed.came.words;
    readings = readings_then s.seat.readings w.readings after.seat.readings ((first + 24, finds.word) ∷ []) freed.came.words (ap (λ (u : View). u.readings) finds.view) freed.came.readings;
  };
  read = λ m in'. ⊎_elim
      (λ (here : m ≡ first). subst (IsBareIn ((first + 24, finds.word) ∷ freed.came.words)) (sym here) (record {
        avail = finds.word;
        no_avail = finds.mask;
        avail_read = inl refl;
        freed_read = inr freed.freed;
      }))
      (λ (other : m ≡ first → ⊥). bare_right ((first + 24, finds.word) ∷ []) freed.came.words m (freed.read m other in'))
      (cases_eq m first);
  all = all_then ((first + 24, finds.word) ∷ []) freed.came.words (one_bare (first + 24) finds.word finds.mask) freed.all;
  left = freed.left;
  bare = freed.bare;
  held = freed.held ∙ none_held s.seat w first finds;
  bounces = freed.bounces;
})

-- ---- the walk finds no freed slot
pub no_freed : {M P : Type 0} (s now after : State M P) (class first : ℕ) (w : View)
    → s ≡ after → slice_get (ring_of now.rings class) 0 ≡ Some first → StartsWalk class first now after → FindsAllBare s.seat (ring_of s.rings class) w
    → FindsNoFreed class first now (record s { seat = w })
no_freed {M} {P} s now after class first w same begins walked finds =
    at (subst (λ (u : State M P). StartsWalk class first now u) (sym same) walked)
  where
    notes : Notes s.seat w
    notes = record { words = finds.words; noted = finds.noted }

    in' : IsIn now.rings class first
    in' = Contains-first (ring_of now.rings class) first (sym begins)

    stays : (walk : StartsWalk class first now s) → ring_of s.rings class ≡ ring_of now.rings class → (m : ℕ) → IsIn now.rings class m → IsBareIn (walk.came.words ++ finds.words) m
    stays walk whole m there = bare_right walk.came.words finds.words m (finds.bare m (subst (λ (xs : List ℕ). Contains xs m) (sym whole) there))

    behind : (walk : StartsWalk class first now s) → ring_of now.rings class ≡ first ∷ ring_of s.rings class → (m : ℕ) → m ≢ first → IsIn now.rings class m → IsBareIn (walk.came.words ++ finds.words) m
    behind walk whole m other there = bare_right walk.came.words finds.words m (finds.bare m (⊎_elim
        (λ (here : m ≡ first). absurd (other here))
        (λ (later : Contains (ring_of s.rings class) m). later)
        (first_or_behind first (ring_of s.rings class) m (subst (λ (xs : List ℕ). Contains xs m) whole there))))

    Whole : Type 0
    Whole = (ring_of s.rings class ≡ ring_of now.rings class) × ((i : ℕ) × Among {A = ℕ × ℕ} (first, i) s.seat.desk.set_freed)

    Gone : StartsWalk class first now s → Type 0
    Gone walk = (ring_of now.rings class ≡ first ∷ ring_of s.rings class) × Among {A = ℕ × ℕ} (first + 28, 0) walk.came.words × AllBare walk.came.words

    at : (walk : StartsWalk class first now s) → FindsNoFreed class first now (record s { seat = w })
    at walk = record {
      came = record { words = walk.came.words ++ finds.words; readings = readings_then now.seat.readings s.seat.readings w.readings walk.came.words finds.words walk.came.readings (ap (λ (u : View). u.readings) finds.noted.view) };
      freed = ⊎_elim
          (λ (whole : Whole). (stays walk whole.0 first in').freed_read)
          (λ (gone : Gone walk). among_left walk.came.words finds.words (first + 28, 0) gone.1)
          walk.left;
      read = λ m other there. ⊎_elim
          (λ (whole : Whole). stays walk whole.0 m there)
          (λ (gone : Gone walk). behind walk gone.0 m other there)
          walk.left;
      all = ⊎_elim
          (λ (whole : Whole). absurd (finds.unmarked first whole.1.0 (subst (λ (xs : List ℕ). Contains xs first) (sym whole.0) in') whole.1.1))
          (λ (gone : Gone walk). all_then walk.came.words finds.words gone.2 finds.all)
          walk.left;
      left = ⊎_elim
          (λ (whole : Whole). inl whole.0)
          (λ (gone : Gone walk). inr (first, gone.0))
          walk.left;
      bare = bare_grows s.seat.desk.zero_avail w.desk.zero_avail s.rings class finds.noted.zero_avail walk.bare;
      held = notes_held s.seat w notes ∙ walk.held;
      bounces = walk.bounces;
    }

-- the first group was alone, and has left
pub none_left : {M P : Type 0} (now after : State M P) (class first : ℕ)
    → StartsWalk class first now after → ring_of now.rings class ≡ first ∷ [] → ring_of after.rings class ≡ [] → FindsNoFreed class first now after
none_left now after class first walk alone empty = record {
  came = walk.came;
  freed = ⊎_elim
      (λ (whole : Whole). absurd (still whole.0))
      (λ (gone : Gone). gone.1)
      walk.left;
  all = ⊎_elim (λ (whole : Whole). absurd (still whole.0)) (λ (gone : Gone). gone.2) walk.left;
  read = λ m other there. absurd (other (only first m (subst (λ (xs : List ℕ). Contains xs m) alone there)));
  left = inr (first, alone ∙ ap (λ (xs : List ℕ). first ∷ xs) (sym empty));
  bare = walk.bare;
  held = walk.held;
  bounces = walk.bounces;
}
  where
    Whole : Type 0
    Whole = (ring_of after.rings class ≡ ring_of now.rings class) × ((i : ℕ) × Among {A = ℕ × ℕ} (first, i) after.seat.desk.set_freed)

    Gone : Type 0
    Gone = (ring_of now.rings class ≡ first ∷ ring_of after.rings class) × Among {A = ℕ × ℕ} (first + 28, 0) walk.came.words × AllBare walk.came.words

    in' : IsIn now.rings class first
    in' = subst (λ (xs : List ℕ). Contains xs first) (sym alone) (Contains-first (first ∷ []) first refl)

    still : ring_of after.rings class ≡ ring_of now.rings class → ⊥
    still whole = nowhere first (subst (λ (xs : List ℕ). Contains xs first) (sym whole ∙ empty) in')

-- what follows where there is no answer
pub if_none : {X : Type 0} (found : Option X) {A B : Type 0} → IfNone found A → (A → B) → IfNone found B
if_none None h f = f h
if_none (Some x) h f = tt

-- the same of an answer that is none
pub is_none : {X : Type 0} (found : Option X) (A : Type 0) → found ≡ None → A → IfNone found A
is_none {X} found A none holds = subst (λ (r : Option X). IfNone r A) (sym none) holds

-- ---- the ring served a call
-- its first group had an available slot
pub served_available : {M P : Type 0} (start : Start) (span : M → Span) (runs : M → List mapper.Run) (refused : M → Refusals) (s now : State M P) (class first index : ℕ) (w : View)
    → s ≡ now → class < 48 → slice_get (ring_of now.rings class) 0 ≡ Some first → TakesLowest s.seat first index w → Working start span runs refused now
    → IsServedBy class now (record s { seat = w })
served_available {M} {P} start span runs refused s now class first index w same known begins takes works =
    subst (λ (u : State M P). IsServedBy class u (record s { seat = w })) same
    (record {
      came = record { words = (first + 24, takes.word) ∷ seen.0; readings = seen.1 };
      serves = record {
        first = first;
        begins = subst (λ (u : State M P). slice_get (ring_of u.rings class) 0 ≡ Some first) (sym same) begins;
        word = takes.word;
        rest = seen.0;
        words_are = refl;
        bounces = inl (some, refl);
      };
    })
  where
    some : 0 < takes.word % 2 ^ 32
    some =
        let least : 2 ^ index ≤ takes.word % 2 ^ 32 = pow-le (takes.word % 2 ^ 32) index takes.lowest.set in
        let one : 0 < 2 ^ index = pow_pos index in
        omega (arith, least, one)

    seen : (rest : List (ℕ × ℕ)) × (w.readings ≡ s.seat.readings ++ (first + 24, takes.word) ∷ rest)
    seen =
        let live = live_at start span runs refused s now class first same works known (Contains-first (ring_of now.rings class) first (sym begins)) in
        ⊎_elim
        (λ (last : TakesLast s.seat first index takes.word w). ([], ap (λ (u : View). u.readings) (last.view live.group live.there live.of_meta)))
        (λ (leaves : LeavesOthers s.seat first index takes.word w). (
          (first + 24, leaves.again) ∷ [],
          ap (λ (u : View). u.readings) (leaves.view live.group live.there live.of_meta)
              ∙ append_assoc s.seat.readings ((first + 24, takes.word) ∷ []) ((first + 24, leaves.again) ∷ []),
        ))
        takes.views

-- or it had none, and a freed slot was taken
pub served_freed : {M P : Type 0} (s now after : State M P) (class first : ℕ) (w : View)
    → s ≡ now → slice_get (ring_of now.rings class) 0 ≡ Some first → FindsNone s.seat first w → OnlyRing class (record s { seat = w }) after → after.bounces ≡ decayed s.bounces class
    → IsServedBy class now after
served_freed {M} {P} s now after class first w same begins finds only decays =
    subst (λ (u : State M P). IsServedBy class u after) same
    (record {
      came = record {
        words = (first + 24, finds.word) ∷ only.came.words;
        readings = readings_then s.seat.readings w.readings after.seat.readings ((first + 24, finds.word) ∷ []) only.came.words (ap (λ (u : View). u.readings) finds.view) only.came.readings;
      };
      serves = record {
        first = first;
        begins = subst (λ (u : State M P). slice_get (ring_of u.rings class) 0 ≡ Some first) (sym same) begins;
        word = finds.word;
        rest = only.came.words;
        words_are = refl;
        bounces = inr (finds.mask, decays);
      };
    })

-- what follows where there is an answer
pub if_some : {X : Type 0} (found : Option X) {A B : Type 0} → IfSome found (λ x. A) → (A → B) → IfSome found (λ x. B)
if_some None h f = tt
if_some (Some x) h f = f h

-- a ring without a group has none with a slot
pub empty_finds : {M P : Type 0} (class : ℕ) (s : State M P) → ring_of s.rings class ≡ [] → FindsNoSlot class s s
empty_finds {M} {P} class s none = record {
  came = record { words = []; readings = sym (append-nil s.seat.readings) };
  read = λ m there. absurd (nothing m there);
  all = λ word there. absurd there;
  left = inl refl;
  bare = λ m there. absurd (nothing m there);
  held = refl;
  bounces = refl;
}
  where
    nothing : (m : ℕ) → Contains (ring_of s.rings class) m → ⊥
    nothing m there = nowhere m (subst (λ (xs : List ℕ). Contains xs m) none there)
