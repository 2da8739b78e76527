-- What a call leaves of a core, once a slot or an excuse has passed to a hand.
use Rattle.std.proofs.Common.{◌≡◌, ℕ, ◌<◌, ◌≤◌, max, arith, cond, eqb, Bool, true, List, [], ◌∷◌, refl, sym, ap, ◌∙◌, subst}
use Rattle.std.specs.Prelude.{Some, None}
use Rattle.std.proofs.lemmas.Bool.{eq-eqb}
use Rattle.ng_rule.proofs.geometry.Lists.{is_at-here}
use Rattle.std.specs.List.{slice_get}
use Rattle.ng_lists.specs.Rings.{ring_of}
use Rattle.ng_lists.proofs.MemberLemmas.{Contains-first}
use Rattle.ng_view.specs.Notes.{excuse_of_call}
use Rattle.ng_mapper.specs.Mapping.{NotesNone, Span}
use Rattle.ng_mapper.specs.Runs as mapper
use Rattle.ng_mapper.specs.declared.refusals.Refusals.{Refusals}
use Rattle.ng_meta.specs.Place.{IsMetaPlace}
use Rattle.ng_space.specs.Callers.{Caller}
use Rattle.ng_space.specs.Passed.{ExcuseToken, HasExcuse, HasInMotion, HasNumber}
use Rattle.ng_view.specs.Lists.{find, is_at, without}
use Rattle.ng_view.specs.Steps.{excuse_at, in_motion, pushed, unexcused, without_one}
use Rattle.ng_view.specs.declared.view.Excuse.{Excuse}
use Rattle.ng_view.specs.declared.view.Held.{Held}
use Rattle.ng_view.specs.declared.view.Place.{Place}
use Rattle.ng_space.specs.Names.{Facts}
use Rattle.ng_terms.specs.Accounts.{pages_for}
use Rattle.ng_view.specs.declared.view.Start.{Start}
use Rattle.ng_view.specs.declared.view.View.{View}
use Rattle.ng_ledger.specs.Standing.{InHand, KeepsHand, Ledger}
use Rattle.ng_ledger.proofs.HandLemmas.{keeps_hand-none}
use Rattle.ng_group.specs.declared.heap_core.Core.TheInside.{Inside}
use Rattle.ng_group.specs.Hands.{GainsExcuse, GetsExcuse}
use Rattle.ng_group.specs.Opening.{IsMostBounded}
use Rattle.ng_group.specs.Serving.{HasServed}
use Rattle.ng_group.specs.States.{IsResting, IsWorking, Resting, State, Working, ledger_of}
use Rattle.ng_group.specs.Steps.{GoesOn, IsCalm, IsRefused}
use Rattle.ng_group.proofs.ServingLemmas.{member_place}

-- ---- the seat's only slot
module _ (class bytes : ℕ) (v : View) (meta index : ℕ) (served : HasServed class bytes v meta index) where
  at : is_at meta index (record { group = served.group; index = index }) ≡ true
  at =
      let place : Place = record { group = served.group; index = index } in
      subst (λ (m : ℕ). is_at m index place ≡ true) served.of_meta (is_at-here place)

  pub served_found : find meta index v.held ≡ Some (in_motion served.group index)
  served_found = subst (λ (hs : List Held). find meta index hs ≡ Some (in_motion served.group index)) (sym served.motion)
      (ap (λ (b : Bool). cond b (Some (in_motion served.group index)) None) at)

  pub served_gone : without meta index v.held ≡ []
  served_gone = subst (λ (hs : List Held). without meta index hs ≡ []) (sym served.motion)
      (ap (λ (b : Bool). cond b [] (in_motion served.group index ∷ [])) at)

-- ---- the seat's only excuse
module _ (number : ℕ) (before after : View) (was now : Refusals) (refused : IsRefused number before after was now) (none : before.excuses ≡ []) where
  only : after.excuses ≡ excuse_of_call number ∷ []
  only = refused.excuse ∙ ap (λ (xs : List Excuse). excuse_of_call number ∷ xs) none

  same_number : eqb number number ≡ true
  same_number = eq-eqb number number refl

  pub refused_found : excuse_at number after.excuses ≡ Some (excuse_of_call number)
  refused_found = subst (λ (xs : List Excuse). excuse_at number xs ≡ Some (excuse_of_call number)) (sym only)
      (ap (λ (b : Bool). cond b (Some (excuse_of_call number)) None) same_number)

  pub refused_gone : without_one number after.excuses ≡ []
  refused_gone = subst (λ (xs : List Excuse). without_one number xs ≡ []) (sym only)
      (ap (λ (b : Bool). cond b [] (excuse_of_call number ∷ [])) same_number)

-- ---- the core is at rest again
module _ (start : Start) (span : Span) (live : List mapper.Run) (refused : Refusals) (l : Ledger) (w : View)
    (works : IsWorking start span live refused l) (view : w ≡ record l.seat { held = w.held; excuses = w.excuses; readings = w.readings }) where
  -- the slots, excuses and readings of the seat are other
  pub works_still : IsWorking start span live refused (record l { seat = w })
  works_still = subst (λ (v : View). IsWorking start span live refused (record l { seat = v })) (sym view) (record {
    space = record {
      lower = works.space.lower;
      upper = works.space.upper;
      size = works.space.size;
      rings = works.space.rings;
      stock = works.space.stock;
      parents = works.space.parents;
    };
    stands = record {
      groups = works.stands.groups;
      ringed = works.stands.ringed;
      free = works.stands.free;
      of_areas = works.stands.of_areas;
      area = works.stands.area;
      mapped = works.stands.mapped;
      served = works.stands.served;
      founded = works.stands.founded;
      used = works.stands.used;
      nested = works.stands.nested;
      carried = works.stands.carried;
    };
    followed = works.followed;
    counted = works.counted;
    leads = works.leads;
    bookless = works.bookless;
  })

  pub hand_still : (m : ℕ) → InHand (record l { seat = w }) m → InHand l m
  hand_still m hand = subst (λ (v : View). InHand (record l { seat = v }) m) view hand

  pub rests : w.held ≡ [] → w.excuses ≡ [] → ((m : ℕ) → ¬ InHand l m) → IsResting start span live refused (record l { seat = w })
  rests still answered none = record {
    working = works_still;
    still = still;
    answered = answered;
    at_rest = λ m hand. none m (hand_still m hand);
  }

-- the view without a slot, or without an excuse
pub pushed_view : (v w : View) (meta index : ℕ) → w ≡ pushed v meta index → w ≡ record v { held = w.held; excuses = w.excuses; readings = w.readings }
pushed_view v w meta index view = subst (λ (x : View). x ≡ record v { held = x.held; excuses = x.excuses; readings = x.readings }) (sym view) refl

pub unexcused_view : (v w : View) (number : ℕ) → w ≡ unexcused v number → w ≡ record v { held = w.held; excuses = w.excuses; readings = w.readings }
unexcused_view v w number view = subst (λ (x : View). x ≡ record v { held = x.held; excuses = x.excuses; readings = x.readings }) (sym view) refl

-- ---- the parts of a core are a state of works
pub works_of : {N M P : Type 0} {x y : Inside N M P} → x ≡ y → x.works ≡ y.works
works_of same = ap (λ x. x.works) same

-- ---- the most refused pages stay within their bound, where no map call was refused, or one for so many pages
pub still_bounded : (facts : Facts) (was now : Refusals) → NotesNone was now → IsMostBounded facts was → IsMostBounded facts now
still_bounded facts was now calm bounded = omega (arith, calm.most)

pub bounded_calm : {M P : Type 0} (facts : Facts) (refused : M → Refusals) {s s' : State M P} → s ≡ s' → (was : Refusals) → IsMostBounded facts was
    → NotesNone was (refused s'.mapper) → IsMostBounded facts (refused s.mapper)
bounded_calm {M = M} {P = P} facts refused {s = s} {s' = s'} same was bounded calm =
    subst (λ (x : State M P). IsMostBounded facts (refused x.mapper)) (sym same) (still_bounded facts was (refused s'.mapper) calm bounded)

pub bounded_most : {M P : Type 0} (facts : Facts) (refused : M → Refusals) {s s' : State M P} → s ≡ s' → (was : Refusals) → IsMostBounded facts was
    → (pages : ℕ) → (refused s'.mapper).most ≤ max was.most pages → pages ≤ max 512 (pages_for facts.start.cap)
    → IsMostBounded facts (refused s.mapper)
bounded_most {M = M} {P = P} facts refused same was bounded pages most few =
    subst (λ (x : State M P). IsMostBounded facts (refused x.mapper)) (sym same) (omega arith)

-- ---- what a call tells that got a slot into the seat
pub record Serves {M P : Type 0} (start : Start) (span : M → Span) (runs : M → List mapper.Run) (refused : M → Refusals) (class bytes meta index : ℕ)
    (before after : State M P) : Type 0 where
  pub rest : Resting start span runs refused before
  pub working : Working start span runs refused after
  pub on : GoesOn before.seat after.seat
  pub hand : KeepsHand (ledger_of before) (ledger_of after)
  pub served : HasServed class bytes after.seat meta index
  pub calm : IsCalm before.seat after.seat (refused before.mapper) (refused after.mapper)

-- and one whose map call was refused
pub record Refuses {M P : Type 0} (start : Start) (span : M → Span) (runs : M → List mapper.Run) (refused : M → Refusals) (number : ℕ)
    (before after : State M P) : Type 0 where
  pub rest : Resting start span runs refused before
  pub working : Working start span runs refused after
  pub on : GoesOn before.seat after.seat
  pub hand : KeepsHand (ledger_of before) (ledger_of after)
  pub is : IsRefused number before.seat after.seat (refused before.mapper) (refused after.mapper)
  pub idle : after.seat.held ≡ []

module _ {M P : Type 0} (start : Start) (span : M → Span) (runs : M → List mapper.Run) (refused : M → Refusals) {w w' s' : State M P} where
  pub serves_at : (class bytes meta index : ℕ) → w ≡ w' → Resting start span runs refused w → Working start span runs refused s'
      → GoesOn w.seat s'.seat → KeepsHand (ledger_of w) (ledger_of s') → HasServed class bytes s'.seat meta index
      → IsCalm w.seat s'.seat (refused w.mapper) (refused s'.mapper) → Serves start span runs refused class bytes meta index w' s'
  serves_at class bytes meta index same rest working on hand served calm =
      subst (λ (x : State M P). Serves start span runs refused class bytes meta index x s') same
      (record { rest = rest; working = working; on = on; hand = hand; served = served; calm = calm })

  pub refuses_at : (number : ℕ) → w ≡ w' → Resting start span runs refused w → Working start span runs refused s'
      → GoesOn w.seat s'.seat → KeepsHand (ledger_of w) (ledger_of s') → IsRefused number w.seat s'.seat (refused w.mapper) (refused s'.mapper)
      → s'.seat.held ≡ [] → Refuses start span runs refused number w' s'
  refuses_at number same rest working on hand is idle =
      subst (λ (x : State M P). Refuses start span runs refused number x s') same
      (record { rest = rest; working = working; on = on; hand = hand; is = is; idle = idle })

-- ---- the slot, of the views of a call's own parts
module _ {M P : Type 0} (start : Start) (span : M → Span) (runs : M → List mapper.Run) (refused : M → Refusals) {s s' : State M P} (same : s ≡ s')
    (class bytes meta index : ℕ) where
  module _ (served : HasServed class bytes s'.seat meta index) where
    pub slot_found : find meta index s.seat.held ≡ Some (in_motion served.group index)
    slot_found =
        subst (λ (x : State M P). find meta index x.seat.held ≡ Some (in_motion served.group index)) (sym same)
        (served_found class bytes s'.seat meta index served)

    pub slot_motion : HasInMotion s.seat meta index
    slot_motion = record { slot = in_motion served.group index; found = slot_found }

  -- it went to a hand
  module _ {before : State M P} (told : Serves start span runs refused class bytes meta index before s') (w : View)
      (view : w ≡ pushed s.seat meta index) where
    pushed_from : (x : State M P) → Serves start span runs refused class bytes meta index before x → w ≡ pushed x.seat meta index
        → IsResting start (span x.mapper) (runs x.mapper) (refused x.mapper) (record (ledger_of x) { seat = w })
    pushed_from x told view =
        rests start (span x.mapper) (runs x.mapper) (refused x.mapper) (ledger_of x) w told.working (pushed_view x.seat w meta index view)
        (ap (λ (v : View). v.held) view ∙ served_gone class bytes x.seat meta index told.served)
        (ap (λ (v : View). v.excuses) view ∙ told.calm.excuses ∙ told.rest.answered)
        (keeps_hand-none (ledger_of before) (ledger_of x) told.hand told.rest.at_rest)

    pub rests_slot : IsResting start (span s.mapper) (runs s.mapper) (refused s.mapper) (record (ledger_of s) { seat = w })
    rests_slot = pushed_from s (subst (λ (x : State M P). Serves start span runs refused class bytes meta index before x) (sym same) told) view

-- ---- or the excuse
module _ {M P : Type 0} (start : Start) (span : M → Span) (runs : M → List mapper.Run) (refused : M → Refusals) {before s s' : State M P}
    (same : s ≡ s') (number : ℕ) (told : Refuses start span runs refused number before s') where
  there : Refuses start span runs refused number before s
  there = subst (λ (x : State M P). Refuses start span runs refused number before x) (sym same) told

  pub excuse_found : excuse_at number s.seat.excuses ≡ Some (excuse_of_call number)
  excuse_found = refused_found number before.seat s.seat (refused before.mapper) (refused s.mapper) there.is there.rest.answered

  pub excuse_number : HasNumber s.seat number
  excuse_number = record { excuse = excuse_of_call number; found = excuse_found }

  -- it went to a hand
  pub rests_excuse : (w : View) → w ≡ unexcused s.seat number
      → IsResting start (span s.mapper) (runs s.mapper) (refused s.mapper) (record (ledger_of s) { seat = w })
  rests_excuse w view =
      rests start (span s.mapper) (runs s.mapper) (refused s.mapper) (ledger_of s) w there.working (unexcused_view s.seat w number view)
      (ap (λ (x : View). x.held) view ∙ there.idle)
      (ap (λ (x : View). x.excuses) view ∙ refused_gone number before.seat s.seat (refused before.mapper) (refused s.mapper) there.is there.rest.answered)
      (keeps_hand-none (ledger_of before) (ledger_of s) there.hand there.rest.at_rest)

-- so the hand gets it, as the last one
pub gets_excuse : {M P : Type 0} (refused : M → Refusals) (pages : ℕ) {w was s now : State M P} → w ≡ was → s ≡ now → (hand new : Caller) (number : ℕ)
    (excuse : ExcuseToken) → excuse.number ≡ number → HasExcuse new excuse → GainsExcuse excuse.number hand.view new.view
    → IsRefused number w.seat now.seat (refused w.mapper) (refused now.mapper) → (refused now.mapper).most ≤ max (refused w.mapper).most pages
    → GetsExcuse pages hand new (refused was.mapper) (refused s.mapper) excuse
gets_excuse {M = M} {P = P} refused pages {w = w} {s = s} {now = now} before after hand new number excuse of_number has gains is most =
    subst (λ (x : State M P). GetsExcuse pages hand new (refused x.mapper) (refused s.mapper) excuse) before
    (subst (λ (x : State M P). GetsExcuse pages hand new (refused w.mapper) (refused x.mapper) excuse) (sym after) (record {
      has = has;
      gains = gains;
      number_is = of_number ∙ is.number_is;
      rose = is.rose;
      most = most;
    }))

-- the first meta of a ring has its place
pub first_place : {M P : Type 0} (start : Start) (span : M → Span) (runs : M → List mapper.Run) (refused : M → Refusals) {s now : State M P}
    → (class m : ℕ) → s ≡ now → Working start span runs refused now → class < 48 → slice_get (ring_of s.rings class) 0 ≡ Some m → IsMetaPlace m start.pages
first_place {M = M} {P = P} start span runs refused {s = s} class m same works known begins =
    let here : Working start span runs refused s = subst (λ (x : State M P). Working start span runs refused x) (sym same) works in
    member_place start span runs refused s class m here known (Contains-first (ring_of s.rings class) m (sym begins))
