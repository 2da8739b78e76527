-- A slot that a hand gives back: what comes into the seat, what stays in the hand, and that the core is at rest again.
use Rattle.std.proofs.Common.{◌≡◌, ◌≢◌, ◌⊎◌, ℕ, ◌≤◌, cond, Bool, true, false, List, [], ◌∷◌, ◌++◌, refl, sym, ap, ◌∙◌, subst, ⊎_elim, inl, inr}
use Rattle.std.specs.Prelude.{Option, Some, None}
use Rattle.std.proofs.lemmas.Bool.{cases_eq}
use Rattle.ng_rule.proofs.geometry.Lists.{find_among, is_at-true}
use Rattle.ng_mapper.specs.Mapping.{Span}
use Rattle.ng_mapper.specs.Runs as mapper
use Rattle.ng_mapper.specs.declared.refusals.Refusals.{Refusals}
use Rattle.ng_mask.specs.Fetches.{OfGroup}
use Rattle.ng_policy.specs.declared.ask.Spare.{Spare}
use Rattle.ng_serve.specs.Groups.{Describes, ReadsFields}
use Rattle.ng_serve.specs.Reads.{Reads}
use Rattle.ng_serve.specs.declared.group.LiveGroup.{LiveGroup}
use Rattle.ng_space.specs.Blocks.{BlockToken, HasBlock}
use Rattle.ng_space.specs.Callers.{Caller}
use Rattle.ng_space.specs.Passed.{with_slot}
use Rattle.ng_space.specs.Placed.{AreOfGroups, HasSlotOf}
use Rattle.ng_space.specs.Tokens.{HasSlot, Token}
use Rattle.ng_terms.specs.Heap.{extent}
use Rattle.ng_view.specs.Lists.{Among, find, is_at, without}
use Rattle.ng_view.specs.Steps.{pushed, with_held}
use Rattle.ng_view.specs.declared.view.Desk.{Desk}
use Rattle.ng_view.specs.declared.view.Held.{Held}
use Rattle.ng_view.specs.declared.view.Start.{Start}
use Rattle.ng_view.specs.declared.view.View.{View}
use Rattle.ng_ledger.specs.Standing.{KeepsHand, Ledger}
use Rattle.ng_group.specs.Hands.{IsApart}
use Rattle.ng_group.specs.Returning.{HasReturned, Returns, ReturnsOfHand}
use Rattle.ng_group.specs.States.{IsResting, IsWorking, Resting, State, Working, ledger_of}
use Rattle.ng_group.specs.Steps.{Came, GoesOn}
use Rattle.ng_group.proofs.CallLemmas.{hand_still, works_still}
use Rattle.ng_group.proofs.HandKeepLemmas.{not_at}
use Rattle.ng_group.proofs.WorkingLemmas.{goes_then}

-- ---- what stays in the hand

-- a slot at another place is found as before
find_without : (m i n j : ℕ) (hs : List Held) → (m ≢ n) ⊎ (i ≢ j) → find m i (without n j hs) ≡ find m i hs
find_without m i n j [] apart = refl
find_without m i n j (x ∷ xs) apart = by_test (find_without m i n j xs apart) (is_at n j x.place) refl
  where
    by_test : find m i (without n j xs) ≡ find m i xs → (b : Bool) → is_at n j x.place ≡ b → find m i (cond b xs (x ∷ without n j xs)) ≡ cond (is_at m i x.place) (Some x) (find m i xs)
    by_test rest false at = ap (cond (is_at m i x.place) (Some x)) rest
    by_test rest true at =
        let both = is_at-true n j x.place at in
        let other : is_at m i x.place ≡ false = not_at m i x.place
        (⊎_elim (λ (differs : m ≢ n). inl (λ e. differs (sym e ∙ both.0))) (λ (differs : i ≢ j). inr (λ e. differs (sym e ∙ both.1))) apart) in
        sym (ap (λ (b : Bool). cond b (Some x) (find m i xs)) other)

module _ (hand new : Caller) (slot : Token) (number : new.number ≡ hand.number) (view : new.view ≡ pushed hand.view slot.meta slot.index) where
  left_found : (token : Token) (h : Held) → IsApart token slot → find token.meta token.index hand.view.held ≡ Some h → find token.meta token.index new.view.held ≡ Some h
  left_found token h apart found =
      ap (λ (v : View). find token.meta token.index v.held) view
      ∙ find_without token.meta token.index slot.meta slot.index hand.view.held apart
      ∙ found

  pub slots_left : (token : Token) → HasSlot hand token → IsApart token slot → HasSlot new token
  slots_left token has apart = record {
    own = has.own ∙ sym number;
    held = has.held;
    found = left_found token has.held apart has.found;
    free = has.free;
    place = has.place;
  }

  -- a block's slot is apart from it, for it carries no block
  pub blocks_left : HasSlot hand slot → (block : BlockToken) → HasBlock hand block → HasBlock new block
  blocks_left gone block has = record {
    own = has.own ∙ sym number;
    held = has.held;
    found = left_found block.slot has.held apart has.found;
    live = has.live;
    place = has.place;
  }
    where
      same_held : block.slot.meta ≡ slot.meta → block.slot.index ≡ slot.index → has.held ≡ gone.held
      same_held of_meta of_index =
          let here : find slot.meta slot.index hand.view.held ≡ Some has.held =
          subst (λ (m : ℕ). find m slot.index hand.view.held ≡ Some has.held) of_meta
          (subst (λ (i : ℕ). find block.slot.meta i hand.view.held ≡ Some has.held) of_index has.found) in
          let there : find slot.meta slot.index hand.view.held ≡ Some gone.held = gone.found in
          cc

      both : block.slot.meta ≡ slot.meta → block.slot.index ≡ slot.index → ⊥
      both of_meta of_index =
          let live : has.held.block ≡ Some (extent block.at block.len block.align) = has.live in
          let free : has.held.block ≡ None = ap (λ (h : Held). h.block) (same_held of_meta of_index) ∙ gone.free in
          absurd (cc)

      apart : IsApart block.slot slot
      apart = ⊎_elim
          (λ (of_meta : block.slot.meta ≡ slot.meta). ⊎_elim (λ (of_index : block.slot.index ≡ slot.index). absurd (both of_meta of_index)) inr (cases_eq block.slot.index slot.index))
          inl
          (cases_eq block.slot.meta slot.meta)

-- ---- what comes into the seat
module _ (v w : View) (hand : Caller) (token : Token) (has : HasSlot hand token) (still : v.held ≡ []) (view : w ≡ with_slot v (find token.meta token.index hand.view.held)) where
  back_view : w ≡ with_held v has.held
  back_view = view ∙ ap (λ (o : Option Held). with_slot v o) has.found

  place_back : (has.held.place.group.meta ≡ token.meta) × (has.held.place.index ≡ token.index)
  place_back = is_at-true token.meta token.index has.held.place (find_among token.meta token.index hand.view.held has.held has.found).1

  there_back : Among has.held w.held
  there_back = subst (λ (x : View). Among has.held x.held) (sym back_view) (inl refl)

  -- so a slot of that group is in the seat
  pub slot_back : HasSlotOf w token.meta
  slot_back = record { slot = has.held; there = there_back; of_meta = place_back.0 }

  -- and stays there while words are read
  module _ (x : View) (reads : Reads w x) (slots : AreOfGroups w) where
    read_view : x ≡ record (with_held v has.held) { readings = v.readings ++ reads.words }
    read_view = reads.view ∙ ap (λ (y : View). record y { readings = y.readings ++ reads.words }) back_view

    desk_back : x.desk ≡ v.desk
    desk_back = ap (λ (y : View). y.desk) read_view

    pub group_back : Among has.held.place.group v.desk.groups
    group_back = subst (λ (y : View). Among has.held.place.group y.desk.groups) back_view (slots has.held there_back).there

    pub returned_back : HasReturned x token.meta token.index
    returned_back = record {
      group = has.held.place.group;
      there = subst (λ (d : Desk). Among has.held.place.group d.groups) (sym desk_back) group_back;
      of_meta = place_back.0;
      within = subst (λ (i : ℕ). i ≤ has.held.place.group.last) place_back.1 (slots has.held there_back).within;
      slot = has.held;
      held = ap (λ (y : View). y.held) read_view ∙ ap (λ (hs : List Held). has.held ∷ hs) still;
      of_group = refl;
      of_index = place_back.1;
      bare = has.free;
    }

    pub came_back : Came v x
    came_back = record { words = reads.words; readings = ap (λ (y : View). y.readings) read_view }

    pub goes_back : GoesOn v x
    goes_back = record { came = came_back; next = ap (λ (d : Desk). d.next) desk_back }

    pub excuses_back : x.excuses ≡ v.excuses
    excuses_back = ap (λ (y : View). y.excuses) read_view

    pub only_back : x ≡ record v { held = x.held; excuses = x.excuses; readings = x.readings }
    only_back = subst (λ (y : View). y ≡ record v { held = y.held; excuses = y.excuses; readings = y.readings }) (sym read_view) refl

    -- what the return of the slot tells, it tells of the hand's
    held_view : record v { held = x.held } ≡ w
    held_view = ap (λ (hs : List Held). record v { held = hs }) (ap (λ (y : View). y.held) read_view) ∙ sym back_view

    pub returns_back : {M P : Type 0} (keeps : Spare → Bool → Type 0) (runs : M → List mapper.Run) (s after : State M P) (found : LiveGroup)
        → s.seat ≡ v → OfGroup w token.meta (Describes found) → ReadsFields w token.meta x → Returns keeps runs (record s { seat = x }) token.meta token.index found after
        → ReturnsOfHand keeps runs s after token.meta token.index
    returns_back {M} {P} keeps runs s after found same describes fields returns =
        let slot = returned_back in record {
          found = found;
          looked = x;
          slot = slot;
          describes = describes slot.group (subst (λ (y : View). Among slot.group y.desk.groups) reads.view slot.there) slot.of_meta;
          reads = subst (λ (y : View). ReadsFields (record y { held = x.held }) token.meta x) (sym same) (subst (λ (y : View). ReadsFields y token.meta x) (sym held_view) fields);
          returns = returns;
        }

-- ---- the core rests again once the slot has been returned
rests_back : (start : Start) (span span' : Span) (live live' : List mapper.Run) (refused refused' : Refusals) (l after : Ledger) (w : View)
    → w ≡ record l.seat { held = w.held; excuses = w.excuses; readings = w.readings } → w.excuses ≡ l.seat.excuses
    → IsResting start span live refused l → IsWorking start span' live' refused' after → KeepsHand (record l { seat = w }) after
    → after.seat.held ≡ [] → after.seat.excuses ≡ w.excuses → IsResting start span' live' refused' after
rests_back start span span' live live' refused refused' l after w view excuses rest works keeps still answered = record {
  working = works;
  still = still;
  answered = answered ∙ excuses ∙ rest.answered;
  at_rest = λ m hand. rest.at_rest m (hand_still start span live refused l w rest.working view m (keeps.none_more m hand));
}

-- ---- a call's core, whose parts are named: the hand's slot comes into its seat, and words are read
module _ {M P : Type 0} {s now : State M P} (start : Start) (span : M → Span) (runs : M → List mapper.Run) (refused : M → Refusals) (same : s ≡ now) (rest : Resting start span runs refused now)
    (hand : Caller) (token : Token) (has : HasSlot hand token) (w x : View) (view : w ≡ with_slot s.seat (find token.meta token.index hand.view.held))
    (meta index : ℕ) (of_meta : meta ≡ token.meta) (of_index : index ≡ token.index) where
  was_still : s.seat.held ≡ []
  was_still = ap (λ (t : State M P). t.seat.held) same ∙ rest.still

  rested : Resting start span runs refused s
  rested = subst (λ (t : State M P). Resting start span runs refused t) (sym same) rest

  pub hand_slot : HasSlotOf w meta
  hand_slot = subst (λ (m : ℕ). HasSlotOf w m) (sym of_meta) (slot_back s.seat w hand token has was_still view)

  module _ (reads : Reads w x) (slots : AreOfGroups w) where
    only_x : x ≡ record s.seat { held = x.held; excuses = x.excuses; readings = x.readings }
    only_x = only_back s.seat w hand token has was_still view x reads slots

    pub hand_returned : HasReturned x meta index
    hand_returned = subst (λ (m : ℕ). HasReturned x m index) (sym of_meta) (subst (λ (i : ℕ). HasReturned x token.meta i) (sym of_index)
        (returned_back s.seat w hand token has was_still view x reads slots))

    pub hand_works : Working start span runs refused (record s { seat = x })
    hand_works = works_still start (span s.mapper) (runs s.mapper) (refused s.mapper) (ledger_of s) x rested.working only_x

    module _ (after : State M P) where
      pub hand_rests : Working start span runs refused after → KeepsHand (ledger_of (record s { seat = x })) (ledger_of after)
          → after.seat.held ≡ [] → after.seat.excuses ≡ x.excuses → Resting start span runs refused after
      hand_rests works keeps = rests_back start (span s.mapper) (span after.mapper) (runs s.mapper) (runs after.mapper) (refused s.mapper) (refused after.mapper)
          (ledger_of s) (ledger_of after) x only_x (excuses_back s.seat w hand token has was_still view x reads slots) rested works keeps

      pub hand_goes : GoesOn x after.seat → GoesOn now.seat after.seat
      hand_goes on = subst (λ (t : State M P). GoesOn t.seat after.seat) same
          (goes_then s.seat x after.seat (goes_back s.seat w hand token has was_still view x reads slots) on)

      pub hand_returns : (gives : P → Spare → Bool → Type 0) (found : LiveGroup) → OfGroup w meta (Describes found) → ReadsFields w meta x
          → Returns (gives s.rules) runs (record s { seat = x }) meta index found after
          → ReturnsOfHand (gives now.rules) runs now after token.meta token.index
      hand_returns gives found describes fields returns =
          subst (λ (t : State M P). ReturnsOfHand (gives t.rules) runs t after token.meta token.index) same
          (returns_back s.seat w hand token has was_still view x reads slots (gives s.rules) runs s after found refl
          (subst (λ (m : ℕ). OfGroup w m (Describes found)) of_meta describes)
          (subst (λ (m : ℕ). ReadsFields w m x) of_meta fields)
          (subst (λ (m : ℕ). Returns (gives s.rules) runs (record s { seat = x }) m token.index found after) of_meta
          (subst (λ (i : ℕ). Returns (gives s.rules) runs (record s { seat = x }) meta i found after) of_index returns)))
