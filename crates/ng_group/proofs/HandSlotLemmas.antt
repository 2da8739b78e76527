-- What a hand comes to have: words that it reads, a slot, and an excuse.
use Rattle.std.proofs.Common.{◌≡◌, ◌⊎◌, ℕ, zero, suc, ◌+◌, ◌*◌, ◌<◌, ◌≤◌, cond, Bool, true, false, List, [], ◌∷◌, map, Ok, Err, refl, sym, ap, ◌∙◌, subst, inl, inr}
use Rattle.std.specs.Prelude.{IfErr, Option, Result, Some}
use Rattle.std.proofs.lemmas.Option.{same_Some}
use Rattle.ng_rule.proofs.geometry.Lists.{is_at-here}
use Rattle.ng_view.specs.Notes.{excuse_of_call}
use Rattle.ng_class.specs.Class.{units_of}
use Rattle.ng_mapper.specs.declared.refusals.Refusals.{Refusals}
use Rattle.ng_mask.specs.Pops.{HasPopCause, LastLoads, Loses, LosesOnce, Wins}
use Rattle.ng_mask.specs.declared.outcome.Pop.{Pop}
use Rattle.ng_mask.specs.declared.outcome.Pop.TheVariants.{Won, Bare, Other, Lost}
use Rattle.ng_space.specs.Callers.{Caller}
use Rattle.ng_space.specs.Leaving.{KeepsBook}
use Rattle.ng_space.specs.Masks.{Looks}
use Rattle.ng_space.specs.Passed.{ExcuseToken, HasExcuse, with_slot}
use Rattle.ng_space.specs.Tokens.{HasSlot, Token}
use Rattle.ng_view.specs.Blocks.{Knows}
use Rattle.ng_view.specs.Lists.{Among, find, is_at}
use Rattle.ng_view.specs.Places.{owns_at, room}
use Rattle.ng_view.specs.Steps.{in_motion, learnt, loaded, popped, read, with_excuse}
use Rattle.ng_view.specs.declared.view.Excuse.{Excuse}
use Rattle.ng_view.specs.declared.view.Group.{Group}
use Rattle.ng_view.specs.declared.view.Held.{Held}
use Rattle.ng_view.specs.declared.view.Place.{Place}
use Rattle.ng_view.specs.declared.view.View.{View}
use Rattle.ng_group.specs.Hands.{AreSameSlots, GainsExcuse, GainsSlot, GetsExcuse, IsSameSlot, IsSlotFor, Learns}
use Rattle.ng_group.specs.Serving.{HasServed}
use Rattle.ng_group.proofs.TakeLemmas.{plain_room}
use Rattle.ng_group.proofs.WorkingLemmas.{came_same, came_then}

-- ---- the same slots, of which more may be known
same_slot : (h : Held) → IsSameSlot h h
same_slot h = record { place = refl; block = refl; known = λ a x knows. knows }

same_slot_then : (h i k : Held) → IsSameSlot h i → IsSameSlot i k → IsSameSlot h k
same_slot_then h i k first second = record {
  place = second.place ∙ first.place;
  block = second.block ∙ first.block;
  known = λ a x knows. second.known a x (first.known a x knows);
}

same_slots : (hs : List Held) → AreSameSlots hs hs
same_slots [] = tt
same_slots (h ∷ hs) = (same_slot h, same_slots hs)

same_slots_then : (hs is ks : List Held) → AreSameSlots hs is → AreSameSlots is ks → AreSameSlots hs ks
same_slots_then [] [] [] first second = tt
same_slots_then [] [] (k ∷ ks) first second = absurd second
same_slots_then [] (i ∷ is) ks first second = absurd first
same_slots_then (h ∷ hs) [] ks first second = absurd first
same_slots_then (h ∷ hs) (i ∷ is) [] first second = absurd second
same_slots_then (h ∷ hs) (i ∷ is) (k ∷ ks) first second = (
  same_slot_then h i k first.0 second.0,
  same_slots_then hs is ks first.1 second.1,
)

learnt_slot : (a x : ℕ) (h : Held) → IsSameSlot h (learnt a x h)
learnt_slot a x h = record { place = refl; block = refl; known = λ b y knows. by_test b y knows (owns_at h.place a) }
  where
    by_test : (b y : ℕ) → Knows b y h → (t : Bool) → Among {A = ℕ × ℕ} (b, y) (cond t ((a, x) ∷ h.cells) h.cells)
    by_test b y knows true = inr knows
    by_test b y knows false = knows

learnt_slots : (a x : ℕ) (hs : List Held) → AreSameSlots hs (map (learnt a x) hs)
learnt_slots a x [] = tt
learnt_slots a x (h ∷ hs) = (learnt_slot a x h, learnt_slots a x hs)

-- ---- words were read
pub learns_same : (v : View) → Learns v v
learns_same v = record { view = refl; slots = same_slots v.held; came = came_same v }

pub learns_then : (v u w : View) → Learns v u → Learns u w → Learns v w
learns_then v u w first second = record {
  view = second.view ∙ ap (λ (x : View). record x { held = w.held; readings = w.readings }) first.view;
  slots = same_slots_then v.held u.held w.held first.slots second.slots;
  came = came_then v u w first.came second.came;
}

learns_loaded : (v : View) (a x : ℕ) → Learns v (loaded v a x)
learns_loaded v a x = record {
  view = refl;
  slots = learnt_slots a x v.held;
  came = record { words = (a, x) ∷ []; readings = refl };
}

learns_read : (v : View) (a x : ℕ) → Learns v (read v a x)
learns_read v a x = record {
  view = refl;
  slots = same_slots v.held;
  came = record { words = (a, x) ∷ []; readings = refl };
}

learns_looks : (v w : View) (meta : ℕ) → Looks v meta w → Learns v w
learns_looks v w meta looks =
    let mid = loaded v (meta + 16) looks.base in
    subst (Learns v) (sym looks.view)
    (learns_then v mid (loaded mid (meta + 32) looks.flags) (learns_loaded v (meta + 16) looks.base) (learns_loaded mid (meta + 32) looks.flags))

-- beside a slot or an excuse that came
learns_popped : (v w : View) (g : Group) (index : ℕ) → Learns v w → Learns (popped v g index) (popped w g index)
learns_popped v w g index learns = record {
  view = ap (λ (x : View). popped x g index) learns.view;
  slots = (same_slot (in_motion g index), learns.slots);
  came = record { words = learns.came.words; readings = learns.came.readings };
}

learns_excused : (v w : View) (x : Excuse) → Learns v w → Learns (with_excuse v (Some x)) (with_excuse w (Some x))
learns_excused v w x learns = record {
  view = ap (λ (y : View). with_excuse y (Some x)) learns.view;
  slots = learns.slots;
  came = record { words = learns.came.words; readings = learns.came.readings };
}

-- ---- pops
abbrev pub IsMissed : {X : Type 0} → Pop X → Type 0
IsMissed (Won slot) = ⊥
IsMissed Bare = Unit {0}
IsMissed (Other tag) = Unit {0}
IsMissed Lost = Unit {0}

learns_once : (meta class : ℕ) (v w : View) → LosesOnce meta class v w → Learns v w
learns_once meta class v w once =
    let mid = loaded v (meta + 24) once.seen in
    subst (Learns v) (sym once.view)
    (learns_then v mid (read mid (meta + 24) once.found) (learns_loaded v (meta + 24) once.seen) (learns_read mid (meta + 24) once.found))

learns_loses : (meta class n : ℕ) (v w : View) → Loses meta class n v w → Learns v w
learns_loses meta class zero v w same = subst (Learns v) same (learns_same v)
learns_loses meta class (suc n) v w (between, before, once) =
    learns_then v between w (learns_loses meta class n v between before) (learns_once meta class between w once)

learns_last : (meta class seen : ℕ) (v w : View) → LastLoads meta class seen v w → Learns v w
learns_last meta class seen v w last =
    subst (Learns v) (sym last.view)
    (learns_then v last.between (loaded last.between (meta + 24) seen)
    (learns_loses meta class last.lost v last.between last.loses)
    (learns_loaded last.between (meta + 24) seen))

-- a pop that won no slot read words alone
learns_cause : {X : Type 0} (meta class : ℕ) (v w : View) (pop : Pop X) → IsMissed pop → HasPopCause v meta class pop w → Learns v w
learns_cause meta class v w (Won slot) missed cause = absurd missed
learns_cause meta class v w Bare missed cause = learns_last meta class cause.seen v w cause.loads
learns_cause meta class v w (Other tag) missed cause = learns_last meta class cause.seen v w cause.loads
learns_cause meta class v w Lost missed cause = learns_loses meta class 32 v w cause

missed : {X : Type 0} (pop : Pop X) → (pop ≡ Bare) ⊎ ((tag : ℕ) × (pop ≡ Other tag)) ⊎ (pop ≡ Lost) → IsMissed pop
missed pop (inl bare) = subst IsMissed (sym bare) tt
missed pop (inr (inl other)) = subst IsMissed (sym other.1) tt
missed pop (inr (inr lost)) = subst IsMissed (sym lost) tt

-- a hand tried to pop, and got no slot: words were read
pub record Tried (hand now : Caller) : Type 0 where
  pub learns : Learns hand.view now.view
  pub book : KeepsBook hand now

pub tried_not : (hand now : Caller) → now ≡ hand → Tried hand now
tried_not hand now same = subst (Tried hand) (sym same) (record {
  learns = learns_same hand.view;
  book = record { number = refl; spare = refl; entries = refl };
})

pub tried_pop : {X : Type 0} (meta class : ℕ) (hand after now : Caller) (pop : Pop X)
    → (pop ≡ Bare) ⊎ ((tag : ℕ) × (pop ≡ Other tag)) ⊎ (pop ≡ Lost)
    → HasPopCause hand.view meta class pop after.view → KeepsBook hand after → now ≡ after → Tried hand now
tried_pop meta class hand after now pop none cause book same = subst (Tried hand) (sym same) (record {
  learns = learns_cause meta class hand.view after.view pop (missed pop none) cause;
  book = book;
})

-- which it still has after a call that keeps it
pub tried_book : (hand now new : Caller) → Tried hand now → KeepsBook now new → KeepsBook hand new
tried_book hand now new tried book = record {
  number = book.number ∙ tried.book.number;
  spare = book.spare ∙ tried.book.spare;
  entries = book.entries ∙ tried.book.entries;
}

-- ---- a slot came
-- the slot that came is found, wherever more was learnt since
came_first : (g : Group) (index : ℕ) (hs ks : List Held) (k : Held)
    → AreSameSlots (in_motion g index ∷ hs) ks → find g.meta index ks ≡ Some k → k.place ≡ record { group = g; index = index }
came_first g index hs [] k same found = absurd same
came_first g index hs (x ∷ xs) k same found =
    let place : Place = record { group = g; index = index } in
    let at : is_at g.meta index x.place ≡ true = subst (λ (p : Place). is_at g.meta index p ≡ true) (sym same.0.place) (is_at-here place) in
    let here : Some x ≡ Some k = subst (λ (b : Bool). cond b (Some x) (find g.meta index xs) ≡ Some k) at found in
    ap (λ (h : Held). h.place) (sym (same_Some x k here)) ∙ same.0.place

-- it is one for a request
pub slot_for : (class bytes : ℕ) (g : Group) (v : View) (hand : Caller) (token : Token)
    → HasSlot hand token → g.meta ≡ token.meta → g.tag ≡ class + 1 → bytes + 4 ≤ room g → Learns (popped v g token.index) hand.view
    → IsSlotFor class bytes hand token
slot_for class bytes g v hand token has of_meta of_class roomy learns =
    let found : find g.meta token.index hand.view.held ≡ Some has.held =
    subst (λ (m : ℕ). find m token.index hand.view.held ≡ Some has.held) (sym of_meta) has.found in
    let at : has.held.place ≡ record { group = g; index = token.index } = came_first g token.index v.held hand.view.held has.held learns.slots found in
    record {
      has = has;
      of_class = ap (λ (p : Place). p.group.tag) at ∙ of_class;
      roomy = subst (λ (r : ℕ). bytes + 4 ≤ r) (sym (has.place.room ∙ ap (λ (p : Place). room p.group) at)) roomy;
    }

-- it was won by a pop
module _ (meta class : ℕ) (v : View) (hand : Caller) (token : Token) (wins : Wins meta class token.index v hand.view) (meta_is : token.meta ≡ meta) where
  learns_won : Learns (popped v wins.pops.group token.index) hand.view
  learns_won =
      let g = wins.pops.group in
      let mid = popped wins.between g token.index in
      let seen = read mid (meta + 24) wins.seen in
      learns_then (popped v g token.index) mid hand.view
      (learns_popped v wins.between g token.index (learns_last meta class wins.seen v wins.between wins.loads))
      (learns_then mid seen hand.view (learns_read mid (meta + 24) wins.seen) (learns_looks seen hand.view meta wins.pops.looks))

  pub won : GainsSlot token.meta token.index v hand.view
  won = record { group = wins.pops.group; of_meta = wins.pops.of_meta ∙ sym meta_is; learns = learns_won }

  pub won_slot : (bytes : ℕ) → HasSlot hand token → class < 48 → bytes + 4 ≤ 16 * units_of class → IsSlotFor class bytes hand token
  won_slot bytes has known fits =
      let g = wins.pops.group in
      let of_class : g.tag ≡ class + 1 = wins.pops.class ∙ wins.slots.tag in
      slot_for class bytes g v hand token has (wins.pops.of_meta ∙ sym meta_is) of_class
      (plain_room g class bytes wins.pops.plain of_class known fits)
      learns_won

-- it was passed on
module _ (class bytes meta index : ℕ) (seat : View) (served : HasServed class bytes seat meta index) (v u : View) (learns : Learns v u)
    (slot : Option Held) (found : slot ≡ Some (in_motion served.group index)) where
  learns_passed : (w : View) → Looks (with_slot u slot) meta w → Learns (popped v served.group index) w
  learns_passed w looks =
      learns_then (popped v served.group index) (popped u served.group index) w (learns_popped v u served.group index learns)
      (learns_looks (popped u served.group index) w meta (subst (λ (o : Option Held). Looks (with_slot u o) meta w) found looks))

  module _ (hand : Caller) (token : Token) (looks : Looks (with_slot u slot) meta hand.view) (meta_is : token.meta ≡ meta)
      (index_is : token.index ≡ index) where
    learns_token : Learns (popped v served.group token.index) hand.view
    learns_token = subst (λ (i : ℕ). Learns (popped v served.group i) hand.view) (sym index_is) (learns_passed hand.view looks)

    pub passed : GainsSlot token.meta token.index v hand.view
    passed = record { group = served.group; of_meta = served.of_meta ∙ sym meta_is; learns = learns_token }

    pub passed_slot : HasSlot hand token → IsSlotFor class bytes hand token
    passed_slot has = slot_for class bytes served.group v hand token has (served.of_meta ∙ sym meta_is) served.of_class served.roomy learns_token

-- ---- an excuse came
pub excused : (number told : ℕ) (v u w : View) (found : Option Excuse)
    → told ≡ number → Learns v u → found ≡ Some (excuse_of_call number) → w ≡ with_excuse u found → GainsExcuse told v w
excused number told v u w found same learns is view =
    subst (λ (n : ℕ). GainsExcuse n v w) (sym same) (record {
      learns = subst (Learns (with_excuse v (Some (excuse_of_call number))))
          (sym (view ∙ ap (with_excuse u) is))
          (learns_excused v u (excuse_of_call number) learns);
    })

-- which a call's answer tells
module _ (pages : ℕ) (hand new : Caller) (was now : Refusals) where
  pub answered_excuse : (answer : Result Token ExcuseToken) → IfErr answer (GetsExcuse pages hand new was now) → IfErr answer (HasExcuse new)
  answered_excuse (Ok slot) gets = tt
  answered_excuse (Err excuse) gets = gets.has

  pub answered_excused : (answer : Result Token ExcuseToken) → IfErr answer (GetsExcuse pages hand new was now)
      → IfErr answer (λ excuse. GainsExcuse excuse.number hand.view new.view)
  answered_excused (Ok slot) gets = tt
  answered_excused (Err excuse) gets = gets.gains
