-- A slot for a block, or the excuse of a refused map call, comes into a hand.
use Rattle.std.proofs.Common.{◌≡◌, ◌≢◌, ℕ, ◌+◌, ◌-◌, ◌*◌, ◌<◌, ◌≤◌, eqb, eq-eqb, cond, Bool, true, false, List, [], ◌∷◌, ◌++◌, Ok, Err, refl, sym, ap, ◌∙◌, subst, ⊎_elim, inl, inr, max, arith}
use Rattle.std.specs.Prelude.{IfErr, IfOk, OnErr, OnOk, Result, Some}
use Rattle.std.proofs.lemmas.Bool.{cases_eq}
use Rattle.std.proofs.lemmas.List.{append_assoc}
use Rattle.ng_class.specs.Class.{IsAllowedClass, units_of}
use Rattle.ng_class.proofs.Classes.{allowed_least, units_of_next}
use Rattle.ng_mapper.specs.declared.refusals.Refusals.{Refusals}
use Rattle.ng_policy.specs.declared.ask.Ask.{Ask}
use Rattle.ng_terms.specs.Accounts.{pages_for}
use Rattle.ng_terms.specs.Causes.{Rose}
use Rattle.ng_terms.specs.declared.refusal.AllocRefusal.TheVariants.{NoMemory}
use Rattle.ng_rule.proofs.geometry.Lists.{is_at-here}
use Rattle.ng_view.specs.Lists.{Among, find, is_at}
use Rattle.ng_view.specs.Notes.{excuse_of_call}
use Rattle.ng_view.specs.Steps.{in_motion, without_one}
use Rattle.ng_view.specs.declared.view.Held.{Held}
use Rattle.ng_view.specs.declared.view.View.{View}
use Rattle.ng_space.specs.Leaving.{AreFramed, HasFrame, IsOther, KeepsAll, KeepsBook, KeepsOthers, KeepsRest, KeepsSlots, Learns, Leaves, LeavesAll}
use Rattle.ng_space.proofs.LeavingFrames.{free_frame, held_each, learns_frame}
use Rattle.ng_space.proofs.Leaving.{all_then, held_all, not_at, nothing_stored}
use Rattle.ng_frame.proofs.Tokens.{block_stays, live_apart}
use Rattle.ng_space.specs.Blocks.{OfSlot, Serves}
use Rattle.ng_space.specs.Callers.{Caller}
use Rattle.ng_space.specs.Passed.{EntersNoMemory, ExcuseToken}
use Rattle.ng_space.specs.Tokens.{HasSlot, Token}
use Rattle.ng_group.specs.Asking.{BuildsWanted, LeavesHeap, RefusedWanted}
use Rattle.ng_group.specs.ClassFor.{IsClassFor, IsLooked}
use Rattle.ng_group.specs.Hands.{AreSameSlots, GainsExcuse, GainsSlot, GetsExcuse, IsApart, IsSameSlot, IsSlotFor}
use Rattle.ng_group.specs.Lone.{BuildsLone, IsLoneRefused}
use Rattle.ng_group.specs.States.{State}
use Rattle.ng_group.specs.Steps.{GoesOn}
use Rattle.ng_group.specs.Untouched.{IsUntouched}
use Rattle.ng_group.proofs.UntouchedLemmas.{untouched_same, untouched_since}
use Rattle.ng_heap.specs.Causes.{BuildsFor, HasClass, HasRefusalCause, Looks, threshold}
use Rattle.ng_heap.specs.Keeps.{IsFresh}

-- a slot, or an excuse
abbrev pub Answer : Type 0
Answer = Result Token ExcuseToken

-- ---- the same slots, of which more cells may be known
same_learns : (h k : Held) → IsSameSlot h k → Learns h k
same_learns h k same = record { place = same.place; block = same.block; cells = λ a x p known. same.known a x known }

-- a slot that is found was found before
same_back : (m i : ℕ) (hs ks : List Held) (k : Held) → AreSameSlots hs ks → find m i ks ≡ Some k
    → (h : Held) × (find m i hs ≡ Some h) × Learns h k
same_back m i [] [] k same e = absurd (cc)
same_back m i [] (y ∷ ys) k same e = elim same [ ]
same_back m i (x ∷ xs) [] k same e = elim same [ ]
same_back m i (x ∷ xs) (y ∷ ys) k same e =
    by_test (same_back m i xs ys k same.1) (is_at m i x.place) (ap (λ p. cond (is_at m i p) (Some y) (find m i ys)) (sym same.0.place) ∙ e)
  where
    by_test : (find m i ys ≡ Some k → (h : Held) × (find m i xs ≡ Some h) × Learns h k) → (b : Bool)
        → cond b (Some y) (find m i ys) ≡ Some k → (h : Held) × (cond b (Some x) (find m i xs) ≡ Some h) × Learns h k
    by_test ih true e = let q : y ≡ k = cc in (x, refl, subst (λ z. Learns x z) q (same_learns x y same.0))
    by_test ih false e = ih e

-- and one that was found still is
same_forth : (m i : ℕ) (hs ks : List Held) (h : Held) → AreSameSlots hs ks → find m i hs ≡ Some h
    → (k : Held) × (find m i ks ≡ Some k) × Learns h k
same_forth m i [] ks h same e = absurd (cc)
same_forth m i (x ∷ xs) [] h same e = elim same [ ]
same_forth m i (x ∷ xs) (y ∷ ys) h same e = carried (by_test (same_forth m i xs ys h same.1) (is_at m i x.place) e)
  where
    by_test : (find m i xs ≡ Some h → (k : Held) × (find m i ys ≡ Some k) × Learns h k) → (b : Bool)
        → cond b (Some x) (find m i xs) ≡ Some h → (k : Held) × (cond b (Some y) (find m i ys) ≡ Some k) × Learns h k
    by_test ih true e = let q : x ≡ h = cc in (y, refl, subst (λ z. Learns z y) q (same_learns x y same.0))
    by_test ih false e = ih e

    carried : (k : Held) × (cond (is_at m i x.place) (Some y) (find m i ys) ≡ Some k) × Learns h k
        → (k : Held) × (find m i (y ∷ ys) ≡ Some k) × Learns h k
    carried r = (r.0, ap (λ p. cond (is_at m i p) (Some y) (find m i ys)) same.0.place ∙ r.1, r.2)

-- each is framed where it was
pub same_each : (hs ks : List Held) → AreSameSlots hs ks → ((h : Held) → Among h hs → HasFrame h) → (k : Held) → Among k ks → HasFrame k
same_each [] [] same framed k there = elim there [ ]
same_each [] (y ∷ ys) same framed k there = elim same [ ]
same_each (x ∷ xs) [] same framed k there = elim same [ ]
same_each (x ∷ xs) (y ∷ ys) same framed k (inl e) = subst HasFrame (sym e) (learns_frame x y (same_learns x y same.0) (framed x (inl refl)))
same_each (x ∷ xs) (y ∷ ys) same framed k (inr e) = same_each xs ys same.1 (λ h was. framed h (inr was)) k e

pub same_all : (v w : View) → AreSameSlots v.held w.held → KeepsAll v w
same_all v w same = record {
  slots = λ m i h found. same_forth m i v.held w.held h same found;
  back = λ m i k found. same_back m i v.held w.held k same found;
}

-- where a slot came, it is so of the others
gained_others : (slot : Token) (v w : View) → GainsSlot slot.meta slot.index v w → KeepsOthers slot v w
gained_others slot v w gains = record {
  slots = λ m i ne h found. same_forth m i (x ∷ v.held) w.held h gains.learns.slots (passed m i ne ∙ found);
  back = λ m i ne k found.
      let r = same_back m i (x ∷ v.held) w.held k gains.learns.slots found in (r.0, sym (passed m i ne) ∙ r.1, r.2);
}
  where
    x : Held
    x = in_motion gains.group slot.index

    here : is_at slot.meta slot.index x.place ≡ true
    here = subst (λ m. is_at m slot.index x.place ≡ true) gains.of_meta (is_at-here x.place)

    passed : (m i : ℕ) → IsOther slot m i → find m i (x ∷ v.held) ≡ find m i v.held
    passed m i ne = ap (λ b. cond b (Some x) (find m i v.held)) (not_at slot.meta slot.index m i x.place ne here)

gained_each : (slot : Token) (v w : View) → GainsSlot slot.meta slot.index v w → AreFramed v → AreFramed w
gained_each slot v w gains framed = same_each (x ∷ v.held) w.held gains.learns.slots each
  where
    x : Held
    x = in_motion gains.group slot.index

    each : (h : Held) → Among h (x ∷ v.held) → HasFrame h
    each h (inl e) = subst HasFrame (sym e) (free_frame x refl)
    each h (inr was) = framed h was

gained_rest : (slot : Token) (v w : View) → GainsSlot slot.meta slot.index v w → KeepsRest v w
gained_rest slot v w gains =
    let is = gains.learns.view in record {
      excuses = ap (λ (u : View). u.excuses) is;
      sent = ap (λ (u : View). u.sent) is;
      taken = ap (λ (u : View). u.taken) is;
      more = gains.learns.came.words;
      readings = gains.learns.came.readings;
      stored = nothing_stored v w (ap (λ (u : View). u.stores) is);
    }

pub gained_leaves : (slot : Token) (v w : View) → GainsSlot slot.meta slot.index v w → Leaves slot v w
gained_leaves slot v w gains =
    record { others = gained_others slot v w gains; rest = gained_rest slot v w gains; each = gained_each slot v w gains }

-- ---- the slot is apart from each that was there
abbrev pub IsApartFrom : Caller → Token → Type 0
IsApartFrom before slot = (token : Token) → HasSlot before token → IsApart token slot

pub answered_fresh : (before after : Caller) (class bytes : ℕ) (answer : Answer) → IfOk answer (IsSlotFor class bytes after)
    → IfOk answer (IsApartFrom before) → KeepsBook before after → KeepsSlots before.view after.view → IfOk answer (IsFresh before)
answered_fresh before after class bytes (Ok slot) is apart book slots = record {
  slots = apart;
  blocks = λ other live.
      let stays = slots other.slot.meta other.slot.index in
      live_apart after slot other is.has (block_stays before after book.number other stays live);
}
answered_fresh before after class bytes (Err excuse) is apart book slots = tt

-- ---- its class serves the bytes
of_tag : (hand : Caller) (class bytes : ℕ) (slot : Token) (P : Held → Type 0) → IsSlotFor class bytes hand slot
    → ((h : Held) → h.place.group.tag ≡ class + 1 → P h) → OfSlot hand slot P
of_tag hand class bytes slot P is tells h found =
    let here = is.has.found in
    let same : is.has.held ≡ h = cc in
    subst P same (tells is.has.held is.of_class)

pub answered_serves : (hand : Caller) (class n : ℕ) (answer : Answer) → IfOk answer (IsSlotFor class n hand) → IsAllowedClass n class
    → IfOk answer (λ slot. OfSlot hand slot (Serves n 16))
answered_serves hand class n (Ok slot) is may =
    let asked : n ≡ (n + 16) - 16 = omega arith in
    of_tag hand class n slot (Serves n 16) is (λ h tag. (class, tag, subst (λ k. IsAllowedClass k class) asked may))
answered_serves hand class n (Err excuse) is may = tt

pub lone_allowed : (n : ℕ) → threshold ≤ n → IsAllowedClass n 63
lone_allowed n many = inr (record { lone = refl; large = many })

module _ {M P : Type 0} (before looked : State M P) (n class : ℕ) (is : IsClassFor before looked n class) (few : class < 48) where
  near : class ≤ is.least + 1
  near = ⊎_elim
      (λ (up : class ≡ is.least + 1). omega (arith, up))
      (λ (ne : class ≢ is.least + 1). let same : class ≡ is.least = is.stays ne in omega (arith, same))
      (cases_eq class (is.least + 1))

  pub class_allowed : n < threshold → IsAllowedClass n class
  class_allowed small = allowed_least n is.least class small is.is_least near few

  -- and so has room for them
  pub class_roomy : n + 4 ≤ 16 * units_of class
  class_roomy = ⊎_elim
      (λ (up : class ≡ is.least + 1).
      let rises : units_of is.least < units_of (is.least + 1) = units_of_next is.least (omega (arith, up, few)) in
      subst (λ k. n + 4 ≤ 16 * units_of k) (sym up) (omega (arith, rises, is.is_least.holds)))
      (λ (ne : class ≢ is.least + 1). subst (λ k. n + 4 ≤ 16 * units_of k) (sym (is.stays ne)) is.is_least.holds)
      (cases_eq class (is.least + 1))

-- ---- what the core leaves as it looks
module _ {M P : Type 0} (before looked : State M P) (is : IsLooked before looked) where
  pub looked_mapper : looked.mapper ≡ before.mapper
  looked_mapper = ap (λ (s : State M P). s.mapper) is.state

  pub looked_rules : looked.rules ≡ before.rules
  looked_rules = ap (λ (s : State M P). s.rules) is.state

  pub looked_on : GoesOn before.seat looked.seat
  looked_on = record {
    came = record { words = is.notes.words; readings = ap (λ (v : View). v.readings) is.notes.noted.view };
    next = ap (λ (v : View). v.desk.next) is.notes.noted.view;
  }

-- ---- what was built for the slot
pub of_class : (hand : Caller) (class n : ℕ) (slot : Token) → IsSlotFor class n hand slot → HasClass hand slot class
of_class hand class n slot is = of_tag hand class n slot (λ h. h.place.group.tag ≡ class + 1) is (λ h tag. tag)

pub answered_lone : {M P : Type 0} (counts : Ask → ℕ → Type 0) (before after : State M P) (n : ℕ) (hand : Caller) (answer : Answer)
    → threshold ≤ n → IfOk answer (IsSlotFor 63 n hand) → IfOk answer (λ slot. BuildsLone slot.meta before after n)
    → OnOk answer (after.seat.stores ≡ before.seat.stores) → IfOk answer (BuildsFor counts before after n hand)
answered_lone counts before after n hand (Ok slot) many is builds stores = record {
  source = inl (many, of_class hand 63 n slot is, builds);
  untouched = untouched_same slot.meta slot.index before.seat after.seat stores;
}
answered_lone counts before after n hand (Err excuse) many is builds stores = tt

pub answered_builds : {M P : Type 0} (gives : P → Ask → ℕ → Type 0) (before looked after : State M P) (n class : ℕ) (hand : Caller) (answer : Answer)
    → Looks before looked n class → n < threshold → IfOk answer (IsSlotFor class n hand)
    → OnOk answer (BuildsWanted (gives looked.rules) looked after class n)
    → IfOk answer (λ slot. IsUntouched slot.meta slot.index looked.seat after.seat)
    → IfOk answer (BuildsFor (gives before.rules) before after n hand)
answered_builds {P = P} gives before looked after n class hand (Ok slot) looks small is builds untouched =
    let wanted : BuildsWanted (gives before.rules) looked after class n =
    subst (λ (r : P). BuildsWanted (gives r) looked after class n) (looked_rules before looked looks.only) builds in
    let noted = looks.only.notes.noted.view in record {
      source = inr (small, (looked, class, looks, of_class hand class n slot is, wanted));
      untouched = untouched_since slot.meta slot.index before.seat looked.seat after.seat (ap (λ (v : View). v.stores) noted) (ap (λ (v : View). v.desk.groups) noted) untouched;
    }
answered_builds gives before looked after n class hand (Err excuse) looks small is builds untouched = tt

-- ---- a map call was refused
pub answered_lone_cause : {M P : Type 0} (counts : Ask → ℕ → Type 0) (refused : M → Refusals) (before after : State M P) (n : ℕ)
    (hand new : Caller) (answer : Answer) → threshold ≤ n
    → IfErr answer (GetsExcuse (pages_for n) hand new (refused before.mapper) (refused after.mapper))
    → OnErr answer (IsLoneRefused before after n (refused after.mapper).last)
    → OnErr answer (LeavesHeap before after)
    → IfErr answer (λ excuse. HasRefusalCause counts refused before after n (NoMemory excuse.number))
answered_lone_cause counts refused before after n hand new (Ok slot) many gets cause leaves = tt
answered_lone_cause counts refused before after n hand new (Err excuse) many gets cause leaves =
    (gets.number_is, gets.rose, omega (arith, gets.most), inl (many, cause, leaves))

pub answered_cause : {M P : Type 0} (gives : P → Ask → ℕ → Type 0) (refused : M → Refusals) (before looked after : State M P) (n class : ℕ)
    (hand new : Caller) (answer : Answer) → Looks before looked n class → n < threshold
    → IfErr answer (GetsExcuse 512 hand new (refused looked.mapper) (refused after.mapper))
    → OnErr answer (RefusedWanted (gives looked.rules) looked after class n (refused after.mapper).last)
    → OnErr answer (LeavesHeap looked after)
    → IfErr answer (λ excuse. HasRefusalCause (gives before.rules) refused before after n (NoMemory excuse.number))
answered_cause gives refused before looked after n class hand new (Ok slot) looks small gets cause leaves = tt
answered_cause {M = M} {P = P} gives refused before looked after n class hand new (Err excuse) looks small gets cause leaves = (
  gets.number_is,
  subst (λ (m : M). Rose (refused m).count (refused after.mapper).count) mapper gets.rose,
  omega (arith, subst (λ (m : M). (refused after.mapper).most ≤ max (refused m).most 512) mapper gets.most),
  inr (small, (looked, class, looks, wanted, leaves)),
)
  where
    mapper : looked.mapper ≡ before.mapper
    mapper = looked_mapper before looked looks.only

    wanted : RefusedWanted (gives before.rules) looked after class n (refused after.mapper).last
    wanted = subst (λ (r : P). RefusedWanted (gives r) looked after class n (refused after.mapper).last)
        (looked_rules before looked looks.only) cause

-- the excuse of a refused map call came, and went with the entry of the request
refused_rest : (v u w : View) (number n excuse : ℕ) → GainsExcuse excuse v u → EntersNoMemory u number n excuse w → KeepsRest v w
refused_rest v u w number n excuse gains enters =
    let is = gains.learns.view in
    let here : eqb excuse excuse ≡ true = eq-eqb excuse excuse refl in record {
      excuses =
          ap (λ (x : View). x.excuses) enters.view
          ∙ ap (λ (x : View). without_one excuse x.excuses) is
          ∙ ap (λ b. cond b v.excuses (excuse_of_call excuse ∷ without_one excuse v.excuses)) here;
      sent = ap (λ (x : View). x.sent) enters.view ∙ ap (λ (x : View). x.sent) is;
      taken = ap (λ (x : View). x.taken) enters.view ∙ ap (λ (x : View). x.taken) is;
      more = gains.learns.came.words ++ (0, enters.found) ∷ [];
      readings =
          ap (λ (x : View). x.readings) enters.view
          ∙ ap (λ (r : List (ℕ × ℕ)). r ++ (0, enters.found) ∷ []) gains.learns.came.readings
          ∙ append_assoc v.readings gains.learns.came.words ((0, enters.found) ∷ []);
      stored = nothing_stored v w (ap (λ (x : View). x.stores) enters.view ∙ ap (λ (x : View). x.stores) is);
    }

pub refused_leaves : (v u w : View) (number n excuse : ℕ) → GainsExcuse excuse v u → EntersNoMemory u number n excuse w → LeavesAll v w
refused_leaves v u w number n excuse gains enters =
    let held : w.held ≡ u.held = ap (λ (x : View). x.held) enters.view in record {
      all = all_then v u w (same_all v u gains.learns.slots) (held_all u w held);
      rest = refused_rest v u w number n excuse gains enters;
      each = λ framed. held_each u w held (same_each v.held u.held gains.learns.slots framed);
    }
