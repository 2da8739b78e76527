-- What a call leaves of a hand: its slots, and that each block is framed.
use Rattle.std.proofs.Common.{◌≡◌, ℕ, ◌-◌, ◌+◌, ◌*◌, ◌/◌, ◌%◌, cond, Bool, true, false, List, [], ◌∷◌, refl, sym, ap, ◌∙◌, subst, ⊎_elim, inl, inr}
use Rattle.std.specs.Prelude.{Option, Some, None}
use Rattle.ng_rule.proofs.geometry.Lists.{among_edit, among_map, find_edit}
use Rattle.ng_terms.specs.Heap.{extent}
use Rattle.ng_terms.specs.declared.entry.Extent.{Extent}
use Rattle.ng_terms.specs.declared.entry.Entry.{Entry}
use Rattle.ng_terms.specs.declared.entry.Entry.TheVariants.{Take}
use Rattle.ng_rule.proofs.hand.Load.{carries_more}
use Rattle.ng_view.specs.Frame.{Frames, IsFramed, IsShift, IsTrailer, KnowsByte}
use Rattle.ng_view.specs.Lists.{Among, edit, find, is_at}
use Rattle.ng_view.specs.Steps.{booked_block, given, learnt, loaded, regiven, stored, with_block, wrote}
use Rattle.ng_view.specs.declared.view.Held.{Held}
use Rattle.ng_view.specs.declared.view.View.{View}
use Rattle.ng_space.specs.Blocks.{BlockToken, HasBlock, HasFramed, Kills}
use Rattle.ng_space.specs.Callers.{Caller}
use Rattle.ng_space.specs.Tokens.{HasSlot, Token}
use Rattle.ng_space.proofs.Holding.{find-loaded}
use Rattle.ng_space.specs.Entries.{Enters}
use Rattle.ng_space.specs.Leaving.{AreFramed, Entered, HasFrame, KeepsBook, KeepsRest, Learns, Leaves, LeavesAll}
use Rattle.ng_space.proofs.Leaving.{all_itself, all_others, all_then, booked_others, booked_rest, entered_rest, held_all, kills_others, kills_rest, learns_cell, loaded_all, loaded_rest, others_then, rest_itself, rest_then, stored_others, stored_rest}

-- ---- a frame stays known where no cell is forgotten
module _ (h k : Held) (p n : ℕ) (l : Learns h k) where
  abbrev y : Held
  y = record k { place = h.place }

  byte : (a : ℕ) → KnowsByte a 0 h → KnowsByte a 0 y
  byte a s = (s.0, l.cells (4 * (a / 4)) s.0 tt s.1, s.2)

  trailer : (r : ℕ) → IsTrailer h r → IsTrailer y r
  trailer r (inl none) = inl none
  trailer r (inr (inl few)) = inr (inl (few.0, few.1, byte _ few.2))
  trailer r (inr (inr many)) = inr (inr (many.0, byte _ many.1, l.cells _ r tt many.2, byte _ many.3))

  shift : IsShift h p → IsShift y p
  shift (inl first) = inl first
  shift (inr s) = inr (s.0, s.1, s.2, l.cells s.0 s.1 tt s.3, s.4, s.5, s.6)

  frames : (x : ℕ) → Frames h p n x → Frames y p n x
  frames x f = record {
    whole = f.whole;
    from = f.from;
    roomy = f.roomy;
    within = f.within;
    carries = carries_more h y p x refl (λ a z q s. l.cells a z tt s) f.carries;
    field = f.field;
    trailer = trailer _ f.trailer;
    shift = shift f.shift;
  }

  pub learns_framed : IsFramed h p n → IsFramed k p n
  learns_framed f = subst (λ (z : Held). IsFramed z p n) (λ i. record k { place = sym l.place i }) (f.0, f.1, f.2, l.cells f.0 f.1 tt f.3, frames f.1 f.4)

-- ---- one slot
-- of which no cell is forgotten
pub learns_frame : (h k : Held) → Learns h k → HasFrame h → HasFrame k
learns_frame h k l framed b live = learns_framed h k b.at b.len l (framed b (sym l.block ∙ live))

-- which has no block
pub free_frame : (h : Held) → h.block ≡ None → HasFrame h
free_frame h free b live = let both : ◌≡◌ {A = Option Extent} None (Some b) = sym free ∙ live in absurd (cc)

-- whose block the hand knows to be framed
pub known_frame : (hand : Caller) (block : BlockToken) (h : Held) → HasFramed hand block
    → find block.slot.meta block.slot.index hand.view.held ≡ Some h → HasFrame h
known_frame hand block h f found b live =
    let held : Held = f.has.held in
    let here = f.has.found in
    let same : h ≡ held = cc in
    let both : ◌≡◌ {A = Option Extent} (Some b) (Some (extent block.at block.len block.align)) = sym live ∙ ap (λ (k : Held). k.block) same ∙ f.has.live in
    let is : b ≡ extent block.at block.len block.align = cc in
    subst (λ k. IsFramed k b.at b.len) (sym same) (subst (λ (e : Extent). IsFramed held e.at e.len) (sym is) f.framed)

-- ---- the steps on a view
pub held_each : (v w : View) → w.held ≡ v.held → AreFramed v → AreFramed w
held_each v w same framed k there = framed k (subst (λ hs. Among k hs) same there)

pub loaded_each : (v w : View) (a x : ℕ) → w ≡ loaded v a x → AreFramed v → AreFramed w
loaded_each v w a x is framed k there =
    let was = among_map (learnt a x) v.held k (subst (λ (u : View). Among k u.held) is there) in
    subst HasFrame (sym was.2) (learns_frame was.0 (learnt a x was.0) (learns_cell a x was.0) (framed was.0 was.1))

-- the slot that is found is framed once it was edited
edited_each : (m i : ℕ) (t : Held → Held) (v w : View) (h : Held) → w.held ≡ edit m i t v.held → find m i v.held ≡ Some h
    → HasFrame (t h) → AreFramed v → AreFramed w
edited_each m i t v w h is found own framed k there = ⊎_elim
    (λ (was : Among k v.held). framed k was)
    (λ (q : k ≡ t h). subst HasFrame (sym q) own)
    (among_edit m i t v.held h k found (subst (λ hs. Among k hs) is there))

-- a slot without a block was stored in
pub stored_each : (old new : Caller) (slot : Token) (a x : ℕ) → HasSlot old slot
    → new.view ≡ stored old.view slot.meta slot.index a x → AreFramed old.view → AreFramed new.view
stored_each old new slot a x has is =
    edited_each slot.meta slot.index (wrote a x) old.view new.view has.held (ap (λ (u : View). u.held) is) has.found
    (free_frame (wrote a x has.held) has.free)

-- it got a block, which is framed
pub given_each : {a : ℕ} (old new : Caller) (slot : Token) (p n k x : ℕ) → HasSlot old slot
    → new.view ≡ given old.view slot.meta slot.index p n a k x
    → HasFramed new (record { slot = slot; at = p; len = n; align = a }) → AreFramed old.view → AreFramed new.view
given_each {a} old new slot p n k x has gives put framed =
    let m : ℕ = slot.meta in
    let i : ℕ = slot.index in
    let mid : Caller = record old { view = stored old.view m i (p - 4) x } in
    let t : Held → Held = with_block (Some (extent p n a)) in
    let h : Held = wrote (p - 4) x has.held in
    let there : find m i mid.view.held ≡ Some h = find_edit m i (wrote (p - 4) x) old.view.held has.held (λ y. refl) has.found in
    let held = ap (λ (u : View). u.held) gives in
    let found = ap (λ hs. find m i hs) held ∙ find_edit m i t mid.view.held h (λ y. refl) there in
    edited_each m i t mid.view new.view h held there (known_frame new (record { slot = slot; at = p; len = n; align = a }) (t h) put found)
    (stored_each old mid slot (p - 4) x has refl framed)

-- two edits of a slot are one
edit_twice : (m i : ℕ) (t u : Held → Held) (hs : List Held) → ((y : Held) → (t y).place ≡ y.place) → edit m i u (edit m i t hs) ≡ edit m i (λ y. u (t y)) hs
edit_twice m i t u [] same = refl
edit_twice m i t u (x ∷ xs) same = by_test (edit_twice m i t u xs same) (is_at m i x.place) refl
  where
    by_test : edit m i u (edit m i t xs) ≡ edit m i (λ y. u (t y)) xs → (b : Bool) → is_at m i x.place ≡ b
        → edit m i u (cond b (t x ∷ xs) (x ∷ edit m i t xs)) ≡ cond b (u (t x) ∷ xs) (x ∷ edit m i (λ y. u (t y)) xs)
    by_test ih true here = ap (λ b. cond b (u (t x) ∷ xs) (t x ∷ edit m i u xs)) (ap (is_at m i) (same x) ∙ here)
    by_test ih false here = ap (λ b. cond b (u x ∷ edit m i t xs) (x ∷ edit m i u (edit m i t xs))) here ∙ ap (λ (l : List Held). x ∷ l) ih

-- its block got another length
regiven_each : (old new : Caller) (block : BlockToken) (n k x : ℕ) → HasBlock old block
    → new.view ≡ regiven old.view block.slot.meta block.slot.index block.at n k x
    → HasFramed new (record { slot = block.slot; at = block.at; len = n; align = 16 }) → AreFramed old.view → AreFramed new.view
regiven_each old new block n k x has gives put framed =
    let m : ℕ = block.slot.meta in
    let i : ℕ = block.slot.index in
    let t : Held → Held = λ h. with_block (Some (extent block.at n 16)) (wrote (block.at - 4) x h) in
    let held : new.view.held ≡ edit m i t old.view.held = ap (λ (u : View). u.held) gives ∙ edit_twice m i (wrote (block.at - 4) x) (with_block (Some (extent block.at n 16))) old.view.held (λ y. refl) in
    let found = ap (λ hs. find m i hs) held ∙ find_edit m i t old.view.held has.held (λ y. refl) has.found in
    edited_each m i t old.view new.view has.held held has.found
    (known_frame new (record { slot = block.slot; at = block.at; len = n; align = 16 }) (t has.held) put found) framed

-- a block was ended
pub killed_each : (old new : Caller) (block : BlockToken) (number : ℕ) → HasBlock old block → Kills old.view block number new.view
    → AreFramed old.view → AreFramed new.view
killed_each old new block number has kills framed =
    let m : ℕ = block.slot.meta in
    let i : ℕ = block.slot.index in
    let a : ℕ = block.at - 4 in
    let one : View = loaded old.view a kills.header in
    let two : View = booked_block one m i None number (Take block.at) in
    let h : Held = learnt a kills.header has.held in
    let found : find m i one.held ≡ Some h = find-loaded old.view a kills.header m i has.held has.found in
    let dead : Held = with_block None h in
    let still : find m i two.held ≡ Some dead = find_edit m i (with_block None) one.held h (λ y. refl) found in
    let x : ℕ = kills.header % 256 + 65280 in
    edited_each m i (wrote a x) two new.view dead (ap (λ (u : View). u.held) kills.view) still (free_frame (wrote a x dead) refl)
    (edited_each m i (with_block None) one two h refl found (free_frame dead refl) (loaded_each old.view one a kills.header refl framed))

-- ---- the steps as a whole
pub leaves_itself : (v : View) → LeavesAll v v
leaves_itself v = record { all = all_itself v; rest = rest_itself v; each = λ framed. framed }

pub leaves_held : (v w : View) → w.held ≡ v.held → KeepsRest v w → LeavesAll v w
leaves_held v w same rest = record { all = held_all v w same; rest = rest; each = held_each v w same }

pub leaves_loaded : (v w : View) (a x : ℕ) → w ≡ loaded v a x → LeavesAll v w
leaves_loaded v w a x is = record { all = loaded_all v w a x is; rest = loaded_rest v w a x is; each = loaded_each v w a x is }

pub leaves_entered : (v w : View) (number : ℕ) (entry : Entry) → Enters v number entry w → LeavesAll v w
leaves_entered v w number entry enters =
    leaves_held v w (ap (λ (u : View). u.held) enters.view) (entered_rest v w number entry enters)

pub leaves_stored : (old new : Caller) (slot : Token) (a x : ℕ) → HasSlot old slot
    → new.view ≡ stored old.view slot.meta slot.index a x → Leaves slot old.view new.view
leaves_stored old new slot a x has is = record {
  others = stored_others slot old.view new.view a x is;
  rest = stored_rest old.view new.view slot.meta slot.index a x is;
  each = stored_each old new slot a x has is;
}

pub leaves_given : {a : ℕ} (old new : Caller) (slot : Token) (p n k x : ℕ) → HasSlot old slot
    → new.view ≡ given old.view slot.meta slot.index p n a k x
    → HasFramed new (record { slot = slot; at = p; len = n; align = a }) → Leaves slot old.view new.view
leaves_given {a} old new slot p n k x has gives put =
    let mid : View = stored old.view slot.meta slot.index (p - 4) x in record {
      others = others_then slot old.view mid new.view (stored_others slot old.view mid (p - 4) x refl) (booked_others slot mid new.view _ k _ gives);
      rest = rest_then old.view mid new.view (stored_rest old.view mid slot.meta slot.index (p - 4) x refl) (booked_rest mid new.view slot.meta slot.index _ k _ gives);
      each = given_each old new slot p n k x has gives put;
    }

pub leaves_regiven : (old new : Caller) (block : BlockToken) (n k x : ℕ) → HasBlock old block
    → new.view ≡ regiven old.view block.slot.meta block.slot.index block.at n k x
    → HasFramed new (record { slot = block.slot; at = block.at; len = n; align = 16 }) → Leaves block.slot old.view new.view
leaves_regiven old new block n k x has gives put =
    let slot = block.slot in
    let mid : View = stored old.view slot.meta slot.index (block.at - 4) x in record {
      others = others_then slot old.view mid new.view (stored_others slot old.view mid (block.at - 4) x refl) (booked_others slot mid new.view _ k _ gives);
      rest = rest_then old.view mid new.view (stored_rest old.view mid slot.meta slot.index (block.at - 4) x refl) (booked_rest mid new.view slot.meta slot.index _ k _ gives);
      each = regiven_each old new block n k x has gives put;
    }

pub leaves_killed : (old new : Caller) (block : BlockToken) (number : ℕ) → HasBlock old block → Kills old.view block number new.view
    → Leaves block.slot old.view new.view
leaves_killed old new block number has kills = record {
  others = kills_others old.view new.view block number kills;
  rest = kills_rest old.view new.view block number kills;
  each = killed_each old new block number has kills;
}

-- ---- one after the other
pub leaves_then : (slot : Token) (v u w : View) → Leaves slot v u → Leaves slot u w → Leaves slot v w
leaves_then slot v u w one two = record {
  others = others_then slot v u w one.others two.others;
  rest = rest_then v u w one.rest two.rest;
  each = λ framed. two.each (one.each framed);
}

pub leaves_all_then : (v u w : View) → LeavesAll v u → LeavesAll u w → LeavesAll v w
leaves_all_then v u w one two = record {
  all = all_then v u w one.all two.all;
  rest = rest_then v u w one.rest two.rest;
  each = λ framed. two.each (one.each framed);
}

pub all_leaves : (slot : Token) (v w : View) → LeavesAll v w → Leaves slot v w
all_leaves slot v w all = record { others = all_others slot v w all.all; rest = all.rest; each = all.each }

-- an entry, and then a call that leaves the book
pub entered_then : {old mid new : Caller} {entry : Entry} → Entered old mid entry → KeepsBook mid new → Entered old new entry
entered_then {old} {mid} {new} enters keeps = record {
  number = keeps.number ∙ enters.number;
  spare = ap (λ n. n + 1) keeps.spare ∙ enters.spare;
  entries = keeps.entries ∙ enters.entries;
}
