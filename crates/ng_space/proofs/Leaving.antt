-- What loads, stores and gives leave of the slots in a view.
use Rattle.std.proofs.Common.{◌≡◌, ◌≢◌, ◌⊎◌, ℕ, ◌-◌, ◌+◌, ◌≤◌, cond, Bool, true, false, List, [], ◌∷◌, ◌++◌, length, map, refl, sym, ap, ◌∙◌, subst, ⊎_elim, inr, arith}
use Rattle.std.proofs.lemmas.List.{append-nil, append_assoc, length-append}
use Rattle.std.proofs.lemmas.List.Elements.{All-append, All-cons, All-nil}
use Rattle.std.specs.Prelude.{◌%◌, Option, Some, None}
use Rattle.ng_terms.specs.declared.entry.Extent.{Extent}
use Rattle.ng_terms.specs.declared.entry.Entry.{Entry}
use Rattle.ng_terms.specs.declared.entry.Entry.TheVariants.{Take}
use Rattle.ng_rule.proofs.geometry.Lists.{find_edit, is_at-true}
use Rattle.ng_rule.proofs.hand.Load.{still_knows}
use Rattle.ng_view.specs.Lists.{Among, edit, find, is_at}
use Rattle.ng_view.specs.Places.{owns_at}
use Rattle.ng_view.specs.Steps.{booked_block, learnt, loaded, stored, with_block, wrote}
use Rattle.ng_view.specs.declared.view.Held.{Held}
use Rattle.ng_view.specs.declared.view.Place.{Place}
use Rattle.ng_view.specs.declared.view.Store.{Store}
use Rattle.ng_view.specs.declared.view.View.{View}
use Rattle.ng_space.specs.Blocks.{BlockToken, Kills}
use Rattle.ng_space.specs.Entries.{Enters}
use Rattle.ng_space.specs.Tokens.{Token}
use Rattle.ng_space.proofs.Holding.{find-loaded}
use Rattle.ng_space.specs.Leaving.{CameFrom, IsOther, KeepsAll, KeepsCells, KeepsOthers, KeepsRest, Learns, Stays, StoredSince}

-- ---- what was stored since
pub nothing_stored : (v w : View) → w.stores ≡ v.stores → StoredSince v w
nothing_stored v w same = record { more = []; stores = same ∙ sym (append-nil v.stores); after = All-nil (λ (s : Store). length v.readings ≤ s.behind) }

one_stored : (v w : View) (s : Store) → s.behind ≡ length v.readings → w.stores ≡ v.stores ++ s ∷ [] → StoredSince v w
one_stored v w s behind is = record {
  more = s ∷ [];
  stores = is;
  after = let P : Store → Type 0 = λ s. length v.readings ≤ s.behind in All-cons P s [] (omega (arith, behind)) (All-nil P);
}

stored_then : (v u w : View) (read : List (ℕ × ℕ)) → u.readings ≡ v.readings ++ read → StoredSince v u → StoredSince u w → StoredSince v w
stored_then v u w read readings one two = record {
  more = one.more ++ two.more;
  stores = two.stores ∙ ap (λ (s : List Store). s ++ two.more) one.stores ∙ append_assoc v.stores one.more two.more;
  after = All-append (λ (s : Store). length v.readings ≤ s.behind) one.more two.more one.after
      (λ k d lt. let longer : length u.readings ≡ length v.readings + length read = ap length readings ∙ length-append v.readings read in let later = two.after k d lt in omega (arith, longer, later));
}

-- ---- another slot than the one that is edited
pub not_at : (m i k j : ℕ) (p : Place) → (k ≢ m) ⊎ (j ≢ i) → is_at m i p ≡ true → is_at k j p ≡ false
not_at m i k j p ne here = by_test (is_at k j p) refl
  where
    by_test : (b : Bool) → is_at k j p ≡ b → is_at k j p ≡ false
    by_test true there =
        let a = is_at-true m i p here in let b = is_at-true k j p there in absurd (⊎_elim (λ f. f (sym b.0 ∙ a.0)) (λ f. f (sym b.1 ∙ a.1)) ne)
    by_test false there = there

pub find-edit_other : (m i k j : ℕ) (t : Held → Held) (hs : List Held) → ((y : Held) → (t y).place ≡ y.place) → (k ≢ m) ⊎ (j ≢ i) → find k j (edit m i t hs) ≡ find k j hs
find-edit_other m i k j t [] same ne = refl
find-edit_other m i k j t (x ∷ xs) same ne = by_test (find-edit_other m i k j t xs same ne) (is_at m i x.place) refl
  where
    by_test : find k j (edit m i t xs) ≡ find k j xs → (b : Bool) → is_at m i x.place ≡ b → find k j (cond b (t x ∷ xs) (x ∷ edit m i t xs)) ≡ find k j (x ∷ xs)
    by_test ih true here =
        let none = not_at m i k j x.place ne here in
        ap (λ p. cond (is_at k j p) (Some (t x)) (find k j xs)) (same x) ∙ ap (λ b. cond b (Some (t x)) (find k j xs)) none ∙ sym (ap (λ b. cond b (Some x) (find k j xs)) none)
    by_test ih false here = ap (λ y. cond (is_at k j x.place) (Some x) y) ih

-- ---- a slot that is there once each was changed
find-map_back : (m i : ℕ) (t : Held → Held) (hs : List Held) (k : Held) → ((y : Held) → (t y).place ≡ y.place) → find m i (map t hs) ≡ Some k → (h : Held) × (find m i hs ≡ Some h) × (t h ≡ k)
find-map_back m i t [] k same e = absurd (cc)
find-map_back m i t (x ∷ xs) k same e = by_test (find-map_back m i t xs k same) (is_at m i x.place) (ap (λ p. cond (is_at m i p) (Some (t x)) (find m i (map t xs))) (sym (same x)) ∙ e)
  where
    by_test : (find m i (map t xs) ≡ Some k → (h : Held) × (find m i xs ≡ Some h) × (t h ≡ k)) → (b : Bool) → cond b (Some (t x)) (find m i (map t xs)) ≡ Some k → (h : Held) × (cond b (Some x) (find m i xs) ≡ Some h) × (t h ≡ k)
    by_test ih true e = let q : t x ≡ k = cc in (x, refl, q)
    by_test ih false e = ih e

-- ---- one step
pub learns_itself : (h : Held) → Learns h h
learns_itself h = record { place = refl; block = refl; cells = λ a x p k. k }

pub learns_cell : (a x : ℕ) (h : Held) → Learns h (learnt a x h)
learns_cell a x h = record { place = refl; block = refl; cells = λ b y p k. grown b y (owns_at h.place a) k }
  where
    grown : (b y : ℕ) (t : Bool) → Among {A = ℕ × ℕ} (b, y) h.cells → Among {A = ℕ × ℕ} (b, y) (cond t ((a, x) ∷ h.cells) h.cells)
    grown b y true k = inr k
    grown b y false k = k

pub stays_loaded : (v w : View) (a x m i : ℕ) → w ≡ loaded v a x → Stays m i v w Learns
stays_loaded v w a x m i is h found = (learnt a x h, ap (λ (u : View). find m i u.held) is ∙ find-loaded v a x m i h found, learns_cell a x h)

came_loaded : (v w : View) (a x m i : ℕ) → w ≡ loaded v a x → CameFrom m i v w Learns
came_loaded v w a x m i is k found =
    let r = find-map_back m i (learnt a x) v.held k (λ y. refl) (ap (λ (u : View). find m i u.held) (sym is) ∙ found) in
    (r.0, r.1, subst (λ y. Learns r.0 y) r.2 (learns_cell a x r.0))

-- a slot other than the one that is edited
came_edited : (slot : Token) (v w : View) (t : Held → Held) → ((y : Held) → (t y).place ≡ y.place) → w.held ≡ edit slot.meta slot.index t v.held → (m i : ℕ) → IsOther slot m i → CameFrom m i v w Learns
came_edited slot v w t same is m i ne k found =
    (k, sym (find-edit_other slot.meta slot.index m i t v.held same ne) ∙ ap (λ hs. find m i hs) (sym is) ∙ found, learns_itself k)

pub stays_stored : (v w : View) (m i a x : ℕ) → w ≡ stored v m i a x → Stays m i v w (KeepsCells (λ b. b ≢ a))
stays_stored v w m i a x is h found = (
  wrote a x h,
  ap (λ (u : View). find m i u.held) is ∙ find_edit m i (wrote a x) v.held h (λ y. refl) found,
  record { place = refl; block = refl; cells = λ b y ne k. still_knows a x b y h ne k },
)

pub loaded_all : (v w : View) (a x : ℕ) → w ≡ loaded v a x → KeepsAll v w
loaded_all v w a x is = record {
  slots = λ m i. stays_loaded v w a x m i is;
  back = λ m i. came_loaded v w a x m i is;
}

pub all_others : (slot : Token) (v w : View) → KeepsAll v w → KeepsOthers slot v w
all_others slot v w all = record { slots = λ m i ne. all.slots m i; back = λ m i ne. all.back m i }

pub loaded_others : (slot : Token) (v w : View) (a x : ℕ) → w ≡ loaded v a x → KeepsOthers slot v w
loaded_others slot v w a x is = all_others slot v w (loaded_all v w a x is)

pub loaded_rest : (v w : View) (a x : ℕ) → w ≡ loaded v a x → KeepsRest v w
loaded_rest v w a x is = record {
  excuses = ap (λ (u : View). u.excuses) is;
  sent = ap (λ (u : View). u.sent) is;
  taken = ap (λ (u : View). u.taken) is;
  more = (a, x) ∷ [];
  readings = ap (λ (u : View). u.readings) is;
  stored = nothing_stored v w (ap (λ (u : View). u.stores) is);
}

pub stored_others : (slot : Token) (v w : View) (a x : ℕ) → w ≡ stored v slot.meta slot.index a x → KeepsOthers slot v w
stored_others slot v w a x is = record {
  slots = λ m i ne h found. (h, ap (λ (u : View). find m i u.held) is ∙ find-edit_other slot.meta slot.index m i (wrote a x) v.held (λ y. refl) ne ∙ found, learns_itself h);
  back = came_edited slot v w (wrote a x) (λ y. refl) (ap (λ (u : View). u.held) is);
}

pub stored_rest : (v w : View) (m i a x : ℕ) → w ≡ stored v m i a x → KeepsRest v w
stored_rest v w m i a x is = record {
  excuses = ap (λ (u : View). u.excuses) is;
  sent = ap (λ (u : View). u.sent) is;
  taken = ap (λ (u : View). u.taken) is;
  more = [];
  readings = ap (λ (u : View). u.readings) is ∙ sym (append-nil v.readings);
  stored = one_stored v w (record { at = a; value = x; behind = length v.readings }) refl (ap (λ (u : View). u.stores) is);
}

pub booked_others : (slot : Token) (v w : View) (b : Option Extent) (k : ℕ) (e : Entry) → w ≡ booked_block v slot.meta slot.index b k e → KeepsOthers slot v w
booked_others slot v w b k e is = record {
  slots = λ m i ne h found. (h, ap (λ (u : View). find m i u.held) is ∙ find-edit_other slot.meta slot.index m i (with_block b) v.held (λ y. refl) ne ∙ found, learns_itself h);
  back = came_edited slot v w (with_block b) (λ y. refl) (ap (λ (u : View). u.held) is);
}

pub booked_rest : (v w : View) (m i : ℕ) (b : Option Extent) (k : ℕ) (e : Entry) → w ≡ booked_block v m i b k e → KeepsRest v w
booked_rest v w m i b k e is = record {
  excuses = ap (λ (u : View). u.excuses) is;
  sent = ap (λ (u : View). u.sent) is;
  taken = ap (λ (u : View). u.taken) is;
  more = [];
  readings = ap (λ (u : View). u.readings) is ∙ sym (append-nil v.readings);
  stored = nothing_stored v w (ap (λ (u : View). u.stores) is);
}

-- ---- steps one after the other
pub keeps_then : (P Q T : ℕ → Type 0) (h k l : Held) → ((a : ℕ) → T a → P a × Q a) → KeepsCells P h k → KeepsCells Q k l → KeepsCells T h l
keeps_then P Q T h k l both one two = record {
  place = two.place ∙ one.place;
  block = two.block ∙ one.block;
  cells = λ a x t s. two.cells a x (both a t).1 (one.cells a x (both a t).0 s);
}

pub stays_then : (P Q T : ℕ → Type 0) (m i : ℕ) (v u w : View) → ((a : ℕ) → T a → P a × Q a) → Stays m i v u (KeepsCells P) → Stays m i u w (KeepsCells Q) → Stays m i v w (KeepsCells T)
stays_then P Q T m i v u w both one two h found =
    let k = one h found in let l = two k.0 k.1 in (l.0, l.1, keeps_then P Q T h k.0 l.0 both k.2 l.2)

came_then : (m i : ℕ) (v u w : View) → CameFrom m i v u Learns → CameFrom m i u w Learns → CameFrom m i v w Learns
came_then m i v u w one two k found =
    let j = two k found in let h = one j.0 j.1 in (h.0, h.1, keeps_then _ _ _ h.0 j.0 k (λ a t. (t, t)) h.2 j.2)

pub rest_then : (v u w : View) → KeepsRest v u → KeepsRest u w → KeepsRest v w
rest_then v u w one two = record {
  excuses = two.excuses ∙ one.excuses;
  sent = two.sent ∙ one.sent;
  taken = two.taken ∙ one.taken;
  more = one.more ++ two.more;
  readings = two.readings ∙ ap (λ (r : List (ℕ × ℕ)). r ++ two.more) one.readings ∙ append_assoc v.readings one.more two.more;
  stored = stored_then v u w one.more one.readings one.stored two.stored;
}

pub others_then : (slot : Token) (v u w : View) → KeepsOthers slot v u → KeepsOthers slot u w → KeepsOthers slot v w
others_then slot v u w one two = record {
  slots = λ m i ne. stays_then _ _ _ m i v u w (λ a t. (t, t)) (one.slots m i ne) (two.slots m i ne);
  back = λ m i ne. came_then m i v u w (one.back m i ne) (two.back m i ne);
}

pub all_then : (v u w : View) → KeepsAll v u → KeepsAll u w → KeepsAll v w
all_then v u w one two = record {
  slots = λ m i. stays_then _ _ _ m i v u w (λ a t. (t, t)) (one.slots m i) (two.slots m i);
  back = λ m i. came_then m i v u w (one.back m i) (two.back m i);
}

pub all_itself : (v : View) → KeepsAll v v
all_itself v = record {
  slots = λ m i h found. (h, found, learns_itself h);
  back = λ m i k found. (k, found, learns_itself k);
}

pub rest_itself : (v : View) → KeepsRest v v
rest_itself v = record { excuses = refl; sent = refl; taken = refl; more = []; readings = sym (append-nil v.readings); stored = nothing_stored v v refl }

-- ---- the same slots
pub held_all : (v w : View) → w.held ≡ v.held → KeepsAll v w
held_all v w same = record {
  slots = λ m i h found. (h, ap (λ (hs : List Held). find m i hs) same ∙ found, learns_itself h);
  back = λ m i k found. (k, ap (λ (hs : List Held). find m i hs) (sym same) ∙ found, learns_itself k);
}

-- an entry was made at a load of word 0
pub entered_all : (v w : View) (number : ℕ) (entry : Entry) → Enters v number entry w → KeepsAll v w
entered_all v w number entry enters = held_all v w (ap (λ (u : View). u.held) enters.view)

pub entered_rest : (v w : View) (number : ℕ) (entry : Entry) → Enters v number entry w → KeepsRest v w
entered_rest v w number entry enters = record {
  excuses = ap (λ (u : View). u.excuses) enters.view;
  sent = ap (λ (u : View). u.sent) enters.view;
  taken = ap (λ (u : View). u.taken) enters.view;
  more = (0, enters.found) ∷ [];
  readings = ap (λ (u : View). u.readings) enters.view;
  stored = nothing_stored v w (ap (λ (u : View). u.stores) enters.view);
}

-- a block is ended
pub kills_others : (v w : View) (block : BlockToken) (k : ℕ) → Kills v block k w → KeepsOthers block.slot v w
kills_others v w block k kills =
    let slot = block.slot in
    let one : View = loaded v (block.at - 4) kills.header in
    let two : View = booked_block one slot.meta slot.index None k (Take block.at) in
    others_then slot v one w (loaded_others slot v one (block.at - 4) kills.header refl)
    (others_then slot one two w (booked_others slot one two None k (Take block.at) refl) (stored_others slot two w (block.at - 4) (kills.header % 256 + 65280) kills.view))

pub kills_rest : (v w : View) (block : BlockToken) (k : ℕ) → Kills v block k w → KeepsRest v w
kills_rest v w block k kills =
    let slot = block.slot in
    let one : View = loaded v (block.at - 4) kills.header in
    let two : View = booked_block one slot.meta slot.index None k (Take block.at) in
    rest_then v one w (loaded_rest v one (block.at - 4) kills.header refl)
    (rest_then one two w (booked_rest one two slot.meta slot.index None k (Take block.at) refl) (stored_rest two w slot.meta slot.index (block.at - 4) (kills.header % 256 + 65280) kills.view))
