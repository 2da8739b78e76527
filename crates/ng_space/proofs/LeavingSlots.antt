-- What a step leaves of a hand where a word is read, where a slot goes, and where one comes.
use Rattle.std.proofs.Common.{◌≡◌, ◌≢◌, ◌⊎◌, ℕ, ◌+◌, ◌∙◌, cond, Bool, true, false, List, [], ◌∷◌, refl, sym, ap, subst, inl, inr}
use Rattle.std.proofs.lemmas.List.{append-nil}
use Rattle.std.specs.Prelude.{Some, None}
use Rattle.ng_rule.proofs.geometry.Lists.{among_without, is_at-here}
use Rattle.ng_view.specs.Lists.{Among, find, is_at, without}
use Rattle.ng_view.specs.Steps.{in_motion, loaded, popped, pushed, read, with_held}
use Rattle.ng_view.specs.declared.view.Group.{Group}
use Rattle.ng_view.specs.declared.view.Held.{Held}
use Rattle.ng_view.specs.declared.view.View.{View}
use Rattle.ng_space.specs.Leaving.{AreFramed, HasFrame, IsOther, KeepsOthers, KeepsRest, Leaves, LeavesAll}
use Rattle.ng_space.specs.Masks.{Looks}
use Rattle.ng_space.specs.Tokens.{Token}
use Rattle.ng_space.proofs.Leaving.{learns_itself, not_at, nothing_stored}
use Rattle.ng_space.proofs.LeavingFrames.{all_leaves, free_frame, leaves_all_then, leaves_held, leaves_loaded, leaves_then}

-- ---- a word is read
pub leaves_read : (v w : View) (a x : ℕ) → w ≡ read v a x → LeavesAll v w
leaves_read v w a x is = leaves_held v w (ap (λ (u : View). u.held) is) (record {
  excuses = ap (λ (u : View). u.excuses) is;
  sent = ap (λ (u : View). u.sent) is;
  taken = ap (λ (u : View). u.taken) is;
  more = (a, x) ∷ [];
  readings = ap (λ (u : View). u.readings) is;
  stored = nothing_stored v w (ap (λ (u : View). u.stores) is);
})

-- the meta's mem and flags are loaded
pub leaves_looked : (v : View) (meta : ℕ) (w : View) → Looks v meta w → LeavesAll v w
leaves_looked v meta w looks =
    let u : View = loaded v (meta + 16) looks.base in
    leaves_all_then v u w (leaves_loaded v u (meta + 16) looks.base refl) (leaves_loaded u w (meta + 32) looks.flags looks.view)

-- ---- a slot goes
-- the others are found as before
find-without_other : (m i k j : ℕ) (hs : List Held) → (k ≢ m) ⊎ (j ≢ i) → find k j (without m i hs) ≡ find k j hs
find-without_other m i k j [] ne = refl
find-without_other m i k j (x ∷ xs) ne = by_test (find-without_other m i k j xs ne) (is_at m i x.place) refl
  where
    by_test : find k j (without m i xs) ≡ find k j xs → (b : Bool) → is_at m i x.place ≡ b
        → find k j (cond b xs (x ∷ without m i xs)) ≡ find k j (x ∷ xs)
    by_test ih true here = sym (ap (λ b. cond b (Some x) (find k j xs)) (not_at m i k j x.place ne here))
    by_test ih false here = ap (λ y. cond (is_at k j x.place) (Some x) y) ih

module _ (slot : Token) (v w : View) (went : w.held ≡ without slot.meta slot.index v.held) where
  gone_others : KeepsOthers slot v w
  gone_others = record {
    slots = λ m i ne h found. (h, ap (λ hs. find m i hs) went ∙ find-without_other slot.meta slot.index m i v.held ne ∙ found, learns_itself h);
    back = λ m i ne k found. (
      k,
      sym (find-without_other slot.meta slot.index m i v.held ne) ∙ ap (λ hs. find m i hs) (sym went) ∙ found,
      learns_itself k,
    );
  }

  gone_each : AreFramed v → AreFramed w
  gone_each framed k there = framed k (among_without slot.meta slot.index v.held k (subst (λ hs. Among k hs) went there))

pushed_rest : (v w : View) (m i : ℕ) → w ≡ pushed v m i → KeepsRest v w
pushed_rest v w m i is = record {
  excuses = ap (λ (u : View). u.excuses) is;
  sent = ap (λ (u : View). u.sent) is;
  taken = ap (λ (u : View). u.taken) is;
  more = [];
  readings = ap (λ (u : View). u.readings) is ∙ sym (append-nil v.readings);
  stored = nothing_stored v w (ap (λ (u : View). u.stores) is);
}

pub pushed_leaves : (slot : Token) (v w : View) → w ≡ pushed v slot.meta slot.index → Leaves slot v w
pushed_leaves slot v w is = record {
  others = gone_others slot v w (ap (λ (u : View). u.held) is);
  rest = pushed_rest v w slot.meta slot.index is;
  each = gone_each slot v w (ap (λ (u : View). u.held) is);
}

-- and the freed word was read
pub leaves_pushed : (slot : Token) (v w : View) (a x : ℕ) → w ≡ read (pushed v slot.meta slot.index) a x → Leaves slot v w
leaves_pushed slot v w a x is =
    let u : View = pushed v slot.meta slot.index in
    leaves_then slot v u w (pushed_leaves slot v u refl) (all_leaves slot u w (leaves_read u w a x is))

-- ---- a slot without a block comes
module _ (slot : Token) (v w : View) (h : Held) (came : w.held ≡ h ∷ v.held) (here : is_at slot.meta slot.index h.place ≡ true) where
  passed : (m i : ℕ) → IsOther slot m i → find m i (h ∷ v.held) ≡ find m i v.held
  passed m i ne = ap (λ b. cond b (Some h) (find m i v.held)) (not_at slot.meta slot.index m i h.place ne here)

  pub came_others : KeepsOthers slot v w
  came_others = record {
    slots = λ m i ne k found. (k, ap (λ hs. find m i hs) came ∙ passed m i ne ∙ found, learns_itself k);
    back = λ m i ne k found. (k, sym (passed m i ne) ∙ ap (λ hs. find m i hs) (sym came) ∙ found, learns_itself k);
  }

  pub came_each : h.block ≡ None → AreFramed v → AreFramed w
  came_each free framed k there = by_place (subst (λ hs. Among k hs) came there)
    where
      by_place : Among k (h ∷ v.held) → HasFrame k
      by_place (inl e) = subst HasFrame (sym e) (free_frame h free)
      by_place (inr was) = framed k was

-- a slot out of another seat, whose meta was then looked at
pub leaves_passed : (slot : Token) (v u w : View) (h : Held) (meta : ℕ) → u ≡ with_held v h → is_at slot.meta slot.index h.place ≡ true → h.block ≡ None → Looks u meta w → Leaves slot v w
leaves_passed slot v u w h meta is here free looks = leaves_then slot v u w came (all_leaves slot u w (leaves_looked u meta w looks))
  where
    held : u.held ≡ h ∷ v.held
    held = ap (λ (x : View). x.held) is

    came : Leaves slot v u
    came = record {
      others = came_others slot v u h held here;
      rest = record {
        excuses = ap (λ (x : View). x.excuses) is;
        sent = ap (λ (x : View). x.sent) is;
        taken = ap (λ (x : View). x.taken) is;
        more = [];
        readings = ap (λ (x : View). x.readings) is ∙ sym (append-nil v.readings);
        stored = nothing_stored v u (ap (λ (x : View). x.stores) is);
      };
      each = came_each slot v u h held here free;
    }

pub leaves_popped : (slot : Token) (v w : View) (g : Group) → g.meta ≡ slot.meta → w ≡ popped v g slot.index → Leaves slot v w
leaves_popped slot v w g of_meta is = record {
  others = came_others slot v w x held here;
  rest = record {
    excuses = ap (λ (u : View). u.excuses) is;
    sent = ap (λ (u : View). u.sent) is;
    taken = ap (λ (u : View). u.taken) is;
    more = [];
    readings = ap (λ (u : View). u.readings) is ∙ sym (append-nil v.readings);
    stored = nothing_stored v w (ap (λ (u : View). u.stores) is);
  };
  each = came_each slot v w x held here refl;
}
  where
    x : Held
    x = in_motion g slot.index

    held : w.held ≡ x ∷ v.held
    held = ap (λ (u : View). u.held) is

    here : is_at slot.meta slot.index x.place ≡ true
    here = subst (λ m. is_at m slot.index x.place ≡ true) of_meta (is_at-here x.place)

-- the slot that a pop gave: a word was read, and the meta was looked at
pub leaves_came : (slot : Token) (v u w : View) (g : Group) (i a x meta : ℕ) → g.meta ≡ slot.meta → i ≡ slot.index → u ≡ read (popped v g i) a x → Looks u meta w → Leaves slot v w
leaves_came slot v u w g i a x meta of_meta same is looks =
    let p : View = popped v g slot.index in
    leaves_then slot v p w (leaves_popped slot v p g of_meta refl)
    (all_leaves slot p w (leaves_all_then p u w (leaves_read p u a x (is ∙ ap (λ j. read (popped v g j) a x) same)) (leaves_looked u meta w looks)))
