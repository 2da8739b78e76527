-- Steps in a block's slot, and what they leave of the other slots.
use Rattle.std.proofs.Common.{◌≡◌, ◌⊎◌, ℕ, ◌-◌, cond, Bool, true, false, List, [], ◌∷◌, map, refl, sym, ap, ◌∙◌, subst, ⊎_elim, inl, inr}
use Rattle.std.specs.Prelude.{Some}
use Rattle.ng_rule.proofs.geometry.Lists.{among_map, among_without, find_edit}
use Rattle.ng_terms.specs.Heap.{extent}
use Rattle.ng_view.specs.Lists.{Among, edit, find, is_at, without}
use Rattle.ng_view.specs.Steps.{learnt, loaded, regiven, stored, with_block, wrote}
use Rattle.ng_view.specs.declared.view.Held.{Held}
use Rattle.ng_view.specs.declared.view.View.{View}
use Rattle.ng_space.specs.Blocks.{BlockToken, HasBlock, HasFramed}
use Rattle.ng_space.specs.Callers.{Caller}
use Rattle.ng_space.specs.Leaving.{HasFrame, Leaves}
use Rattle.ng_space.specs.Tokens.{Token}
use Rattle.ng_space.proofs.Leaving.{booked_others, booked_rest, learns_cell, loaded_others, loaded_rest, others_then, rest_then, stored_others, stored_rest}
use Rattle.ng_space.proofs.LeavingFrames.{known_frame, learns_frame}
use Rattle.ng_frame.specs.Besides.{AreFramedBesides, LeavesBesides}

-- ---- the other slots
-- an edit of a slot leaves the others
without-edit : (m i : ℕ) (t : Held → Held) (hs : List Held) → ((y : Held) → (t y).place ≡ y.place) → without m i (edit m i t hs) ≡ without m i hs
without-edit m i t [] same = refl
without-edit m i t (x ∷ xs) same = by_test (without-edit m i t xs same) (is_at m i x.place) refl
  where
    by_test : without m i (edit m i t xs) ≡ without m i xs → (b : Bool) → is_at m i x.place ≡ b
        → without m i (cond b (t x ∷ xs) (x ∷ edit m i t xs)) ≡ cond b xs (x ∷ without m i xs)
    by_test ih true here = ap (λ b. cond b xs (t x ∷ without m i xs)) (ap (is_at m i) (same x) ∙ here)
    by_test ih false here = ap (λ b. cond b (edit m i t xs) (x ∷ without m i (edit m i t xs))) here ∙ ap (λ (l : List Held). x ∷ l) ih

without-map : (m i : ℕ) (t : Held → Held) (hs : List Held) → ((y : Held) → (t y).place ≡ y.place) → without m i (map t hs) ≡ map t (without m i hs)
without-map m i t [] same = refl
without-map m i t (x ∷ xs) same = ap (λ p. cond (is_at m i p) (map t xs) (t x ∷ without m i (map t xs))) (same x) ∙ by_test (without-map m i t xs same) (is_at m i x.place)
  where
    by_test : without m i (map t xs) ≡ map t (without m i xs) → (b : Bool)
        → cond b (map t xs) (t x ∷ without m i (map t xs)) ≡ map t (cond b xs (x ∷ without m i xs))
    by_test ih true = refl
    by_test ih false = ap (λ (l : List Held). t x ∷ l) ih

-- what is there after an edit is the slot that was edited, or one of the others
among-edited : (m i : ℕ) (t : Held → Held) (hs : List Held) (h k : Held) → find m i hs ≡ Some h → Among k (edit m i t hs) → (k ≡ t h) ⊎ Among k (without m i hs)
among-edited m i t [] h k found there = absurd there
among-edited m i t (x ∷ xs) h k found there = by_test (among-edited m i t xs h k) (is_at m i x.place) found there
  where
    by_test : (find m i xs ≡ Some h → Among k (edit m i t xs) → (k ≡ t h) ⊎ Among k (without m i xs)) → (b : Bool) → cond b (Some x) (find m i xs) ≡ Some h
        → Among k (cond b (t x ∷ xs) (x ∷ edit m i t xs)) → (k ≡ t h) ⊎ Among k (cond b xs (x ∷ without m i xs))
    by_test ih true found (inl here) = let q : x ≡ h = cc in inl (here ∙ ap t q)
    by_test ih true found (inr later) = inr later
    by_test ih false found (inl here) = inr (inl here)
    by_test ih false found (inr later) = ⊎_elim (λ (own : k ≡ t h). inl own) (λ (other : Among k (without m i xs)). inr (inr other)) (ih found later)

-- ---- one step
besides_loaded : (slot : Token) (v w : View) (a x : ℕ) → w ≡ loaded v a x → AreFramedBesides slot v → AreFramedBesides slot w
besides_loaded slot v w a x is framed k there =
    let m : ℕ = slot.meta in let i : ℕ = slot.index in
    let held : without m i w.held ≡ map (learnt a x) (without m i v.held) = ap (λ (u : View). without m i u.held) is ∙ without-map m i (learnt a x) v.held (λ y. refl) in
    let was = among_map (learnt a x) (without m i v.held) k (subst (λ hs. Among k hs) held there) in
    subst HasFrame (sym was.2) (learns_frame was.0 (learnt a x was.0) (learns_cell a x was.0) (framed was.0 was.1))

besides_stored : (slot : Token) (v w : View) (a x : ℕ) → w ≡ stored v slot.meta slot.index a x → AreFramedBesides slot v → AreFramedBesides slot w
besides_stored slot v w a x is framed k there =
    let m : ℕ = slot.meta in let i : ℕ = slot.index in
    let held : without m i w.held ≡ without m i v.held = ap (λ (u : View). without m i u.held) is ∙ without-edit m i (wrote a x) v.held (λ y. refl) in
    framed k (subst (λ hs. Among k hs) held there)

pub besides_load : (slot : Token) (v w : View) (a x : ℕ) → w ≡ loaded v a x → LeavesBesides slot v w
besides_load slot v w a x is = record {
  others = loaded_others slot v w a x is;
  rest = loaded_rest v w a x is;
  each = besides_loaded slot v w a x is;
}

pub besides_store : (slot : Token) (v w : View) (a x : ℕ) → w ≡ stored v slot.meta slot.index a x → LeavesBesides slot v w
besides_store slot v w a x is = record {
  others = stored_others slot v w a x is;
  rest = stored_rest v w slot.meta slot.index a x is;
  each = besides_stored slot v w a x is;
}

pub besides_then : (slot : Token) (v u w : View) → LeavesBesides slot v u → LeavesBesides slot u w → LeavesBesides slot v w
besides_then slot v u w one two = record {
  others = others_then slot v u w one.others two.others;
  rest = rest_then v u w one.rest two.rest;
  each = λ framed. two.each (one.each framed);
}

-- ---- all of them, and then the block gets another length
pub regiven_leaves : (old mid new : Caller) (block : BlockToken) (n k x : ℕ) → LeavesBesides block.slot old.view mid.view → HasBlock mid block
    → new.view ≡ regiven mid.view block.slot.meta block.slot.index block.at n k x
    → HasFramed new (record { slot = block.slot; at = block.at; len = n; align = 16 }) → Leaves block.slot old.view new.view
regiven_leaves old mid new block n k x leaves has gives put =
    let slot = block.slot in
    let m : ℕ = slot.meta in
    let i : ℕ = slot.index in
    let one : View = stored mid.view m i (block.at - 4) x in
    let t : Held → Held = with_block (Some (extent block.at n 16)) in
    let h : Held = wrote (block.at - 4) x has.held in
    let there : find m i one.held ≡ Some h = find_edit m i (wrote (block.at - 4) x) mid.view.held has.held (λ y. refl) has.found in
    let held = ap (λ (u : View). u.held) gives in
    let found = ap (λ hs. find m i hs) held ∙ find_edit m i t one.held h (λ y. refl) there in
    let others = others_then slot mid.view one new.view (stored_others slot mid.view one (block.at - 4) x refl) (booked_others slot one new.view _ k _ gives) in
    let rest = rest_then mid.view one new.view (stored_rest mid.view one m i (block.at - 4) x refl) (booked_rest one new.view m i _ k _ gives) in
    record {
      others = others_then slot old.view mid.view new.view leaves.others others;
      rest = rest_then old.view mid.view new.view leaves.rest rest;
      each = λ framed y is_there. ⊎_elim
          (λ (own : y ≡ t h). subst HasFrame (sym own) (known_frame new (record { slot = block.slot; at = block.at; len = n; align = 16 }) (t h) put found))
          (λ (other : Among y (without m i one.held)). besides_stored slot mid.view one (block.at - 4) x refl (leaves.each (λ z z_there. framed z (among_without m i old.view.held z z_there))) y other)
          (among-edited m i t one.held h y there (subst (λ hs. Among y hs) held is_there));
    }
