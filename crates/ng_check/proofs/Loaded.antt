-- The cells that were loaded, of a slot that the hand had before.
use Rattle.std.proofs.Common.{◌≡◌, ◌⊎◌, ⊎_elim, ℕ, ◌%◌, ◌^◌, ◌≤◌, Bool, true, false, cond, eqb, eqb-true, eq-eqb, List, [], ◌∷◌, map, refl, sym, ap, ◌∙◌, subst, inl, inr, arith}
use Rattle.std.specs.Prelude.{Some}
use Rattle.std.specs.List as list
use Rattle.ng_view.specs.Lists.{Among, count_of, find, times}
use Rattle.ng_view.specs.Blocks.{Knows}
use Rattle.ng_view.specs.Places.{Owns, owns_at}
use Rattle.ng_view.specs.Steps.{learnt, loaded}
use Rattle.ng_view.specs.declared.view.Held.{Held}
use Rattle.ng_view.specs.declared.view.View.{View}
use Rattle.ng_space.proofs.Holding.{find-loaded}
use Rattle.ng_frame.specs.Judging.{IsSure}
use Rattle.ng_frame.proofs.Judged.{learnt_keeps, learnt_knows}
use Rattle.ng_check.specs.Cells.{AreOnce, cell_at, loaded_in_turn}
use Rattle.ng_check.proofs.Options.{map_some}

-- the slot once these were loaded in turn
abbrev pub learnt_in_turn : Held → List (ℕ × ℕ) → Held
learnt_in_turn h [] = h
learnt_in_turn h (c ∷ cs) = learnt_in_turn (learnt c.0 c.1 h) cs

pub found_after : (v : View) (cs : List (ℕ × ℕ)) (m i : ℕ) (h : Held) → find m i v.held ≡ Some h → find m i (loaded_in_turn v cs).held ≡ Some (learnt_in_turn h cs)
found_after v [] m i h e = e
found_after v (c ∷ cs) m i h e = found_after (loaded v c.0 c.1) cs m i (learnt c.0 c.1 h) (find-loaded v c.0 c.1 m i h e)

-- ---- what is known then
keeps : (h : Held) (cs : List (ℕ × ℕ)) (a x : ℕ) → Knows a x h → Knows a x (learnt_in_turn h cs)
keeps h [] a x k = k
keeps h (c ∷ cs) a x k = keeps (learnt c.0 c.1 h) cs a x (learnt_keeps c.0 c.1 a x h k)

knows_loaded : (cs : List (ℕ × ℕ)) (h : Held) (a x : ℕ) → Among {A = ℕ × ℕ} (a, x) cs → Owns h.place a → Knows a x (learnt_in_turn h cs)
knows_loaded [] h a x there owns = absurd there
knows_loaded (c ∷ cs) h a x (inl e) owns = keeps (learnt c.0 c.1 h) cs a x (subst (λ (d : ℕ × ℕ). Knows a x (learnt d.0 d.1 h)) e (learnt_knows a x h owns))
knows_loaded (c ∷ cs) h a x (inr there) owns = knows_loaded cs (learnt c.0 c.1 h) a x there owns

known_from : (cs : List (ℕ × ℕ)) (h : Held) (a x : ℕ) → Knows a x (learnt_in_turn h cs) → Among {A = ℕ × ℕ} (a, x) cs ⊎ Knows a x h
known_from [] h a x k = inr k
known_from (c ∷ cs) h a x k = ⊎_elim (λ there. inl (inr there)) (by_owner (owns_at h.place c.0)) (known_from cs (learnt c.0 c.1 h) a x k)
  where
    by_owner : (t : Bool) → Among {A = ℕ × ℕ} (a, x) (cond t ((c.0, c.1) ∷ h.cells) h.cells) → Among {A = ℕ × ℕ} (a, x) (c ∷ cs) ⊎ Knows a x h
    by_owner true (inl e) = inl (inl e)
    by_owner true (inr was) = inr was
    by_owner false was = inr was

-- ---- cells that were loaded once
some_there : (cs : List (ℕ × ℕ)) (a y : ℕ) → Among {A = ℕ × ℕ} (a, y) cs → 1 ≤ times a (map (λ c. c.0) cs)
some_there [] a y there = absurd there
some_there (c ∷ cs) a y (inl e) =
    let one : count_of (eqb c.0 a) ≡ 1 = ap count_of (eq-eqb c.0 a (ap (λ (d : ℕ × ℕ). d.0) (sym e))) in omega arith
some_there (c ∷ cs) a y (inr there) = let ih = some_there cs a y there in omega (arith, ih)

twice : (c : ℕ × ℕ) (cs : List (ℕ × ℕ)) (a y : ℕ) → times a (map (λ c. c.0) (c ∷ cs)) ≤ 1 → c.0 ≡ a → Among {A = ℕ × ℕ} (a, y) cs → ⊥
twice c cs a y once e there =
    let one : count_of (eqb c.0 a) ≡ 1 = ap count_of (eq-eqb c.0 a e) in
    let more = some_there cs a y there in omega (arith, more, one, once)

once_same : (cs : List (ℕ × ℕ)) (a x y : ℕ) → times a (map (λ c. c.0) cs) ≤ 1 → Among {A = ℕ × ℕ} (a, x) cs → Among {A = ℕ × ℕ} (a, y) cs → x ≡ y
once_same [] a x y once one other = absurd one
once_same (c ∷ cs) a x y once (inl e) (inl f) = ap (λ (d : ℕ × ℕ). d.1) (e ∙ sym f)
once_same (c ∷ cs) a x y once (inl e) (inr there) = absurd (twice c cs a y once (ap (λ (d : ℕ × ℕ). d.0) (sym e)) there)
once_same (c ∷ cs) a x y once (inr there) (inl f) = absurd (twice c cs a x once (ap (λ (d : ℕ × ℕ). d.0) (sym f)) there)
once_same (c ∷ cs) a x y once (inr one) (inr other) = once_same cs a x y (omega arith) one other

-- the hand is sure of what it loaded of a slot's own cells
pub sure_loaded : (cs : List (ℕ × ℕ)) (h : Held) (a x : ℕ) → AreOnce cs → Among {A = ℕ × ℕ} (a, x) cs → Owns h.place a → ((y : ℕ) → Knows a y h → x ≡ y) → IsSure a x (learnt_in_turn h cs)
sure_loaded cs h a x once there owns told = record {
  known = knows_loaded cs h a x there owns;
  only = λ y k. ⊎_elim (λ (also : Among {A = ℕ × ℕ} (a, y) cs). once_same cs a y x (once a) also there) (λ (was : Knows a y h). sym (told y was)) (known_from cs h a y k);
}

-- ---- the word of a cell
find_some : (cs : List (ℕ × ℕ)) (a : ℕ) (c : ℕ × ℕ) → list.find (λ d. eqb d.0 a) cs ≡ Some c → Among c cs × (c.0 ≡ a)
find_some [] a c e = absurd (cc)
find_some (d ∷ cs) a c e = by_test (find_some cs a c) (eqb d.0 a) refl e
  where
    by_test : (list.find (λ d. eqb d.0 a) cs ≡ Some c → Among c cs × (c.0 ≡ a)) → (t : Bool) → eqb d.0 a ≡ t
        → cond t (Some d) (list.find (λ d. eqb d.0 a) cs) ≡ Some c → Among c (d ∷ cs) × (c.0 ≡ a)
    by_test ih true is e = let q : d ≡ c = cc in (inl (sym q), ap (λ (z : ℕ × ℕ). z.0) (sym q) ∙ eqb-true d.0 a is)
    by_test ih false is e = let r = ih e in (inr r.0, r.1)

pub cell_loaded : (cs : List (ℕ × ℕ)) (a x : ℕ) → cell_at a cs ≡ Some x → (w : ℕ) × Among {A = ℕ × ℕ} (a, w) cs × (x ≡ w % 4294967296)
cell_loaded cs a x e =
    let f = map_some (λ c. c.1 % 2 ^ 32) (list.find (λ c. eqb c.0 a) cs) x e in
    let k = find_some cs a f.0 f.1 in
    (f.0.1, subst (λ b. Among {A = ℕ × ℕ} (b, f.0.1) cs) k.1 k.0, sym f.2)
