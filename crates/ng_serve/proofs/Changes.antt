-- What steps on the masks of one meta change of the view.
use Rattle.std.proofs.Common.{◌≡◌, ◌≢◌, ℕ, ◌+◌, ◌<◌, ◌≤◌, eqb, cond, Bool, true, false, List, [], ◌∷◌, ◌++◌, refl, sym, ap, ◌∙◌, subst, ⊎_elim, inl, inr, arith}
use Rattle.std.specs.Prelude.{◌&&◌, bit_and}
use Rattle.std.specs.Int.{bit_at, bit_not, w64}
use Rattle.std.proofs.lemmas.Bool.{cases_lt, eqb-true}
use Rattle.std.proofs.lemmas.Nat.Bits.{bit_at-zero}
use Rattle.std.proofs.lemmas.List.{append_assoc, append-nil}
use Rattle.ng_class.specs.Mask.{all_bits_of}
use Rattle.ng_view.specs.Lists.{Among}
use Rattle.ng_view.specs.LockSteps.{bits_of, let_go, others, seen_but}
use Rattle.ng_view.specs.declared.view.View.{View}
use Rattle.ng_view.specs.Fetches.{HasGroup, PushesFreed, StocksAvail}
use Rattle.ng_mask.proofs.Motion.{SplitsInto}
use Rattle.ng_mask.specs.Fetches.{Stocks, Takes}
use Rattle.ng_serve.specs.Reads.{Reads}
use Rattle.ng_serve.specs.Takes.{ChangesMasks, with_masks}
use Rattle.ng_serve.proofs.Readings.{among_if}

-- ---- what is noted of other metas stays
others_keep : (m n : ℕ) (ns : List ℕ) → n ≢ m → Among n ns → Among n (others m ns)
others_keep m n [] ne s = elim s [ ]
others_keep m n (x ∷ xs) ne s = by_test (others_keep m n xs ne) (eqb x m) refl s
  where
    by_test : (Among n xs → Among n (others m xs)) → (b : Bool) → eqb x m ≡ b → Among n (x ∷ xs) → Among n (cond b (others m xs) (x ∷ others m xs))
    by_test ih true is (inl e) = absurd (ne (e ∙ eqb-true x m is))
    by_test ih true is (inr s) = ih s
    by_test ih false is (inl e) = inl e
    by_test ih false is (inr s) = inr (ih s)

seen_keep : (m bits k i : ℕ) (bs : List (ℕ × ℕ)) → k ≢ m → Among {A = ℕ × ℕ} (k, i) bs → Among {A = ℕ × ℕ} (k, i) (seen_but m bits bs)
seen_keep m bits k i [] ne s = elim s [ ]
seen_keep m bits k i (x ∷ xs) ne s = by_test (seen_keep m bits k i xs ne) (eqb x.0 m) (eqb (bit_at bits x.1) 1) refl s
  where
    by_test : (Among {A = ℕ × ℕ} (k, i) xs → Among {A = ℕ × ℕ} (k, i) (seen_but m bits xs)) → (b c : Bool) → eqb x.0 m ≡ b → Among {A = ℕ × ℕ} (k, i) (x ∷ xs) → Among {A = ℕ × ℕ} (k, i) (cond (b && c) (seen_but m bits xs) (x ∷ seen_but m bits xs))
    by_test ih true c is (inl e) = absurd (ne (ap (λ (p : ℕ × ℕ). p.0) e ∙ eqb-true x.0 m is))
    by_test ih true true is (inr s) = ih s
    by_test ih true false is (inr s) = inr (ih s)
    by_test ih false c is (inl e) = inl e
    by_test ih false c is (inr s) = inr (ih s)

-- ---- the whole of a mask
pub all_of : (bits : ℕ) → SplitsInto bits bits 0
all_of bits i lt = sum (bit_at bits i) (bit_at 0 i) (bit_at-zero i)
  where
    sum : (a b : ℕ) → b ≡ 0 → a ≡ a + b
    sum a b none = omega arith

-- ---- steps one after the other
pub changes_reads : (v w : View) (meta : ℕ) → Reads v w → ChangesMasks v meta w
changes_reads v w meta reads = subst (ChangesMasks v meta) (sym reads.view) (record {
  words = reads.words;
  view = refl;
  zero_avail = λ m ne s. s;
  zero_freed = λ m ne s. s;
  set_freed = λ m i ne s. s;
})

pub changes_none : (v w : View) (meta : ℕ) → w ≡ v → ChangesMasks v meta w
changes_none v w meta is = subst (ChangesMasks v meta) (sym is) (record {
  words = [];
  view = ap (λ (l : List (ℕ × ℕ)). record v { readings = l }) (sym (append-nil v.readings));
  zero_avail = λ m ne s. s;
  zero_freed = λ m ne s. s;
  set_freed = λ m i ne s. s;
})

pub changes_then : (v u w : View) (meta : ℕ) → ChangesMasks v meta u → ChangesMasks u meta w → ChangesMasks v meta w
changes_then v u w meta first second = record {
  words = first.words ++ second.words;
  view = second.view
      ∙ ap (λ (x : View). with_masks x w second.words) first.view
      ∙ ap (λ (l : List (ℕ × ℕ)). record (with_masks v w []) { readings = l }) (append_assoc v.readings first.words second.words);
  zero_avail = λ m ne s. second.zero_avail m ne (first.zero_avail m ne s);
  zero_freed = λ m ne s. second.zero_freed m ne (first.zero_freed m ne s);
  set_freed = λ m i ne s. second.set_freed m i ne (first.set_freed m i ne s);
}

pub changes_groups : (v w : View) (meta : ℕ) → ChangesMasks v meta w → w.desk.groups ≡ v.desk.groups
changes_groups v w meta changes = ap (λ (x : View). x.desk.groups) changes.view

pub changes_listed : (v w : View) (meta : ℕ) → ChangesMasks v meta w → w.desk.listed ≡ v.desk.listed
changes_listed v w meta changes = ap (λ (x : View). x.desk.listed) changes.view

-- ---- the steps
pub changes_taken : (v w : View) (meta upto taken : ℕ) → HasGroup v meta → Takes v meta upto taken w → ChangesMasks v meta w
changes_taken v w meta upto taken has takes =
    let g = has.group in
    let n = takes.freed in
    let bits : ℕ = all_bits_of upto in
    subst (ChangesMasks v meta) (sym (takes.clears.view g has.there has.of_meta)) (record {
      words = (meta + 28, n) ∷ [];
      view = refl;
      zero_avail = λ m ne s. s;
      zero_freed = λ m ne s. among_if (eqb (bit_and n (bit_not w64 bits)) 0) g.meta m v.desk.zero_freed s;
      set_freed = λ m i ne s. seen_keep g.meta bits m i v.desk.set_freed (λ e. ne (e ∙ has.of_meta)) s;
    })

changes_stocks : (v w : View) (meta bits n : ℕ) → StocksAvail v meta bits n w → ChangesMasks v meta w
changes_stocks v w meta bits n stocks = subst (ChangesMasks v meta) (sym stocks.view) (record {
  words = (meta + 24, n) ∷ [];
  view = refl;
  zero_avail = λ m ne s. others_keep meta m v.desk.zero_avail ne s;
  zero_freed = λ m ne s. s;
  set_freed = λ m i ne s. s;
})

pub changes_stocked : (v w : View) (meta bits : ℕ) → (bits ≡ 0 → w ≡ v) → (0 < bits → Stocks v meta bits w) → ChangesMasks v meta w
changes_stocked v w meta bits none some = ⊎_elim
    (λ (more : 0 < bits). changes_stocks v w meta bits _ (some more).stocks)
    (λ (few : bits ≤ 0). changes_none v w meta (none (omega arith)))
    (cases_lt 0 bits)

abbrev IsLetGo : View → View → ℕ → ℕ → Type 0
IsLetGo v w meta bits = w.held ≡ let_go meta (bits_of bits) v.held

held_stocks : (v w : View) (meta bits n : ℕ) → StocksAvail v meta bits n w → IsLetGo v w meta bits
held_stocks v w meta bits n stocks = ap (λ (x : View). x.held) stocks.view

held_none : (v w : View) (meta bits : ℕ) → bits ≡ 0 → w ≡ v → IsLetGo v w meta bits
held_none v w meta bits zero same = subst (IsLetGo v w meta) (sym zero) (ap (λ (x : View). x.held) same)

pub stocked_held : (v w : View) (meta bits : ℕ) → (bits ≡ 0 → w ≡ v) → (0 < bits → Stocks v meta bits w) → w.held ≡ let_go meta (bits_of bits) v.held
stocked_held v w meta bits none some = ⊎_elim {C = IsLetGo v w meta bits}
    (λ (more : 0 < bits). held_stocks v w meta bits (some more).word (some more).stocks)
    (λ (few : bits ≤ 0). let zero : bits ≡ 0 = omega arith in held_none v w meta bits zero (none zero))
    (cases_lt 0 bits)

pub changes_pushed : (v w : View) (meta bits n : ℕ) → PushesFreed v meta bits n w → ChangesMasks v meta w
changes_pushed v w meta bits n pushes = record {
  words = (meta + 28, n) ∷ [];
  view = subst (λ (x : View). x ≡ with_masks v x ((meta + 28, n) ∷ [])) (sym pushes.view) refl;
  zero_avail = λ m ne s. subst (λ (x : View). Among m x.desk.zero_avail) (sym pushes.view) s;
  zero_freed = λ m ne s. subst (λ (x : View). Among m x.desk.zero_freed) (sym pushes.view) (others_keep meta m v.desk.zero_freed ne s);
  set_freed = λ m i ne s. subst (λ (x : View). Among {A = ℕ × ℕ} (m, i) x.desk.set_freed) (sym pushes.view) s;
}
