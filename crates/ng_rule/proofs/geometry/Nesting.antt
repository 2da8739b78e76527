-- The own cells of two slots are apart, through nested groups.
use Rattle.std.proofs.Common.{◌≡◌, ◌⊎◌, ℕ, zero, suc, ◌+◌, ◌*◌, ◌%◌, ◌<◌, ◌≤◌, false, true≢false, List, [], ◌∷◌, ◌++◌, refl, sym, ap, ◌∙◌, subst, ⊎_elim, inl, inr, arith, mul-le-mul_left}
use Rattle.std.proofs.lemmas.Bool.{cases_order, cases_lt}
use Rattle.ng_view.specs.declared.view.Group.{Group}
use Rattle.ng_view.specs.declared.view.Place.{Place}
use Rattle.ng_view.specs.declared.view.Nest.{Nest}
use Rattle.ng_view.specs.declared.view.Run.{Run}
use Rattle.ng_view.specs.declared.view.Layout.{Layout}
use Rattle.ng_view.specs.declared.view.Start.{Start}
use Rattle.ng_view.specs.Cells.{cell, group_at}
use Rattle.ng_view.specs.Places.{stride, slot_start, Owns, reach}
use Rattle.ng_view.specs.Lists.{Among}
use Rattle.ng_view.specs.Words.{IsLawful}
use Rattle.ng_view.specs.Slots.{IsPlace}
use Rattle.ng_view.specs.Layouts.{InArea, OnRun, InNest, Inside, IsLaid}

-- the place is that of a slot of a live group
abbrev pub IsSlot : List ℕ → Place → Type 0
IsSlot ws p = IsPlace ws p × (0 < p.group.tag) × (p.index ≤ p.group.last)

-- no group is nested in it
abbrev pub IsLeaf : Layout → Place → Type 0
IsLeaf d p = (n : Nest) → Among n d.nests → n.place ≡ p → ⊥

mul_more : (s i j : ℕ) → i < j → s * i + s ≤ s * j
mul_more s i j h = let k : s * suc i ≤ s * j = mul-le-mul_left s h in omega (arith, k)

-- one cell, one slot of a group that begins at b
same_index : (s i j b c : ℕ) → b + s * i ≤ c → c < b + s * i + s → b + s * j ≤ c → c < b + s * j + s → i ≡ j
same_index s i j b c p q r t =
    ⊎_elim (λ (e : i ≡ j). e)
    (λ (h : (i < j) ⊎ (j < i)).
    ⊎_elim (λ (l : i < j). let m = mul_more s i j l in let x : ℕ = s * i in let y : ℕ = s * j in absurd (omega arith)) (λ (g : j < i). let m = mul_more s j i g in absurd (omega arith)) h)
    (cases_order i j)

-- a slot's own cells lie in its group
pub within : (p : Place) (a : ℕ) → p.index ≤ p.group.last → Owns p a → (p.group.base + 12 ≤ a) × (a + 4 < p.group.base + reach p.group)
within p a le own =
    let s = stride p.group in
    let m : s * p.index + s ≤ s * (p.group.last + 1) = mul_more s p.index (p.group.last + 1) (omega arith) in
    let x = s * p.index in let y = s * (p.group.last + 1) in
    let o = own.0 in let o' = own.1 in (omega arith, omega arith)

module _ (key : Start) (ws : List ℕ) (d : Layout) (words : IsLawful key ws d) (nested : (n : Nest) → Among n d.nests → IsSlot ws n.place) where
  laid : (p : Place) → IsSlot ws p → IsLaid ws d p.group
  laid p s = subst (IsLaid ws d) (sym s.0.group) (words.groups p.group.meta s.0.whole (subst (λ (g : Group). 0 < g.tag) s.0.group s.1))

  -- x is a slot of the group that is nested in s
  abbrev Nests : Place → Place → Type 0
  Nests s x = ((n : Nest) × Among n d.nests × (n.place ≡ s)) × (x.group.base ≡ slot_start s)

  abbrev Down : ℕ → Place → List Place → Place → Type 0
  Down a s [] t = s ≡ t
  Down a s (x ∷ xs) t = Nests s x × IsSlot ws x × Owns x a × Down a x xs t

  down_snoc : (a : ℕ) (s : Place) (ps : List Place) (t x : Place) → Down a s ps t → Nests t x → IsSlot ws x → Owns x a → Down a s (ps ++ x ∷ []) x
  down_snoc a s [] t x e n i o = (subst (λ y. Nests y x) (sym e) n, i, o, refl)
  down_snoc a s (y ∷ ps) t x h n i o = (h.0, h.1, h.2, down_snoc a y ps t x h.3 n i o)

  -- two groups with one base are one
  one_base : (x y : Place) → IsSlot ws x → IsSlot ws y → x.group.base ≡ y.group.base → x.group ≡ y.group
  one_base x y i j e =
      let m : x.group.meta ≡ y.group.meta = sym (laid x i).base ∙ ap (cell ws) e ∙ (laid y j).base in
      i.0.group ∙ ap (group_at ws) m ∙ sym j.0.group

  one_slot : (a : ℕ) (x y : Place) → x.group ≡ y.group → Owns x a → Owns y a → x ≡ y
  one_slot a x y e o q =
      let q' : (slot_start (record { group = x.group; index = y.index }) ≤ a + 4) × (a + 4 < slot_start (record { group = x.group; index = y.index }) + stride x.group) = subst (λ (g : Group). Owns (record { group = g; index = y.index }) a) (sym e) q in
      let i : x.index ≡ y.index = same_index (stride x.group) x.index y.index (x.group.base + 16) (a + 4) o.0 o.1 q'.0 q'.1 in
      λ t. record { group = e t; index = i t }

  abbrev Top : ℕ → Place → Type 0
  Top a s = IsSlot ws s × Owns s a × OnRun d.runs s.group

  climb : (a fuel : ℕ) (p : Place) → 65 ≤ p.group.tag + fuel → IsSlot ws p → Owns p a → (s : Place) × (ps : List Place) × Top a s × Down a s ps p
  climb a zero p f i o = let l = (laid p i).low in absurd (omega arith)
  climb a (suc fuel) p f i o =
      ⊎_elim
      (λ (r : OnRun d.runs p.group). (p, [], (i, o, r), refl))
      (λ (n : InNest d.nests p.group).
      let w = within p a i.2 o in
      let on : Owns n.nest.place a = (let b = n.begins in let h = n.fits in let w0 = w.0 in let w1 = w.1 in (omega arith, omega arith)) in
      let up = climb a fuel n.nest.place (let t = n.lower in omega arith) (nested n.nest n.noted) on in
      (up.0, up.1 ++ p ∷ [], up.2, down_snoc a up.0 up.1 n.nest.place p up.3 ((n.nest, n.noted, refl), n.begins) i o))
      (laid p i).lies

  inside : (a : ℕ) (s : Place) → (t : Top a s) → Inside t.2.run a
  inside a s t = let w = within s a t.0.2 t.1 in let w0 = w.0 in let w1 = w.1 in let e = t.2.begins in let l = t.2.fits in (omega arith, omega arith)

  one_top : (a : ℕ) (s t : Place) → Top a s → Top a t → s ≡ t
  one_top a s t x y =
      let r = words.apart x.2.run y.2.run a x.2.noted y.2.noted (inside a s x) (inside a t y) in
      one_slot a s t (one_base s t x.0 y.0 (sym x.2.begins ∙ ap (λ (z : Run). z.addr) r ∙ y.2.begins)) x.1 y.1

  -- of two ways down, the one that ends in a leaf goes on
  meets : (a : ℕ) (s : Place) (ps qs : List Place) (t p : Place) → Down a s ps t → Down a s qs p → IsLeaf d p → (t ≡ p) ⊎ ((x : Place) × Nests t x × IsSlot ws x × Owns x a)
  meets a s [] [] t p e f leaf = inl (sym e ∙ f)
  meets a s [] (x ∷ qs) t p e f leaf = inr (x, subst (λ y. Nests y x) e f.0, f.1, f.2)
  meets a s (y ∷ ps) [] t p e f leaf = absurd (leaf e.0.0.0 e.0.0.1 (e.0.0.2 ∙ f))
  meets a s (y ∷ ps) (x ∷ qs) t p e f leaf =
      let z : y ≡ x = one_slot a y x (one_base y x e.1 f.1 (e.0.1 ∙ sym f.0.1)) e.2 f.2 in
      meets a x ps qs t p (subst (λ u. Down a u ps t) z e.3) f.3 leaf

  -- the own cells of two leaves are apart
  pub leaves_apart : (a : ℕ) (p q : Place) → IsSlot ws p → IsSlot ws q → IsLeaf d p → IsLeaf d q → Owns p a → Owns q a → p ≡ q
  leaves_apart a p q i j leaf leaf' o o' =
      let x = climb a 65 p (omega arith) i o in
      let y = climb a 65 q (omega arith) j o' in
      let e = one_top a x.0 y.0 x.2 y.2 in
      ⊎_elim (λ (h : p ≡ q). h) (λ (h : (x : Place) × Nests p x × IsSlot ws x × Owns x a). absurd (leaf h.1.0.0 h.1.0.1 h.1.0.2)) (meets a y.0 x.1 y.1 p q (subst (λ u. Down a u x.1 p) e x.3) y.3 leaf')

  -- where a leaf has a cell in a group's reach, it has it behind the group's own three cells
  pub behind : (a m : ℕ) (p : Place) → m % 4 ≡ 0 → 0 < (group_at ws m).tag → IsSlot ws p → IsLeaf d p → Owns p a → (group_at ws m).base ≤ a → a + 4 < (group_at ws m).base + reach (group_at ws m) → (group_at ws m).base + 12 ≤ a
  behind a m p al live i leaf o low high =
      let g = group_at ws m in
      let y = climb a 65 p (omega arith) i o in
      let l = words.groups m al live in
      ⊎_elim
      (λ (r : OnRun d.runs g).
      let e = words.apart r.run y.2.2.run a r.noted y.2.2.noted (let e = r.begins in let h = r.fits in (omega arith, omega arith)) (inside a y.0 y.2) in
      let b : g.base ≡ y.0.group.base = sym r.begins ∙ ap (λ (z : Run). z.addr) e ∙ y.2.2.begins in
      let w = (within y.0 a y.2.0.2 y.2.1).0 in omega arith)
      (λ (n : InNest d.nests g).
      let on : Owns n.nest.place a = (let b = n.begins in let h = n.fits in (omega arith, omega arith)) in
      let x = climb a 65 n.nest.place (omega arith) (nested n.nest n.noted) on in
      let e = one_top a x.0 y.0 x.2 y.2 in
      ⊎_elim
      (λ (h : n.nest.place ≡ p). absurd (leaf n.nest n.noted h))
      (λ (h : (x : Place) × Nests n.nest.place x × IsSlot ws x × Owns x a). let w = (within h.0 a h.2.2 h.3).0 in let b : h.0.group.base ≡ g.base = h.1.1 ∙ sym n.begins in omega arith)
      (meets a y.0 x.1 y.1 n.nest.place p (subst (λ u. Down a u x.1 n.nest.place) e x.3) y.3 leaf))
      l.lies

  -- a group lies in a run that is no area
  pub in_run : (a m : ℕ) → m % 4 ≡ 0 → 0 < (group_at ws m).tag → (group_at ws m).base ≤ a → a + 4 < (group_at ws m).base + reach (group_at ws m) → (r : Run) × Among r d.runs × (r.area ≡ false) × Inside r a
  in_run a m al live low high =
      let g = group_at ws m in
      ⊎_elim
      (λ (r : OnRun d.runs g). (r.run, r.noted, r.plain, (let e = r.begins in let h = r.fits in (omega arith, omega arith))))
      (λ (n : InNest d.nests g).
      let on : Owns n.nest.place a = (let b = n.begins in let h = n.fits in (omega arith, omega arith)) in
      let x = climb a 65 n.nest.place (omega arith) (nested n.nest n.noted) on in
      (x.2.2.run, x.2.2.noted, x.2.2.plain, inside a x.0 x.2))
      (words.groups m al live).lies

  pub own_in_run : (a : ℕ) (p : Place) → IsSlot ws p → Owns p a → (r : Run) × Among r d.runs × (r.area ≡ false) × Inside r a
  own_in_run a p i o = let x = climb a 65 p (omega arith) i o in (x.2.2.run, x.2.2.noted, x.2.2.plain, inside a x.0 x.2)

  -- the cell is in the run of a live group
  pub own_top : (a : ℕ) (p : Place) → IsSlot ws p → Owns p a → (m : ℕ) × (m % 4 ≡ 0) × (0 < (group_at ws m).tag) × (on : OnRun d.runs (group_at ws m)) × Inside on.run a
  own_top a p i o =
      let x = climb a 65 p (omega arith) i o in
      let t = x.2 in
      let g = t.0.0.group in
      let m = x.0.group.meta in
      let e : x.0.group.base ≡ (group_at ws m).base = ap (λ (z : Group). z.base) g in
      (m, t.0.0.whole, subst (λ (z : Group). 0 < z.tag) g t.0.1, subst (OnRun d.runs) g t.2, inside a x.0 t)

  -- so is each cell of a live group
  pub reach_top : (a m : ℕ) → m % 4 ≡ 0 → 0 < (group_at ws m).tag → (group_at ws m).base ≤ a → a + 4 < (group_at ws m).base + reach (group_at ws m)
      → (n : ℕ) × (n % 4 ≡ 0) × (0 < (group_at ws n).tag) × (on : OnRun d.runs (group_at ws n)) × Inside on.run a
  reach_top a m al live low high =
      ⊎_elim
      (λ (r : OnRun d.runs (group_at ws m)). (m, al, live, r, (let e = r.begins in let h = r.fits in (omega arith, omega arith))))
      (λ (n : InNest d.nests (group_at ws m)).
      own_top a n.nest.place (nested n.nest n.noted) (let b = n.begins in let h = n.fits in (omega arith, omega arith)))
      (words.groups m al live).lies

  -- so is its past cell
  pub past_top : (fuel a m : ℕ) → 65 ≤ (group_at ws m).tag + fuel → m % 4 ≡ 0 → 0 < (group_at ws m).tag → (group_at ws m).base ≤ a → a + 4 ≤ (group_at ws m).base + reach (group_at ws m)
      → (n : ℕ) × (n % 4 ≡ 0) × (0 < (group_at ws n).tag) × (on : OnRun d.runs (group_at ws n)) × Inside on.run a
  past_top zero a m f al live low high = absurd (let l = (words.groups m al live).low in omega arith)
  past_top (suc fuel) a m f al live low high =
      ⊎_elim
      (λ (r : OnRun d.runs (group_at ws m)). (m, al, live, r, (let e = r.begins in let h = r.fits in (omega arith, omega arith))))
      (λ (n : InNest d.nests (group_at ws m)).
      let p = n.nest.place in let i = nested n.nest n.noted in
      let s : ℕ = stride p.group in
      let m1 : s * p.index + s ≤ s * (p.group.last + 1) = mul_more s p.index (p.group.last + 1) (let le = i.2 in omega arith) in
      let b = n.begins in let h = n.fits in
      let inside_parent : (p.group.base ≤ a) × (a + 4 ≤ p.group.base + reach p.group) = (omega arith, omega arith) in
      past_top fuel a p.group.meta (subst (λ (z : Group). 65 ≤ z.tag + fuel) i.0.group (let t = n.lower in omega arith)) i.0.whole (subst (λ (z : Group). 0 < z.tag) i.0.group i.1)
      (subst (λ (z : Group). z.base ≤ a) i.0.group inside_parent.0) (subst (λ (z : Group). a + 4 ≤ z.base + reach z) i.0.group inside_parent.1))
      (words.groups m al live).lies

  -- no cell of a run that is no area is in an area
  pub off_areas : (a m : ℕ) → ((r : Run) × Among r d.runs × (r.area ≡ false) × Inside r a) → InArea d m → m ≤ a → a < m + 40 → ⊥
  off_areas a m x r low high =
      let inside_area : Inside r.run a = (let u = r.place in let w = r.page in let b = r.below in (omega arith, omega arith)) in
      let e = words.apart r.run x.0 a r.noted x.1 inside_area x.3 in
      true≢false (sym r.is_area ∙ ap (λ (z : Run). z.area) e ∙ x.2)

  -- two metas have no cell in common
  pub metas_apart : (m n c b : ℕ) → InArea d m → InArea d n → c < 40 → b < 40 → m + c ≡ n + b → (m ≡ n) × (c ≡ b)
  metas_apart m n c b x y lc lb e =
      let p = x.place in let q = y.place in let u = x.page in let v = y.page in let i = x.below in let j = y.below in
      let r = words.apart x.run y.run (m + c) x.noted y.noted (omega arith, omega arith) (omega arith, omega arith) in
      let addr : x.run.addr ≡ y.run.addr = ap (λ (z : Run). z.addr) r in
      (omega arith, omega arith)

  -- ---- header cells and past cells. A slot has some cell
  module _ (wide : (m : ℕ) → m % 4 ≡ 0 → 0 < (group_at ws m).tag → 0 < stride (group_at ws m)) where
    broad : (p : Place) → IsSlot ws p → 0 < stride p.group
    broad p i = subst (λ (g : Group). 0 < stride g) (sym i.0.group) (wide p.group.meta i.0.whole (subst (λ (g : Group). 0 < g.tag) i.0.group i.1))

    -- a leaf's own cell is another slot's header cell only where it is that slot
    pub header_once : (a : ℕ) (p q : Place) → IsSlot ws p → IsLeaf d p → Owns p a → IsSlot ws q → a + 4 ≡ slot_start q → q ≡ p
    header_once a p q i leaf o j e =
        let b = broad q j in
        let oq : Owns q a = (omega arith, omega arith) in
        let x = climb a 65 q (omega arith) j oq in
        let y = climb a 65 p (omega arith) i o in
        ⊎_elim (λ (h : q ≡ p). h)
        (λ (h : (x : Place) × Nests q x × IsSlot ws x × Owns x a). absurd (let w = (within h.0 a h.2.2 h.3).0 in let s = h.1.1 in omega arith))
        (meets a y.0 x.1 y.1 q p (subst (λ u. Down a u x.1 q) (one_top a x.0 y.0 x.2 y.2) x.3) y.3 leaf)

    some_place : (m : ℕ) → m % 4 ≡ 0 → 0 < (group_at ws m).tag → IsSlot ws (record { group = group_at ws m; index = 0 })
    some_place m al live = (record { group = refl; whole = al; few = omega arith }, live, omega arith)

    -- a leaf's own cell is a group's past cell only where it is the leaf's header cell
    pub past_own : (fuel a m : ℕ) (p : Place) → 65 ≤ (group_at ws m).tag + fuel → m % 4 ≡ 0 → 0 < (group_at ws m).tag → IsSlot ws p → IsLeaf d p → Owns p a
        → a + 4 ≡ (group_at ws m).base + reach (group_at ws m) → a + 4 ≡ slot_start p
    past_own zero a m p f al live i leaf o e = absurd (let l = (words.groups m al live).low in omega arith)
    past_own (suc fuel) a m p f al live i leaf o e =
        let g = group_at ws m in
        let y = climb a 65 p (omega arith) i o in
        let here = some_place m al live in
        ⊎_elim
        (λ (r : OnRun d.runs g).
        absurd
        (let s = words.apart r.run y.2.2.run a r.noted y.2.2.noted (let b = r.begins in let h = r.fits in (omega arith, omega arith)) (inside a y.0 y.2) in
        let b : y.0.group.base ≡ g.base = sym y.2.2.begins ∙ ap (λ (z : Run). z.addr) (sym s) ∙ r.begins in
        let q = one_base y.0 (record { group = g; index = 0 }) y.2.0 here b in
        let w : a + 4 < g.base + reach g = subst (λ (z : Group). a + 4 < z.base + reach z) q (within y.0 a y.2.0.2 y.2.1).1 in omega arith))
        (λ (n : InNest d.nests g).
        let b = n.begins in let h = n.fits in
        let np = n.nest.place in
        let ni = nested n.nest n.noted in
        ⊎_elim
        (λ (l : reach g < stride np.group).
        let on : Owns np a = (omega arith, omega arith) in
        let x = climb a 65 np (omega arith) ni on in
        absurd (⊎_elim
        (λ (z : np ≡ p). leaf n.nest n.noted z)
        (λ (z : (x : Place) × Nests np x × IsSlot ws x × Owns x a).
        let q = one_base z.0 (record { group = g; index = 0 }) z.2 here (z.1.1 ∙ sym n.begins) in
        let w : a + 4 < g.base + reach g = subst (λ (k : Group). a + 4 < k.base + reach k) q (within z.0 a z.2.2 z.3).1 in omega arith)
        (meets a y.0 x.1 y.1 np p (subst (λ u. Down a u x.1 np) (one_top a x.0 y.0 x.2 y.2) x.3) y.3 leaf)))
        (λ (l : stride np.group ≤ reach g).
        ⊎_elim
        (λ (k : np.index < np.group.last).
        let many = (laid np ni).many in
        let q : Place = record { group = np.group; index = np.index + 1 } in
        let qi : IsSlot ws q = (record { group = ni.0.group; whole = ni.0.whole; few = omega arith }, ni.1, omega arith) in
        let s : ℕ = stride np.group in
        let m1 : s * (np.index + 1) ≡ s * np.index + s = omega arith in
        let eq : a + 4 ≡ slot_start q = omega arith in
        eq ∙ ap slot_start (header_once a p q i leaf o qi eq))
        (λ (k : np.group.last ≤ np.index).
        let same : np.index ≡ np.group.last = (let le = ni.2 in omega arith) in
        let s : ℕ = stride np.group in
        let m1 : s * (np.group.last + 1) ≡ s * np.group.last + s = omega arith in
        let m2 : s * np.index ≡ s * np.group.last = ap (λ (z : ℕ). s * z) same in
        let at_end : a + 4 ≡ np.group.base + reach np.group = omega arith in
        past_own fuel a np.group.meta p
        (subst (λ (z : Group). 65 ≤ z.tag + fuel) ni.0.group (let t = n.lower in omega arith)) ni.0.whole (subst (λ (z : Group). 0 < z.tag) ni.0.group ni.1) i leaf o
        (subst (λ (z : Group). a + 4 ≡ z.base + reach z) ni.0.group at_end))
        (cases_lt np.index np.group.last))
        (cases_lt (reach g) (stride np.group)))
        (words.groups m al live).lies
