-- A step on the avail word of one meta leaves the other groups.
use Rattle.std.proofs.Common.{◌≡◌, ◌≢◌, ℕ, ◌+◌, ◌/◌, ◌%◌, ◌<◌, ◌≤◌, true, false, List, length, set, refl, sym, ap, ◌∙◌, subst, ⊎_elim, inl, inr, arith, eqb}
use Rattle.std.specs.Prelude.{slice_index}
use Rattle.std.proofs.Math.ListN.{length-set}
use Rattle.std.proofs.lemmas.Bool.{cases_eq, cases_lt}
use Rattle.ng_view.specs.declared.view.Group.{Group}
use Rattle.ng_view.specs.declared.view.Place.{Place}
use Rattle.ng_view.specs.declared.view.Nest.{Nest}
use Rattle.ng_view.specs.declared.view.Run.{Run}
use Rattle.ng_view.specs.declared.view.Layout.{Layout}
use Rattle.ng_view.specs.declared.view.Start.{Start}
use Rattle.ng_view.specs.Lists.{Among, total_by, count_of}
use Rattle.ng_view.specs.Cells.{cell, tag, last, avail, freed, owed_of, marked_of, owed, marked, group_at}
use Rattle.ng_view.specs.Places.{header}
use Rattle.ng_view.specs.Words.{IsAvailWord, IsLawful}
use Rattle.ng_view.specs.Slots.{IsPlace}
use Rattle.ng_view.specs.Layouts.{IsOutside, Inside, InArea, IsLaid, IsArea, IsCarried, OnRun, InNest}
use Rattle.ng_rule.proofs.geometry.Lists.{at_other, index_same, index_other}
use Rattle.ng_rule.proofs.geometry.Nesting.{IsSlot, in_run, off_areas, metas_apart}
use Rattle.ng_rule.proofs.geometry.Facts.{marked_dead}
use Rattle.ng_rule.proofs.geometry.Frames.{IsUpper, meta_below, meta_head, header_run, header_al, fields_same, area_same, first_same, first_outside}

module _ (key : Start) (ws : List ℕ) (d : Layout) (words : IsLawful key ws d) (nested : (n : Nest) → Among n d.nests → IsSlot ws n.place)
    (m x : ℕ) (al : m % 4 ≡ 0) (area : InArea d m) where
  abbrev ws' : List ℕ
  ws' = set ws ((m + 24) / 4) x

  pub but_long : (m + 24) / 4 < length ws
  but_long = meta_below key ws d words nested m 24 area (omega arith)

  pub but_avail : avail ws' m ≡ x
  but_avail = index_same ws ((m + 24) / 4) x but_long

  pub but_field : (n b : ℕ) → n % 4 ≡ 0 → InArea d n → b < 40 → b % 4 ≡ 0 → ((n ≡ m) × (b ≡ 24) → ⊥) → cell ws' (n + b) ≡ cell ws (n + b)
  but_field n b nl r lb bl ne = at_other ws (m + 24) (n + b) x (omega arith) (omega arith) (λ e. ne (metas_apart key ws d words nested n m b 24 r area lb (omega arith) e))

  pub but_tags : (n : ℕ) → n % 4 ≡ 0 → n ≢ m → tag ws' n ≡ tag ws n
  but_tags n nl ne = ap (λ (y : ℕ). y / 4294967296) (at_other ws (m + 24) (n + 24) x (omega arith) (omega arith) (λ e. ne (omega arith)))

  pub but_group : (n : ℕ) → n % 4 ≡ 0 → n ≢ m → 0 < tag ws n → group_at ws' n ≡ group_at ws n
  but_group n nl ne l =
      let r = (words.groups n nl l).in_area in
      λ j. record { meta = n; base = but_field n 16 nl r (omega arith) refl (λ q. ne q.0) j; tag = but_tags n nl ne j; last = but_field n 32 nl r (omega arith) refl (λ q. ne q.0) j % 32; maplen = but_field n 32 nl r (omega arith) refl (λ q. ne q.0) j / 4096 }

  -- a cell of a run that is no area is not the word that changes
  pub but_off : (a : ℕ) → a % 4 ≡ 0 → ((r : Run) × Among r d.runs × (r.area ≡ false) × Inside r a) → cell ws' a ≡ cell ws a
  but_off a l r = at_other ws (m + 24) a x (omega arith) l (λ e. off_areas key ws d words nested a m r area (omega arith) (omega arith))

  pub but_marks : (n j : ℕ) → n % 4 ≡ 0 → n ≢ m → marked ws' n j ≡ marked ws n j
  but_marks n j nl ne =
      ⊎_elim
      (λ (l : 0 < tag ws n). let r = (words.groups n nl l).in_area in λ s. marked_of (but_tags n nl ne s) (but_field n 24 nl r (omega arith) refl (λ q. ne q.0) s) (but_field n 28 nl r (omega arith) refl (λ q. ne q.0) s) j)
      (λ (l : tag ws n ≤ 0). let z : tag ws n ≡ 0 = (let y : ℕ = tag ws n in omega arith) in marked_dead (tag ws' n) (avail ws' n) (freed ws' n) j (but_tags n nl ne ∙ z) ∙ sym (marked_dead (tag ws n) (avail ws n) (freed ws n) j z))
      (cases_lt 0 (tag ws n))

  pub but_owed : (n j : ℕ) → n % 4 ≡ 0 → n ≢ m → owed ws' n j ≡ owed ws n j
  but_owed n j nl ne =
      ⊎_elim
      (λ (l : 0 < tag ws n). ap (λ (y : Group). owed_of y.tag y.last j) (but_group n nl ne l))
      (λ (l : tag ws n ≤ 0). let z : tag ws n ≡ 0 = (let y : ℕ = tag ws n in omega arith) in ap (λ y. owed_of y (last ws' n) j) (but_tags n nl ne ∙ z) ∙ ap (λ y. owed_of y (last ws n) j) (sym z))
      (cases_lt 0 (tag ws n))

  pub but_place : (p : Place) → IsSlot ws p → p.group.meta ≢ m → IsPlace ws' p
  but_place p i ne = record { group = i.0.group ∙ sym (but_group p.group.meta i.0.whole ne (subst (λ (y : Group). 0 < y.tag) i.0.group i.1)); whole = i.0.whole; few = i.0.few }

  pub but_laid : (n : ℕ) → n % 4 ≡ 0 → n ≢ m → 0 < tag ws n → IsLaid ws' d (group_at ws' n)
  but_laid n nl ne l =
      let old = words.groups n nl l in
      let lr : (b : ℕ) → b < 8 → (r : Run) × Among r d.runs × (r.area ≡ false) × Inside r (cell ws (n + 16) + b) = λ b lb. in_run key ws d words nested (cell ws (n + 16) + b) n nl l (omega arith) (omega arith) in
      let ab = old.whole in
      subst (IsLaid ws' d) (sym (but_group n nl ne l)) (record {
        in_area = old.in_area;
        low = old.low;
        many = old.many;
        whole = old.whole;
        base = but_off (cell ws (n + 16)) (omega arith) (let q = lr 0 (omega arith) in (q.0, q.1, q.2, (let u = q.3.0 in let h = q.3.1 in (omega arith, omega arith)))) ∙ old.base;
        base_high = but_off (cell ws (n + 16) + 4) (omega arith) (lr 4 (omega arith)) ∙ old.base_high;
        lies = old.lies;
        kind = old.kind;
        fields = fields_same ws ws' (group_at ws n) (λ b lt bl n24 n28. but_field n b nl old.in_area lt bl (λ q. ne q.0)) old.fields;
        lows = λ i le. ap (λ (y : ℕ). y % 256) (but_off (header (group_at ws n) i) (header_al key ws d words nested n i nl l) (header_run key ws d words nested n i nl l le)) ∙ old.lows i le;
      })

  pub but_area : (r : Run) → Among r d.runs → r.area ≡ true → IsArea key ws' d r
  but_area r k is = area_same key ws ws' d r (λ b bl h. at_other ws (m + 24) (r.addr + b) x (omega arith) (let q = (words.in_space r k).whole in omega arith) (meta_head key ws d words nested (m + 24) m area (omega arith) (omega arith) r b k is h)) (words.areas r k is)

  but_zero : (a : ℕ) → a % 4 ≡ 0 → IsOutside d a → cell ws' a ≡ cell ws a
  but_zero a l out = at_other ws (m + 24) a x (omega arith) l (λ e. out area.run area.noted (let p = area.place in let o = area.page in let q = area.below in (omega arith, omega arith)))

  pub but_first : (a : ℕ) → a % 4 ≡ 0 → a < 4096 → cell ws' a ≡ cell ws a
  but_first a l lt = but_zero a l (first_outside key ws d words a lt)

  pub but_upper : (k : ℕ) → IsUpper d k (slice_index ws' k)
  but_upper k = ⊎_elim (λ (e : k ≡ (m + 24) / 4). inr (record { meta = m; whole = al; in_area = area; place = omega arith })) (λ (ne : k ≢ (m + 24) / 4). subst (λ y. IsUpper d k y) (sym (index_other ws ((m + 24) / 4) k x ne)) (words.upper k)) (cases_eq k ((m + 24) / 4))

  pub but_outside : (a : ℕ) → a % 4 ≡ 0 → 4096 ≤ a → IsOutside d a → cell ws' a ≡ 0
  but_outside a l page out = but_zero a l out ∙ words.outside a l page out

  pub but_carried : (n : Nest) → Among n d.nests → n.child ≢ m → IsCarried ws' n
  but_carried n t ne = let k = words.carried n t in record { whole = k.whole; live = subst (λ y. 0 < y) (sym (but_tags n.child k.whole ne)) k.live; base = ap (λ (g : Group). g.base) (but_group n.child k.whole ne k.live) ∙ k.base }

  -- Words, given what the meta is then, and with the nests but those of that meta
  module _ (ns : List Nest) (was : (n : Nest) → Among n ns → Among n d.nests × (n.child ≢ m)) (stays : (n : Nest) → Among n d.nests → n.child ≢ m → Among n ns)
      (fewer : (k : ℕ) → total_by (λ (n : Nest). count_of (eqb n.child k)) ns ≤ total_by (λ (n : Nest). count_of (eqb n.child k)) d.nests) where
    abbrev e : Layout
    e = record { runs = d.runs; nests = ns }

    area_in : (n : ℕ) → InArea d n → InArea e n
    area_in n r = record { run = r.run; number = r.number; noted = r.noted; is_area = r.is_area; page = r.page; place = r.place; below = r.below }

    laid_in : (n : ℕ) → n ≢ m → (g : Group) → g.meta ≡ n → IsLaid ws' d g → IsLaid ws' e g
    laid_in n ne g is l = record {
      in_area = area_in g.meta l.in_area;
      low = l.low;
      many = l.many;
      kind = l.kind;
      fields = l.fields;
      whole = l.whole;
      base = l.base;
      base_high = l.base_high;
      lows = l.lows;
      lies = ⊎_elim (λ (r : OnRun d.runs g). inl r) (λ (x : InNest d.nests g). inr (record { nest = x.nest; noted = stays x.nest x.noted (λ q. ne (sym is ∙ sym x.child ∙ q)); child = x.child; begins = x.begins; fits = x.fits; lower = x.lower; nested = x.nested })) l.lies;
    }

    pub but_words_in : (0 < tag ws' m → IsLaid ws' e (group_at ws' m)) → IsLawful key ws' e
    but_words_in mine = record {
      range = words.range;
      long = length-set ws ((m + 24) / 4) x ∙ words.long;
      upper = λ k. ⊎_elim (λ (l : slice_index ws' k < 4294967296). inl l) (λ (r : IsAvailWord d k). inr (record { meta = r.meta; whole = r.whole; in_area = area_in r.meta r.in_area; place = r.place })) (but_upper k);
      apart = words.apart;
      in_space = words.in_space;
      once = words.once;
      groups = λ n nl l. ⊎_elim (λ (q : n ≡ m). subst (λ k. IsLaid ws' e (group_at ws' k)) (sym q) (mine (subst (λ k. 0 < tag ws' k) q l))) (λ (ne : n ≢ m). laid_in n ne (group_at ws' n) refl (but_laid n nl ne (subst (λ y. 0 < y) (but_tags n nl ne) l))) (cases_eq n m);
      carried = λ n t. let k = was n t in but_carried n k.0 k.1;
      single = λ k. let o = words.single k in let f = fewer k in omega arith;
      areas = λ r k is. let a = but_area r k is in record { page = a.page; check = a.check; check_high = a.check_high; next = a.next; next_high = a.next_high; nslots = a.nslots; nslots_high = a.nslots_high; tail = a.tail };
      first = first_same key ws ws' but_first words.first;
      outside = but_outside;
    }

  -- no group is nested by that meta
  pub but_words : ((n : Nest) → Among n d.nests → n.child ≢ m) → (0 < tag ws' m → IsLaid ws' d (group_at ws' m)) → IsLawful key ws' d
  but_words none mine = but_words_in d.nests (λ n t. (t, none n t)) (λ n t ne. t) (λ k. omega arith) mine

  -- where it has no group, none is
  pub dead_none : tag ws m ≡ 0 → (n : Nest) → Among n d.nests → n.child ≢ m
  dead_none dead n t q = let k = (words.carried n t).live in let z : tag ws n.child ≡ 0 = ap (tag ws) q ∙ dead in omega arith
