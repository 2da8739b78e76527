-- Whether the lock's seat builds a cell can be decided from its view.
use Rattle.std.proofs.Common.{◌≡◌, ◌≢◌, ◌⊎◌, ℕ, ◌+◌, ◌-◌, ◌*◌, ◌<◌, ◌≤◌, ◌%◌, ◌/◌, Bool, true, false, true≢false, List, [], ◌∷◌, refl, sym, subst, ⊎_elim, inl, inr, arith}
use Rattle.std.proofs.lemmas.Bool.{cases_eq, cases_lt}
use Rattle.ng_meta.specs.Place.{meta_place}
use Rattle.ng_view.specs.Conditions.{Builds, IsEmpty, IsMetaCell, IsRunCell, IsUnborn}
use Rattle.ng_view.specs.Lists.{Among}
use Rattle.ng_view.specs.declared.view.Group.{Group}
use Rattle.ng_view.specs.declared.view.Run.{Run}
use Rattle.ng_view.specs.declared.view.View.{View}

-- a fact or its opposite
abbrev pub Decided : Type 0 → Type 0
Decided P = P ⊎ (P → ⊥)

-- one of a list has a property, or none has
pub decide_list : {A : Type 0} (P : A → Type 0) (xs : List A) → ((x : A) → Decided (P x)) → ((x : A) × Among x xs × P x) ⊎ ((x : A) → Among x xs → P x → ⊥)
decide_list {A = A} P [] decide = inr (λ x s p. elim s [ ])
decide_list {A = A} P (x ∷ xs) decide = ⊎_elim
    (λ (p : P x). inl (x, inl refl, p))
    (λ (not : P x → ⊥). ⊎_elim
    (λ (r : (y : A) × Among y xs × P y). inl (r.0, inr r.1, r.2))
    (λ (none : (y : A) → Among y xs → P y → ⊥). inr (λ y s p. ⊎_elim (λ (e : y ≡ x). not (subst P e p)) (λ (t : Among y xs). none y t p) s))
    (decide_list P xs decide))
    (decide x)

both : {P Q : Type 0} → Decided P → Decided Q → Decided (P × Q)
both (inl p) (inl q) = inl (p, q)
both (inl p) (inr not) = inr (λ r. not r.1)
both (inr not) q = inr (λ r. not r.0)

is_true : (b : Bool) → Decided (b ≡ true)
is_true true = inl refl
is_true false = inr (λ e. true≢false (sym e))

is_false : (b : Bool) → Decided (b ≡ false)
is_false false = inl refl
is_false true = inr (λ e. true≢false e)

less : (n k : ℕ) → Decided (n < k)
less n k = ⊎_elim (λ (l : n < k). inl l) (λ (l : k ≤ n). inr (λ g. omega arith)) (cases_lt n k)

most : (n k : ℕ) → Decided (n ≤ k)
most n k = ⊎_elim (λ (l : k < n). inr (λ g. omega arith)) (λ (l : n ≤ k). inl l) (cases_lt k n)

module _ (v : View) (a : ℕ) where
  -- no group has a number as its meta, or none as its base
  none_has : (f : Group → ℕ) (n : ℕ) → Decided ((g : Group) → Among g v.desk.groups → f g ≢ n)
  none_has f n = ⊎_elim
      (λ (r : (g : Group) × Among g v.desk.groups × (f g ≡ n)). inr (λ none. none r.0 r.1 r.2))
      (λ (none : (g : Group) → Among g v.desk.groups → f g ≡ n → ⊥). inl none)
      (decide_list (λ (g : Group). f g ≡ n) v.desk.groups (λ g. cases_eq (f g) n))

  abbrev OfRun : Run → Type 0
  OfRun r = (r.area ≡ false) × (((r.addr ≤ a) × (a < r.addr + 4096 * r.pages)) × IsEmpty v r)

  of_run : (r : Run) → Decided (OfRun r)
  of_run r = both (is_false r.area) (both (both (most r.addr a) (less a (r.addr + 4096 * r.pages))) (none_has (λ g. g.base) r.addr))

  -- the k-th meta of an area has the cell
  abbrev OfMeta : Run → ℕ → Type 0
  OfMeta r k = (r.area ≡ true) × ((r.pages ≡ 1) × ((k < 101) × (((meta_place r.addr k ≤ a) × (a < meta_place r.addr k + 40)) × ((meta_place r.addr k % 4 ≡ 0) × IsUnborn v (meta_place r.addr k)))))

  abbrev number : Run → ℕ
  number r = (a - (r.addr + 24)) / 40

  of_meta : (r : Run) → Decided (OfMeta r (number r))
  of_meta r =
      let m = meta_place r.addr (number r) in
      both (is_true r.area) (both (cases_eq r.pages 1) (both (less (number r) 101) (both (both (most m a) (less a (m + 40))) (both (cases_eq (m % 4) 0) (none_has (λ g. g.meta) m)))))

  run_cell : Decided (IsRunCell v a)
  run_cell = ⊎_elim
      (λ (r : (x : Run) × Among x v.desk.layout.runs × OfRun x). let p = r.2 in inl (record { run = r.0; noted = r.1; plain = p.0; inside = p.1.0; free = p.1.1 }))
      (λ (none : (x : Run) → Among x v.desk.layout.runs → OfRun x → ⊥). inr (λ c. none c.run c.noted (c.plain, (c.inside, c.free))))
      (decide_list OfRun v.desk.layout.runs of_run)

  meta_cell : Decided (IsMetaCell v a)
  meta_cell = ⊎_elim
      (λ (r : (x : Run) × Among x v.desk.layout.runs × OfMeta x (number x)).
      let x = r.0 in let p = r.2 in
      inl (record { meta = meta_place x.addr (number x); whole = p.1.1.1.1.0; in_area = record { run = x; number = number x; noted = r.1; is_area = p.0; page = p.1.0; place = refl; below = p.1.1.0 }; unborn = p.1.1.1.1.1; from = p.1.1.1.0.0; below = p.1.1.1.0.1 }))
      (λ (none : (x : Run) → Among x v.desk.layout.runs → OfMeta x (number x) → ⊥). inr (λ c.
      let i = c.in_area in let e = i.place in let low = c.from in let high = c.below in
      let same : i.number ≡ number i.run = omega arith in
      none i.run i.noted (subst (OfMeta i.run) same (i.is_area, (i.page, (i.below, ((subst (λ m. m ≤ a) e c.from, subst (λ m. a < m + 40) e c.below), (subst (λ m. m % 4 ≡ 0) e c.whole, subst (IsUnborn v) e c.unborn))))))))
      (decide_list (λ x. OfMeta x (number x)) v.desk.layout.runs of_meta)

  pub decide_builds : Decided (Builds v a)
  decide_builds = both (cases_eq (a % 4) 0) (⊎_elim
      (λ (r : IsRunCell v a). inl (inl r))
      (λ (not : IsRunCell v a → ⊥). ⊎_elim
      (λ (m : IsMetaCell v a). inl (inr m))
      (λ (none : IsMetaCell v a → ⊥). inr (λ c. ⊎_elim (λ (r : IsRunCell v a). not r) (λ (m : IsMetaCell v a). none m) c))
      meta_cell)
      run_cell)

  -- the cell is a live group's, some bytes behind its meta
  pub decide_mask : (b : ℕ) → ((g : Group) × Among g v.desk.groups × (a ≡ g.meta + b)) ⊎ ((g : Group) → Among g v.desk.groups → a ≡ g.meta + b → ⊥)
  decide_mask b = decide_list (λ (g : Group). a ≡ g.meta + b) v.desk.groups (λ g. cases_eq a (g.meta + b))
