-- Steps of the lock's seat on words, as code asks for them: by its view alone.
use Rattle.std.proofs.Common.{◌≡◌, ◌≢◌, ◌⊎◌, ℕ, zero, suc, ◌+◌, ◌-◌, ◌*◌, ◌/◌, ◌%◌, ◌<◌, ◌≤◌, eqb, cond, Bool, true, false, List, [], ◌∷◌, set, refl, sym, ap, ◌∙◌, subst, ⊎_elim, inl, inr, arith}
use mathlib.Core.Option.{some}
use lib.ListN.{get_elem?}
use Rattle.std.specs.Prelude.{Some, None}
use Rattle.std.specs.Int.{bit_at}
use Rattle.std.proofs.lemmas.Bool.{cases_lt}
use Rattle.atomic_table.proofs.Lists.{set_again}
use Rattle.ng_rule.proofs.page.Learn.{learns}
use Rattle.ng_rule.proofs.page.Area.{notes_area}
use Rattle.ng_view.specs.Words.{IsAvailWord}
use Rattle.ng_view.specs.declared.view.Group.{Group}
use Rattle.ng_view.specs.declared.view.Held.{Held}
use Rattle.ng_view.specs.declared.view.Nest.{Nest}
use Rattle.ng_view.specs.declared.view.Run.{Run}
use Rattle.ng_view.specs.declared.view.Desk.{Desk}
use Rattle.ng_view.specs.declared.view.View.{View}
use Rattle.ng_view.specs.declared.view.Start.{Start}
use Rattle.ng_view.specs.Lists.{Among, count_of, select, find}
use Rattle.ng_view.specs.Cells.{marked, cell, tag, last, avail, freed, group_at}
use Rattle.ng_view.specs.Places.{header}
use Rattle.ng_view.specs.Views.{desk_of}
use Rattle.ng_view.specs.Rule.{Rule}
use Rattle.ng_view.specs.Layouts.{IsAreaAt, InArea, OnRun, IsMeta, IsKind}
use Rattle.ng_view.specs.Knowledge.{IsFree, Noted}
use Rattle.ng_view.specs.Slots.{IsPlain}
use Rattle.ng_view.specs.Listing.{Listing}
use Rattle.ng_view.specs.Steps.{read}
use Rattle.ng_view.specs.LockSteps.{built, retired, nest_of, without_nest, published, run_published, cells_off, avail_emptied, freed_taken, seen_but, area_made, learnt_free}
use Rattle.ng_view.specs.Tells.{TellsGroup}
use Rattle.ng_view.specs.Conditions.{IsRunCell, IsMetaCell, IsUnborn, IsEmpty, Builds, Sees, Built, AreaBuilt}
use Rattle.ng_view.specs.May.{May}
use Rattle.ng_rule.proofs.geometry.Nesting.{metas_apart}
use Rattle.ng_rule.proofs.geometry.Facts.{marked_live, nested}
use Rattle.std.specs.Prelude.{◌&&◌, ◌^◌, leb, bit_and, min}
use Rattle.std.specs.Int.{bit_not, w64, w32, trailing_zeros}
use Rattle.std.proofs.lemmas.Bool.Decides.{nat_tests}
use Rattle.std.proofs.lemmas.Nat.{shr-shr, and_le_l}
use Rattle.std.proofs.lemmas.Nat.Bits.{bit_at-lt, bit_at_not, bit_at_and, bit_at_above, bit_at_ones, bit_at_cat_low, same_from_bits}
use Rattle.ng_rule.proofs.geometry.Readings.{with_reading, loads_by}
use Rattle.ng_rule.proofs.hand.Moves.{lowest}
use Rattle.ng_rule.proofs.lock.LockNotes.{led, cells_was, is_number}
use Rattle.ng_rule.proofs.page.Build.{builds}
use Rattle.ng_rule.proofs.page.Index.{indexes}
use Rattle.ng_rule.proofs.group.Unnest.{retires_mapped, retires_nested}
use Rattle.ng_rule.proofs.group.Publish.{publishes}
use Rattle.ng_rule.proofs.group.Take.{takes}

module _ (key : Start) (id : ℕ) (v : View) (leads : v.leads ≡ true) where
  live_group : (ws : List ℕ) (vs : List View) → Rule key ws vs → get_elem? vs id ≡ some v → (g : Group) → Among g v.desk.groups → (g ≡ group_at ws g.meta) × (g.meta % 4 ≡ 0) × (0 < tag ws g.meta)
  live_group ws vs kept e g there = let l = (subst (Listing ws) (led key id v leads ws vs kept e) kept.listing).live g there in (l.group, l.whole, subst (λ (y : Group). 0 < y.tag) l.group l.live)

  -- a meta without a group has no tag
  unborn_dead : (ws : List ℕ) (vs : List View) → Rule key ws vs → get_elem? vs id ≡ some v → (m : ℕ) → m % 4 ≡ 0 → IsUnborn v m → tag ws m ≡ 0
  unborn_dead ws vs kept e m al u = ⊎_elim
      (λ (l : 0 < tag ws m). absurd (u (group_at ws m) ((subst (Listing ws) (led key id v leads ws vs kept e) kept.listing).known m al l) refl))
      (λ (l : tag ws m ≤ 0). let t : ℕ = tag ws m in omega arith) (cases_lt 0 (tag ws m))

  empty_run : (ws : List ℕ) (vs : List View) → Rule key ws vs → get_elem? vs id ≡ some v → (r : Run) → IsEmpty v r → (m : ℕ) → m % 4 ≡ 0 → 0 < tag ws m → cell ws (m + 16) ≢ r.addr
  empty_run ws vs kept e r u m al l = u (group_at ws m) ((subst (Listing ws) (led key id v leads ws vs kept e) kept.listing).known m al l)

  pub builds_free : (ws : List ℕ) (vs : List View) → Rule key ws vs → get_elem? vs id ≡ some v → (a : ℕ) → Builds v a → IsFree ws v.desk.layout a
  builds_free ws vs kept e a b = (
    b.0,
    ⊎_elim
        (λ (y : IsRunCell v a). inl (record { run = y.run; noted = y.noted; plain = y.plain; inside = y.inside; free = empty_run ws vs kept e y.run y.free }))
        (λ (y : IsMetaCell v a). inr (record { meta = y.meta; whole = y.whole; in_area = y.in_area; free = unborn_dead ws vs kept e y.meta y.whole y.unborn; from = y.from; below = y.below })) b.1,
  )

  -- store in an own page: a cell that the seat builds, and the active index of a live group
  pub builds_may : (a x : ℕ) → Builds v a → x < 4294967296 → May key id v (a / 4) (λ n. x) (λ v n u. u ≡ built v a x)
  builds_may a x b fits ws vs kept e _ = (built v a x, builds key ws vs id v kept e leads a x (subst (λ (d : Desk). IsFree ws d.layout a) (sym (led key id v leads ws vs kept e)) (builds_free ws vs kept e a b)) fits, refl)

  pub index_may : (g : Group) (x : ℕ) → Among g v.desk.groups → x < 4294967296 → May key id v ((g.base + 8) / 4) (λ n. x) (λ v n u. u ≡ v)
  index_may g x there fits ws vs kept e _ =
      let l = live_group ws vs kept e g there in
      (v, subst (λ b. Rule key (set ws ((b + 8) / 4) x) (set vs id v)) (sym (ap (λ (y : Group). y.base) l.0)) (indexes key ws vs id v kept e g.meta x l.1 l.2 fits), refl)

  -- retire
  pub retire_may : (g : Group) → Among g v.desk.groups → ((i : ℕ) → i ≤ g.last → (h : Held) × (find g.meta i v.held ≡ Some h) × (h.block ≡ None)) → ((n : Nest) → Among n v.desk.layout.nests → n.child ≢ g.meta)
      → May key id v ((g.meta + 24) / 4) (λ n. 0) (λ v n u. u ≡ retired v g.meta [] v.desk.layout.nests)
  retire_may g there all none ws vs kept e _ =
      let l = live_group ws vs kept e g there in
      (retired v g.meta [] v.desk.layout.nests, retires_mapped key ws vs id v kept e leads g.meta l.1 l.2 (λ i le. all i (subst (λ (y : Group). i ≤ y.last) (sym l.0) le)) none, refl)

  pub retire_nested_may : (g : Group) (n : Nest) → Among g v.desk.groups → ((i : ℕ) → i ≤ g.last → (h : Held) × (find g.meta i v.held ≡ Some h) × (h.block ≡ None)) → nest_of g.meta v.desk.layout.nests ≡ Some n
      → May key id v ((g.meta + 24) / 4) (λ _. 0) (λ v _ u. u ≡ retired v g.meta (record { place = n.place; block = None; cells = [] } ∷ []) (without_nest g.meta v.desk.layout.nests))
  retire_nested_may g n there all found ws vs kept e _ =
      let l = live_group ws vs kept e g there in
      (retired v g.meta (record { place = n.place; block = None; cells = [] } ∷ []) (without_nest g.meta v.desk.layout.nests), retires_nested key ws vs id v kept e leads g.meta l.1 l.2 (λ i le. all i (subst (λ (y : Group). i ≤ y.last) (sym l.0) le)) n found, refl)

  -- publish of a mapped group
  pub publish_may : (g : Group) (mask f : ℕ) (b : Built v g mask f) → May key id v ((g.meta + 24) / 4) (λ n. g.tag * 2 ^ 32 + mask) (λ v n u. u ≡ run_published v g b.run.run mask f)
  publish_may g mask f b ws vs kept e _ =
      let d = led key id v leads ws vs kept e in
      let o = (subst (Noted ws) d kept.knowledge.desk).free in
      let sees : (a x : ℕ) → Sees v a x → cell ws a ≡ x = λ a x s. (o a x s).1 in
      let m = g.meta in
      let fl = b.flags_are in
      let base : cell ws (m + 16) ≡ g.base = sees (m + 16) g.base b.mem in
      let flags : cell ws (m + 32) ≡ b.flags = sees (m + 32) b.flags b.flags_known in
      let freed_is : freed ws m ≡ f = sees (m + 28) f b.freed in
      let same : record (group_at ws m) { tag = g.tag } ≡ g = (λ i. record { meta = m; base = base i; tag = g.tag; last = (ap (λ (y : ℕ). y % 32) flags ∙ fl.last) i; maplen = (ap (λ (y : ℕ). y / 4096) flags ∙ fl.maplen) i }) in
      let w = run_published v g b.run.run mask f in
      let cs = cells_off m (m + 40) (cells_off b.run.run.addr (b.run.run.addr + 4096 * b.run.run.pages) v.desk.cells) in
      let ba = cond (eqb mask 0) (m ∷ v.desk.zero_avail) v.desk.zero_avail in
      let fields : IsMeta ws g = record {
        links = λ c lt al. sees (m + c) 0 (b.links c lt al);
        mem_high = sees (m + 20) 0 b.mem_high;
        flags_high = sees (m + 36) 0 b.flags_high;
        freeable = ap (λ (y : ℕ). y / 32 % 2) flags ∙ fl.freeable;
        class = ap (λ (y : ℕ). y / 64 % 64 + 1) flags ∙ fl.class;
      } in
      let g' : Group = record (group_at ws m) { tag = g.tag } in
      let on : OnRun (desk_of vs).layout.runs g' = subst (λ (z : Desk). OnRun z.layout.runs g') (sym d) (subst (OnRun v.desk.layout.runs) (sym same) b.run) in
      let last_is : last ws m ≡ g.last = ap (λ (y : ℕ). y % 32) flags ∙ fl.last in
      let kept' = publishes key ws vs id v kept e leads m g.tag mask b.whole (subst (λ (z : Desk). InArea z.layout m) (sym d) b.area) (unborn_dead ws vs kept e m b.whole b.unborn) b.live b.low b.small
      on (empty_run ws vs kept e b.run.run b.empty) (ap (λ (y : ℕ). y % 16) base ∙ b.base_whole) (ap (cell ws) base ∙ sees g.base m b.base) (ap (λ y. cell ws (y + 4)) base ∙ sees (g.base + 4) 0 b.base_high)
      (subst IsKind (sym same) b.kind) (subst (IsMeta ws) (sym same) fields)
      (λ i le. subst (λ (y : Group). cell ws (header y i) % 256 ≡ 0) (sym same) (let q = b.lows i (subst (λ n. i ≤ n + 1) last_is le) in ap (λ (y : ℕ). y % 256) (sees (header g i) q.0 q.1) ∙ q.2))
      (λ i lt. subst (λ (p : ℕ × ℕ). bit_at mask i + bit_at p.0 i ≤ count_of (leb i p.1)) (λ j. (sym freed_is j, sym last_is j)) (b.masks i lt))
      (λ i lt some_bit. subst IsPlain (sym same) (b.plain i lt (subst (λ y. 0 < bit_at mask i + bit_at y i) freed_is some_bit)))
      ba (λ n q. noted n (eqb mask 0) refl q)
      cs (λ a y q. let r = cells_was key id v leads m (m + 40) (cells_off b.run.run.addr (b.run.run.addr + 4096 * b.run.run.pages) v.desk.cells) a y q in let t = cells_was key id v leads b.run.run.addr (b.run.run.addr + 4096 * b.run.run.pages) v.desk.cells a y r.0 in (t.0, r.1, t.1)) in
      let view : published v g' (select (λ j. leb j (last ws m) && eqb (bit_at mask j + bit_at (freed ws m) j) 0) 32) cs ba ≡ w = (λ i. published v (same i) (select (λ j. leb j (last_is i) && eqb (bit_at mask j + bit_at (freed_is i) j) 0) 32) cs ba) in
      (w, subst (λ (u : View). Rule key (set ws ((m + 24) / 4) (g.tag * 2 ^ 32 + mask)) (set vs id u)) view kept', refl)
    where
      noted : (n : ℕ) → (c : Bool) → eqb mask 0 ≡ c → Among n (cond c (g.meta ∷ v.desk.zero_avail) v.desk.zero_avail) → Among n v.desk.zero_avail ⊎ ((n ≡ g.meta) × (mask ≡ 0))
      noted n true is (inl q) = inr (q, is_number key id v leads mask 0 is)
      noted n true is (inr q) = inl q
      noted n false is q = inl q

  -- ---- fetches that clear bits
  one_bit : (y : ℕ) → y < 2 → count_of (eqb y 1) ≡ y
  one_bit zero h = refl
  one_bit (suc zero) h = refl
  one_bit (suc (suc y)) h = absurd (omega arith)

  -- the upper half alone
  abbrev upper_half : ℕ
  upper_half = 4294967295 * 2 ^ 32 + 0

  half_bits : (n j : ℕ) → j < 32 → bit_at (bit_and n upper_half) j ≡ 0
  half_bits n j lt = let a = bit_at_and n upper_half j in let b = bit_at_cat_low 4294967295 32 0 j lt in let z = Rattle.ng_rule.proofs.group.Publish.bit_zero j in let x : ℕ = bit_at n j in let y : ℕ = bit_at upper_half j in let o : ℕ = bit_at (bit_and n upper_half) j in let y0 : y ≡ 0 = b ∙ z in let a' : o ≡ min x y = a in omega arith

  half_tag : (n : ℕ) → n < 18446744073709551616 → bit_and n upper_half / 4294967296 ≡ n / 4294967296
  half_tag n fits = same_from_bits (bit_and n upper_half / 2 ^ 32) (n / 2 ^ 32) (λ j.
      ap (λ (x : ℕ). x % 2) (shr-shr (bit_and n upper_half) 32 j) ∙ ⊎_elim
      (λ (l : j < 32).
      let a = bit_at_and n upper_half (32 + j) in
      let c : bit_at upper_half (32 + j) ≡ 1 = (let s = ap (λ (x : ℕ). x % 2) (shr-shr upper_half 32 j) in let t = bit_at_ones 32 j l in sym s ∙ t) in
      let q = bit_at-lt n (32 + j) in
      let x : ℕ = bit_at n (32 + j) in let y : ℕ = bit_at upper_half (32 + j) in let o : ℕ = bit_at (bit_and n upper_half) (32 + j) in
      let a' : o ≡ min x y = a in let c' : y ≡ 1 = c in let q' : x < 2 = q in let r : o ≡ x = omega (arith, a', c', q') in r)
      (λ (l : 32 ≤ j). bit_at_above (bit_and n upper_half) 64 (32 + j) (let le = and_le_l n upper_half in omega arith) (omega arith) ∙ sym (bit_at_above n 64 (32 + j) fits (omega arith)))
      (cases_lt j 32)
      ∙ sym (ap (λ (x : ℕ). x % 2) (shr-shr n 32 j)))

  pub empty_may : (g : Group) → Among g v.desk.groups → May key id v ((g.meta + 24) / 4) (λ n. bit_and n upper_half)
      (λ v n u. (u ≡ read (avail_emptied v g n) (g.meta + 24) n) × (n / 4294967296 ≡ g.tag) × (0 < n % 4294967296 → Among g.meta v.desk.listed × IsPlain g))
  empty_may g there ws vs kept e fits =
      let l = live_group ws vs kept e g there in
      let m = g.meta in
      let n : ℕ = avail ws m in
      let x = bit_and (avail ws m) upper_half in
      let w = avail_emptied v (group_at ws m) (avail ws m) in
      let kept' = takes key ws vs id v kept e leads m 24 x (λ i. eqb (bit_at (avail ws m) i) 1) l.1 l.2 (inl (refl, half_tag (avail ws m) fits))
      (λ j lt. let z = half_bits (avail ws m) j lt in let o = one_bit (bit_at (avail ws m) j) (bit_at-lt (avail ws m) j) in let y : ℕ = bit_at (avail ws m) j in let p : ℕ = count_of (eqb (bit_at (avail ws m) j) 1) in omega (arith, z, o))
      (λ z q. absurd (omega arith))
      (m ∷ v.desk.zero_avail) v.desk.zero_freed v.desk.set_freed
      (λ k q. ⊎_elim (λ (s : k ≡ m). inr (s, refl, λ j lt. half_bits (avail ws m) j lt)) (λ (s : Among k v.desk.zero_avail). inl s) q) (λ k q. inl q) (λ k j q. (q, λ s. absurd (omega arith))) in
      let lw = subst (Listing ws) (led key id v leads ws vs kept e) kept.listing in (
        read (avail_emptied v g (avail ws m)) (m + 24) (avail ws m),
        with_reading key (set ws ((m + 24) / 4) x) vs id v (avail_emptied v g (avail ws m)) (m + 24) (avail ws m) e (subst (λ (y : Group). Rule key (set ws ((m + 24) / 4) x) (set vs id (avail_emptied v (record y { meta = m }) (avail ws m)))) (sym l.0) kept'),
        (
          refl,
          sym (ap (λ (y : Group). y.tag) l.0),
          λ some_bit. let t = lowest (avail ws m) some_bit in
              let some_one : 0 < marked ws m (trailing_zeros w32 (avail ws m % 4294967296)) = (let o = marked_live (tag ws m) (avail ws m) (freed ws m) (trailing_zeros w32 (avail ws m % 4294967296)) l.2 in
              let one : bit_at (avail ws m) (trailing_zeros w32 (avail ws m % 4294967296)) ≡ 1 = t.1 in
              let y : ℕ = bit_at (freed ws m) (trailing_zeros w32 (avail ws m % 4294967296)) in omega arith) in
              (lw.bits m (trailing_zeros w32 (avail ws m % 4294967296)) l.1 t.0 some_one, subst IsPlain (sym l.0) (kept.slots.plain m (trailing_zeros w32 (avail ws m % 4294967296)) l.1 t.0 some_one)),
        ),
      )

  freed_small : (ws : List ℕ) (vs : List View) → Rule key ws vs → (m : ℕ) → m % 4 ≡ 0 → 0 < tag ws m → freed ws m < 4294967296
  freed_small ws vs kept m al l =
      ⊎_elim (λ (s : freed ws m < 4294967296). s)
      (λ (r : IsAvailWord (desk_of vs).layout ((m + 28) / 4)).
      let n = r.meta in let nl = r.whole in let q = r.place in
      absurd (let p = (metas_apart key ws (desk_of vs).layout kept.words.lawful (nested ws vs kept.slots) m n 28 24 (kept.words.lawful.groups m al l).in_area r.in_area (omega arith) (omega arith) (omega arith)).1 in omega arith))
      (kept.words.lawful.upper ((m + 28) / 4))

  -- without some bits
  cut_bit : (n bits j : ℕ) → bits < 4294967296 → j < 32 → bit_at (bit_and n (bit_not w64 bits)) j + count_of (eqb (bit_at n j) 1 && eqb (bit_at bits j) 1) ≡ bit_at n j
  cut_bit n bits j fits lt =
      let a = bit_at_and n (bit_not w64 bits) j in
      let b = bit_at_not w64 bits j (omega arith) (omega arith) in
      let x : ℕ = bit_at n j in let y : ℕ = bit_at bits j in let z : ℕ = bit_at (bit_not w64 bits) j in let o : ℕ = bit_at (bit_and n (bit_not w64 bits)) j in
      let a' : o ≡ min x z = a in let b' : z ≡ 1 - y = b in
      let t = table (bit_at n j) (bit_at bits j) (bit_at-lt n j) (bit_at-lt bits j) in
      let p : ℕ = count_of (eqb (bit_at n j) 1 && eqb (bit_at bits j) 1) in
      let t' : min x (1 - y) + p ≡ x = t in
      let r : o + p ≡ x = omega (arith, a', b', t') in r
    where
      table : (x y : ℕ) → x < 2 → y < 2 → min x (1 - y) + count_of (eqb x 1 && eqb y 1) ≡ x
      table zero zero h k = refl
      table zero (suc zero) h k = refl
      table (suc zero) zero h k = refl
      table (suc zero) (suc zero) h k = refl
      table zero (suc (suc y)) h k = absurd (omega arith)
      table (suc zero) (suc (suc y)) h k = absurd (omega arith)
      table (suc (suc x)) y h k = absurd (omega arith)

  seen_was : (m bits : ℕ) (bs : List (ℕ × ℕ)) (n i : ℕ) → Among {A = ℕ × ℕ} (n, i) (seen_but m bits bs) → Among {A = ℕ × ℕ} (n, i) bs × ((eqb n m && eqb (bit_at bits i) 1) ≡ false)
  seen_was m bits [] n i s = elim s [ ]
  seen_was m bits (x ∷ xs) n i s = by_test (seen_was m bits xs n i) (eqb x.0 m && eqb (bit_at bits x.1) 1) refl s
    where
      by_test : (Among {A = ℕ × ℕ} (n, i) (seen_but m bits xs) → Among {A = ℕ × ℕ} (n, i) xs × ((eqb n m && eqb (bit_at bits i) 1) ≡ false)) → (b : Bool) → (eqb x.0 m && eqb (bit_at bits x.1) 1) ≡ b
          → Among {A = ℕ × ℕ} (n, i) (cond b (seen_but m bits xs) (x ∷ seen_but m bits xs)) → Among {A = ℕ × ℕ} (n, i) (x ∷ xs) × ((eqb n m && eqb (bit_at bits i) 1) ≡ false)
      by_test ih true is s = let r = ih s in (inr r.0, r.1)
      by_test ih false is (inl e) = (inl e, ap (λ (p : ℕ × ℕ). eqb p.0 m && eqb (bit_at bits p.1) 1) e ∙ is)
      by_test ih false is (inr s) = let r = ih s in (inr r.0, r.1)

  not_cut : (n m x y : ℕ) → n ≡ m → (eqb n m && eqb y 1) ≡ false → (eqb x 1 && eqb y 1) ≡ false
  not_cut n m x y e f = grind (arith, nat_tests)

  pub clear_may : (g : Group) (bits : ℕ) → Among g v.desk.groups → bits < 4294967296 → May key id v ((g.meta + 28) / 4) (λ n. bit_and n (bit_not w64 bits))
      (λ v n u. (u ≡ read (freed_taken v g bits n) (g.meta + 28) n) × (n < 4294967296))
  clear_may g bits there fits ws vs kept e _ =
      let l = live_group ws vs kept e g there in
      let m = g.meta in
      let small = freed_small ws vs kept m l.1 l.2 in
      let x = bit_and (freed ws m) (bit_not w64 bits) in
      let less = and_le_l (freed ws m) (bit_not w64 bits) in
      let bf = cond (eqb x 0) (m ∷ v.desk.zero_freed) v.desk.zero_freed in
      let kept' = takes key ws vs id v kept e leads m 28 x (λ i. eqb (bit_at (freed ws m) i) 1 && eqb (bit_at bits i) 1) l.1 l.2 (inr (refl, (let y : ℕ = x in omega arith)))
      (λ j lt. cut_bit (freed ws m) bits j fits lt)
      (λ z q. (let y : ℕ = x in omega arith))
      v.desk.zero_avail bf (seen_but m bits v.desk.set_freed)
      (λ k q. inl q) (λ k q. noted ws k (eqb (bit_and (freed ws g.meta) (bit_not w64 bits)) 0) refl q)
      (λ k j q. let r = seen_was m bits v.desk.set_freed k j q in (r.0, λ s t. not_cut k m (bit_at (freed ws m) j) (bit_at bits j) t r.1)) in (
        read (freed_taken v g bits (freed ws m)) (m + 28) (freed ws m),
        with_reading key (set ws ((m + 28) / 4) x) vs id v (freed_taken v g bits (freed ws m)) (m + 28) (freed ws m) e (subst (λ (y : Group). Rule key (set ws ((m + 28) / 4) x) (set vs id (freed_taken v (record y { meta = m }) bits (freed ws m)))) (sym l.0) kept'),
        (refl, small),
      )
    where
      noted : (ws : List ℕ) (k : ℕ) (c : Bool) → eqb (bit_and (freed ws g.meta) (bit_not w64 bits)) 0 ≡ c → Among k (cond c (g.meta ∷ v.desk.zero_freed) v.desk.zero_freed) → Among k v.desk.zero_freed ⊎ ((k ≡ g.meta) × ◌≡◌ {A = ℕ} 28 28 × (bit_and (freed ws g.meta) (bit_not w64 bits) ≡ 0))
      noted ws k true is (inl q) = inr (q, refl, is_number key id v leads (bit_and (freed ws g.meta) (bit_not w64 bits)) 0 is)
      noted ws k true is (inr q) = inl q
      noted ws k false is q = inl q

  -- ---- loads of the lock's seat
  pub area_may : (r : Run) → AreaBuilt key v r → May key id v (0 / 4) (λ n. n) (λ v n u. u ≡ read (area_made v r) 0 n)
  area_may r b = loads_by key id v 0 (λ n. area_made v r) (λ ws vs kept e.
      let o = (subst (Noted ws) (led key id v leads ws vs kept e) kept.knowledge.desk).free in
      let sees : (a x : ℕ) → Sees v a x → cell ws a ≡ x = λ a x s. (o a x s).1 in
      let one = b.page in
      notes_area key ws vs id v kept e leads r b.there b.plain b.page b.empty
      (record {
        page = b.page;
        check = sees (r.addr + 0) (key.secret % 4294967296) b.check;
        check_high = sees (r.addr + 4) (key.secret / 4294967296) b.check_high;
        next = ⊎_elim (λ (z : b.next ≡ 0). inl (sees (r.addr + 8) b.next b.next_known ∙ z))
            (λ (z : IsAreaAt v.desk.layout.runs b.next). inr (subst (IsAreaAt v.desk.layout.runs) (sym (sees (r.addr + 8) b.next b.next_known)) z)) b.next_is;
        next_high = sees (r.addr + 12) 0 b.next_high;
        nslots = sees (r.addr + 16) 101 b.nslots;
        nslots_high = sees (r.addr + 20) 0 b.nslots_high;
        tail = λ c cl lo hi. sees (r.addr + c) 0 (b.tail c cl lo hi);
      })
      (λ i lt. ap (λ (y : ℕ). y / 4294967296) (sees (r.addr + 24 + 40 * i + 24) 0 (b.metas i lt)))
      (cells_off r.addr (r.addr + 24) (cells_off (r.addr + 4064) (r.addr + 4096) v.desk.cells))
      (λ a y q.
      let s = cells_was key id v leads r.addr (r.addr + 24) (cells_off (r.addr + 4064) (r.addr + 4096) v.desk.cells) a y q in
      let t = cells_was key id v leads (r.addr + 4064) (r.addr + 4096) v.desk.cells a y s.0 in
      (t.0, λ i. in_metas r.addr a (let i0 = i.0 in i0) (let i1 = i.1 in omega arith) s.1 t.1)))
    where
      in_metas : (p a : ℕ) → p ≤ a → a < p + 4096 → (a < p) ⊎ (p + 24 ≤ a) → (a < p + 4064) ⊎ (p + 4096 ≤ a) → (i : ℕ) × (i < 101) × (p + 24 + 40 * i ≤ a) × (a < p + 64 + 40 * i)
      in_metas p a lo hi head tail =
          let h : p + 24 ≤ a = ⊎_elim (λ (l : a < p). absurd (omega arith)) (λ (l : p + 24 ≤ a). l) head in
          let t : a < p + 4064 = ⊎_elim (λ (l : a < p + 4064). l) (λ (l : p + 4096 ≤ a). absurd (omega arith)) tail in
          ((a - (p + 24)) / 40, (let k : ℕ = a - (p + 24) in omega arith), (let k : ℕ = a - (p + 24) in omega arith), (let k : ℕ = a - (p + 24) in omega arith))

  -- a cell that it builds is known then
  pub learns_may : (a : ℕ) → Builds v a → May key id v (a / 4) (λ n. n) (λ v n u. u ≡ read (learnt_free v a n) a n)
  learns_may a b = loads_by key id v a (λ n. learnt_free v a n) (λ ws vs kept e. learns key ws vs id v kept e leads a (builds_free ws vs kept e a b))

  -- any other word: a reading alone; the mem and flags of a live group's meta are those of the group
  pub looks_may : (a : ℕ) → May key id v (a / 4) (λ n. n) (λ v n u. (u ≡ read v a n) × ((g : Group) → Among g v.desk.groups → TellsGroup g a n))
  looks_may a ws vs kept e fits =
      let p = loads_by key id v a (λ n. v) (λ ws vs kept e. subst (Rule key ws) (sym (set_again vs id v e)) kept) ws vs kept e fits in (
        p.0,
        p.1,
        (
          p.2,
          λ g t.
              let l = live_group ws vs kept e g t in
              let m = g.meta in
              let fields = (kept.words.lawful.groups m l.1 l.2).fields in
              record {
                mem = λ q. ap (cell ws) q ∙ sym (ap (λ (y : Group). y.base) l.0);
                mem_high = λ q. ap (cell ws) q ∙ fields.mem_high;
                flags = λ q. record {
                  last = ap (λ b. cell ws b % 32) q ∙ sym (ap (λ (y : Group). y.last) l.0);
                  freeable = ap (λ b. cell ws b / 32 % 2) q ∙ fields.freeable;
                  class = ap (λ b. cell ws b / 64 % 64 + 1) q ∙ fields.class ∙ sym (ap (λ (y : Group). y.tag) l.0);
                  maplen = ap (λ b. cell ws b / 4096) q ∙ sym (ap (λ (y : Group). y.maplen) l.0);
                };
                flags_high = λ q. ap (cell ws) q ∙ fields.flags_high;
              },
        ),
      )
