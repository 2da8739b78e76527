-- The mapper's runs and the noted ones, when a run comes, becomes an area or goes.
use Rattle.std.proofs.Common.{◌≡◌, ◌≢◌, ◌⊎◌, ℕ, suc, ◌+◌, ◌*◌, ◌≤◌, eqb, true, false, true≢false, List, [], ◌∷◌, get_or, All, AllPairs, Contains, sum_by, refl, sym, ap, subst, ◌∙◌, ⊎_elim, inl, inr, arith}
use Rattle.std.proofs.lemmas.Bool.{cases_eq}
use Rattle.std.proofs.lemmas.List.Elements.{All-contains, Contains-append_right}
use Rattle.std.proofs.lemmas.List.Sorted.{Contains-permutation, IsPermutation-sym, sum_by-IsPermutation}
use Rattle.std.proofs.lemmas.List.Sums.{get_or-le-sum_by, sum_by-cons}
use Rattle.ng_view.specs.Notes.{IsNewRun, plain_run}
use Rattle.ng_rule.proofs.geometry.Bits.{count_of-same, count_of-other}
use Rattle.ng_rule.proofs.geometry.Lists.{run_stays, run_was, runs_but-none, runs_but-total}
use Rattle.ng_mapper.specs.Mapping.{AreLaid, IsFree, IsSpan, Span}
use Rattle.ng_mapper.specs.Runs as mapper
use Rattle.ng_mapper.proofs.LaidLemmas.{apart-contained, lies-contained}
use Rattle.ng_view.specs.Layouts.{InArea}
use Rattle.ng_view.specs.LockSteps.{runs_but}
use Rattle.ng_view.specs.Lists.{Among, count_of, total_by}
use Rattle.ng_view.specs.declared.view.Layout.{Layout}
use Rattle.ng_view.specs.declared.view.Run.{Run}
use Rattle.ng_view.specs.declared.view.Start.{Start}
use Rattle.ng_view.specs.declared.view.View.{View}
use Rattle.ng_ledger.proofs.CountLemmas.{total_none}
use Rattle.ng_ledger.proofs.ElementLemmas.{first_or_behind}
use Rattle.ng_ledger.specs.Runs.{AreMapped, IsNoted}

-- the run as an area
abbrev pub as_area : Run → Run
as_area r = record r { area = true }

-- a run that is free for the mapper is new for the lock's seat
pub new_run : (start : Start) (span : Span) (v : View) (live : List mapper.Run) (a p : ℕ) → span.lower ≡ start.lower → span.upper ≡ start.upper → AreMapped v.desk.layout.runs live → IsFree span live (a, p) → IsNewRun start v a p
new_run start span v live a p lower upper mapped free = record {
  whole = free.lies.aligned;
  some = free.lies.some;
  above = let l = free.lies.above in omega arith;
  below = let l = free.lies.below in omega arith;
  apart = λ s b there (from, to). ⊎_elim
      (λ (after : a + 4096 * p ≤ s.addr). inr (omega arith))
      (λ (before : s.addr + 4096 * s.pages ≤ a). inl (omega arith))
      (All-contains (mapper.AreApart (a, p)) live (s.addr, s.pages) free.apart (mapped.mapped s there));
}

module _ (span : Span) (noted : List Run) (live : List mapper.Run) (laid : AreLaid span live) (are : AreMapped noted live) where
  -- a noted run has pages, and lies in the space
  pub maplen_fits : (pages : ℕ) → IsSpan span → span.size ≡ pages → (r : Run) → Among r noted → r.pages ≤ pages
  maplen_fits pages is size r there =
      let lies = lies-contained span live laid (r.addr, r.pages) (are.mapped r there) in
      omega (arith, lies.below, is.inside)

  -- none begins at a new run's address
  pub other_start : (a p : ℕ) → IsFree span live (a, p) → (s : Run) → Among s noted → s.addr ≢ a
  other_start a p free s there same =
      let lies = lies-contained span live laid (s.addr, s.pages) (are.mapped s there) in
      ⊎_elim
      (λ (after : a + 4096 * p ≤ s.addr). omega (arith, free.lies.some))
      (λ (before : s.addr + 4096 * s.pages ≤ a). omega (arith, lies.some))
      (All-contains (mapper.AreApart (a, p)) live (s.addr, s.pages) free.apart (are.mapped s there))

  -- so at each address one begins at most, where a new one has come
  single_new : (a p b : ℕ) → IsFree span live (a, p) → count_of (eqb a b) + total_by (λ (r : Run). count_of (eqb r.addr b)) noted ≤ 1
  single_new a p b free = ⊎_elim
      (λ (same : a ≡ b).
      let none : total_by (λ (r : Run). count_of (eqb r.addr b)) noted ≡ 0 =
      total_none (λ (r : Run). count_of (eqb r.addr b)) noted (λ s there. count_of-other s.addr b (λ e. other_start a p free s there (e ∙ sym same))) in
      let one : count_of (eqb a b) ≡ 1 = ap (λ n. count_of (eqb n b)) same ∙ count_of-same b in
      omega arith)
      (λ (other : a ≢ b). let none : count_of (eqb a b) ≡ 0 = count_of-other a b other in let most = are.single b in omega (arith, none, most))
      (cases_eq a b)

  -- after a map: the run is noted
  pub mapped_new : (live' : List mapper.Run) (a p : ℕ) → IsFree span live (a, p) → mapper.AddsRun live live' (a, p) → AreMapped (plain_run a p ∷ noted) live'
  mapped_new live' a p free adds = record {
    single = λ b. single_new a p b free;
    once = once;
    known = λ b n there. ⊎_elim
        (λ (e : ◌≡◌ {A = ℕ × ℕ} (b, n) (a, p)). record { run = plain_run a p; there = inl refl; begins = sym (ap (λ (x : ℕ × ℕ). x.0) e); long = sym (ap (λ (x : ℕ × ℕ). x.1) e) })
        (λ old. let q = are.known b n old in record { run = q.run; there = inr q.there; begins = q.begins; long = q.long })
        (first_or_behind (a, p) live (b, n) (Contains-permutation live' ((a, p) ∷ live) (b, n) (IsPermutation-sym ((a, p) ∷ live) live' adds) there));
    mapped = λ r there. Contains-permutation ((a, p) ∷ live) live' (r.addr, r.pages) adds (front r there);
  }
    where
      once : (r s : Run) → Among r (plain_run a p ∷ noted) → Among s (plain_run a p ∷ noted) → r.addr ≡ s.addr → r ≡ s
      once r s (inl e) (inl f) same = e ∙ sym f
      once r s (inl e) (inr t) same = absurd (other_start a p free s t (sym same ∙ ap (λ (x : Run). x.addr) e))
      once r s (inr t) (inl f) same = absurd (other_start a p free r t (same ∙ ap (λ (x : Run). x.addr) f))
      once r s (inr t) (inr u) same = are.once r s t u same

      front : (r : Run) → Among r (plain_run a p ∷ noted) → Contains {X = ℕ × ℕ} ((a, p) ∷ live) (r.addr, r.pages)
      front r (inl e) = subst (λ (x : Run). Contains {X = ℕ × ℕ} ((a, p) ∷ live) (x.addr, x.pages)) (sym e) (0, omega arith, refl)
      front r (inr t) = Contains-append_right {X = ℕ × ℕ} ((a, p) ∷ []) live (r.addr, r.pages) (are.mapped r t)

  -- a meta of an area is apart from each run that is no area
  pub area_apart : (d : Layout) (m : ℕ) → d.runs ≡ noted → InArea d m → (r : Run) → Among r noted → r.area ≡ false → (m + 40 ≤ r.addr) ⊎ (r.addr + 4096 * r.pages ≤ m)
  area_apart d m runs inside r there plain = ⊎_elim
      (λ (before : inside.run.addr + 4096 * inside.run.pages ≤ r.addr). inl (let p = inside.page in let q = inside.place in let n = inside.below in omega arith))
      (λ (after : r.addr + 4096 * r.pages ≤ inside.run.addr). inr (let q = inside.place in omega arith))
      (apart-contained span live laid (inside.run.addr, inside.run.pages) (r.addr, r.pages) (are.mapped inside.run area) (are.mapped r there) other)
    where
      area : Among inside.run noted
      area = subst (Among inside.run) runs inside.noted

      other : ◌≢◌ {A = ℕ × ℕ} (inside.run.addr, inside.run.pages) (r.addr, r.pages)
      other same = true≢false (sym inside.is_area ∙ ap (λ (x : Run). x.area) (are.once inside.run r area there (ap (λ (x : ℕ × ℕ). x.0) same)) ∙ plain)

module _ (noted : List Run) (live : List mapper.Run) (are : AreMapped noted live) where
  -- after a run became an area
  pub mapped_area : (r : Run) → Among r noted → AreMapped (as_area r ∷ runs_but r.addr noted) live
  mapped_area r there = record { single = single; once = once; known = known; mapped = mapped }
    where
      single : (b : ℕ) → count_of (eqb r.addr b) + total_by (λ (x : Run). count_of (eqb x.addr b)) (runs_but r.addr noted) ≤ 1
      single b = ⊎_elim
          (λ (same : r.addr ≡ b).
          let none : total_by (λ (x : Run). count_of (eqb x.addr b)) (runs_but r.addr noted) ≡ 0 =
          subst (λ n. total_by (λ (x : Run). count_of (eqb x.addr n)) (runs_but r.addr noted) ≡ 0) same (runs_but-none r.addr noted) in
          let one : count_of (eqb r.addr b) ≡ 1 = ap (λ n. count_of (eqb n b)) same ∙ count_of-same b in
          omega arith)
          (λ (other : r.addr ≢ b).
          let none : count_of (eqb r.addr b) ≡ 0 = count_of-other r.addr b other in
          let most = are.single b in
          let fewer = runs_but-total (λ (x : Run). count_of (eqb x.addr b)) r.addr noted in
          omega (arith, none, most, fewer))
          (cases_eq r.addr b)

      once : (x y : Run) → Among x (as_area r ∷ runs_but r.addr noted) → Among y (as_area r ∷ runs_but r.addr noted) → x.addr ≡ y.addr → x ≡ y
      once x y (inl e) (inl f) same = e ∙ sym f
      once x y (inl e) (inr t) same = absurd ((run_was r.addr noted y t).1 (sym same ∙ ap (λ (z : Run). z.addr) e))
      once x y (inr t) (inl f) same = absurd ((run_was r.addr noted x t).1 (same ∙ ap (λ (z : Run). z.addr) f))
      once x y (inr t) (inr u) same = are.once x y (run_was r.addr noted x t).0 (run_was r.addr noted y u).0 same

      known : (a pages : ℕ) → Contains live (a, pages) → IsNoted (as_area r ∷ runs_but r.addr noted) a pages
      known a pages in' =
          let q = are.known a pages in' in
          ⊎_elim
          (λ (same : q.run.addr ≡ r.addr).
          let e : q.run ≡ r = are.once q.run r q.there there same in
          record { run = as_area r; there = inl refl; begins = sym same ∙ q.begins; long = ap (λ (z : Run). z.pages) (sym e) ∙ q.long })
          (λ (apart : q.run.addr ≢ r.addr). record { run = q.run; there = inr (run_stays r.addr noted q.run q.there apart); begins = q.begins; long = q.long })
          (cases_eq q.run.addr r.addr)

      mapped : (x : Run) → Among x (as_area r ∷ runs_but r.addr noted) → Contains live (x.addr, x.pages)
      mapped x (inl e) = subst (λ (z : Run). Contains live (z.addr, z.pages)) (sym e) (are.mapped r there)
      mapped x (inr t) = are.mapped x (run_was r.addr noted x t).0

-- 1 where a run begins at the address
abbrev at : ℕ → mapper.Run → ℕ
at a run = count_of (eqb run.0 a)

module _ (lower upper a : ℕ) where
  none_at : (runs : List mapper.Run) → ((x : mapper.Run) → Contains runs x → x.0 ≢ a) → sum_by (at a) runs ≡ 0
  none_at [] away = refl
  none_at (x ∷ xs) away =
      let first : at a x ≡ 0 = count_of-other x.0 a (away x (0, omega arith, refl)) in
      let rest : sum_by (at a) xs ≡ 0 = none_at xs (λ y there. away y (Contains-append_right (x ∷ []) xs y there)) in
      omega (arith, sum_by-cons (at a) x xs)

  -- of disjoint runs that have pages at most one begins there
  pub once_at : (runs : List mapper.Run) → All (mapper.LiesIn lower upper) runs → AllPairs mapper.AreApart runs → sum_by (at a) runs ≤ 1
  once_at [] lie apart = omega arith
  once_at (x ∷ xs) lie apart = ⊎_elim
      (λ (same : x.0 ≡ a).
      let rest : sum_by (at a) xs ≡ 0 = none_at xs (away same) in
      let one : at a x ≡ 1 = ap (λ b. count_of (eqb b a)) same ∙ count_of-same a in
      omega (arith, sum_by-cons (at a) x xs))
      (λ (other : x.0 ≢ a).
      let rest : sum_by (at a) xs ≤ 1 = once_at xs (λ k d within. lie (suc k) d (omega arith)) (λ i j d before within. apart (suc i) (suc j) d (omega arith) (omega arith)) in
      let none : at a x ≡ 0 = count_of-other x.0 a other in
      omega (arith, sum_by-cons (at a) x xs))
      (cases_eq x.0 a)
    where
      away : x.0 ≡ a → (y : mapper.Run) → Contains xs y → y.0 ≢ a
      away same y (k, within, is) equal =
          let pages : 1 ≤ y.1 = subst (λ (z : mapper.Run). 1 ≤ z.1) is (lie (suc k) y (omega arith)).some in
          let first : 1 ≤ x.1 = (lie 0 x (omega arith)).some in
          ⊎_elim
          (λ (h : mapper.run_end x ≤ y.0). omega arith)
          (λ (h : mapper.run_end y ≤ x.0). omega arith)
          (subst (mapper.AreApart x) is (apart 0 (suc k) y (omega arith) (omega arith)))

-- after an unmap: the run isn't noted
pub mapped_gone : (span : Span) (noted : List Run) (live live' : List mapper.Run) (r : Run) → AreLaid span live → AreMapped noted live → Among r noted → mapper.RemovesRun live live' (r.addr, r.pages) → AreMapped (runs_but r.addr noted) live'
mapped_gone span noted live live' r laid are there removes = record { single = single; once = once; known = known; mapped = mapped }
  where
    single : (b : ℕ) → total_by (λ (x : Run). count_of (eqb x.addr b)) (runs_but r.addr noted) ≤ 1
    single b = let most = are.single b in let fewer = runs_but-total (λ (x : Run). count_of (eqb x.addr b)) r.addr noted in omega (arith, most, fewer)

    once : (x y : Run) → Among x (runs_but r.addr noted) → Among y (runs_but r.addr noted) → x.addr ≡ y.addr → x ≡ y
    once x y t u same = are.once x y (run_was r.addr noted x t).0 (run_was r.addr noted y u).0 same

    counted : (b pages : ℕ) → Contains live' (b, pages) → b ≢ r.addr
    counted b pages (k, within, is) same =
        let total : sum_by (at r.addr) live ≤ 1 = once_at span.lower span.upper r.addr live laid.lie laid.apart in
        let split : sum_by (at r.addr) ((r.addr, r.pages) ∷ live') ≡ sum_by (at r.addr) live = sum_by-IsPermutation (at r.addr) live ((r.addr, r.pages) ∷ live') removes in
        let front : at r.addr (r.addr, r.pages) ≡ 1 = count_of-same r.addr in
        let member : at r.addr (get_or live' k (b, pages)) ≤ sum_by (at r.addr) live' = get_or-le-sum_by (at r.addr) live' k (b, pages) within in
        let here : at r.addr (get_or live' k (b, pages)) ≡ 1 = ap (at r.addr) is ∙ ap (λ c. count_of (eqb c r.addr)) same ∙ count_of-same r.addr in
        omega (arith, sum_by-cons {X = ℕ × ℕ} (at r.addr) (r.addr, r.pages) live')

    known : (b pages : ℕ) → Contains live' (b, pages) → IsNoted (runs_but r.addr noted) b pages
    known b pages in' =
        let was : Contains live (b, pages) = Contains-permutation ((r.addr, r.pages) ∷ live') live (b, pages) (IsPermutation-sym live ((r.addr, r.pages) ∷ live') removes) (Contains-append_right {X = ℕ × ℕ} ((r.addr, r.pages) ∷ []) live' (b, pages) in') in
        let q = are.known b pages was in
        record { run = q.run; there = run_stays r.addr noted q.run q.there (λ same. counted b pages in' (sym q.begins ∙ same)); begins = q.begins; long = q.long }

    mapped : (x : Run) → Among x (runs_but r.addr noted) → Contains live' (x.addr, x.pages)
    mapped x t =
        let was = run_was r.addr noted x t in
        ⊎_elim
        (λ (e : ◌≡◌ {A = ℕ × ℕ} (x.addr, x.pages) (r.addr, r.pages)). absurd (was.1 (ap (λ (z : ℕ × ℕ). z.0) e)))
        (λ behind. behind)
        (first_or_behind (r.addr, r.pages) live' (x.addr, x.pages) (Contains-permutation live ((r.addr, r.pages) ∷ live') (x.addr, x.pages) removes (are.mapped x was.0)))
