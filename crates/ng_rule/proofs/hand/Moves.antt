-- The steps as code asks for them.
use Rattle.std.proofs.Common.{◌≡◌, ℕ, ◌+◌, ◌-◌, ◌/◌, ◌%◌, ◌^◌, ◌<◌, ◌≤◌, eqb, min, Bool, true, false, List, [], set, refl, sym, ap, ◌∙◌, subst, arith}
use prog.Atomic.{either}
use Rattle.std.specs.Prelude.{Some, None, MatchBool}
use Rattle.std.specs.Int.{bit_at, w32, trailing_zeros}
use Rattle.std.proofs.lemmas.Bool.Decides.{nat_tests}
use Rattle.std.proofs.lemmas.Nat.{and_mask}
use Rattle.std.proofs.lemmas.Nat.Bits.{bit_at-trailing_zeros, bit_at_and, bit_at_ones, bit_at-lt}
use Rattle.ng_rule.proofs.geometry.Readings.{stays, with_reading}
use Rattle.ng_view.specs.declared.view.Group.{Group}
use Rattle.ng_terms.specs.declared.entry.Extent.{Extent}
use Rattle.ng_view.specs.declared.view.Held.{Held}
use Rattle.ng_view.specs.declared.view.View.{View}
use Rattle.ng_view.specs.declared.view.Start.{Start}
use Rattle.ng_view.specs.Lists.{find}
use Rattle.ng_view.specs.Cells.{cell, tag, avail, freed, marked, group_at}
use Rattle.ng_view.specs.Slots.{IsPlain}
use Rattle.ng_rule.proofs.geometry.Facts.{marked_live}
use Rattle.ng_view.specs.Places.{Owns, slot_start, stride}
use Rattle.ng_view.specs.Rule.{Rule}
use Rattle.ng_view.specs.Blocks.{IsSet, IsBlock}
use Rattle.ng_view.specs.Steps.{loaded, stored, popped, pushed, wrote, read}
use Rattle.ng_view.specs.May.{May}
use Rattle.ng_rule.proofs.geometry.Lists.{set_self, find_among}
use Rattle.ng_rule.proofs.geometry.Bits.{cleared, raised}
use Rattle.ng_rule.proofs.hand.Load.{loads, block_more, still_knows}
use Rattle.ng_rule.proofs.hand.Store.{stores}
use Rattle.ng_rule.proofs.hand.Pop.{pops}
use Rattle.ng_rule.proofs.hand.Push.{pushes, small_freed}

pub loads_may : (key : Start) (id : ℕ) (v : View) (a : ℕ) → a % 4 ≡ 0 → May key id v (a / 4) (λ n. n) (λ v n w. w ≡ loaded v a n)
loads_may key id v a al ws vs kept e fits = (loaded v a (cell ws a), subst (λ (l : List ℕ). Rule key l (set vs id (loaded v a (cell ws a)))) (sym (set_self ws (a / 4))) (loads key ws vs id v kept e a al), refl)

pub stores_may : (key : Start) (id : ℕ) (v : View) (m i a x : ℕ) (h : Held) → find m i v.held ≡ Some h → Owns h.place a → a % 4 ≡ 0 → x < 4294967296 → (a + 4 ≡ slot_start h.place → x % 256 ≡ 0) → IsSet (wrote a x h) h.block
    → May key id v (a / 4) (λ n. x) (λ v n w. w ≡ stored v m i a x)
stores_may key id v m i a x h found own al fits low sets ws vs kept e _ = (stored v m i a x, stores key ws vs id v kept e m i a x h found own al fits low sets, refl)

pub stores_own_may : (key : Start) (id : ℕ) (v : View) (m i a x : ℕ) (h : Held) → find m i v.held ≡ Some h → h.block ≡ None → Owns h.place a → a % 4 ≡ 0 → x < 4294967296 → (a + 4 ≡ slot_start h.place → x % 256 ≡ 0)
    → May key id v (a / 4) (λ n. x) (λ v n w. w ≡ stored v m i a x)
stores_own_may key id v m i a x h found none own al fits low = stores_may key id v m i a x h found own al fits low (subst (IsSet (wrote a x h)) (sym none) tt)

-- a store in a block that the slot has: from its address on
pub stores_in_may : (key : Start) (id : ℕ) (v : View) (m i a x : ℕ) (h : Held) (b : Extent) → find m i v.held ≡ Some h → h.block ≡ Some b → b.at ≤ a → a + 4 < slot_start h.place + stride h.place.group → a % 4 ≡ 0 → x < 4294967296
    → May key id v (a / 4) (λ n. x) (λ v n w. w ≡ stored v m i a x)
stores_in_may key id v m i a x h b found is from below al fits ws vs kept e _ =
    let old : IsBlock h b = subst (IsSet h) is (kept.words.blocks id v e h (find_among m i v.held h found).0) in
    let start = old.from in
    let sets : IsBlock (wrote a x h) b = block_more h (wrote a x h) b refl (λ c z before k. still_knows a x c z h (λ q. omega arith) k) old in
    (stored v m i a x, stores key ws vs id v kept e m i a x h found (omega arith, below) al fits (λ q. absurd (omega arith)) (subst (IsSet (wrote a x h)) (sym is) sets), refl)

tested : (n k : ℕ) → eqb n k ≡ true → n ≡ k
tested n k e = grind (arith, nat_tests)

-- the lowest bit of the lower half
pub lowest : (n : ℕ) → 0 < n % 4294967296 → (trailing_zeros w32 (n % 4294967296) < 32) × (bit_at n (trailing_zeros w32 (n % 4294967296)) ≡ 1)
lowest n some_bit =
    let t = bit_at-trailing_zeros w32 (n % 2 ^ 32) some_bit (omega arith) in
    let k = trailing_zeros w32 (n % 2 ^ 32) in
    let a : bit_at (n % 2 ^ 32) k ≡ min (bit_at n k) (bit_at (2 ^ 32 - 1) k) = ap (λ y. bit_at y k) (sym (and_mask n 32)) ∙ bit_at_and n (2 ^ 32 - 1) k in
    let b : bit_at (2 ^ 32 - 1) k ≡ 1 = bit_at_ones 32 k t.0 in
    let c = bit_at-lt n k in
    let y0 : ℕ = bit_at n k in let y1 : ℕ = bit_at (n % 2 ^ 32) k in let y2 : ℕ = bit_at (2 ^ 32 - 1) k in
    let a' : y1 ≡ min y0 y2 = a in let t' : y1 ≡ 1 = t.1 in let b' : y2 ≡ 1 = b in let c' : y0 < 2 = c in
    (t.0, let d : y0 ≡ 1 = omega (arith, a', b', t', c') in d)

-- a bit of a live group's avail mask marks its slot
some_mark : (ws : List ℕ) (m i : ℕ) → 0 < tag ws m → bit_at (avail ws m) i ≡ 1 → 0 < marked ws m i
some_mark ws m i live one =
    let a = marked_live (tag ws m) (avail ws m) (freed ws m) i live in
    let x : ℕ = marked ws m i in let y : ℕ = bit_at (avail ws m) i in let z : ℕ = bit_at (freed ws m) i in
    let a' : x ≡ y + z = a in let b' : y ≡ 1 = one in
    omega (arith, a', b')

abbrev pub Popping : ℕ → ℕ → ℕ → View → ℕ → View → Type 0
Popping m seen i v n w = MatchBool (eqb n seen) ((g : Group) × (g.meta ≡ m) × (g.tag ≡ seen / 4294967296) × (w ≡ read (popped v g i) (m + 24) n) × IsPlain g) (w ≡ read v (m + 24) n)

pub pops_may : (key : Start) (id : ℕ) (v : View) (m seen : ℕ) → (v.books ≡ [] → ⊥) → m % 4 ≡ 0 → 0 < seen / 4294967296 → 0 < seen % 4294967296
    → May key id v ((m + 24) / 4) (λ n. either (eqb n seen) (cleared seen (trailing_zeros w32 (seen % 4294967296))) n) (Popping m seen (trailing_zeros w32 (seen % 4294967296)))
pops_may key id v m seen caller al tagged some_bit ws vs kept e fits = by_test (eqb (avail ws m) seen) refl
  where
    by_test : (b : Bool) → eqb (avail ws m) seen ≡ b → (w : View) × Rule key (set ws ((m + 24) / 4) (either b (cleared seen (trailing_zeros w32 (seen % 4294967296))) (avail ws m))) (set vs id w)
        × MatchBool b ((g : Group) × (g.meta ≡ m) × (g.tag ≡ seen / 4294967296) × (w ≡ read (popped v g (trailing_zeros w32 (seen % 4294967296))) (m + 24) (avail ws m)) × IsPlain g) (w ≡ read v (m + 24) (avail ws m))
    by_test true is =
        let q : avail ws m ≡ seen = tested (avail ws m) seen is in
        let i = trailing_zeros w32 (seen % 4294967296) in
        let l = lowest seen some_bit in
        let w = popped v (group_at ws m) i in (
          read w (m + 24) (avail ws m),
          with_reading key (set ws ((m + 24) / 4) (cleared seen i)) vs id v w (m + 24) (avail ws m) e
              (subst (λ n. Rule key (set ws ((m + 24) / 4) (cleared n i)) (set vs id w)) q
              (pops key ws vs id v kept e m i al l.0 (subst (λ n. 0 < n / 4294967296) (sym q) tagged) (ap (λ n. bit_at n i) q ∙ l.1) fits caller)),
          (group_at ws m, refl, ap (λ n. n / 4294967296) q, refl, kept.slots.plain m i al l.0 (some_mark ws m i (subst (λ n. 0 < n / 4294967296) (sym q) tagged) (ap (λ n. bit_at n i) q ∙ l.1))),
        )
    by_test false is = (read v (m + 24) (avail ws m), with_reading key (set ws ((m + 24) / 4) (avail ws m)) vs id v v (m + 24) (avail ws m) e (stays key ws vs id ((m + 24) / 4) v kept e), refl)

abbrev pub Pushing : ℕ → ℕ → ℕ → View → ℕ → View → Type 0
Pushing m i seen v n w = (n < 4294967296) × MatchBool (eqb n seen) (w ≡ read (pushed v m i) (m + 28) n) (w ≡ read v (m + 28) n)

pub pushes_may : (key : Start) (id : ℕ) (v : View) (m i seen : ℕ) (h : Held) → find m i v.held ≡ Some h → h.block ≡ None → 0 < seen
    → May key id v ((m + 28) / 4) (λ n. either (eqb n seen) (raised seen i) n) (Pushing m i seen)
pushes_may key id v m i seen h found none some_bit ws vs kept e fits =
    let l = small_freed key ws vs id v kept e m i h found in
    let r = by_test l (eqb (freed ws m) seen) refl in (r.0, r.1, (l, r.2))
  where
    by_test : freed ws m < 4294967296 → (b : Bool) → eqb (freed ws m) seen ≡ b → (w : View) × Rule key (set ws ((m + 28) / 4) (either b (raised seen i) (freed ws m))) (set vs id w) × MatchBool b (w ≡ read (pushed v m i) (m + 28) (freed ws m)) (w ≡ read v (m + 28) (freed ws m))
    by_test l true is =
        let q : freed ws m ≡ seen = tested (freed ws m) seen is in
        let w = pushed v m i in (
          read w (m + 28) (freed ws m),
          with_reading key (set ws ((m + 28) / 4) (raised seen i)) vs id v w (m + 28) (freed ws m) e
              (subst (λ n. Rule key (set ws ((m + 28) / 4) (raised n i)) (set vs id w)) q (pushes key ws vs id v kept e m i h found none (subst (λ n. 0 < n) (sym q) some_bit))),
          refl,
        )
    by_test l false is = (read v (m + 28) (freed ws m), with_reading key (set ws ((m + 28) / 4) (freed ws m)) vs id v v (m + 28) (freed ws m) e (stays key ws vs id ((m + 28) / 4) v kept e), refl)
