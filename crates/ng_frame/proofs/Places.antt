-- Where a block with an align is put.
use Rattle.std.proofs.Common.{◌≡◌, ◌≢◌, ℕ, ◌+◌, ◌-◌, ◌*◌, ◌/◌, ◌%◌, ◌^◌, ◌<◌, ◌≤◌, sym, ap, ◌∙◌, ⊎_elim, arith}
use Rattle.std.specs.Prelude.{max, min, bit_and}
use Rattle.std.specs.Int.{bit_at, next_multiple_of, w64}
use Rattle.std.proofs.Math.Nat.{div-add-mod', mod-eq_of_lt, mod-mod_of_dvd, mod_self, mul-mod_left}
use Rattle.std.proofs.lemmas.Bool.{cases_eq, cases_lt}
use Rattle.std.proofs.lemmas.Nat.{and_block, and_le_l, mod_below}
use Rattle.std.proofs.lemmas.Nat.Bits.{bit_at-lt, bit_at-zero, bit_at_above, bit_at_and, bit_at_not, same_from_bits}
use Rattle.std.proofs.lemmas.Nat.Gcd.{dvd_of_mod-eq-zero}
use Rattle.ng_terms.specs.Heap.{IsAlignment}
use Rattle.ng_space.specs.Tokens.{Token}
use Rattle.ng_frame.specs.Puts.{IsNear, IsPlace, asked_for}

-- ---- alignments
-- a number has no bit in common with its complement
and_complement : (a : ℕ) → a < 18446744073709551616 → bit_and a (18446744073709551615 - a) ≡ 0
and_complement a few = same_from_bits (bit_and a (18446744073709551615 - a)) 0 (λ i. bits i ∙ sym (bit_at-zero i))
  where
    bits : (i : ℕ) → bit_at (bit_and a (18446744073709551615 - a)) i ≡ 0
    bits i = ⊎_elim
        (λ (low : i < 64).
        let both : bit_at (bit_and a (18446744073709551615 - a)) i ≡ min (bit_at a i) (bit_at (18446744073709551615 - a) i) = bit_at_and a (18446744073709551615 - a) i in
        let other : bit_at (18446744073709551615 - a) i ≡ 1 - bit_at a i = bit_at_not w64 a i few low in
        let one : bit_at a i < 2 = bit_at-lt a i in
        let x : ℕ = bit_at a i in
        both ∙ (let none : min x (1 - x) ≡ 0 = omega arith in ap (min x) other ∙ none))
        (λ (high : 64 ≤ i).
        let both : bit_at (bit_and a (18446744073709551615 - a)) i ≡ min (bit_at a i) (bit_at (18446744073709551615 - a) i) = bit_at_and a (18446744073709551615 - a) i in
        let none : bit_at a i ≡ 0 = bit_at_above a 64 i few high in
        let y : ℕ = bit_at (18446744073709551615 - a) i in
        both ∙ ap (λ x. min x y) none ∙ (let zero : min 0 y ≡ 0 = omega arith in zero))
        (cases_lt i 64)

-- an alignment with one of its four lowest bits is below 16
low_alignment : (a : ℕ) → a < 18446744073709551616 → IsAlignment a → a % 16 ≢ 0 → a < 16
low_alignment a few is odd =
    let q : ℕ = a / 16 in
    let r : ℕ = a % 16 in
    let t : ℕ = (18446744073709551615 - a) / 16 in
    let rest : bit_and (q * 2 ^ 4 + r) (t * 2 ^ 4 + (15 - r)) ≡ bit_and q t * 2 ^ 4 + bit_and r (15 - r) = and_block 4 q t r (15 - r) (omega arith) (omega arith) in
    let same : q * 2 ^ 4 + r ≡ a = omega arith in
    let other : t * 2 ^ 4 + (15 - r) ≡ 18446744073709551615 - a = omega arith in
    let next : t * 2 ^ 4 + (16 - r) ≡ (18446744073709551616 - a) % 18446744073709551616 = omega arith in
    let none : bit_and q t * 2 ^ 4 + bit_and r (15 - r) ≡ 0 = sym rest ∙ ap (λ x. bit_and x (t * 2 ^ 4 + (15 - r))) same ∙ ap (bit_and a) other ∙ and_complement a few in
    let zero : bit_and q t ≡ 0 = (let x : ℕ = bit_and q t in let y : ℕ = bit_and r (15 - r) in omega (arith, none)) in
    let more : bit_and (q * 2 ^ 4 + r) (t * 2 ^ 4 + (16 - r)) ≡ bit_and q t * 2 ^ 4 + bit_and r (16 - r) = and_block 4 q t r (16 - r) (omega arith) (omega arith) in
    let least : bit_and r (16 - r) ≤ r = and_le_l r (16 - r) in
    let all : bit_and q t * 2 ^ 4 + bit_and r (16 - r) ≡ a = sym more ∙ ap (λ x. bit_and x (t * 2 ^ 4 + (16 - r))) same ∙ ap (bit_and a) next ∙ is in
    let x : ℕ = bit_and q t in
    let y : ℕ = bit_and r (16 - r) in
    omega (arith, zero, all, least)

pub whole_unit : (a : ℕ) → a < 18446744073709551616 → IsAlignment a → max a 16 % 16 ≡ 0
whole_unit a few is = ⊎_elim
    (λ (whole : a % 16 ≡ 0). omega (arith, whole))
    (λ (odd : a % 16 ≢ 0). let low = low_alignment a few is odd in omega (arith, low))
    (cases_eq (a % 16) 0)

-- a multiple of an align is whole
whole_multiple : (p unit : ℕ) → unit % 16 ≡ 0 → p % unit ≡ 0 → p % 16 ≡ 0
whole_multiple p unit whole aligned = sym (mod-mod_of_dvd 16 p (dvd_of_mod-eq-zero 16 whole)) ∙ ap (λ n. n % 16) aligned

-- ---- places
-- the first multiple from a number on
pub multiple_bounds : (x unit : ℕ) → 0 < unit → (next_multiple_of x unit % unit ≡ 0) × (x ≤ next_multiple_of x unit) × (next_multiple_of x unit < x + unit)
multiple_bounds x unit positive = ⊎_elim
    (λ (whole : x % unit ≡ 0).
    let none : (unit - x % unit) % unit ≡ 0 = ap (λ k. (unit - k) % unit) whole ∙ ap (λ k. k % unit) (let e : unit - 0 ≡ unit = omega arith in e) ∙ mod_self unit in
    let y : ℕ = (unit - x % unit) % unit in
    let same : x + y ≡ x = omega (arith, none) in (ap (λ k. k % unit) same ∙ whole, omega (arith, none), omega (arith, none, positive)))
    (λ (rest : x % unit ≢ 0).
    let less : x % unit < unit = mod_below x unit positive in
    let same : (unit - x % unit) % unit ≡ unit - x % unit = mod-eq_of_lt (omega arith) in
    let next : x + (unit - x % unit) ≡ (x / unit + 1) * unit = omega (arith, div-add-mod' x unit) in
    let y : ℕ = (unit - x % unit) % unit in (
      ap (λ k. (x + k) % unit) same ∙ ap (λ k. k % unit) next ∙ mul-mod_left (x / unit + 1) unit,
      omega arith,
      omega (arith, same),
    ))
    (cases_eq (x % unit) 0)

pub is_place : (slot : Token) (n align offset unit start p : ℕ) → start ≡ slot.start → unit ≡ max align 16 → align < 18446744073709551616 → IsAlignment align
    → IsNear slot (asked_for n align) offset → start + 16 * offset ≤ p → p < start + 16 * offset + unit → p % unit ≡ 0 → IsPlace slot n align p
is_place slot n align offset unit start p from is few alignment near least most aligned =
    let begin = near.whole.start in
    let room = near.whole.room in
    let within = near.within in
    let whole : unit % 16 ≡ 0 = ap (λ u. u % 16) is ∙ whole_unit align few alignment in
    let whole_p : p % 16 ≡ 0 = whole_multiple p unit whole aligned in
    record {
      aligned = ap (λ u. p % u) (sym is) ∙ aligned;
      whole = whole_p;
      from = omega (arith, from, least);
      roomy = omega (arith, from, is, least, most, begin, whole, whole_p, within);
      within = omega (arith, from, is, least, most, begin, whole, whole_p, within, room);
    }

pub place_fits : (slot : Token) (n align offset unit start end : ℕ) → start ≡ slot.start → unit ≡ max align 16 → align < 18446744073709551616 → IsAlignment align
    → IsNear slot (asked_for n align) offset → end ≡ slot.end → end < 18446744073709551616 → next_multiple_of (start + 16 * offset) unit < 18446744073709551616
place_fits slot n align offset unit start end from is few alignment near there below =
    let p : ℕ = next_multiple_of (start + 16 * offset) unit in
    let bounds = multiple_bounds (start + 16 * offset) unit (omega (arith, is)) in
    let within = (is_place slot n align offset unit start p from is few alignment near bounds.1 bounds.2 bounds.0).within in
    omega (arith, within, there, below)
