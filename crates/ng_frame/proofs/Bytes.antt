-- One byte of a cell that is made 0.
use Rattle.std.proofs.Common.{◌≡◌, ◌≢◌, ℕ, zero, suc, ◌-◌, ◌*◌, ◌/◌, ◌%◌, ◌^◌, ◌<◌, refl, sym, ap, ◌∙◌, subst, ⊎_elim, inl, arith}
use Rattle.std.proofs.lemmas.Bool.{cases_eq}
use Rattle.ng_header.specs.Bytes.{byte_of}
use Rattle.ng_rule.proofs.hand.Load.{still_knows}
use Rattle.ng_view.specs.Blocks.{Knows}
use Rattle.ng_view.specs.Frame.{KnowsByte}
use Rattle.ng_view.specs.Steps.{learnt, wrote}
use Rattle.ng_view.specs.declared.view.Held.{Held}
use Rattle.ng_space.proofs.Leaving.{learns_cell}

-- the low half of a word has the bytes of its cell
pub byte_of-low : (word b : ℕ) → b < 4 → byte_of (word % 4294967296) b ≡ byte_of word b
byte_of-low word zero lt = omega arith
byte_of-low word (suc zero) lt = omega arith
byte_of-low word (suc (suc zero)) lt = omega arith
byte_of-low word (suc (suc (suc zero))) lt = omega arith
byte_of-low word (suc (suc (suc (suc b)))) lt = absurd (omega arith)

-- a byte that was known stays so where another is written
pub byte_kept : (h : Held) (at word value y b : ℕ) → ((z : ℕ) → Knows (4 * (at / 4)) z h → word ≡ z)
    → ((k : ℕ) → k < 4 → k ≢ at % 4 → byte_of value k ≡ byte_of (word % 4294967296) k) → y ≢ at → KnowsByte y b h
    → KnowsByte y b (wrote (4 * (at / 4)) value (learnt (4 * (at / 4)) word h))
byte_kept h at word value y b told others other k = ⊎_elim
    (λ (same : 4 * (y / 4) ≡ 4 * (at / 4)). (value, inl (ap (λ (a : ℕ). (a, value)) same), byte_at same))
    (λ (ne : 4 * (y / 4) ≢ 4 * (at / 4)). (k.0, still_knows (4 * (at / 4)) value (4 * (y / 4)) k.0 (learnt (4 * (at / 4)) word h) ne ((learns_cell (4 * (at / 4)) word h).cells (4 * (y / 4)) k.0 tt k.1), k.2))
    (cases_eq (4 * (y / 4)) (4 * (at / 4)))
  where
    byte_at : 4 * (y / 4) ≡ 4 * (at / 4) → byte_of value (y % 4) ≡ b
    byte_at same =
        let lt : y % 4 < 4 = omega arith in
        let apart : y % 4 ≢ at % 4 = (λ e. other (omega (arith, same, e))) in
        let word_is : word ≡ k.0 = told k.0 (subst (λ a. Knows a k.0 h) same k.1) in
        others (y % 4) lt apart ∙ byte_of-low word (y % 4) lt ∙ ap (λ w. byte_of w (y % 4)) word_is ∙ k.2

-- and the byte that is written is known
pub byte_made : (h : Held) (at value b : ℕ) → byte_of value (at % 4) ≡ b → KnowsByte at b (wrote (4 * (at / 4)) value h)
byte_made h at value b here = (value, inl refl, here)

-- so one that was known to be 0 stays so where one is made 0
pub zero_kept : (h : Held) (at word value y : ℕ) → ((z : ℕ) → Knows (4 * (at / 4)) z h → word ≡ z) → byte_of value (at % 4) ≡ 0
    → ((b : ℕ) → b < 4 → b ≢ at % 4 → byte_of value b ≡ byte_of (word % 4294967296) b) → KnowsByte y 0 h → KnowsByte y 0 (wrote (4 * (at / 4)) value (learnt (4 * (at / 4)) word h))
zero_kept h at word value y told here others k = ⊎_elim
    (λ (same : y ≡ at). subst (λ z. KnowsByte z 0 (wrote (4 * (at / 4)) value (learnt (4 * (at / 4)) word h))) (sym same)
    (byte_made (learnt (4 * (at / 4)) word h) at value 0 here))
    (λ (ne : y ≢ at). byte_kept h at word value y 0 told others ne k)
    (cases_eq y at)

-- ---- a cell without one of its bytes
-- the cell less what its byte k adds, as the code has it
abbrev pub without : ℕ → ℕ → ℕ
without x k = x - x / (1 * 2 ^ (8 * k) % 4294967296) % 256 * (1 * 2 ^ (8 * k) % 4294967296)

pub without_zero : (x k : ℕ) → k < 4 → byte_of (without x k) k ≡ 0
without_zero x zero lt = omega arith
without_zero x (suc zero) lt = omega arith
without_zero x (suc (suc zero)) lt = omega arith
without_zero x (suc (suc (suc zero))) lt = omega arith
without_zero x (suc (suc (suc (suc k)))) lt = absurd (omega arith)

pub without_others : (x k b : ℕ) → k < 4 → b < 4 → b ≢ k → byte_of (without x k) b ≡ byte_of x b
without_others x zero zero lk lb ne = absurd (ne refl)
without_others x zero (suc zero) lk lb ne = omega arith
without_others x zero (suc (suc zero)) lk lb ne = omega arith
without_others x zero (suc (suc (suc zero))) lk lb ne = omega arith
without_others x (suc zero) zero lk lb ne = omega arith
without_others x (suc zero) (suc zero) lk lb ne = absurd (ne refl)
without_others x (suc zero) (suc (suc zero)) lk lb ne = omega arith
without_others x (suc zero) (suc (suc (suc zero))) lk lb ne = omega arith
without_others x (suc (suc zero)) zero lk lb ne = omega arith
without_others x (suc (suc zero)) (suc zero) lk lb ne = omega arith
without_others x (suc (suc zero)) (suc (suc zero)) lk lb ne = absurd (ne refl)
without_others x (suc (suc zero)) (suc (suc (suc zero))) lk lb ne = omega arith
without_others x (suc (suc (suc zero))) zero lk lb ne = omega arith
without_others x (suc (suc (suc zero))) (suc zero) lk lb ne = omega arith
without_others x (suc (suc (suc zero))) (suc (suc zero)) lk lb ne = omega arith
without_others x (suc (suc (suc zero))) (suc (suc (suc zero))) lk lb ne = absurd (ne refl)
without_others x k (suc (suc (suc (suc b)))) lk lb ne = absurd (omega arith)
without_others x (suc (suc (suc (suc k)))) b lk lb ne = absurd (omega arith)
