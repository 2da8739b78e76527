-- How many metas have a class's mark.
use Rattle.std.proofs.Common.{◌≡◌, ◌≢◌, ℕ, ◌+◌, ◌<◌, ◌==◌, List, length, get_or, set, cond, refl, ap, arith}
use Rattle.std.proofs.lemmas.Bool.{eq-eqb, ne_eqb}
use Rattle.std.proofs.lemmas.List.Sums.{sum_by-set}
use Rattle.ng_lists.specs.Arrays.{members}

-- one mark is written
members-set : (marks : List ℕ) (i mark class : ℕ) → i < length marks → members (set marks i mark) class + cond {A = ℕ} (get_or marks i 0 == class + 1) 1 0 ≡ members marks class + cond {A = ℕ} (mark == class + 1) 1 0
members-set marks i mark class inside = sum_by-set (λ m. cond (m == class + 1) 1 0) marks i mark 0 inside

-- a test of a mark
tested_yes : (mark class : ℕ) → mark ≡ class + 1 → cond {A = ℕ} (mark == class + 1) 1 0 ≡ 1
tested_yes mark class same = ap (λ b. cond b 1 0) (eq-eqb mark (class + 1) same)

tested_no : (mark class : ℕ) → mark ≢ class + 1 → cond {A = ℕ} (mark == class + 1) 1 0 ≡ 0
tested_no mark class apart = ap (λ b. cond b 1 0) (ne_eqb mark (class + 1) apart)

pub members_kept : (marks : List ℕ) (i mark class : ℕ) → i < length marks → get_or marks i 0 ≢ class + 1 → mark ≢ class + 1 → members (set marks i mark) class ≡ members marks class
members_kept marks i mark class inside was is =
    omega (arith, members-set marks i mark class inside, tested_no (get_or marks i 0) class was, tested_no mark class is)

pub members_more : (marks : List ℕ) (i class : ℕ) → i < length marks → get_or marks i 0 ≢ class + 1 → members (set marks i (class + 1)) class ≡ members marks class + 1
members_more marks i class inside was =
    omega (arith, members-set marks i (class + 1) class inside, tested_no (get_or marks i 0) class was, tested_yes (class + 1) class refl)

pub members_less : (marks : List ℕ) (i mark class : ℕ) → i < length marks → get_or marks i 0 ≡ class + 1 → mark ≢ class + 1 → members (set marks i mark) class + 1 ≡ members marks class
members_less marks i mark class inside was is =
    omega (arith, members-set marks i mark class inside, tested_yes (get_or marks i 0) class was, tested_no mark class is)
