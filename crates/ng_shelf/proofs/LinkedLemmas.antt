-- How many indices have a link.
use Rattle.std.proofs.Common.{◌≡◌, ◌≢◌, ℕ, ◌+◌, ◌<◌, ◌==◌, List, length, get_or, set, cond, replicate, refl, ap, ◌∙◌, arith}
use Rattle.std.specs.Prelude.{not}
use Rattle.std.proofs.lemmas.Bool.{eq-eqb, ne_eqb}
use Rattle.std.proofs.lemmas.List.Sums.{sum_by-set}
use Rattle.std.proofs.lemmas.List.Folds.{sum_by-replicate}
use Rattle.ng_shelf.specs.Queue.{linked}

-- one link is written
linked-set : (after : List ℕ) (i next : ℕ) → i < length after → linked (set after i next) + cond {A = ℕ} (not (get_or after i 0 == 0)) 1 0 ≡ linked after + cond {A = ℕ} (not (next == 0)) 1 0
linked-set after i next inside = sum_by-set (λ n. cond (not (n == 0)) 1 0) after i next 0 inside

-- a test of a link
tested_yes : (next : ℕ) → next ≢ 0 → cond {A = ℕ} (not (next == 0)) 1 0 ≡ 1
tested_yes next some = ap (λ b. cond (not b) 1 0) (ne_eqb next 0 some)

tested_no : (next : ℕ) → next ≡ 0 → cond {A = ℕ} (not (next == 0)) 1 0 ≡ 0
tested_no next none = ap (λ b. cond (not b) 1 0) (eq-eqb next 0 none)

pub linked_kept : (after : List ℕ) (i next : ℕ) → i < length after → get_or after i 0 ≢ 0 → next ≢ 0 → linked (set after i next) ≡ linked after
linked_kept after i next inside was is =
    omega (arith, linked-set after i next inside, tested_yes (get_or after i 0) was, tested_yes next is)

pub linked_more : (after : List ℕ) (i next : ℕ) → i < length after → get_or after i 0 ≡ 0 → next ≢ 0 → linked (set after i next) ≡ linked after + 1
linked_more after i next inside was is =
    omega (arith, linked-set after i next inside, tested_no (get_or after i 0) was, tested_yes next is)

pub linked_less : (after : List ℕ) (i : ℕ) → i < length after → get_or after i 0 ≢ 0 → linked (set after i 0) + 1 ≡ linked after
linked_less after i inside was =
    omega (arith, linked-set after i 0 inside, tested_yes (get_or after i 0) was, tested_no 0 refl)

-- at the start no index has one
pub linked_none : (n : ℕ) → linked (replicate n 0) ≡ 0
linked_none n =
    let none : cond {A = ℕ} (not (0 == 0)) 1 0 ≡ 0 = tested_no 0 refl in
    sum_by-replicate (λ next. cond (not (next == 0)) 1 0) n 0 ∙ rw none (omega arith)
