-- Pages of zeros, one behind the other, are as many zeros.
use Rattle.std.proofs.Common.{◌≡◌, ℕ, zero, suc, ◌+◌, ◌*◌, List, ◌++◌, ap, ◌∙◌, arith}
use Rattle.std.specs.Prelude.{replicate}
use Rattle.std.specs.List.{AllZip, each_same, repeat}
use Rattle.std.proofs.lemmas.List.{replicate-append-replicate}

abbrev zeros : ℕ → List ℕ
zeros n = replicate {A = ℕ} n 0

none_of : (m : ℕ) → 0 ≡ m * 0
none_of m = omega arith

one_more : (m n : ℕ) → m + m * n ≡ m * suc n
one_more m n = grind (arith)

repeated : (n m : ℕ) → repeat n (zeros m) ≡ zeros (m * n)
repeated zero m = ap zeros (none_of m)
repeated (suc n) m = ap (λ l. zeros m ++ l) (repeated n m) ∙ replicate-append-replicate m (m * n) 0 ∙ ap zeros (one_more m n)

pub zeros_of : (n m : ℕ) (page cells : List ℕ) → page ≡ zeros m → AllZip (λ x y. y ≡ x) (repeat n page) cells → cells ≡ zeros (m * n)
zeros_of n m page cells is same = each_same (repeat n page) cells same ∙ ap (repeat n) is ∙ repeated n m
