-- Lists without an index twice.
use Rattle.std.proofs.Common.{◌≢◌, ℕ, zero, suc, List, [], ◌∷◌, ◌++◌, get_or, Contains, refl, sym, ◌∙◌, arith, ⊎_elim}
use Rattle.std.specs.List.{AllPairs}
use Rattle.std.proofs.lemmas.List.Elements.{Contains-append_left, Contains-append_right, Contains-append_cases, Contains-get_or}

-- no index stands twice
abbrev pub IsDistinct : List ℕ → Type 0
IsDistinct xs = AllPairs (λ x y. x ≢ y) xs

-- the first stands nowhere else
pub distinct_head : (x : ℕ) (xs : List ℕ) → IsDistinct (x ∷ xs) → (y : ℕ) → Contains xs y → x ≢ y
distinct_head x xs distinct y (k, within, is) same = distinct 0 (suc k) y (omega arith) (omega arith) (same ∙ sym is)

pub distinct_tail : (x : ℕ) (xs : List ℕ) → IsDistinct (x ∷ xs) → IsDistinct xs
distinct_tail x xs distinct i j d less within = distinct (suc i) (suc j) d (omega arith) (omega arith)

pub distinct_cons : (x : ℕ) (xs : List ℕ) → ((y : ℕ) → Contains xs y → x ≢ y) → IsDistinct xs → IsDistinct (x ∷ xs)
distinct_cons x xs apart distinct zero zero d less within = absurd (omega arith)
distinct_cons x xs apart distinct zero (suc j) d less within = apart (get_or xs j d) (Contains-get_or xs j d (omega arith))
distinct_cons x xs apart distinct (suc i) zero d less within = absurd (omega arith)
distinct_cons x xs apart distinct (suc i) (suc j) d less within = distinct i j d (omega arith) (omega arith)

-- a part of such a list is one
pub distinct_front : (xs ys : List ℕ) → IsDistinct (xs ++ ys) → IsDistinct xs
distinct_front [] ys distinct = λ i j d less within. absurd (omega arith)
distinct_front (x ∷ xs) ys distinct =
    distinct_cons x xs (λ y in'. distinct_head x (xs ++ ys) distinct y (Contains-append_left xs ys y in')) (distinct_front xs ys (distinct_tail x (xs ++ ys) distinct))

pub distinct_back : (xs ys : List ℕ) → IsDistinct (xs ++ ys) → IsDistinct ys
distinct_back [] ys distinct = distinct
distinct_back (x ∷ xs) ys distinct = distinct_back xs ys (distinct_tail x (xs ++ ys) distinct)

-- an index of one part isn't in the other
pub distinct_across : (xs ys : List ℕ) → IsDistinct (xs ++ ys) → (x y : ℕ) → Contains xs x → Contains ys y → x ≢ y
distinct_across [] ys distinct x y (k, within, is) in' same = absurd (omega arith)
distinct_across (w ∷ xs) ys distinct x y (zero, within, is) in' same =
    distinct_head w (xs ++ ys) distinct y (Contains-append_right xs ys y in') (is ∙ same)
distinct_across (w ∷ xs) ys distinct x y (suc k, within, is) in' same =
    distinct_across xs ys (distinct_tail w (xs ++ ys) distinct) x y (k, omega arith, is) in' same

-- two such lists with nothing in common make one
pub distinct_append : (xs ys : List ℕ) → IsDistinct xs → IsDistinct ys → ((x y : ℕ) → Contains xs x → Contains ys y → x ≢ y) → IsDistinct (xs ++ ys)
distinct_append [] ys front back across = back
distinct_append (x ∷ xs) ys front back across = distinct_cons
    x
    (xs ++ ys)
    (λ y in'. ⊎_elim
    (λ left. distinct_head x xs front y left)
    (λ right. across x y (0, omega arith, refl) right)
    (Contains-append_cases xs ys y in'))
    (distinct_append xs ys (distinct_tail x xs front) back (λ v y left right. across v y (Contains-append_right (x ∷ []) xs v left) right))
