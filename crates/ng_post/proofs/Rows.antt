-- What holds of each place of a list after a push and after a set.
use Rattle.std.proofs.Common.{◌≡◌, ◌≢◌, ℕ, suc, ◌+◌, ◌<◌, List, [], ◌∷◌, ◌++◌, length, length-append, length-drop, drop, get_or, set, refl, sym, ap, ◌∙◌, ⊎_elim, arith}
use Rattle.std.proofs.lemmas.List.{get_or_append_left, get_or_default, get_or-set_other, get_or-set_same, length_push}
use Rattle.ng_post.proofs.BoxLemmas.{last_of, same_or_not}

-- of two lists, once an item was pushed to each
pub each-pushed : {A B : Type 0} (P : ℕ → A → B → Type 0) (xs : List A) (ys : List B) (x : A) (y : B) (n : ℕ)
    → length xs ≡ n → length ys ≡ n → ((i : ℕ) (a : A) (b : B) → i < n → P i (get_or xs i a) (get_or ys i b)) → P n x y
    → (i : ℕ) (a : A) (b : B) → i < n + 1 → P i (get_or (xs ++ x ∷ []) i a) (get_or (ys ++ y ∷ []) i b)
each-pushed P xs ys x y n long long' before last i a b lt = ⊎_elim
    (λ (here : i ≡ n).
    let left : get_or (xs ++ x ∷ []) i a ≡ x = ap (λ k. get_or (xs ++ x ∷ []) k a) (here ∙ sym long) ∙ last_of xs x a in
    let right : get_or (ys ++ y ∷ []) i b ≡ y = ap (λ k. get_or (ys ++ y ∷ []) k b) (here ∙ sym long') ∙ last_of ys y b in
    rw (left, right, here) last)
    (λ (apart : i ≢ n).
    rw (get_or_append_left xs (x ∷ []) a i (omega (arith, apart)), get_or_append_left ys (y ∷ []) b i (omega (arith, apart)))
    (before i a b (omega (arith, apart))))
    (same_or_not i n)

-- of one list, once an item was set
pub each-set : {A : Type 0} (P : ℕ → A → Type 0) (xs : List A) (k : ℕ) (x : A)
    → k < length xs → P k x → ((i : ℕ) (a : A) → i < length xs → i ≢ k → P i (get_or xs i a))
    → (i : ℕ) (a : A) → i < length xs → P i (get_or (set xs k x) i a)
each-set P xs k x within here others i a lt = ⊎_elim
    (λ (same : i ≡ k). rw (same, get_or-set_same xs k x a within) here)
    (λ (apart : i ≢ k). rw (get_or-set_other xs k i x a apart) (others i a lt apart))
    (same_or_not i k)

-- the last item of one list was taken
pub each-popped : {A : Type 0} (xs : List A) (x : A) (i : ℕ) (a b : A) → i < length xs → get_or xs i a ≡ get_or (xs ++ x ∷ []) i b
each-popped xs x i a b lt = get_or_default xs i a b lt ∙ sym (get_or_append_left xs (x ∷ []) b i lt)

at_length : {A : Type 0} (xs : List A) (x : A) (ys : List A) (d : A) → get_or (xs ++ x ∷ ys) (length xs) d ≡ x
at_length [] x ys d = refl
at_length (y ∷ xs) x ys d = at_length xs x ys d

get_or-drop_one : {A : Type 0} (xs : List A) (i : ℕ) (d : A) → get_or (drop 1 xs) i d ≡ get_or xs (i + 1) d
get_or-drop_one [] i d = refl
get_or-drop_one (x ∷ xs) i d = let next : suc i ≡ i + 1 = omega arith in ap (λ j. get_or (x ∷ xs) j d) next

-- the next item of a list, behind its first one and those done
pub next_item : {A : Type 0} (done : List A) (x : A) (rest all : List A) → done ++ x ∷ rest ≡ drop 1 all → (x ≡ get_or all (length done + 1) x) × (length done + 1 < length all)
next_item done x rest all is = (
  sym (at_length done x rest x) ∙ ap (λ l. get_or l (length done) x) is ∙ get_or-drop_one all (length done) x,
  let long = length-append done (x ∷ rest) in let same = ap length is in let left = length-drop 1 all in omega (arith, long, same, left),
)

-- an item that was taken from the back stood at the new length
pub item_popped : {A : Type 0} (all left to : List A) (item : A) (k : ℕ) → all ≡ left ++ item ∷ [] → k ≡ length left
    → ((i : ℕ) (a b : A) → i < length all → get_or all i a ≡ get_or to i b) → (a : A) → item ≡ get_or to k a
item_popped all left to item k is long same a =
    let within : k < length all = let more = ap length is ∙ length_push left item in omega (arith, more, long) in
    sym (last_of left item item) ∙ ap (λ l. get_or l (length left) item) (sym is) ∙ ap (λ j. get_or all j item) (sym long) ∙ same k item a within
