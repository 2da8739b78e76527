-- Notes and the pairs of each sender.
use Rattle.std.proofs.Common.{◌≡◌, ◌≢◌, ◌∙◌, ◌+◌, ◌<◌, ◌≤◌, ◌∷◌, ◌++◌, [], zero, suc, ℕ, List, Bool, true, false, ap, arith, cond, get_or, length, map, filter, set, refl, sum_by, subst, sym, ⊎_elim}
use Rattle.std.specs.Prelude.{Contains, count_by}
use Rattle.std.specs.List.{All}
use Rattle.std.proofs.lemmas.Bool.{cases_lt}
use Rattle.std.proofs.lemmas.List.{get_or-map, length-map, get_or-set_other, get_or-set_same}
use Rattle.std.proofs.lemmas.List.Elements.{All-contains, All-contains_itself, All-filter, All-head, All-tail, Contains-append_right, Contains-get_or, filter_passes}
use Rattle.std.proofs.lemmas.List.Sums.{sum_by-cons, sum_by-set}
use Rattle.ng_post.specs.Box.{AreAllOf, pairs_of}
use Rattle.ng_post.specs.Letters.{Note, Pair}
use Rattle.ng_post.proofs.BoxLemmas.{pairs_of-append, pairs_of-none, pairs_of-one, past, same_or_not}
use Rattle.ng_post.proofs.CountLemmas.{count_by-cons}

abbrev pub pairs : List Note → List Pair
pairs notes = map (λ (n : Note). n.1) notes

pairs_of-cons_same : (p : ℕ) (n : Note) (ns : List Note) → p ≡ n.0 → pairs_of p (n ∷ ns) ≡ n.1 ∷ pairs_of p ns
pairs_of-cons_same p n ns is = pairs_of-append p (n ∷ []) ns ∙ ap (λ l. l ++ pairs_of p ns) (pairs_of-one p n is)

pairs_of-cons_other : (p : ℕ) (n : Note) (ns : List Note) → p ≢ n.0 → pairs_of p (n ∷ ns) ≡ pairs_of p ns
pairs_of-cons_other p n ns other = pairs_of-append p (n ∷ []) ns ∙ ap (λ l. l ++ pairs_of p ns) (pairs_of-none p n other)

-- what is counted among the notes is counted among what the senders had put in
pub counted_all : (test : Pair → Bool) (notes : List Note) (puts : List (List Pair)) → AreAllOf puts notes → count_by test (pairs notes) ≡ sum_by (λ l. count_by test l) puts
counted_all test [] puts all = sym (nothing test puts all)
  where
    nothing : (test : Pair → Bool) (puts : List (List Pair)) → AreAllOf puts [] → sum_by (λ l. count_by test l) puts ≡ 0
    nothing test [] all = refl
    nothing test (put ∷ puts) all =
        let rest = nothing test puts (λ p. all (suc p)) in
        let whole = sum_by-cons (λ l. count_by test l) put puts in
        let none : count_by test put ≡ 0 = ap (λ l. count_by test l) (sym (all 0)) in
        omega (arith, rest, whole, none)
counted_all test (n ∷ ns) puts all =
    let p : ℕ = n.0 in
    let rest : List Pair = pairs_of p ns in
    let here : get_or puts p [] ≡ n.1 ∷ rest = sym (all p) ∙ pairs_of-cons_same p n ns refl in
    let within : p < length puts = inside puts p n.1 rest here in
    let left : List (List Pair) = set puts p rest in
    let all_left : AreAllOf left ns = λ q. ⊎_elim
    (λ (same : q ≡ p). ap (λ r. pairs_of r ns) same ∙ sym (get_or-set_same puts p rest [] within) ∙ ap (λ r. get_or left r []) (sym same))
    (λ (other : q ≢ p). sym (pairs_of-cons_other q n ns other) ∙ all q ∙ sym (get_or-set_other puts p q rest [] other))
    (same_or_not q p) in
    let before = counted_all test ns left all_left in
    let moved = sum_by-set (λ l. count_by test l) puts p rest [] within in
    let more : count_by test (get_or puts p []) ≡ cond (test n.1) 1 0 + count_by test rest = ap (λ l. count_by test l) here ∙ count_by-cons test n.1 rest in
    let whole = count_by-cons test n.1 (pairs ns) in
    omega (arith, before, moved, more, whole)
  where
    inside : (puts : List (List Pair)) (p : ℕ) (x : Pair) (rest : List Pair) → get_or puts p [] ≡ x ∷ rest → p < length puts
    inside puts p x rest is = ⊎_elim (λ (lt : p < length puts). lt) (λ (ge : length puts ≤ p). absurd (omega (arith, ap length (sym (past puts p [] ge) ∙ is)))) (cases_lt p (length puts))

-- a note's pair is one of its sender's
pub of_sender : (notes : List Note) (n : Note) → Contains notes n → Contains (pairs_of n.0 notes) n.1
of_sender [] n (k, lt, is) = absurd (omega arith)
of_sender (m ∷ ms) n (zero, lt, is) =
    subst (λ l. Contains l n.1) (sym (pairs_of-cons_same n.0 m ms (ap (λ (x : Note). x.0) (sym is)))) (0, omega arith, ap (λ (x : Note). x.1) is)
of_sender (m ∷ ms) n (suc k, lt, is) =
    subst (λ l. Contains l n.1) (sym (pairs_of-append n.0 (m ∷ []) ms))
    (Contains-append_right (pairs_of n.0 (m ∷ [])) (pairs_of n.0 ms) n.1 (of_sender ms n (k, omega arith, is)))

-- a pair of the notes is that of one of them
pub note_with : (notes : List Note) (x : Pair) → Contains (pairs notes) x → (n : Note) × Contains notes n × (n.1 ≡ x)
note_with notes x (k, lt, is) =
    let within : k < length notes = omega (arith, length-map notes (λ (n : Note). n.1)) in
    let n : Note = get_or notes k (0, x) in (
      n,
      Contains-get_or notes k (0, x) within,
      sym (get_or-map (λ (m : Note). m.1) notes k (0, x) x within) ∙ is,
    )

-- what a filter keeps
pub kept_passes : {X : Type 0} (p : X → Bool) (xs : List X) (x : X) → Contains (filter p xs) x → p x ≡ true
kept_passes p xs x kept = All-contains (λ y. p y ≡ true) (filter p xs) x (filter_passes p xs) kept

pub kept_is_in : {X : Type 0} (p : X → Bool) (xs : List X) (x : X) → Contains (filter p xs) x → Contains xs x
kept_is_in p xs x kept = All-contains (Contains xs) (filter p xs) x (All-filter p (Contains xs) xs (All-contains_itself xs)) kept

-- a test of the pairs and one of the notes that agree keep the same
pub filter_pairs : (t : Pair → Bool) (q : Note → Bool) (notes : List Note) → All (λ (n : Note). t n.1 ≡ q n) notes → filter t (pairs notes) ≡ pairs (filter q notes)
filter_pairs t q [] agree = refl
filter_pairs t q (n ∷ ns) agree =
    let here : t n.1 ≡ q n = All-head (λ (m : Note). t m.1 ≡ q m) n ns agree in
    let rest = filter_pairs t q ns (All-tail (λ (m : Note). t m.1 ≡ q m) n ns agree) in
    ap (λ b. cond b (n.1 ∷ filter t (pairs ns)) (filter t (pairs ns))) here ∙ ap (λ l. cond (q n) (n.1 ∷ l) l) rest ∙ both (q n) n (filter q ns)
  where
    both : (b : Bool) (n : Note) (ns : List Note) → cond b (n.1 ∷ pairs ns) (pairs ns) ≡ pairs (cond b (n ∷ ns) ns)
    both true n ns = refl
    both false n ns = refl

-- a list that contains nothing
pub nothing_in : {X : Type 0} (xs : List X) → ((x : X) → Contains xs x → ⊥) → xs ≡ []
nothing_in [] none = refl
nothing_in (x ∷ xs) none = absurd (none x (0, omega arith, refl))
