-- What is handed over, once each number was posted once and collected.
use Rattle.std.proofs.Common.{◌≡◌, ◌≢◌, ◌∙◌, ◌<◌, ◌≤◌, ◌==◌, ◌∷◌, ◌++◌, [], ℕ, List, true, true≢false, ap, append-nil, arith, cond, get_or, length, map, filter, refl, sum_by, subst, sym, ⊎_elim}
use Rattle.std.specs.Prelude.{Contains, count_by}
use Rattle.std.specs.List.{list_any}
use Rattle.std.specs.List.Sorted.{IsPermutation}
use Rattle.std.proofs.lemmas.Bool.{cases_lt}
use Rattle.std.proofs.lemmas.Bool.Decides.{eqb_tells, nat_tests}
use Rattle.std.proofs.lemmas.List.{get_or-map, length-map, map-append}
use Rattle.std.proofs.lemmas.List.Elements.{All-contains, Contains-append_left, Contains-append_right}
use Rattle.std.proofs.lemmas.List.Sorted.{Contains-permutation, IsPermutation-sym, sum_by-IsPermutation}
use Rattle.std.proofs.lemmas.List.Sums.{get_or-le-sum_by, sum_by-le-sum_by}
use Rattle.crossbeam_queue.specs.Passes.{view}
use Rattle.ng_post.specs.declared.boxes.Boxes.{Boxes}
use Rattle.ng_post.specs.declared.boxes.Door.{Door}
use Rattle.ng_post.specs.declared.mail.Letter.{Letter}
use Rattle.ng_post.specs.Box.{AreAllOf}
use Rattle.ng_post.specs.Doors.{AreDoorsOf, IsDoorOf, IsNumber, goes_to, receiver_of, sent_to}
use Rattle.ng_post.specs.Ends.{AreCollected, ArePostedOnce, is_of}
use Rattle.ng_post.specs.Letters.{Note, Pair, note_of, pair_of}
use Rattle.ng_post.proofs.BoxLemmas.{past, same_or_not}
use Rattle.ng_post.proofs.CountLemmas.{count_by-append, count_by-filter-le, counted, counted_any, same_if_once, sum_by-flat_map, sum_by-map, two_terms}
use Rattle.ng_post.proofs.NoteLemmas.{counted_all, kept_is_in, kept_passes, note_with, nothing_in, of_sender, pairs}

-- what each door posted to the box
abbrev pub posted_to : {N : Type 0} → List ℕ → List (Door N) → ℕ → List (List Pair)
posted_to receivers doors box = map (λ door. sent_to receivers box door.sent.items) doors

same_number : (a b : ℕ) → (a == b) ≡ true → a ≡ b
same_number a b is = ⊎_elim (λ x. x.1) (λ x. absurd (true≢false (sym is ∙ x.0))) (eqb_tells a b)

pub is_of-same : (number : ℕ) (pair : Pair) → pair.0 ≡ number → is_of number pair ≡ true
is_of-same number pair is = grind (arith, nat_tests)

-- the number was posted once, counted by doors
posted_once : {N : Type 0} (doors : List (Door N)) (number : ℕ) → ArePostedOnce doors → sum_by (λ (x : Door N). count_by (is_of number) x.sent.items) doors ≤ 1
posted_once {N} doors number once =
    let same = sum_by-flat_map (λ (pair : Pair). cond {A = ℕ} (is_of number pair) 1 0) (λ (x : Door N). x.sent.items) doors in
    let le = once number in
    omega (arith, same, le)

-- one door posted the number, under one address
pub one_poster : {N : Type 0} (doors : List (Door N)) (s t : ℕ) (d : Door N) (x y : Pair) → ArePostedOnce doors → s < length doors → t < length doors → x.0 ≡ y.0
    → Contains (get_or doors s d).sent.items x → Contains (get_or doors t d).sent.items y → (s ≡ t) × (x ≡ y)
one_poster {N} doors s t d x y once lt lt' is in_s in_t =
    let number : ℕ = y.0 in
    let whole = posted_once doors number once in
    let yes_x : is_of number x ≡ true = is_of-same number x is in
    let yes_y : is_of number y ≡ true = is_of-same number y refl in
    ⊎_elim
    (λ (same : s ≡ t).
    let le = get_or-le-sum_by (λ (z : Door N). count_by (is_of number) z.sent.items) doors s d lt in
    let in_s' : Contains (get_or doors s d).sent.items y = subst (λ k. Contains (get_or doors k d).sent.items y) (sym same) in_t in
    (same, same_if_once (is_of number) (get_or doors s d).sent.items x y (omega (arith, le, whole)) in_s in_s' yes_x yes_y))
    (λ (apart : s ≢ t).
    let both = two_terms (λ (z : Door N). count_by (is_of number) z.sent.items) doors s t d d lt lt' apart in
    let one = counted (is_of number) (get_or doors s d).sent.items x in_s yes_x in
    let other = counted (is_of number) (get_or doors t d).sent.items y in_t yes_y in
    absurd (omega (arith, both, one, other, whole)))
    (same_or_not s t)

-- a note of a box was posted to it by its sender
pub note_sent : {N : Type 0} (receivers : List ℕ) (doors : List (Door N)) (box : ℕ) (notes : List Note) (n : Note) (d : Door N)
    → AreAllOf (posted_to receivers doors box) notes → Contains notes n
    → (n.0 < length doors) × Contains (get_or doors n.0 d).sent.items n.1 × (goes_to receivers box n.1 ≡ true)
note_sent {N} receivers doors box notes n d all in_notes =
    let put : Door N → List Pair = λ x. sent_to receivers box x.sent.items in
    let among : Contains (get_or (posted_to receivers doors box) n.0 []) n.1 = subst (λ l. Contains l n.1) (all n.0) (of_sender notes n in_notes) in
    let lt : n.0 < length doors = ⊎_elim (λ (within : n.0 < length doors). within)
    (λ (beyond : length doors ≤ n.0).
    let none = subst (λ l. Contains l n.1) (past (posted_to receivers doors box) n.0 [] (omega (arith, length-map doors put, beyond))) among in
    absurd (omega (arith, none.1)))
    (cases_lt n.0 (length doors)) in
    let kept : Contains (filter (goes_to receivers box) (get_or doors n.0 d).sent.items) n.1 = subst (λ l. Contains l n.1) (get_or-map put doors n.0 d [] lt) among in
    (lt, kept_is_in (goes_to receivers box) (get_or doors n.0 d).sent.items n.1 kept, kept_passes (goes_to receivers box) (get_or doors n.0 d).sent.items n.1 kept)

-- no number stands twice among the notes of a box
pub once_in_box : {N : Type 0} (receivers : List ℕ) (doors : List (Door N)) (box : ℕ) (notes : List Note) (number : ℕ)
    → ArePostedOnce doors → AreAllOf (posted_to receivers doors box) notes → count_by (is_of number) (pairs notes) ≤ 1
once_in_box {N} receivers doors box notes number once all =
    let put : Door N → List Pair = λ x. sent_to receivers box x.sent.items in
    let same = counted_all (is_of number) notes (posted_to receivers doors box) all in
    let mapped = sum_by-map (λ (l : List Pair). count_by (is_of number) l) put doors in
    let le = sum_by-le-sum_by (λ (x : Door N). count_by (is_of number) (put x)) (λ (x : Door N). count_by (is_of number) x.sent.items) doors
    (λ x. count_by-filter-le (is_of number) (goes_to receivers box) x.sent.items) in
    let whole = posted_once doors number once in
    omega (arith, same, mapped, le, whole)

-- each pair of a box was collected
collected_in : {N : Type 0} (boxes : Boxes N) (doors : List (Door N)) (box : ℕ) (notes : List Note) (x : Pair) (d : Door N)
    → AreDoorsOf boxes doors → AreCollected boxes.receivers.items doors → AreAllOf (posted_to boxes.receivers.items doors box) notes
    → Contains (pairs notes) x → 1 ≤ count_by (is_of x.0) (get_or doors box d).got.items
collected_in {N} boxes doors box notes x d are collected all among =
    let receivers = boxes.receivers.items in
    let found = note_with notes x among in
    let sent = note_sent receivers doors box notes found.0 d all found.1 in
    let number : IsNumber receivers x.0 = subst (λ (y : Pair). IsNumber receivers y.0) found.2
    (All-contains (λ (pair : Pair). IsNumber receivers pair.0) (get_or doors found.0.0 d).sent.items found.0.1 (are.each found.0.0 d sent.0).numbers sent.1) in
    let goes : receiver_of receivers x.0 ≡ box = same_number (receiver_of receivers x.0) box (ap (goes_to receivers box) (sym found.2) ∙ sent.2) in
    counted_any (is_of x.0) (get_or doors box d).got.items (ap (λ k. list_any (is_of x.0) (get_or doors k d).got.items) (sym goes) ∙ collected x.0 d number)

-- a door has collected all that its box was given: nothing is kept and nothing is left
pub record HasAll {N : Type 0} (receivers : List ℕ) (doors : List (Door N)) (box : ℕ) (d : Door N) : Type 0 where
  pub notes : List Note
  pub all : AreAllOf (posted_to receivers doors box) notes
  pub arrived : pairs notes ≡ (get_or doors box d).arrived.items
  pub got : IsPermutation (get_or doors box d).arrived.items (get_or doors box d).got.items

pub has_all : {N : Type 0} (boxes : Boxes N) (doors : List (Door N)) (box : ℕ) (items : List (Letter N)) (d : Door N)
    → AreDoorsOf boxes doors → ArePostedOnce doors → AreCollected boxes.receivers.items doors → box < length doors
    → AreAllOf (posted_to boxes.receivers.items doors box) ((view (get_or doors box d).own).got ++ map note_of items)
    → HasAll boxes.receivers.items doors box d
has_all {N} boxes doors box items d are once collected lt all =
    let receivers = boxes.receivers.items in
    let door : Door N = get_or doors box d in
    let here : IsDoorOf boxes door = are.each box d lt in
    let taken : List Note = (view door.own).got in
    let left : List Note = map note_of items in
    let kept : List Pair = map pair_of door.kept.items in
    let notes : List Note = taken ++ left in
    let split : pairs notes ≡ pairs taken ++ pairs left = map-append (λ (n : Note). n.1) taken left in
    let Sum : (x : Pair) → Contains (pairs notes) x → (count_by (is_of x.0) kept ≡ 0) × (count_by (is_of x.0) (pairs left) ≡ 0) = λ x among.
    let few = once_in_box receivers doors box notes x.0 once all in
    let got = collected_in boxes doors box notes x d are collected all among in
    let parts = ap (λ l. count_by (is_of x.0) l) split ∙ count_by-append (is_of x.0) (pairs taken) (pairs left) in
    let came = ap (λ l. count_by (is_of x.0) l) here.arrives in
    let moved = sum_by-IsPermutation (λ (y : Pair). cond {A = ℕ} (is_of x.0 y) 1 0) door.arrived.items (door.got.items ++ kept) here.kept in
    let both = count_by-append (is_of x.0) door.got.items kept in
    (omega (arith, few, got, parts, came, moved, both), omega (arith, few, got, parts, came, moved, both)) in
    let none_kept : kept ≡ [] = nothing_in kept (λ x in_kept.
    let came : Contains door.arrived.items x = Contains-permutation (door.got.items ++ kept) door.arrived.items x (IsPermutation-sym door.arrived.items (door.got.items ++ kept) here.kept)
    (Contains-append_right door.got.items kept x in_kept) in
    let among : Contains (pairs notes) x = subst (λ l. Contains l x) (sym split)
    (Contains-append_left (pairs taken) (pairs left) x (subst (λ l. Contains l x) (sym here.arrives) came)) in
    let one = counted (is_of x.0) kept x in_kept (is_of-same x.0 x refl) in
    let zero_is = (Sum x among).0 in
    absurd (omega (arith, one, zero_is))) in
    let none_left : pairs left ≡ [] = nothing_in (pairs left) (λ x in_left.
    let among : Contains (pairs notes) x = subst (λ l. Contains l x) (sym split) (Contains-append_right (pairs taken) (pairs left) x in_left) in
    let one = counted (is_of x.0) (pairs left) x in_left (is_of-same x.0 x refl) in
    let zero_is = (Sum x among).1 in
    absurd (omega (arith, one, zero_is))) in
    let empty : left ≡ [] = nothing_mapped left none_left in
    record {
      notes = taken;
      all = subst (AreAllOf (posted_to receivers doors box)) (ap (λ l. taken ++ l) empty ∙ append-nil taken) all;
      arrived = here.arrives;
      got = subst (IsPermutation door.arrived.items) (ap (λ l. door.got.items ++ l) none_kept ∙ append-nil door.got.items) here.kept;
    }
  where
    nothing_mapped : (notes : List Note) → pairs notes ≡ [] → notes ≡ []
    nothing_mapped [] is = refl
    nothing_mapped (n ∷ ns) is = absurd (omega (arith, ap length is))
