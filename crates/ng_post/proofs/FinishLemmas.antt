-- Each number was handed over.
use Rattle.std.proofs.Common.{◌≡◌, ◌≢◌, ◌∙◌, ◌+◌, ◌-◌, ◌<◌, ◌==◌, ◌∷◌, [], ℕ, List, Bool, true, false, true≢false, ap, arith, cond, get_or, length, filter, refl, sum_by, subst, sym, ⊎_elim}
use Rattle.std.specs.Prelude.{Contains, count_by}
use Rattle.std.specs.List.{All}
use Rattle.std.proofs.lemmas.Bool.Decides.{nat_tests}
use Rattle.std.proofs.lemmas.List.{get_or-map}
use Rattle.std.proofs.lemmas.List.Elements.{All-get_or, All-head, All-tail, Contains-get_or}
use Rattle.std.proofs.lemmas.List.Folds.{Any-from_list_any, list_any_at}
use Rattle.std.proofs.lemmas.List.Sorted.{Contains-permutation, IsPermutation-sym, sum_by-IsPermutation}
use Rattle.ng_post.specs.declared.boxes.Boxes.{Boxes}
use Rattle.ng_post.specs.declared.boxes.Door.{Door}
use Rattle.ng_post.specs.Doors.{AreDoorsOf, IsNumber, receiver_of, sent_to}
use Rattle.ng_post.specs.Ends.{AreHandedOver, ArePostedOnce, is_of, is_sent, posts}
use Rattle.ng_post.specs.Letters.{Note, Pair}
use Rattle.ng_post.proofs.BoxLemmas.{same_or_not}
use Rattle.ng_post.proofs.CountLemmas.{count_by-cons, one_numbered, sum_by-map, sum_by_agree, sum_by_both, sum_by_swapped, sum_by_zero}
use Rattle.ng_post.proofs.HandedLemmas.{HasAll, is_of-same, note_sent, once_in_box, one_poster, posted_to}
use Rattle.ng_post.proofs.NoteLemmas.{counted_all, filter_pairs, note_with}

equal-same : (a b : ℕ) → a ≡ b → (a == b) ≡ true
equal-same a b is = grind (arith, nat_tests)

equal-other : (a b : ℕ) → a ≢ b → (a == b) ≡ false
equal-other a b other = grind (arith, nat_tests)

-- what was collected was posted by the sender of its note
poster : {N : Type 0} (receivers : List ℕ) (doors : List (Door N)) (r : ℕ) (x : Pair) (d : Door N) → HasAll receivers doors r d
    → Contains (get_or doors r d).arrived.items x → (s : ℕ) × (s < length doors) × Contains (get_or doors s d).sent.items x
poster receivers doors r x d has came =
    let found = note_with has.notes x (subst (λ l. Contains l x) (sym has.arrived) came) in
    let sent = note_sent receivers doors r has.notes found.0 d has.all found.1 in
    (found.0.0, sent.0, subst (λ y. Contains (get_or doors found.0.0 d).sent.items y) found.2 sent.1)

-- a door posted a note's number where it sent the note
posts-sender : {N : Type 0} (receivers : List ℕ) (doors : List (Door N)) (s r : ℕ) (n : Note) (d : Door N) → ArePostedOnce doors → s < length doors
    → (has : HasAll receivers doors r d) → Contains has.notes n → posts (get_or doors s d) n.1 ≡ (n.0 == s)
posts-sender {N} receivers doors s r n d once lt has among =
    let sent = note_sent receivers doors r has.notes n d has.all among in
    let mine : List Pair = (get_or doors s d).sent.items in
    ⊎_elim
    (λ (same : n.0 ≡ s).
    let here : Contains mine n.1 = subst (λ k. Contains (get_or doors k d).sent.items n.1) same sent.1 in
    let found : is_of n.1.0 (get_or mine here.0 n.1) ≡ true = is_of-same n.1.0 (get_or mine here.0 n.1) (ap (λ (y : Pair). y.0) here.2) in
    list_any_at (is_of n.1.0) mine here.0 n.1 here.1 found ∙ sym (equal-same n.0 s same))
    (λ (apart : n.0 ≢ s). not_true (posts (get_or doors s d) n.1) (λ does.
    let any = Any-from_list_any (is_of n.1.0) mine does in
    apart (one_poster doors n.0 s d n.1 any.1 once sent.0 lt (sym (number_is n.1.0 any.1 any.4)) sent.1 (any.0, any.2, any.3)).0)
    ∙ sym (equal-other n.0 s apart))
    (same_or_not n.0 s)
  where
    not_true : (b : Bool) → (b ≡ true → ⊥) → b ≡ false
    not_true true wrong = absurd (wrong refl)
    not_true false wrong = refl

    number_is : (number : ℕ) (pair : Pair) → is_of number pair ≡ true → pair.0 ≡ number
    number_is number pair is = ⊎_elim (λ (same : pair.0 ≡ number). same) (λ (other : pair.0 ≢ number). absurd (true≢false (sym is ∙ equal-other pair.0 number other))) (same_or_not pair.0 number)

-- the pairs of a list are shared out among the boxes
shared_out : {N : Type 0} (test : Pair → Bool) (receivers : List ℕ) (doors : List (Door N)) (sent : List Pair) → ((k : ℕ) (d : Door N) → k < length doors → (get_or doors k d).log ≡ k)
    → All (λ (pair : Pair). receiver_of receivers pair.0 < length doors) sent
    → sum_by (λ (door : Door N). count_by test (sent_to receivers door.log sent)) doors ≡ count_by test sent
shared_out {N} test receivers doors [] logs within = sum_by_zero doors
shared_out {N} test receivers doors (x ∷ xs) logs within =
    let to : ℕ = receiver_of receivers x.0 in
    let one : ℕ = cond (test x) 1 0 in
    let lt = All-head (λ (pair : Pair). receiver_of receivers pair.0 < length doors) x xs within in
    let rest = shared_out test receivers doors xs logs (All-tail (λ (pair : Pair). receiver_of receivers pair.0 < length doors) x xs within) in
    let here = one_numbered (λ (door : Door N). door.log) doors 0 to one (λ k d below. logs k d below ∙ zero_more k) (omega arith) (omega (arith, lt)) in
    let both = sum_by_both (λ (door : Door N). cond {A = ℕ} (to == door.log) one 0) (λ (door : Door N). count_by test (sent_to receivers door.log xs)) doors in
    let each = sum_by_agree (λ (door : Door N). count_by test (sent_to receivers door.log (x ∷ xs)))
    (λ (door : Door N). cond {A = ℕ} (to == door.log) one 0 + count_by test (sent_to receivers door.log xs)) doors
    (λ k d below. split (to == (get_or doors k d).log) test x (sent_to receivers (get_or doors k d).log xs)) in
    let whole = count_by-cons test x xs in
    omega (arith, rest, here, both, each, whole)
  where
    zero_more : (k : ℕ) → k ≡ 0 + k
    zero_more k = omega arith

    split : (goes : Bool) (test : Pair → Bool) (x : Pair) (xs : List Pair) → count_by test (cond goes (x ∷ xs) xs) ≡ cond goes (cond (test x) 1 0) 0 + count_by test xs
    split true test x xs = count_by-cons test x xs
    split false test x xs = omega arith

received : {N : Type 0} (boxes : Boxes N) (doors : List (Door N)) (number : ℕ) → AreDoorsOf boxes doors → IsNumber boxes.receivers.items number
    → receiver_of boxes.receivers.items number < length doors
received boxes doors number are is =
    let least = is.least in
    let most = is.most in
    let lt : get_or boxes.receivers.items (number - 1) 0 < boxes.boxes.len =
    All-get_or (λ (log : ℕ). log < boxes.boxes.len) boxes.receivers.items (number - 1) 0 (omega (arith, least, most)) boxes.within in
    omega (arith, lt, are.count)

pub handed_over : {N : Type 0} (boxes : Boxes N) (doors : List (Door N)) → AreDoorsOf boxes doors → ArePostedOnce doors
    → ((r : ℕ) (d : Door N) → r < length doors → HasAll boxes.receivers.items doors r d) → AreHandedOver boxes.receivers.items doors
handed_over {N} boxes doors are once has =
    let receivers = boxes.receivers.items in
    let posted : (r : ℕ) (x : Pair) (d : Door N) → r < length doors → Contains (get_or doors r d).got.items x
    → (s : ℕ) × (s < length doors) × Contains (get_or doors s d).sent.items x = λ r x d lt collected.
    poster receivers doors r x d (has r d lt)
    (Contains-permutation (get_or doors r d).got.items (get_or doors r d).arrived.items x (IsPermutation-sym (get_or doors r d).arrived.items (get_or doors r d).got.items (has r d lt).got) collected) in
    record {
      same = λ s r number address collected d lt lt' sent got.
          let found = posted r (number, collected) d lt' got in
          ap (λ (x : Pair). x.1) (one_poster doors found.0 s d (number, collected) (number, address) once found.1 lt refl found.2 sent).1;
      posted = posted;
      order = λ s r d lt lt'.
          let all = has r d lt' in
          ap (filter (posts (get_or doors s d))) (sym all.arrived)
          ∙ filter_pairs (posts (get_or doors s d)) (λ (n : Note). n.0 == s) all.notes
          (λ k n below. posts-sender receivers doors s r (get_or all.notes k n) d once lt all (Contains-get_or all.notes k n below))
          ∙ all.all s ∙ get_or-map (λ (x : Door N). sent_to receivers r x.sent.items) doors s d [] lt;
      each = λ r d lt. (has r d lt).got;
      once = λ r number d lt.
          let all = has r d lt in
          let few = once_in_box receivers doors r all.notes number once all.all in
          let came = ap (λ l. count_by (is_of number) l) all.arrived in
          let moved = sum_by-IsPermutation (λ (y : Pair). cond {A = ℕ} (is_of number y) 1 0) (get_or doors r d).arrived.items (get_or doors r d).got.items all.got in
          omega (arith, few, came, moved);
      even = sym (
          sum_by_agree (λ (door : Door N). count_by is_sent door.got.items) (λ (door : Door N). sum_by (λ (x : Door N). count_by is_sent (sent_to receivers door.log x.sent.items)) doors) doors
          (λ r d lt.
          let all = has r d lt in
          let moved = sum_by-IsPermutation (λ (y : Pair). cond {A = ℕ} (is_sent y) 1 0) (get_or doors r d).arrived.items (get_or doors r d).got.items all.got in
          moved ∙ ap (λ l. count_by is_sent l) (sym all.arrived) ∙ counted_all is_sent all.notes (posted_to receivers doors r) all.all
          ∙ sum_by-map (λ (l : List Pair). count_by is_sent l) (λ (x : Door N). sent_to receivers r x.sent.items) doors
          ∙ ap (λ log. sum_by (λ (x : Door N). count_by is_sent (sent_to receivers log x.sent.items)) doors) (sym (are.logs r d lt)))
          ∙ sum_by_swapped (λ (door x : Door N). count_by is_sent (sent_to receivers door.log x.sent.items)) doors doors
          ∙ sum_by_agree (λ (x : Door N). sum_by (λ (door : Door N). count_by is_sent (sent_to receivers door.log x.sent.items)) doors) (λ (x : Door N). count_by is_sent x.sent.items) doors
          (λ k d lt. shared_out is_sent receivers doors (get_or doors k d).sent.items are.logs
          (λ j pair below. received boxes doors (get_or (get_or doors k d).sent.items j pair).0 are ((are.each k d lt).numbers j pair below)))
          );
    }
