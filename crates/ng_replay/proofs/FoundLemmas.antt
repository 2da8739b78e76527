-- The first element that passes a test, among the ops that have their replies.
use Rattle.std.proofs.Common.{◌≡◌, ℕ, zero, suc, ◌<◌, ◌≤◌, Bool, true, false, List, [], ◌∷◌, ◌++◌, Some, None, length, get_or, arith, refl, ap, sym, subst, ⊎_elim, ◌∙◌}
use Rattle.std.specs.Prelude.{Contains, find}
use Rattle.std.specs.List.{position_or_len, zip}
use Rattle.std.proofs.lemmas.Bool.{cases_lt}
use Rattle.std.proofs.lemmas.List.Concat.{flat_map-cons}
use Rattle.std.proofs.lemmas.List.Elements.{Contains-append_cases, Contains-append_left, Contains-append_right}
use Rattle.std.proofs.lemmas.List.Folds.{find_at}
use Rattle.std.proofs.lemmas.List.Sums.{fails_before_first, passes_at_first}
use Rattle.std.proofs.lemmas.Option.{get_or_from_slice_get, slice_get-get_or}
use Rattle.ng_terms.specs.declared.plan.Op.{Op}
use Rattle.ng_terms.specs.declared.plan.Op.TheVariants.{Make}
use Rattle.ng_terms.specs.declared.reply.Reply.{Reply}
use Rattle.ng_terms.specs.declared.reply.Reply.TheVariants.{Absent}
use Rattle.ng_terms.specs.Calls.{done_ops}
use Rattle.ng_plan.specs.Sound.{op_of_log}

-- the one element that passes is found
pub find-only : {X : Type 0} → (p : X → Bool) (xs : List X) (x : X) → Contains xs x → p x ≡ true → ((y : X) → Contains xs y → p y ≡ true → y ≡ x) → find p xs ≡ Some x
find-only {X} p xs x (i, below, is) passes only = ⊎_elim found none (cases_lt (position_or_len p xs) (length xs))
  where
    found : position_or_len p xs < length xs → find p xs ≡ Some x
    found within =
        find_at p xs ∙ slice_get-get_or xs (position_or_len p xs) x within
        ∙ ap Some (only (get_or xs (position_or_len p xs) x) (position_or_len p xs, within, get_or_from_slice_get xs (position_or_len p xs) (get_or xs (position_or_len p xs) x) (get_or xs (position_or_len p xs) x) (slice_get-get_or xs (position_or_len p xs) x within)) (passes_at_first p xs x within))

    none : length xs ≤ position_or_len p xs → find p xs ≡ Some x
    none past =
        let fails : p (get_or xs i x) ≡ false = fails_before_first p xs i x (omega arith) in
        let same : p (get_or xs i x) ≡ true = ap p is ∙ passes in
        absurd (cc)

-- none is found where none passes
pub find-none : {X : Type 0} → (p : X → Bool) (xs : List X) → ((y : X) → Contains xs y → p y ≡ false) → find p xs ≡ None
find-none p [] none = refl
find-none p (x ∷ xs) none =
    let first : p x ≡ false = none x (0, omega arith, refl) in
    rw first (find-none p xs (λ y (i, below, is). none y (suc i, omega arith, is)))

-- an op beside its reply, in one log
pub zip-place : {X Y : Type 0} → (xs : List X) (ys : List Y) (d : X) (e : Y) (pair : X × Y) → Contains (zip xs ys) pair
    → (i : ℕ) × (i < length xs) × (i < length ys) × (pair ≡ (get_or xs i d, get_or ys i e))
zip-place [] ys d e pair (i, below, is) = absurd (omega arith)
zip-place (x ∷ xs) [] d e pair (i, below, is) = absurd (omega arith)
zip-place (x ∷ xs) (y ∷ ys) d e pair (zero, below, is) = (0, omega arith, omega arith, sym is)
zip-place (x ∷ xs) (y ∷ ys) d e pair (suc i, below, is) =
    let (j, inside, within, same) = zip-place xs ys d e pair (i, omega arith, is) in
    (suc j, omega arith, omega arith, same)

pub zip-Contains : {X Y : Type 0} → (xs : List X) (ys : List Y) (d : X) (e : Y) (i : ℕ) → i < length xs → i < length ys → Contains (zip xs ys) (get_or xs i d, get_or ys i e)
zip-Contains [] ys d e i inside within = absurd (omega arith)
zip-Contains (x ∷ xs) [] d e i inside within = absurd (omega arith)
zip-Contains (x ∷ xs) (y ∷ ys) d e zero inside within = (0, omega arith, refl)
zip-Contains (x ∷ xs) (y ∷ ys) d e (suc i) inside within =
    let (j, below, is) = zip-Contains xs ys d e i (omega arith) (omega arith) in
    (suc j, omega arith, is)

-- the ops of the first log come first
done_ops-cons : (ops : List Op) (row : List Reply) (logs : List (List Op)) (rows : List (List Reply)) → done_ops (ops ∷ logs) (row ∷ rows) ≡ zip ops row ++ done_ops logs rows
done_ops-cons ops row logs rows = flat_map-cons (λ (log : List Op × List Reply). zip log.0 log.1) (ops, row) (zip logs rows)

-- where an op stands that has its reply
pub record StandsAt (logs : List (List Op)) (replies : List (List Reply)) (pair : Op × Reply) : Type 0 where
  pub log : ℕ
  pub op : ℕ
  pub log_in : log < length logs
  pub op_in : op < length (get_or logs log [])
  pub served : op < length (get_or replies log [])
  pub is : pair ≡ (op_of_log (get_or logs log []) op, get_or (get_or replies log []) op Absent)

pub done_ops-place : (logs : List (List Op)) (replies : List (List Reply)) (pair : Op × Reply) → Contains (done_ops logs replies) pair → StandsAt logs replies pair
done_ops-place [] replies pair (i, below, is) = absurd (omega arith)
done_ops-place (ops ∷ logs) [] pair (i, below, is) = absurd (omega arith)
done_ops-place (ops ∷ logs) (row ∷ rows) pair there =
    ⊎_elim first (λ behind. later (done_ops-place logs rows pair behind))
    (Contains-append_cases (zip ops row) (done_ops logs rows) pair (subst (λ (all : List (Op × Reply)). Contains all pair) (done_ops-cons ops row logs rows) there))
  where
    first : Contains (zip ops row) pair → StandsAt (ops ∷ logs) (row ∷ rows) pair
    first here =
        let (i, inside, within, same) = zip-place ops row (Make 0 0 None) Absent pair here in
        record { log = 0; op = i; log_in = omega arith; op_in = inside; served = within; is = same }

    later : StandsAt logs rows pair → StandsAt (ops ∷ logs) (row ∷ rows) pair
    later place = record { log = suc place.log; op = place.op; log_in = omega arith; op_in = place.op_in; served = place.served; is = place.is }

pub done_ops-Contains : (logs : List (List Op)) (replies : List (List Reply)) (log op : ℕ) → log < length logs → op < length (get_or logs log []) → op < length (get_or replies log [])
    → Contains (done_ops logs replies) (op_of_log (get_or logs log []) op, get_or (get_or replies log []) op Absent)
done_ops-Contains [] replies log op log_in inside served = absurd (omega arith)
done_ops-Contains (ops ∷ logs) [] log op log_in inside served = absurd (omega arith)
done_ops-Contains (ops ∷ logs) (row ∷ rows) zero op log_in inside served =
    subst (λ (all : List (Op × Reply)). Contains all (op_of_log ops op, get_or row op Absent)) (sym (done_ops-cons ops row logs rows))
    (Contains-append_left (zip ops row) (done_ops logs rows) _ (zip-Contains ops row (Make 0 0 None) Absent op inside served))
done_ops-Contains (ops ∷ logs) (row ∷ rows) (suc log) op log_in inside served =
    subst (λ (all : List (Op × Reply)). Contains all (op_of_log (get_or logs log []) op, get_or (get_or rows log []) op Absent)) (sym (done_ops-cons ops row logs rows))
    (Contains-append_right (zip ops row) (done_ops logs rows) _ (done_ops-Contains logs rows log op (omega arith) inside served))
