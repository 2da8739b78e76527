-- What the doors hold once all ops are done, and what the replies are then.
use Rattle.std.proofs.Common.{◌≡◌, ℕ, zero, suc, ◌<◌, ◌≤◌, true, List, [], ◌∷◌, Option, Some, None, length, get_or, map, arith, refl, ap, sym, subst, ◌∙◌}
use Rattle.std.specs.Prelude.{Contains, count_by, flat_map}
use Rattle.std.specs.List.{list_any, zip}
use Rattle.std.specs.Option.{option_and_then}
use Rattle.std.proofs.lemmas.Bool.{eq-eqb, eqb-true}
use Rattle.std.proofs.lemmas.List.Elements.{Contains-get_or}
use Rattle.std.proofs.lemmas.List.Folds.{list_any_at}
use Rattle.std.proofs.lemmas.List.Sums.{count_by-le-length}
use Rattle.std.proofs.lemmas.Slice.Zip.{get_or-zip, length-zip}
use Rattle.ng_plan.specs.Sound.{op_of_log}
use Rattle.ng_post.specs.Ends.{is_of}
use Rattle.ng_post.specs.Letters.{Pair}
use Rattle.ng_terms.specs.declared.plan.Op.{Op}
use Rattle.ng_terms.specs.declared.plan.Op.TheVariants.{Make}
use Rattle.ng_terms.specs.declared.plan.Origin.{Origin}
use Rattle.ng_terms.specs.declared.plan.Origin.TheVariants.{Claim}
use Rattle.ng_terms.specs.declared.reply.Reply.{Reply}
use Rattle.ng_terms.specs.declared.reply.Reply.TheVariants.{Absent}
use Rattle.ng_terms.specs.Calls.{handed_as, origin_of, standing}
use Rattle.ng_replay.specs.Works.{claimed_by, collected_as, collected_for, posted_for, posted_of}
use Rattle.ng_replay.proofs.FlatLemmas.{Contains-flat_map, IsFound, Passes, count-once, count-some, find-there, flat_map-place, map-place}
use Rattle.ng_replay.proofs.FoundLemmas.{zip-Contains}
use Rattle.ng_replay.proofs.RowLemmas.{get_or-there}

-- ---- one log
-- what stands for an op was posted under its number
pub posted-there : (ops : List Op) (row : List Reply) (i number : ℕ) → i < length ops → i < length row → handed_as (op_of_log ops i) ≡ Some number
    → Contains (posted_of ops row) (number, standing (get_or row i Absent))
posted-there ops row i number inside within given =
    let done : Op × Reply = (op_of_log ops i, get_or row i Absent) in
    let pair : Pair = (number, standing (get_or row i Absent)) in
    Contains-flat_map (λ (d : Op × Reply). posted_for (handed_as d.0) (standing d.1)) (zip ops row) done pair (zip-Contains ops row (Make 0 0 None) Absent i inside within)
    (subst (λ (g : Option ℕ). Contains (posted_for g (standing (get_or row i Absent))) pair) (sym given) (0, omega arith, refl))

-- the op of what was posted under a number hands off under it
hands-off : (given block : Option ℕ) (number : ℕ) → 0 < count_by (is_of number) (posted_for given block) → given ≡ Some number
hands-off None block number some = absurd (omega arith)
hands-off (Some other) block number some =
    let one : Passes (is_of number) ((other, block) ∷ []) = count-some (is_of number) ((other, block) ∷ []) some in
    at_one one.there (eqb-true one.one.0 number one.passes)
  where
    at_one : {pair : Pair} → Contains ((other, block) ∷ []) pair → pair.0 ≡ number → Some other ≡ Some number
    at_one (zero, below, is) same = ap Some (ap (λ (p : Pair). p.0) is ∙ same)
    at_one (suc k, below, is) same = absurd (omega arith)

few-posted : (given block : Option ℕ) (number : ℕ) → count_by (is_of number) (posted_for given block) ≤ 1
few-posted None block number = omega arith
few-posted (Some other) block number = count_by-le-length (is_of number) ((other, block) ∷ [])

-- a number that was posted is that of an op
pub posted-place : (ops : List Op) (row : List Reply) (number : ℕ) → 0 < count_by (is_of number) (posted_of ops row)
    → (i : ℕ) × (i < length ops) × (handed_as (op_of_log ops i) ≡ Some number)
posted-place ops row number some =
    let one : Passes (is_of number) (posted_of ops row) = count-some (is_of number) (posted_of ops row) some in
    let (i, below, there) = flat_map-place (λ (d : Op × Reply). posted_for (handed_as d.0) (standing d.1)) (zip ops row) (Make 0 0 None, Absent) one.one one.there in
    let inside : i < length ops = omega (arith, length-zip ops row) in
    let within : i < length row = omega (arith, length-zip ops row) in
    let at : get_or (zip ops row) i (Make 0 0 None, Absent) ≡ (op_of_log ops i, get_or row i Absent) = get_or-zip ops row i (Make 0 0 None, Absent) inside within in (
      i,
      inside,
      is_given (handed_as (op_of_log ops i)) (standing (get_or row i Absent)) one.one
          (subst (λ (d : Op × Reply). Contains (posted_for (handed_as d.0) (standing d.1)) one.one) at there) (eqb-true one.one.0 number one.passes),
    )
  where
    is_given : (given block : Option ℕ) (pair : Pair) → Contains (posted_for given block) pair → pair.0 ≡ number → given ≡ Some number
    is_given None block pair (k, below, is) same = absurd (omega arith)
    is_given (Some other) block pair (zero, below, is) same = ap Some (ap (λ (p : Pair). p.0) is ∙ same)
    is_given (Some other) block pair (suc k, below, is) same = absurd (omega arith)

-- no number was posted twice where one op at most hands off under it
pub posted-once : (ops : List Op) (row : List Reply) (number : ℕ)
    → ((i j : ℕ) → i < length ops → j < length ops → handed_as (op_of_log ops i) ≡ Some number → handed_as (op_of_log ops j) ≡ Some number → i ≡ j)
    → count_by (is_of number) (posted_of ops row) ≤ 1
posted-once ops row number once =
    count-once (is_of number) (λ (d : Op × Reply). posted_for (handed_as d.0) (standing d.1)) (zip ops row)
    (λ i d below. few-posted (handed_as (get_or (zip ops row) i d).0) (standing (get_or (zip ops row) i d).1) number)
    (λ i j d first second a b. once i j (omega (arith, length-zip ops row)) (omega (arith, length-zip ops row)) (at i d first a) (at j d second b))
  where
    at : (i : ℕ) (d : Op × Reply) → i < length (zip ops row)
        → 0 < count_by (is_of number) (posted_for (handed_as (get_or (zip ops row) i d).0) (standing (get_or (zip ops row) i d).1)) → handed_as (op_of_log ops i) ≡ Some number
    at i d below some =
        let inside : i < length ops = omega (arith, length-zip ops row) in
        let within : i < length row = omega (arith, length-zip ops row) in
        let is : get_or (zip ops row) i d ≡ (get_or ops i d.0, get_or row i d.1) = get_or-zip ops row i d inside within in
        ap handed_as (get_or-there ops i (Make 0 0 None) d.0 inside) ∙ sym (ap (λ (x : Op × Reply). handed_as x.0) is)
        ∙ hands-off (handed_as (get_or (zip ops row) i d).0) (standing (get_or (zip ops row) i d).1) number some

-- a claimed number was collected
pub claimed-there : (ops : List Op) (i number : ℕ) → i < length ops → origin_of (op_of_log ops i) ≡ Claim number → Contains (flat_map claimed_by ops) number
claimed-there ops i number inside is =
    Contains-flat_map claimed_by ops (op_of_log ops i) number (Contains-get_or ops i (Make 0 0 None) inside)
    (subst (λ (o : Origin). Contains (map (λ (pair : Pair). pair.0) (collected_for o None)) number) (sym is) (0, omega arith, refl))

-- and what was collected stands beside it
pub collected-there : (got : List Pair) (number : ℕ) → Contains (map (λ (pair : Pair). pair.0) got) number → Contains got (number, collected_as got number)
collected-there got number there =
    let (pair, at, same) = map-place (λ (p : Pair). p.0) got number there in
    let one : IsFound (is_of number) got = find-there (is_of number) got pair at (eq-eqb pair.0 number same) in
    let named : one.first.0 ≡ number = eqb-true one.first.0 number one.passes in
    let taken : one.first.1 ≡ collected_as got number = sym (ap (option_and_then (λ (p : Pair). p.1)) one.found) in
    subst (λ (t : Option ℕ). Contains got (number, t)) taken (subst (λ (n : ℕ). Contains got (n, one.first.1)) named one.there)

pub collected-any : (got : List Pair) (number : ℕ) → Contains (map (λ (pair : Pair). pair.0) got) number → list_any (is_of number) got ≡ true
collected-any got number there =
    let (pair, (i, below, is), same) = map-place (λ (p : Pair). p.0) got number there in
    list_any_at (is_of number) got i pair below (ap (is_of number) is ∙ eq-eqb pair.0 number same)
