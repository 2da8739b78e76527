-- The first two checks of a pointer.
use Rattle.std.proofs.Common.{◌≡◌, ◌≢◌, ◌⊎◌, ℕ, ◌*◌, ◌%◌, ◌<◌, ◌≤◌, Bool, true, false, List, [], ◌∷◌, drop, refl, sym, ap, ◌∙◌, subst, inl, inr, ⊎_elim, arith}
use Rattle.std.proofs.lemmas.Bool.{cases_eq, cases_lt}
use Rattle.std.proofs.lemmas.Bool.Decides.{nat_tests}
use Rattle.std.specs.Option.{option_and_then}
use Rattle.std.specs.Prelude.{Option, Some, None, Result, Ok, Err, ◌↔◌, not, if◌then◌else◌, nat_lt, nat_le, ◌||◌, ◌==◌}
use Rattle.ng_check.specs.Checks.{check, first_of, misaligned, outside, tests}
use Rattle.ng_check.specs.Queries.{Query}
use Rattle.ng_check.specs.declared.fault.PointerFault.{PointerFault}
use Rattle.ng_check.specs.declared.fault.PointerFault.TheVariants as pointer
use Rattle.ng_drill.specs.Steps.{IsOutside, RefusesAt}
use Rattle.ng_drill.specs.declared.answer.AtFault.TheVariants.{Bad, NotHeld}
use Rattle.ng_drill.specs.declared.answer.Freed.TheVariants as freed

-- none of the checks is for this fault
abbrev Avoids : PointerFault → List (PointerFault × (Query → Option Bool)) → Type 0
Avoids fault [] = Unit {0}
Avoids fault (t ∷ ts) = (t.0 ≢ fault) × Avoids fault ts

-- so it isn't the first that fails
not_first : (ts : List (PointerFault × (Query → Option Bool))) (q : Query) (fault : PointerFault) → Avoids fault ts → first_of ts q ≡ Some (Some fault) → ⊥
unfolding first_of
not_first [] q fault none is = cc
not_first (t ∷ ts) q fault none is = by_test (t.1 q) refl (not_first ts q fault none.1)
  where
    by_test : (o : Option Bool) → t.1 q ≡ o → (first_of ts q ≡ Some (Some fault) → ⊥) → ⊥
    by_test None no_cell ih = let e : None ≡ Some (Some fault) = sym (ap (option_and_then (λ fails. if fails then Some (Some t.0) else first_of ts q)) no_cell) ∙ is in cc
    by_test (Some true) fails ih =
        let e : Some (Some t.0) ≡ Some (Some fault) = sym (ap (option_and_then (λ fails. if fails then Some (Some t.0) else first_of ts q)) fails) ∙ is in
        let same : t.0 ≡ fault = cc in none.0 same
    by_test (Some false) passes ih = ih (sym (ap (option_and_then (λ fails. if fails then Some (Some t.0) else first_of ts q)) passes) ∙ is)

-- a first check that fails is the answer, and one that passes leaves it to the others
first_fails : (t : PointerFault × (Query → Option Bool)) (ts : List (PointerFault × (Query → Option Bool))) (q : Query) → t.1 q ≡ Some true → first_of (t ∷ ts) q ≡ Some (Some t.0)
unfolding first_of
first_fails t ts q fails = ap (option_and_then (λ fails. if fails then Some (Some t.0) else first_of ts q)) fails

first_passes : (t : PointerFault × (Query → Option Bool)) (ts : List (PointerFault × (Query → Option Bool))) (q : Query) → t.1 q ≡ Some false → first_of (t ∷ ts) q ≡ first_of ts q
unfolding first_of
first_passes t ts q passes = ap (option_and_then (λ fails. if fails then Some (Some t.0) else first_of ts q)) passes

-- what the two tests say
is_misaligned : (q : Query) → q.addr % 16 ≢ 0 → misaligned q ≡ Some true
unfolding misaligned
is_misaligned q odd = ap (λ b. Some b) (grind (arith, nat_tests))

is_aligned : (q : Query) → q.addr % 16 ≡ 0 → misaligned q ≡ Some false
unfolding misaligned
is_aligned q whole = ap (λ b. Some b) (grind (arith, nat_tests))

is_outside : (q : Query) → IsOutside q.pages q.addr → outside q ≡ Some true
unfolding outside
is_outside q out = ap (λ b. Some b) (grind (arith, nat_tests))

is_inside : (q : Query) → 4096 ≤ q.addr → q.addr < 4096 * q.pages → outside q ≡ Some false
unfolding outside
is_inside q low high = ap (λ b. Some b) (grind (arith, nat_tests))

-- the first check is the answer exactly where it fails
pub first_misaligned : (q : Query) (o : Option PointerFault) → check q ≡ Some o → (o ≡ Some pointer.Misaligned) ↔ (q.addr % 16 ≢ 0)
first_misaligned q o is = (
  (λ same whole. not_first (drop 1 tests) q pointer.Misaligned avoids (sym (first_passes (pointer.Misaligned, misaligned) (drop 1 tests) q (is_aligned q whole)) ∙ is ∙ ap (λ a. Some a) same)),
  (λ odd. let e : Some o ≡ Some (Some pointer.Misaligned) = sym is ∙ first_fails (pointer.Misaligned, misaligned) (drop 1 tests) q (is_misaligned q odd) in cc),
)
  where
    avoids : Avoids pointer.Misaligned (drop 1 tests)
    avoids = ((λ e. cc), ((λ e. cc), ((λ e. cc), ((λ e. cc), ((λ e. cc), ((λ e. cc), ((λ e. cc), ((λ e. cc), ((λ e. cc), ((λ e. cc), ((λ e. cc), ((λ e. cc), ((λ e. cc), tt)))))))))))))

-- and the second where the first passes and it fails
pub second_outside : (q : Query) (o : Option PointerFault) → check q ≡ Some o → (o ≡ Some pointer.Outside) ↔ ((q.addr % 16 ≡ 0) × IsOutside q.pages q.addr)
second_outside q o is = (
  (λ same. ⊎_elim
      (λ (whole : q.addr % 16 ≡ 0). (whole, by_range whole same))
      (λ (odd : q.addr % 16 ≢ 0). absurd (let e : Some o ≡ Some (Some pointer.Misaligned) = sym is ∙ first_fails (pointer.Misaligned, misaligned) (drop 1 tests) q (is_misaligned q odd) in cc))
      (cases_eq (q.addr % 16) 0)),
  (λ out. let e : Some o ≡ Some (Some pointer.Outside) = sym is ∙ first_passes (pointer.Misaligned, misaligned) (drop 1 tests) q (is_aligned q out.0)
      ∙ first_fails (pointer.Outside, outside) (drop 2 tests) q (is_outside q out.1) in cc),
)
  where
    avoids : Avoids pointer.Outside (drop 2 tests)
    avoids = ((λ e. cc), ((λ e. cc), ((λ e. cc), ((λ e. cc), ((λ e. cc), ((λ e. cc), ((λ e. cc), ((λ e. cc), ((λ e. cc), ((λ e. cc), ((λ e. cc), ((λ e. cc), tt))))))))))))

    inside : q.addr % 16 ≡ 0 → o ≡ Some pointer.Outside → 4096 ≤ q.addr → q.addr < 4096 * q.pages → ⊥
    inside whole same low high = not_first (drop 2 tests) q pointer.Outside avoids
        (sym (first_passes (pointer.Misaligned, misaligned) (drop 1 tests) q (is_aligned q whole) ∙ first_passes (pointer.Outside, outside) (drop 2 tests) q (is_inside q low high)) ∙ is ∙ ap (λ a. Some a) same)

    by_range : q.addr % 16 ≡ 0 → o ≡ Some pointer.Outside → IsOutside q.pages q.addr
    by_range whole same = ⊎_elim
        (λ (low : q.addr < 4096). inl low)
        (λ (above : 4096 ≤ q.addr). ⊎_elim
        (λ (high : q.addr < 4096 * q.pages). absurd (inside whole same above high))
        (λ (over : 4096 * q.pages ≤ q.addr). inr over)
        (cases_lt q.addr (4096 * q.pages)))
        (cases_lt q.addr 4096)

-- ---- a refusal
-- the answer for an address that failed a check, and for one that passed each
pub refuses_bad : (q : Query) (fault : PointerFault) → check q ≡ Some (Some fault) → RefusesAt q.pages q.addr (freed.Refused (Bad fault))
refuses_bad q fault is =
    let first = first_misaligned q (Some fault) is in
    let second = second_outside q (Some fault) is in record {
      fault = Bad fault;
      refused = refl;
      misaligned = ((λ e. let same : fault ≡ pointer.Misaligned = cc in first.0 (ap (λ f. Some f) same)), (λ odd. let e = first.1 odd in let same : fault ≡ pointer.Misaligned = cc in ap (λ f. Bad f) same));
      outside = ((λ e. let same : fault ≡ pointer.Outside = cc in second.0 (ap (λ f. Some f) same)), (λ out. let e = second.1 out in let same : fault ≡ pointer.Outside = cc in ap (λ f. Bad f) same));
    }

pub refuses_not_held : (q : Query) → check q ≡ Some None → RefusesAt q.pages q.addr (freed.Refused NotHeld)
refuses_not_held q is =
    let first = first_misaligned q None is in
    let second = second_outside q None is in record {
      fault = NotHeld;
      refused = refl;
      misaligned = ((λ e. absurd (cc)), (λ odd. absurd (let e = first.1 odd in cc)));
      outside = ((λ e. absurd (cc)), (λ out. absurd (let e = second.1 out in cc)));
    }
