use Rattle.std.proofs.Common.{◌<◌, ◌*◌, ℕ, sym, ap, ◌∙◌, arith, length}
use Rattle.std.specs.Char.{digit_value}
use Rattle.std.proofs.lemmas.Bool.{eqb-true}
use Rattle.std.proofs.lemmas.Bool.Decides.{nat_tests}
use Rattle.std.proofs.lemmas.Int.Digits.{digits_value_more}
use Rattle.std.proofs.lemmas.List.{take_all}
use Rattle.ng_script.proofs.NumberLemmas.{none_by_length, none_by_digit, none_by_next, number_is, all_more}
use Rattle.ng_script.proofs.value.value.Goals as goal

pub returns-then-is_empty : goal.returns-then-is_empty
returns-then-is_empty c = none_by_length c.args.base c.args.digits.now (eqb-true (length c.args.digits.now) 0 (sym c.is_empty.ensures ∙ c.if-is_empty.true))

pub returns-in_default : goal.returns-in_default
returns-in_default c = none_by_digit c.args.base c.args.digits.now c.loop-byte.byte-index (omega arith) (omega (arith, c.in_default.ensures.value, ap digit_value c.from.ensures))

pub returns-in_default-checked_mul : goal.returns-in_default-checked_mul
returns-in_default-checked_mul c = none_by_next c.args.base c.args.digits.now c.loop-byte.byte-index c.loop-byte.value (omega arith) (omega arith) c.loop-byte.invariant.value (omega (arith, c.in_default-checked_mul.ensures, ap (λ (n : ℕ). c.loop-byte.value * n) c.from-in-loop-byte.ensures))

pub returns-in_default-checked_add : goal.returns-in_default-checked_add
returns-in_default-checked_add c =
    none_by_next c.args.base c.args.digits.now c.loop-byte.byte-index c.loop-byte.value (omega arith) (omega arith) c.loop-byte.invariant.value
    (omega (arith, c.in_default-checked_add.ensures, c.in-Some-checked_mul.ensures, c.in-Some.ensures.value, ap digit_value c.from.ensures, ap (λ (n : ℕ). c.loop-byte.value * n) c.from-in-loop-byte.ensures, c.from-in-loop-byte-2.ensures))

pub loop-byte-preserved : goal.loop-byte-preserved
loop-byte-preserved c =
    let digit = c.in-Some.ensures.value in
    record {
      digits = all_more c.args.base c.args.digits.now c.loop-byte.byte-index (omega arith) c.loop-byte.invariant.digits (omega (arith, digit, ap digit_value c.from.ensures));
      value = grind (arith, digits_value_more c.args.base c.args.digits.now c.loop-byte.byte-index (omega arith), c.loop-byte.invariant.value, digit, ap digit_value c.from.ensures, c.in-Some-checked_mul.ensures, c.in-Some-checked_add.ensures, c.from-in-loop-byte.ensures, c.from-in-loop-byte-2.ensures);
      small = omega (arith, c.in-Some-checked_add.ensures);
    }

pub returns : goal.returns
returns c =
    let n = c.loop-byte.byte-index in
    let digits = c.args.digits.now in
    let some : 0 < length digits = grind (arith, nat_tests, c.is_empty.ensures, c.if-is_empty.false) in
    let all = rw (take_all n digits (omega arith)) at c.loop-byte.invariant.digits in
    let value = rw (take_all n digits (omega arith)) at c.loop-byte.invariant.value in
    rw value (number_is c.args.base digits some all (omega (arith, value, c.loop-byte.invariant.small)))
