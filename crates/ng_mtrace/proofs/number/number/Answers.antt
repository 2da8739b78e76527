use Rattle.std.proofs.Common.{◌≡◌, ◌<◌, sym, ◌∙◌, arith, length, inl, inr}
use Rattle.std.proofs.lemmas.Bool.{eqb-true}
use Rattle.ng_mtrace.proofs.Digits.{some_if, take_whole, none_by_length, none_by_digit, number_is, all_more, power, power_next}
use Rattle.std.proofs.lemmas.Int.Digits.{digits_value_more}
use Rattle.ng_mtrace.proofs.number.number.Goals as goal
use Rattle.ng_mtrace.proofs.number.number.Goals.{then-is_empty-via-then-is_empty, then-is_empty-via-else-is_empty+then-digits-gt16}

pub returns-then-is_empty : goal.returns-then-is_empty
returns-then-is_empty c = none_by_length c.args.digits.now (elim c.then-is_empty.branch [ then-is_empty-via-then-is_empty w ↦ inl (eqb-true (length c.args.digits.now) 0 (sym c.is_empty.ensures ∙ w.if-is_empty.true)) | then-is_empty-via-else-is_empty+then-digits-gt16 w ↦ inr (omega arith) ])

pub returns-in_default : goal.returns-in_default
returns-in_default c = none_by_digit c.args.digits.now c.loop-byte.byte-index (omega arith) c.in_default.ensures.value

pub overflow_mul-value : goal.overflow_mul-value
overflow_mul-value c = omega (arith, c.loop-byte.invariant.small, power c.loop-byte.byte-index (omega arith))

pub overflow_add-value : goal.overflow_add-value
overflow_add-value c = omega (arith, c.loop-byte.invariant.small, power c.loop-byte.byte-index (omega arith), c.in-Some.ensures.small)

pub loop-byte-preserved : goal.loop-byte-preserved
loop-byte-preserved c =
    let small = c.in-Some.ensures.small in
    let value = c.in-Some.ensures.value in
    record {
      digits = all_more c.args.digits.now c.loop-byte.byte-index (omega arith) c.loop-byte.invariant.digits (omega (arith, small, value));
      value = grind (arith, digits_value_more 16 c.args.digits.now c.loop-byte.byte-index (omega arith), c.loop-byte.invariant.value, value, c.from.ensures);
      small = omega (arith, c.loop-byte.invariant.small, power_next c.loop-byte.byte-index, small);
    }

pub returns : goal.returns
returns c =
    let n = c.loop-byte.byte-index in
    let digits = c.args.digits.now in
    let end : n ≡ length digits = omega arith in
    let some : 0 < length digits = some_if (length digits) (sym c.is_empty.ensures ∙ c.if-is_empty.false) in
    let all = rw (take_whole digits n (omega arith)) at c.loop-byte.invariant.digits in
    let value = rw (take_whole digits n (omega arith)) at c.loop-byte.invariant.value in
    rw value (number_is digits some (omega arith) all)
