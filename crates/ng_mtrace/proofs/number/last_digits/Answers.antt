use Rattle.std.proofs.Common.{◌≡◌, ℕ, ◌+◌, ◌-◌, ◌<◌, length, refl, ◌∙◌, arith}
use Rattle.ng_mtrace.proofs.DigitsFromEnd.{AreDigitsFrom-more, scale_is, scale-next, small-next, power_top}
use Rattle.ng_mtrace.proofs.number.last_digits.Goals as goal

pub overflow_mul-value : goal.overflow_mul-value
overflow_mul-value c =
    let l = c.loop-start in
    let n : ℕ = length c.args.text.now - l.start in
    let few : n < 16 = omega arith in
    let is = scale_is n l.scale few l.invariant.scaled in
    let small : c.from.result < 16 = omega (arith, c.in-Some.ensures.small) in
    omega (arith, small-next l.value c.from.result l.scale n l.invariant.small small is, power_top n few)

pub overflow_add-value : goal.overflow_add-value
overflow_add-value c =
    let l = c.loop-start in
    let n : ℕ = length c.args.text.now - l.start in
    let few : n < 16 = omega arith in
    let is = scale_is n l.scale few l.invariant.scaled in
    let small : c.from.result < 16 = omega (arith, c.in-Some.ensures.small) in
    omega (arith, small-next l.value c.from.result l.scale n l.invariant.small small is, power_top n few)

pub loop-start-preserved : goal.loop-start-preserved
loop-start-preserved c =
    let l = c.loop-start in
    let text = c.args.text.now in
    let n : ℕ = length text - l.start in
    let few : n < 16 = omega arith in
    let next : length text - (l.start - 1) ≡ n + 1 = omega (arith, l.invariant.read.within) in
    let small : c.from.result < 16 = omega (arith, c.in-Some.ensures.small) in
    let is = scale_is n l.scale few l.invariant.scaled in
    record {
      read = AreDigitsFrom-more l.start text l.value c.from.result l.scale (omega arith) l.invariant.read (c.from.ensures ∙ c.in-Some.ensures.value) small (omega arith) is;
      above = omega arith;
      small = rw next (small-next l.value c.from.result l.scale n l.invariant.small small is);
      scaled = rw next (scale-next n l.scale _ few is refl);
    }
