use Rattle.std.proofs.Common.{◌≡◌, ◌+◌, ◌*◌, ◌<◌, ◌≤◌, ap, sym, subst, ◌∙◌, arith}
use Rattle.std.specs.Prelude.{Some}
use Rattle.ng_class.specs.Slot.{end_at, start_at}
use Rattle.ng_check.proofs.Ends.{base_past, longer_past, past_end, same_step, step_of, unknown_class, within_space}
use Rattle.ng_check.proofs.ending.bounds_of.Goals.{then-not-is_known_class-via-then-not-is_known_class, then-not-is_known_class-via-else-not-is_known_class+then-base-bytes, then-not-is_known_class-via-else-not-is_known_class+else-base-bytes+then-is_longer}
use Rattle.ng_check.proofs.ending.bounds_of.Goals as goal

pub returns-then-not-is_known_class : goal.returns-then-not-is_known_class
returns-then-not-is_known_class c =
    let a = c.args in
    let is = c.from-bytes.ensures in
    elim c.then-not-is_known_class.branch [
      | then-not-is_known_class-via-then-not-is_known_class w ↦ sym (unknown_class a.pages a.base a.index a.fields (sym c.is_known_class.ensures ∙ w.if-not-is_known_class.true))
      | then-not-is_known_class-via-else-not-is_known_class+then-base-bytes w ↦
          sym (past_end a.pages a.base a.index a.fields (base_past a.pages a.base a.index a.fields (let high = w.if-base-bytes.true in omega (arith, is, high))))
      | then-not-is_known_class-via-else-not-is_known_class+else-base-bytes+then-is_longer w ↦
          sym (past_end a.pages a.base a.index a.fields (longer_past a.pages a.base a.index a.fields (sym w.is_longer.ensures ∙ w.if-is_longer.true)))
    ]

pub returns-then-end-bytes : goal.returns-then-end-bytes
returns-then-end-bytes c =
    let a = c.args in
    let step : c.stride-stride.result ≡ step_of a.fields = c.stride-stride.ensures.value ∙ same_step a.pages c.min.result a.fields (sym c.is_longer.ensures ∙ c.if-is_longer.false) c.requires.pages c.min.ensures in
    let start = c.slot_start-start.ensures ∙ ap (λ s. start_at (a.base + 16) s a.index) step in
    let end = c.slot_end-end.ensures ∙ ap (λ s. end_at (a.base + 16) s a.index) step in
    let is = c.from-bytes.ensures in
    let below = c.if-end-bytes.true in
    (λ k. Some (record { start = start k; end = end k }))
    ∙ sym (within_space a.pages a.base a.index a.fields (sym c.is_known_class.ensures ∙ c.if-not-is_known_class.false) (subst (λ n. n < 4096 * a.pages) end (omega (arith, is, below))))

pub returns-else-end-bytes : goal.returns-else-end-bytes
returns-else-end-bytes c =
    let a = c.args in
    let step : c.stride-stride.result ≡ step_of a.fields = c.stride-stride.ensures.value ∙ same_step a.pages c.min.result a.fields (sym c.is_longer.ensures ∙ c.if-is_longer.false) c.requires.pages c.min.ensures in
    let end = c.slot_end-end.ensures ∙ ap (λ s. end_at (a.base + 16) s a.index) step in
    let is = c.from-bytes.ensures in
    let high = c.if-end-bytes.false in
    sym (past_end a.pages a.base a.index a.fields (subst (λ n. 4096 * a.pages ≤ n) end (omega (arith, is, high))))
