use Rattle.std.proofs.Common.{◌≡◌, ◌≤◌, ◌+◌, ◌*◌, ◌++◌, take, vec_len}
use Rattle.std.specs.Prelude.{vec_capacity}
use Rattle.ng_drill.specs.Lines.{transcript}
use Rattle.ng_drill.proofs.lines.render.Given as goal

abbrev pub invariant-loop-answer : goal.invariant-loop-answer
invariant-loop-answer l =
    (l.text.items ≡ l.initial.text.items ++ transcript (take l.answer-index l.answers))
    × (vec_len l.text ≤ vec_len l.initial.text + 32 * l.answer-index) × (vec_capacity l.initial.text ≤ vec_capacity l.text)
