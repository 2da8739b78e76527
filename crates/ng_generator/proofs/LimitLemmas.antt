-- There are four logs, and each step gives one of them a line.
use Rattle.std.proofs.Common.{◌≡◌, ℕ, zero, suc, ◌+◌, ◌*◌, ◌%◌, ◌<◌, map, List, [], ◌∷◌, ◌++◌, true, false, cond, length, get_or, refl, sym, ap, ◌∙◌, arith, length-append}
use Rattle.std.specs.Prelude.{sum_by}
use Rattle.std.proofs.lemmas.List.{length-map, length-set}
use Rattle.std.proofs.lemmas.List.Sums.{sum_by-set}
use Rattle.ng_mtrace.specs.declared.log.Line.{Line}
use Rattle.ng_mtrace.specs.declared.log.Logs.{Logs}
use Rattle.ng_mtrace.specs.Reads.{IsWithinLimits}
use Rattle.ng_generator.specs.Generated.{State, drawn, next, list_at, put_at, is_end, end_step, make_step, log_step, step, after, made}
use Rattle.ng_generator.proofs.StepLemmas.{made_after}

-- four logs have this many lines in all
pub record HaveLines (logs : List (List Line)) (count : ℕ) : Type 0 where
  pub four : length logs ≡ 4
  pub total : sum_by length logs ≡ count

put_line : (logs : List (List Line)) (count at : ℕ) (line : Line) → at < 4 → HaveLines logs count → HaveLines (put_at logs at line) (suc count)
put_line logs count at line within have =
    let inside : at < length logs = omega arith in
    let more : length (get_or logs at [] ++ line ∷ []) ≡ length (get_or logs at []) + 1 = length-append (get_or logs at []) (line ∷ []) in
    record {
      four = omega (arith, length-set logs at (get_or logs at [] ++ line ∷ []));
      total = omega (arith, more, sum_by-set length logs at (get_or logs at [] ++ line ∷ []) [] inside);
    }

log_line : (old : State) (count log name : ℕ) → log < 4 → HaveLines old.lines count → HaveLines (State.lines (log_step old log name)) (suc count)
log_line old count log name within have =
    elim (is_end (list_at old.live log) (drawn old.x)) as (λ ends. HaveLines (State.lines (cond ends (end_step (record old { x = next old.x }) log) (make_step (record old { x = next old.x }) log name))) (suc count)) [
      | true ↦ put_line old.lines count log _ within have
      | false ↦ put_line old.lines count log _ within have
    ]

step_line : (old : State) (count s : ℕ) → HaveLines old.lines count → HaveLines (State.lines (step old s)) (suc count)
unfolding step
step_line old count s have = log_line old count (s % 4) (16 * (s + 1)) (omega arith) have

pub after_lines : (seed steps : ℕ) → HaveLines (State.lines (after seed steps)) steps
unfolding after
after_lines seed zero = record { four = refl; total = refl }
after_lines seed (suc steps) = step_line (after seed steps) steps steps (after_lines seed steps)

pub made_lines : (seed : ℕ) → HaveLines (made seed) 8000
made_lines seed = rw (made_after seed) at (after_lines seed 8000)

pub within_limits : (logs : Logs) (seed : ℕ) → map (λ log. log.lines) logs.logs ≡ made seed → IsWithinLimits logs
within_limits logs seed same =
    let have : HaveLines (made seed) 8000 = made_lines seed in
    let four : length logs.logs ≡ length (made seed) = sym (length-map logs.logs (λ log. log.lines)) ∙ ap length same in
    let total : sum_by length (map (λ log. log.lines) logs.logs) ≡ sum_by length (made seed) = ap (sum_by length) same in
    record { some = omega arith; few = omega arith; short = omega arith }
