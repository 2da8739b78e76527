-- Made logs. Each step draws numbers, and gives one of four logs a line.
use Rattle.std.specs.Prelude.{ℕ, zero, suc, ◌+◌, ◌*◌, ◌/◌, ◌%◌, ◌^◌, ◌==◌, ◌&&◌, Bool, not, cond, List, [], ◌∷◌, ◌++◌, length, slice_index, slice_index_or, slice_set}
use Rattle.std.specs.List.{remove}
use Rattle.ng_mtrace.specs.declared.log.Line.{Line}
use Rattle.ng_mtrace.specs.declared.log.Line.TheVariants.{Make, End}

-- the state of the draws, the lines of each log, and the live names of each log
pub record State : Type 0 where
  pub x : ℕ
  pub lines : List (List Line)
  pub live : List (List ℕ)

-- what a draw sets x to
unfoldable pub next : ℕ → ℕ
next x = (x * 6364136223846793005 + 1442695040888963407) % 2 ^ 64

-- what a draw gives
abbrev pub drawn : ℕ → ℕ
drawn x = next x / 2 ^ 33

-- the list at a place
abbrev pub list_at : {A : Type 0} → List (List A) → ℕ → List A
list_at lists at = slice_index_or lists at []

-- lists with an item put at the end of one of them
abbrev pub put_at : {A : Type 0} → List (List A) → ℕ → A → List (List A)
put_at lists at item = slice_set lists at (list_at lists at ++ item ∷ [])

-- the End of the name at a place among the live names of a log
abbrev pub ends_at : State → ℕ → ℕ → State
ends_at old log place = record {
  x = old.x;
  lines = put_at old.lines log (End (slice_index (list_at old.live log) place));
  live = slice_set old.live log (remove (list_at old.live log) place);
}

-- a draw for the place of a live name of a log, and its End
abbrev pub end_step : State → ℕ → State
end_step old log =
    ends_at (record old { x = next old.x }) log (drawn old.x % length (list_at old.live log))

-- the log that keeps a name that a log makes, by a draw
abbrev pub keeper : ℕ → ℕ → ℕ
keeper log draw = cond (draw % 8 == 0) ((log + 1) % 4) log

-- a draw for the size of a block that a log makes, and a draw for the log that keeps the name
abbrev pub make_step : State → ℕ → ℕ → State
make_step old log name = record {
  x = next (next old.x);
  lines = put_at old.lines log (Make name (drawn old.x % 1024));
  live = put_at old.live (keeper log (drawn (next old.x))) name;
}

-- whether a log ends a name, where it has live ones, by a draw
abbrev pub is_end : List ℕ → ℕ → Bool
is_end names draw = not (length names == 0) && draw % 3 == 0

-- one step of a log: a draw for what it does, and what it does
abbrev pub log_step : State → ℕ → ℕ → State
log_step old log name = cond (is_end (list_at old.live log) (drawn old.x))
    (end_step (record old { x = next old.x }) log)
    (make_step (record old { x = next old.x }) log name)

-- the step of this number, counted from 0
unfoldable pub step : State → ℕ → State
step old s = log_step old (s % 4) (16 * (s + 1))

-- the start
abbrev pub start : ℕ → State
start seed = record {
  x = seed;
  lines = [] ∷ [] ∷ [] ∷ [] ∷ [];
  live = [] ∷ [] ∷ [] ∷ [] ∷ [];
}

-- the state after this many steps
unfoldable pub after : ℕ → ℕ → State
after seed zero = start seed
after seed (suc steps) = step (after seed steps) steps

-- the lines of the four logs that a seed makes
unfoldable pub made : ℕ → List (List Line)
made seed = State.lines (after seed 8000)
