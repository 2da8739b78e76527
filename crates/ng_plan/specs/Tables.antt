-- Tables by the numbers of names. No public clause cites this module.
use Rattle.std.specs.Prelude.{ℕ, ◌≡◌, ◌<◌, Bool, false, List, length, Option, Some, None, slice_index, slice_index_or, All, Contains, if◌then◌else◌}
use Rattle.std.specs.Option.{option_map}
use Rattle.ng_mtrace.specs.declared.log.Line.{Line}
use Rattle.ng_mtrace.specs.declared.log.Log.{Log}
use Rattle.ng_plan.specs.declared.step.Step.{Step}
use Rattle.ng_plan.specs.Mentions.{ended, made, is_name, maker, ends_next}

-- the names rise, each once
pub record Rises (names : List ℕ) : Type 0 where
  pub order : (i j : ℕ) → i < j → j < length names → slice_index names i < slice_index names j

-- the names that a line mentions have numbers
pub record IsKnown (names : List ℕ) (line : Line) : Type 0 where
  pub ends : (name : ℕ) → ended line ≡ Some name → Contains names name
  pub makes : (name : ℕ) → made line ≡ Some name → Contains names name

-- the names that a log mentions have numbers
abbrev pub AreKnown : List ℕ → Log → Type 0
AreKnown names log = All (IsKnown names) log.lines

-- of each name the op that made it, where its last mention among these lines makes it
pub record AreMakers (names : List ℕ) (makers : List (Option ℕ)) (before : List Line) : Type 0 where
  pub each : (i : ℕ) → i < length names → slice_index_or makers i None ≡ maker (slice_index names i) before

-- the same, where this line has ended its name and made none yet
pub record AreEnded (names : List ℕ) (makers : List (Option ℕ)) (before : List Line) (line : Line) : Type 0 where
  pub each : (i : ℕ) → i < length names
      → slice_index_or makers i None ≡ (if is_name (slice_index names i) (ended line) then None else maker (slice_index names i) before)

-- of each name whether its next mention among these lines ends it
pub record AreEnding (names : List ℕ) (ending : List Bool) (after : List Line) : Type 0 where
  pub each : (i : ℕ) → i < length names → slice_index_or ending i false ≡ ends_next (slice_index names i) after

-- the same, where this line before them has made its name and ended none yet
pub record AreMade (names : List ℕ) (ending : List Bool) (after : List Line) (line : Line) : Type 0 where
  pub each : (i : ℕ) → i < length names
      → slice_index_or ending i false ≡ (if is_name (slice_index names i) (made line) then false else ends_next (slice_index names i) after)

-- the name of a number
abbrev pub name_at : List ℕ → Option ℕ → Option ℕ
name_at names number = option_map (λ at. slice_index names at) number

-- a step by names, from one by their numbers
abbrev pub named : List ℕ → Step → Step
named names step = record { claims = name_at names step.claims; posts = name_at names step.posts }

-- the numbers of a step are below this count of names
pub record IsNumbered (count : ℕ) (step : Step) : Type 0 where
  pub claims : (at : ℕ) → step.claims ≡ Some at → at < count
  pub posts : (at : ℕ) → step.posts ≡ Some at → at < count
