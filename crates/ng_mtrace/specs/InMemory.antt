-- What contracts see of a source and of a sink in memory.
use Rattle.std.specs.Prelude.{◌+◌, ◌-◌, ◌^◌, ℕ, List, min}

-- the number of the next call, from 1, which stays at its type's last value
abbrev pub next_call : ℕ → ℕ
next_call calls = min (calls + 1) (2 ^ 64 - 1)

-- a source: the bytes left, the most that a read gives, and the calls that fail, by their numbers
pub record Feed : Type 0 where
  pub left : List ℕ
  pub step : ℕ
  pub failing : List ℕ
  pub calls : ℕ
  pub faults : ℕ

-- a sink: the bytes written, the most that it holds, and the calls that fail, by their numbers
pub record Store : Type 0 where
  pub written : List ℕ
  pub room : ℕ
  pub failing : List ℕ
  pub calls : ℕ
  pub faults : ℕ
