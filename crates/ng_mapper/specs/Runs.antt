-- Runs of pages, and how they lie in a space.
use Rattle.std.specs.Prelude.{◌≡◌, ℕ, ◌+◌, ◌*◌, ◌%◌, ◌≤◌, ◌⊎◌, List, ◌∷◌, IsPermutation}

-- the address at which a run begins, in bytes, and its pages
abbrev pub Run : Type 0
Run = ℕ × ℕ

-- the address behind a run's last byte
abbrev pub run_end : Run → ℕ
run_end run = run.0 + 4096 * run.1

-- no byte lies in both
abbrev pub AreApart : Run → Run → Type 0
AreApart a b = (run_end a ≤ b.0) ⊎ (run_end b ≤ a.0)

-- a run of whole pages, one or more, between two bounds
pub record LiesIn (lower upper : ℕ) (run : Run) : Type 0 where
  pub aligned : run.0 % 4096 ≡ 0
  pub above : lower ≤ run.0
  pub below : run_end run ≤ upper
  pub some : 1 ≤ run.1

-- the runs are those of before and this one, in any order
abbrev pub AddsRun : List Run → List Run → Run → Type 0
AddsRun before now run = IsPermutation (run ∷ before) now

-- the runs are those of before without this one, in any order
abbrev pub RemovesRun : List Run → List Run → Run → Type 0
RemovesRun before now run = IsPermutation before (run ∷ now)
