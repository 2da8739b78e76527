-- What the lock's seat comes to know by loads alone.
use Rattle.std.specs.Prelude.{◌≡◌, ◌⊎◌, ℕ, ◌+◌, ◌%◌, ◌^◌, List, ◌++◌}
use Rattle.ng_view.specs.Lists.{Among}
use Rattle.ng_view.specs.declared.view.View.{View}

-- words were read, and else the view is as it was
pub record Reads (v w : View) : Type 0 where
  pub words : List (ℕ × ℕ)
  pub view : w ≡ record v { readings = v.readings ++ words }

-- the view with other notes of masks, and these readings more
abbrev pub with_notes : View → View → List (ℕ × ℕ) → View
with_notes v w words = record v {
  desk = record v.desk { zero_avail = w.desk.zero_avail; zero_freed = w.desk.zero_freed; set_freed = w.desk.set_freed };
  readings = v.readings ++ words;
}

-- these words were read, and more is noted of masks: all that was noted still is
pub record NotesBy (v : View) (words : List (ℕ × ℕ)) (w : View) : Type 0 where
  pub view : w ≡ with_notes v w words
  pub zero_avail : (m : ℕ) → Among m v.desk.zero_avail → Among m w.desk.zero_avail
  pub zero_freed : (m : ℕ) → Among m v.desk.zero_freed → Among m w.desk.zero_freed
  pub set_freed : (b : ℕ × ℕ) → Among b v.desk.set_freed → Among b w.desk.set_freed

-- some words were
pub record Notes (v w : View) : Type 0 where
  pub words : List (ℕ × ℕ)
  pub noted : NotesBy v words w

-- both masks of the meta were read to be 0
pub record IsBareIn (words : List (ℕ × ℕ)) (meta : ℕ) : Type 0 where
  pub avail : ℕ
  pub no_avail : avail % 2 ^ 32 ≡ 0
  pub avail_read : Among {A = ℕ × ℕ} (meta + 24, avail) words
  pub freed_read : Among {A = ℕ × ℕ} (meta + 28, 0) words

-- no mask that was read or fetched had a slot: each of these words had a lower half of 0, but for word 0, where no mask is
abbrev pub AllBare : List (ℕ × ℕ) → Type 0
AllBare words = (word : ℕ × ℕ) → Among {A = ℕ × ℕ} word words → (word.0 ≡ 0) ⊎ (word.1 % 2 ^ 32 ≡ 0)
