-- How often the classes 7 to 38 bounce.
use Rattle.std.specs.Prelude.{◌+◌, ◌-◌, ◌≤◌, ◌==◌, ◌&&◌, ℕ, List, Bool, if◌then◌else◌, nat_lt, nat_le, not, replicate, slice_index, slice_set}

-- the mappings and unmappings so far, counted round; for the classes from 7 on, when each was last
-- stamped, or 0, and how often it bounced
pub record Bounces : Type 0 where
  pub seq : ℕ
  pub last : List ℕ
  pub count : List ℕ

-- the class is one of those that are watched
pub record IsWatched (class : ℕ) : Type 0 where
  pub from : 7 ≤ class
  pub to : class ≤ 38

-- the same, as a test
abbrev pub is_watched : ℕ → Bool
is_watched class = nat_le 7 class && nat_le class 38

-- the stamp of a class, which stands in the list from class 7 on
abbrev pub last_of : Bounces → ℕ → ℕ
last_of bounces class = slice_index bounces.last (class - 7)

-- the count of a class
abbrev pub count_of : Bounces → ℕ → ℕ
count_of bounces class = slice_index bounces.count (class - 7)

-- nothing was stamped or counted
abbrev pub no_bounces : Bounces
no_bounces = record { seq = 0; last = replicate 32 0; count = replicate 32 0 }

-- one mapping or unmapping more: after the 255th the stamps are taken away, and seq goes on from 1
unfoldable pub stepped : Bounces → Bounces
stepped bounces =
    if bounces.seq == 255 then record bounces { seq = 1; last = replicate 32 0 }
    else record bounces { seq = bounces.seq + 1 }

-- the class is stamped with seq
unfoldable pub stamped : Bounces → ℕ → Bounces
stamped bounces class =
    if is_watched class then record bounces { last = slice_set bounces.last (class - 7) bounces.seq }
    else bounces

-- the class was stamped fewer than 10 steps ago
abbrev pub is_recent : Bounces → ℕ → Bool
is_recent bounces class =
    not (last_of bounces class == 0) && nat_lt (bounces.seq - last_of bounces class) 10

-- one more bounce: what would be 100 becomes 150
abbrev pub raised : ℕ → ℕ
raised count = if nat_lt (count + 1) 100 then count + 1 else 150

-- the class bounces if it was stamped recently
unfoldable pub accounted : Bounces → ℕ → Bounces
accounted bounces class =
    if is_watched class && is_recent bounces class
    then record bounces {
      count = slice_set bounces.count (class - 7) (raised (count_of bounces class));
    }
    else bounces

-- one bounce less, if there is any
unfoldable pub decayed : Bounces → ℕ → Bounces
decayed bounces class =
    if is_watched class
    then record bounces { count = slice_set bounces.count (class - 7) (count_of bounces class - 1) }
    else bounces

-- the class is watched and has bounced often
pub record IsBouncing (bounces : Bounces) (class : ℕ) : Type 0 where
  pub watched : IsWatched class
  pub often : 100 ≤ count_of bounces class

-- no class was stamped after the last step
abbrev pub AreStampsPast : List ℕ → ℕ → Type 0
AreStampsPast last seq = (place : ℕ) → slice_index last place ≤ seq
