-- A group that comes to live on a run of its own.
use Rattle.std.specs.Prelude.{◌≡◌, ◌⊎◌, ℕ, ◌+◌, ◌*◌, ◌<◌, ◌≤◌, eqb, cond, ◌∷◌}
use Rattle.ng_view.specs.Conditions.{Sees}
use Rattle.ng_view.specs.Places.{header}
use Rattle.ng_view.specs.Steps.{in_motion}
use Rattle.ng_view.specs.declared.view.Group.{Group}
use Rattle.ng_view.specs.declared.view.View.{View}
use Rattle.ng_build.specs.Cells.{knowing}

-- the view with a live group, which is listed: its slot 0 is in motion, and where no other slot is in
-- use, its avail mask is noted as 0
abbrev pub with_group : View → Group → ℕ → View
with_group v g active = record v {
  held = in_motion g 0 ∷ v.held;
  desk = record v.desk {
    groups = g ∷ v.desk.groups;
    listed = g.meta ∷ v.desk.listed;
    zero_avail = cond (eqb active 0) (g.meta ∷ v.desk.zero_avail) v.desk.zero_avail;
  };
}

-- the header cells of a group's slots, and the one behind the last, are known to be 0
abbrev pub AreHeadersZero : View → Group → Type 0
AreHeadersZero v g = (i : ℕ) → i ≤ g.last + 1 → Sees v (header g i) 0

-- a meta's cells lie before these addresses, or behind them
abbrev pub IsMetaOutside : ℕ → ℕ → ℕ → Type 0
IsMetaOutside meta from to = (meta + 40 ≤ from) ⊎ (to ≤ meta)

-- the group is live: what was known of cells outside its meta and its run still is
pub record PublishesRun (v : View) (g : Group) (active : ℕ) (w : View) : Type 0 where
  pub view : w ≡ knowing (with_group v g active) w.desk.cells v.readings
  pub kept : (b x : ℕ) → (b < g.meta) ⊎ (g.meta + 40 ≤ b)
      → (b < g.base) ⊎ (g.base + 4096 * g.maplen ≤ b) → Sees v b x → Sees w b x
