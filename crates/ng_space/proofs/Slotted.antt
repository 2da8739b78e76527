-- Each slot in the lock's seat is one of a live group.
use Rattle.std.proofs.Common.{◌≡◌, ℕ, ◌/◌, ◌<◌, true, List, sym, subst}
use mathlib.Core.Option.{some}
use lib.ListN.{get_elem?}
use Rattle.ng_view.specs.Lists.{Among}
use Rattle.ng_view.specs.May.{May}
use Rattle.ng_view.specs.Rule.{Rule}
use Rattle.ng_view.specs.declared.view.Group.{Group}
use Rattle.ng_view.specs.declared.view.Start.{Start}
use Rattle.ng_view.specs.declared.view.View.{View}
use Rattle.ng_rule.proofs.geometry.Facts.{held_slot}
use Rattle.ng_view.specs.Loads.{Loads, TellsGroups}
use Rattle.ng_rule.proofs.lock.Facts.{listing}
use Rattle.ng_rule.proofs.lock.Loading.{looks}
use Rattle.ng_space.specs.Placed.{AreOfGroups}

module _ (key : Start) (id : ℕ) (v : View) (leads : v.leads ≡ true) where
  of_groups : (ws : List ℕ) (vs : List View) → Rule key ws vs → get_elem? vs id ≡ some v → AreOfGroups v
  of_groups ws vs kept at h there =
      let slot = held_slot ws vs kept.slots id v h at there in
      record {
        there = subst (λ (g : Group). Among g v.desk.groups) (sym slot.0.group) ((listing key id v leads ws vs kept at).known h.place.group.meta slot.0.whole (subst (λ (g : Group). 0 < g.tag) slot.0.group slot.1));
        within = slot.2;
      }

  -- a load tells so
  pub looks_slots : (a : ℕ) → May key id v (a / 4) (λ n. n) (λ before n after. Loads before a n after × TellsGroups before a n × AreOfGroups before)
  looks_slots a ws vs kept at wide =
      let p = looks key id v leads a ws vs kept at wide in (p.0, p.1, (p.2.0, p.2.1, of_groups ws vs kept at))
