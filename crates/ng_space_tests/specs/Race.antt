-- A group of sixteen slots, for which the lock's seat and a hand race.
use Rattle.std.specs.Prelude.{[], ◌∷◌}
use Rattle.ng_space_tests.specs.Trials.{AreMetasBlank, Stands, page_group, page_runs}
use Rattle.ng_view.specs.Lists.{Among}
use Rattle.ng_view.specs.declared.view.Group.{Group}
use Rattle.ng_view.specs.declared.view.View.{View}

-- a group of class 9 with sixteen slots
abbrev pub race_group : Group
race_group = page_group 9 15

-- the group is live and listed, and the other metas of the area are blank
pub record Serves (v : View) : Type 0 where
  pub stands : Stands v page_runs (race_group ∷ [])
  pub metas : AreMetasBlank v 1
  pub listed : Among 4120 v.desk.listed
