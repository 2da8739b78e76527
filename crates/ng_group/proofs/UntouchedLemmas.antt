-- What the lock's seat stored in a slot before it passed it on, over the steps of a call.
use Rattle.std.proofs.Common.{◌≡◌, ℕ, sym, subst, ◌∙◌}
use Rattle.ng_build.proofs.Storing.{stores_both, stores_none}
use Rattle.ng_view.specs.Lists.{Among}
use Rattle.ng_view.specs.Places.{header}
use Rattle.ng_view.specs.declared.view.View.{View}
use Rattle.ng_group.specs.Untouched.{IsUntouched}

-- nothing was stored
pub untouched_same : (meta index : ℕ) (v w : View) → w.stores ≡ v.stores → IsUntouched meta index v w
untouched_same meta index v w same = record { standing = λ has. same; fresh = λ g there of. stores_none v w (header g index) same }

-- nothing was stored before
pub untouched_since : (meta index : ℕ) (v u w : View) → u.stores ≡ v.stores → u.desk.groups ≡ v.desk.groups → IsUntouched meta index u w → IsUntouched meta index v w
untouched_since meta index v u w same groups is = record {
  standing = λ has. is.standing (record { group = has.group; there = subst (Among has.group) (sym groups) has.there; of_meta = has.of_meta }) ∙ same;
  fresh = λ g there of. stores_both v u w (header g index) (stores_none v u (header g index) same) (is.fresh g there of);
}

-- nor since then
pub untouched_still : (meta index : ℕ) (v w u : View) → u.stores ≡ w.stores → u.desk.groups ≡ w.desk.groups → IsUntouched meta index v w → IsUntouched meta index v u
untouched_still meta index v w u same groups is = record {
  standing = λ has. same ∙ is.standing has;
  fresh = λ g there of. stores_both v w u (header g index) (is.fresh g (subst (Among g) groups there) of) (stores_none w u (header g index) same);
}
