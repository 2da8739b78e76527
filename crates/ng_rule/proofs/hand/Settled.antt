-- What the words are at a close.
use Rattle.std.proofs.Common.{◌≡◌, ◌⊎◌, ℕ, ◌+◌, ◌%◌, ◌<◌, true, List, sym, ap, ◌∙◌, subst, ⊎_elim, inl, inr, arith}
use mathlib.Core.Option.{some}
use lib.ListN.{get_elem?}
use Rattle.ng_view.specs.declared.view.Group.{Group}
use Rattle.ng_view.specs.declared.view.Run.{Run}
use Rattle.ng_view.specs.declared.view.Desk.{Desk}
use Rattle.ng_view.specs.declared.view.View.{View}
use Rattle.ng_view.specs.declared.view.Start.{Start}
use Rattle.ng_view.specs.Lists.{Among}
use Rattle.ng_view.specs.Cells.{cell, tag}
use Rattle.ng_view.specs.Views.{desk_of}
use Rattle.ng_view.specs.Rule.{Rule}
use Rattle.ng_view.specs.Layouts.{InArea}
use Rattle.ng_view.specs.Knowledge.{Noted}
use Rattle.ng_view.specs.Listing.{Listing}
use Rattle.ng_view.specs.Conditions.{IsSettled, IsBlanked}
use Rattle.ng_rule.proofs.geometry.Lists.{desk_lead}

module _ (key : Start) (ws : List ℕ) (vs : List View) (id : ℕ) (v : View) (kept : Rule key ws vs) (here_v : get_elem? vs id ≡ some v) (leads : v.leads ≡ true) where
  desk_was : desk_of vs ≡ v.desk
  desk_was = (desk_lead vs id v v here_v leads kept.hands.leaders leads).0

  -- a run that is no area is the run of a live group
  pub all_settled : IsSettled v → (r : Run) → Among r (desk_of vs).layout.runs → (r.area ≡ true) ⊎ ((m : ℕ) × (m % 4 ≡ 0) × (0 < tag ws m) × (cell ws (m + 16) ≡ r.addr))
  all_settled s r n = ⊎_elim (λ (a : r.area ≡ true). inl a)
      (λ (g : (g : Group) × Among g v.desk.groups × (g.base ≡ r.addr)).
      let l = (subst (Listing ws) desk_was kept.listing).live g.0 g.1 in
      inr (g.0.meta, l.whole, subst (λ (y : Group). 0 < y.tag) l.group l.live, sym (ap (λ (y : Group). y.base) l.group) ∙ g.2))
      (s r (subst (λ (d : Desk). Among r d.layout.runs) desk_was n))

  -- the words of a meta without a group are 0
  pub all_blank : IsBlanked v → (m b : ℕ) → m % 4 ≡ 0 → InArea (desk_of vs).layout m → tag ws m ≡ 0 → b < 40 → b % 4 ≡ 0 → cell ws (m + b) ≡ 0
  all_blank s m b al area dead lt bl =
      ((subst (Noted ws) desk_was kept.knowledge.desk).free (m + b) 0
      (s m b al (subst (λ (d : Desk). InArea d.layout m) desk_was area)
      (λ g t e. let l = (subst (Listing ws) desk_was kept.listing).live g t in let z : tag ws g.meta ≡ 0 = ap (tag ws) e ∙ dead in let p : 0 < tag ws g.meta = subst (λ (y : Group). 0 < y.tag) l.group l.live in omega arith) lt bl)).1
