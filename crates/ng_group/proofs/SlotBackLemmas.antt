-- The slot that carried a group is in the seat again once the group is no more.
use Rattle.std.proofs.Common.{◌≡◌, ℕ, ◌+◌, ◌≤◌, ◌&&◌, eqb, cond, Bool, true, List, [], ◌∷◌, ◌++◌, Option, None, Some, refl, sym, ap, ◌∙◌, subst, arith}
use Rattle.std.proofs.lemmas.Bool.{eq-eqb}
use Rattle.ng_view.specs.Groups.{IsCarriedIn}
use Rattle.ng_view.specs.Lists.{Among, edit, find, is_at}
use Rattle.ng_view.specs.LockSteps.{carrier, groups_but, nest_of, outside, retired_nested}
use Rattle.ng_view.specs.Places.{slot_start, stride}
use Rattle.ng_view.specs.declared.view.Group.{Group}
use Rattle.ng_view.specs.declared.view.Held.{Held}
use Rattle.ng_view.specs.declared.view.Nest.{Nest}
use Rattle.ng_view.specs.declared.view.View.{View}
use Rattle.ng_build.specs.Nestings.{HasHead, recalling}
use Rattle.ng_ledger.specs.Groups.{AreGroups}
use Rattle.ng_ledger.proofs.GroupLemmas.{group_left, groups_were, same_group}
use Rattle.ng_group.specs.Returning.{HasReturned, HasWhole, IsAbove}

-- the slot, in motion
abbrev moved : Nest → Held
moved n = record { place = n.place; block = None; cells = [] }

place_found : (n : Nest) (p i : ℕ) → n.place.group.meta ≡ p → n.place.index ≡ i → is_at p i n.place ≡ true
place_found n p i meta index = ap (λ (b : Bool). b && eqb n.place.index i) (eq-eqb n.place.group.meta p meta) ∙ eq-eqb n.place.index i index

module _ (pages : ℕ) (v : View) (meta : ℕ) (are : AreGroups pages v.desk.groups) (whole : HasWhole v meta) where
  -- where no slot carried the group, the seat has none
  pub none_back : nest_of meta v.desk.layout.nests ≡ None → (retired_nested v meta).held ≡ []
  none_back none = ap (λ (o : Option Nest). carrier o ++ outside meta v.held) none ∙ whole.only

  module _ (of : IsCarriedIn v whole.group) where
    carries : nest_of meta v.desk.layout.nests ≡ Some of.nest
    carries = subst (λ m. nest_of m v.desk.layout.nests ≡ Some of.nest) whole.of_meta of.carries

    -- the seat has that slot alone
    pub slot_back : (retired_nested v meta).held ≡ moved of.nest ∷ []
    slot_back = ap (λ (o : Option Nest). carrier o ++ outside meta v.held) carries ∙ ap (λ (hs : List Held). moved of.nest ∷ hs) whole.only

    -- its group is another, and still live
    parent_stays : Among of.nest.place.group (groups_but meta v.desk.groups)
    parent_stays = group_left v.desk.groups meta of.nest.place.group of.parent (λ same.
        let one : of.nest.place.group ≡ whole.group = same_group pages v.desk.groups of.nest.place.group whole.group are of.parent whole.there (same ∙ sym whole.of_meta) in
        let tag : of.nest.place.group.tag ≡ whole.group.tag = ap (λ (x : Group). x.tag) one in
        omega (arith, of.lower))

    module _ (p i : ℕ) (meta_is : of.nest.place.group.meta ≡ p) (index_is : of.nest.place.index ≡ i) where
      -- the three cells of its head may be cleared
      pub has_head : (u : View) (base : ℕ) → u.held ≡ (retired_nested v meta).held → base ≡ slot_start of.nest.place → 16 ≤ stride of.nest.place.group → HasHead u p i base
      has_head u base held begins room = record {
        slot = moved of.nest;
        found = ap (find p i) (held ∙ slot_back) ∙ ap (λ (b : Bool). cond b (Some (moved of.nest)) None) (place_found of.nest p i meta_is index_is);
        begins = begins;
        room = room;
      }

      cleared_held : (known : List (ℕ × ℕ)) → edit p i (recalling known) (retired_nested v meta).held ≡ record (moved of.nest) { cells = known } ∷ []
      cleared_held known = ap (edit p i (recalling known)) slot_back
          ∙ ap (λ (b : Bool). cond b (record (moved of.nest) { cells = known } ∷ []) (moved of.nest ∷ [])) (place_found of.nest p i meta_is index_is)

      -- it is returned then
      pub returned : (w : View) (known : List (ℕ × ℕ)) → w.held ≡ edit p i (recalling known) (retired_nested v meta).held → w.desk.groups ≡ groups_but meta v.desk.groups → HasReturned w p i
      returned w known held groups = record {
        group = of.nest.place.group;
        there = subst (Among of.nest.place.group) (sym groups) parent_stays;
        of_meta = meta_is;
        within = subst (λ k. k ≤ of.nest.place.group.last) index_is of.index;
        slot = record (moved of.nest) { cells = known };
        held = held ∙ cleared_held known;
        of_group = refl;
        of_index = index_is;
        bare = refl;
      }

      -- and its group is of a class above
      pub is_above : (w : View) (class : ℕ) → whole.group.tag ≡ class + 1 → w.desk.groups ≡ groups_but meta v.desk.groups → IsAbove class w p
      is_above w class tag groups h there of_meta =
          let was = groups_were v.desk.groups meta h (subst (Among h) groups there) in
          let one : h ≡ of.nest.place.group = same_group pages v.desk.groups h of.nest.place.group are was.0 of.parent (of_meta ∙ sym meta_is) in
          let same : h.tag ≡ of.nest.place.group.tag = ap (λ (x : Group). x.tag) one in
          omega (arith, of.lower)
