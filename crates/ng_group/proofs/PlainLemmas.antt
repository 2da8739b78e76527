-- Groups whose slots have the whole class size.
use Rattle.std.proofs.Common.{◌≡◌, ◌≢◌, ℕ, ◌-◌, ◌*◌, ◌<◌, ◌≤◌, ◌&&◌, ne_eqb, nat_lt, if◌then◌else◌, Bool, sym, ap, subst, ◌∙◌, ⊎_elim, inl, inr, arith}
use Rattle.std.proofs.lemmas.Bool.{cases_lt}
use Rattle.ng_class.specs.Class.{units_of}
use Rattle.ng_class.specs.Mask.{FillsGroup}
use Rattle.ng_class.specs.Slot.{stride_of}
use Rattle.ng_view.specs.Layouts.{IsKind, IsLoneKind, IsSmallKind}
use Rattle.ng_view.specs.Places.{stride}
use Rattle.ng_view.specs.Slots.{IsPlain}
use Rattle.ng_view.specs.declared.view.Group.{Group}
use Rattle.ng_serve.specs.Groups.{Describes}
use Rattle.ng_serve.specs.declared.group.LiveGroup.{LiveGroup}
use Rattle.ng_group.specs.Returning.{IsLoose}
use Rattle.ng_group.proofs.FillingLemmas.{fills_one}

-- a group of more slots has no run that is a slot's alone
stride_many : (class last maplen : ℕ) → 0 < last → stride_of class last maplen ≡ 16 * units_of class
unfolding stride_of
stride_many class last maplen more =
    ap (λ (b : Bool). if b && nat_lt 0 maplen then maplen * 4096 - 16 else 16 * units_of class) (ne_eqb last 0 (λ (none : last ≡ 0). omega arith))

-- the stride by the numbers that were found
stride_is : (g : Group) (found : LiveGroup) → Describes found g → stride g ≡ stride_of found.class found.last found.maplen
unfolding stride
stride_is g found of =
    let class : g.tag - 1 ≡ found.class = omega (arith, of.tag) in
    ap (λ c. stride_of c g.last g.maplen) class ∙ ap (λ l. stride_of found.class l g.maplen) of.last ∙ ap (λ m. stride_of found.class found.last m) of.maplen

-- a group of a class below 48 with slots of the whole class size is plain
plain_from : (g : Group) (found : LiveGroup) → Describes found g → g.tag < 49 → 16 * units_of found.class ≤ stride_of found.class found.last found.maplen → IsPlain g
plain_from g found of small wide = record {
  small = small;
  wide = subst (λ c. 16 * units_of c ≤ stride g) (sym (class_is)) (subst (λ n. 16 * units_of found.class ≤ n) (sym (stride_is g found of)) wide);
}
  where
    class_is : g.tag - 1 ≡ found.class
    class_is = omega (arith, of.tag)

-- a group that isn't one block is of such a class
small_kind : (g : Group) (found : LiveGroup) → Describes found g → IsKind g → found.class ≢ 63 → g.tag < 49
small_kind g found of kind several = ⊎_elim
    (λ (small : IsSmallKind g). small.low)
    (λ (lone : IsLoneKind g). absurd (several (omega (arith, lone.lone, of.tag))))
    kind

-- one that isn't filled has more slots than one
pub plain_rest : (g : Group) (found : LiveGroup) (avail freed index : ℕ) → Describes found g → IsKind g → index ≤ found.last → ¬ FillsGroup avail freed index found.last → IsPlain g
plain_rest g found avail freed index of kind own rest =
    let more : 0 < found.last = ⊎_elim (λ (more : 0 < found.last). more) (λ (none : found.last ≤ 0). absurd (rest (fills_one avail freed index found.last own (omega arith)))) (cases_lt 0 found.last) in
    let small : g.tag < 49 = ⊎_elim (λ (small : IsSmallKind g). small.low) (λ (lone : IsLoneKind g). absurd (omega (arith, lone.single, of.last, more))) kind in
    plain_from g found of small (omega (arith, stride_many found.class found.last found.maplen more))

-- and one that isn't loose is no block, and no lone slot of a smaller run
pub plain_tight : (g : Group) (found : LiveGroup) → Describes found g → IsKind g → ¬ IsLoose found → IsPlain g
plain_tight g found of kind tight =
    plain_from g found of (small_kind g found of kind (λ lone. tight (inl lone)))
    (⊎_elim
    (λ (narrow : stride_of found.class found.last found.maplen < 16 * units_of found.class). absurd (tight (inr (inl narrow))))
    (λ (wide : 16 * units_of found.class ≤ stride_of found.class found.last found.maplen). wide)
    (cases_lt (stride_of found.class found.last found.maplen) (16 * units_of found.class)))
