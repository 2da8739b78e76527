-- What a group is told to be before it goes: its ring, and the slots in use of its class.
use Rattle.std.proofs.Common.{◌≡◌, ◌≢◌, ℕ, ◌+◌, ◌-◌, ◌<◌, ◌≤◌, List, slice_index, slice_set, sym, ap, ◌∙◌, subst, ⊎_elim, arith}
use Rattle.ng_mapper.specs.Mapping.{Span}
use Rattle.ng_mapper.specs.Runs as mapper
use Rattle.ng_mapper.specs.declared.refusals.Refusals.{Refusals}
use Rattle.ng_lists.specs.Rings.{IsListed, RingTable}
use Rattle.ng_view.specs.Groups.{Retires}
use Rattle.ng_view.specs.LockSteps.{groups_but, retired_nested}
use Rattle.ng_view.specs.declared.view.Group.{Group}
use Rattle.ng_view.specs.declared.view.Start.{Start}
use Rattle.ng_view.specs.declared.view.View.{View}
use Rattle.ng_build.specs.Cells.{IsIdleMeta}
use Rattle.ng_mask.specs.Fetches.{OfGroup}
use Rattle.ng_view.specs.Layouts.{IsLoneKind, IsSmallKind}
use Rattle.ng_ledger.specs.Groups.{AreGroups, IsGroup}
use Rattle.ng_ledger.specs.Rings.{AreRinged, IsIn, IsTable}
use Rattle.ng_ledger.specs.Standing.{Ledger}
use Rattle.ng_ledger.specs.Usage.{AreUsed}
use Rattle.ng_serve.specs.Groups.{Describes}
use Rattle.ng_serve.specs.declared.group.LiveGroup.{LiveGroup}
use Rattle.ng_ledger.proofs.AreaLemmas.{area_stays}
use Rattle.ng_ledger.proofs.GroupLemmas.{unborn_dropped}
use Rattle.ng_ledger.proofs.UsageLemmas.{retired, retired_lone, retired_most}
use Rattle.ng_ledger.proofs.RingLemmas.{class_of_member}
use Rattle.ng_ledger.proofs.TableLemmas.{listed_class}
use Rattle.ng_group.specs.Returning.{HasWhole}
use Rattle.ng_group.specs.States.{IsWorking}
use Rattle.ng_group.proofs.EndedLemmas.{whole_area}

-- a group of a class other than 63 is of one of the 48
pub class_known : (pages class : ℕ) (g : Group) → IsGroup pages g → g.tag ≡ class + 1 → class ≢ 63 → class < 48
class_known pages class g is tag other = ⊎_elim
    (λ (small : IsSmallKind g). omega (arith, small.low))
    (λ (lone : IsLoneKind g). absurd (other (omega (arith, lone.lone))))
    is.kind

-- the class of the group of a listed meta has the ring that it is in
pub listed_in : (pages : ℕ) (v : View) (t : RingTable) (meta class : ℕ) → AreGroups pages v.desk.groups → IsTable t → AreRinged v.desk.groups v.desk.listed v.desk.zero_avail t → HasWhole v meta → OfGroup v meta (λ g. g.tag ≡ class + 1) → IsListed t meta → (class < 48) × IsIn t class meta
listed_in pages v t meta class are table ringed whole of listed =
    let found : (other : ℕ) × (other < 48) × IsIn t other meta = listed_class t meta table listed in
    let same : found.0 ≡ class = class_of_member pages v.desk.groups v.desk.listed v.desk.zero_avail t found.0 class meta are table ringed found.2 (record { group = whole.group; there = whole.there; of_meta = whole.of_meta; of_class = of whole.group whole.there whole.of_meta }) in
    (subst (λ k. k < 48) same found.1, subst (λ k. IsIn t k meta) same found.2)

-- ---- the slots of the group are taken off those of its class
module _ (start : Start) (span : Span) (live : List mapper.Run) (refused : Refusals) (l : Ledger) (works : IsWorking start span live refused l) (meta : ℕ) (whole : HasWhole l.seat meta) (found : LiveGroup) (of : OfGroup l.seat meta (Describes found)) where
  tag_is : whole.group.tag ≡ found.class + 1
  tag_is = (of whole.group whole.there whole.of_meta).tag

  pub known : found.class ≢ 63 → found.class < 48
  known = class_known start.pages found.class whole.group (works.stands.groups.each whole.group whole.there) tag_is

  pub few_enough : found.class ≢ 63 → (n : ℕ) → n ≡ found.last → n + 1 ≤ slice_index l.usage found.class
  few_enough other n last =
      let most : whole.group.last + 1 ≤ slice_index l.usage found.class = retired_most start.pages l.seat.desk.groups l.usage whole.group works.stands.used works.stands.groups whole.there found.class tag_is (known other) in
      let same : whole.group.last ≡ found.last = (of whole.group whole.there whole.of_meta).last in
      omega arith

  pub uncounted : found.class ≢ 63 → (n : ℕ) → n ≡ found.last → AreUsed (groups_but meta l.seat.desk.groups) (slice_set l.usage found.class (slice_index l.usage found.class - (n + 1)))
  uncounted other n last =
      subst (λ k. AreUsed (groups_but meta l.seat.desk.groups) (slice_set l.usage found.class (slice_index l.usage found.class - (k + 1)))) ((of whole.group whole.there whole.of_meta).last ∙ sym last)
      (subst (λ m. AreUsed (groups_but m l.seat.desk.groups) (slice_set l.usage found.class (slice_index l.usage found.class - (whole.group.last + 1)))) whole.of_meta
      (retired start.pages l.seat.desk.groups l.usage whole.group works.stands.used works.stands.groups whole.there found.class tag_is (known other)))

  pub uncounted_lone : found.class ≡ 63 → AreUsed (groups_but meta l.seat.desk.groups) l.usage
  uncounted_lone lone = subst (λ m. AreUsed (groups_but m l.seat.desk.groups) l.usage) whole.of_meta
      (retired_lone start.pages l.seat.desk.groups l.usage whole.group works.stands.used works.stands.groups whole.there (tag_is ∙ ap (λ k. k + 1) lone))

-- the meta is idle once its group is no more
pub idle_meta : (start : Start) (span : Span) (live : List mapper.Run) (refused : Refusals) (l : Ledger) (meta : ℕ) (w : View) → IsWorking start span live refused l → HasWhole l.seat meta → Retires l.seat meta w → IsIdleMeta w meta
idle_meta start span live refused l meta w works whole retires = subst (λ (v : View). IsIdleMeta v meta) (sym retires.view) (record {
  area = area_stays l.seat.desk.layout (retired_nested l.seat meta).desk.layout meta (λ q there area. there) (whole_area start span live refused l works meta whole);
  unborn = unborn_dropped l.seat.desk.groups meta;
})
