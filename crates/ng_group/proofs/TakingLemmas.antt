-- What stands of the books while a slot is returned to a group, whose masks are read first.
use Rattle.std.proofs.Common.{◌≡◌, ◌≢◌, ◌⊎◌, ℕ, ◌+◌, ◌<◌, ◌≤◌, Bool, false, List, refl, sym, subst, ⊎_elim, inl, inr, arith}
use Rattle.std.proofs.lemmas.Bool.{cases_eq, cases_lt}
use Rattle.ng_mapper.specs.Mapping.{Span}
use Rattle.ng_mapper.specs.Runs as mapper
use Rattle.ng_mapper.specs.declared.refusals.Refusals.{Refusals}
use Rattle.ng_class.specs.Mask.{FillsGroup}
use Rattle.ng_policy.specs.declared.ask.Spare.{Spare}
use Rattle.ng_lists.specs.Rings.{IsListed}
use Rattle.ng_view.specs.Layouts.{IsKind}
use Rattle.ng_view.specs.Lists.{Among}
use Rattle.ng_view.specs.Slots.{IsPlain}
use Rattle.ng_view.specs.declared.view.Group.{Group}
use Rattle.ng_view.specs.declared.view.Start.{Start}
use Rattle.ng_view.specs.declared.view.View.{View}
use Rattle.ng_view.specs.Masks.{IsServing}
use Rattle.ng_mask.specs.Fetches.{OfGroup}
use Rattle.ng_serve.specs.Groups.{Describes}
use Rattle.ng_serve.specs.Takes.{IsServed}
use Rattle.ng_serve.specs.declared.group.LiveGroup.{LiveGroup}
use Rattle.ng_ledger.specs.Rings.{AreRinged}
use Rattle.ng_ledger.proofs.RingLemmas.{grow}
use Rattle.ng_group.specs.Filling.{AreSlots, LooksAt, Searches}
use Rattle.ng_group.specs.Returning.{CapturesAll, GoesBack, HasReturned, IsKept, IsSpare, MayGo, TakesWhole}
use Rattle.ng_group.specs.Serving.{OnlyRing}
use Rattle.ng_group.specs.States.{State, Working, ledger_of}
use Rattle.ng_group.proofs.FillingLemmas.{fills_some}
use Rattle.ng_group.proofs.PlainLemmas.{plain_rest, plain_tight}
use Rattle.ng_group.proofs.WholeLemmas.{groups_kept}
use Rattle.ng_group.proofs.WordLemmas.{followed_same}
use Rattle.ng_group.proofs.WorkingLemmas.{only_then, searched}

-- ---- a step that searches alone

pub searched_works : {M P : Type 0} (start : Start) (span : M → Span) (runs : M → List mapper.Run) (refused : M → Refusals) (s : State M P) (w : View)
    → Searches s.seat w → Working start span runs refused s → Working start span runs refused (record s { seat = w })
searched_works start span runs refused s w searches works =
    searched start (span s.mapper) (runs s.mapper) (refused s.mapper) (ledger_of s) w s.rings works searches.view refl
    (subst (λ ls. AreRinged s.seat.desk.groups ls w.desk.zero_avail s.rings) (sym searches.listed)
    (grow s.seat.desk.groups s.seat.desk.listed s.seat.desk.zero_avail w.desk.zero_avail s.rings searches.keeps works.stands.ringed))
    (followed_same works.followed searches.active)

pub searched_only : {M P : Type 0} (class : ℕ) (s : State M P) (w : View) → Searches s.seat w → OnlyRing class s (record s { seat = w })
searched_only class s w searches = record {
  state = refl;
  view = searches.view;
  came = searches.came;
  rings = λ k apart. refl;
  bare = λ k m known apart in' noted. searches.keeps m noted;
}

of_kept : (v w : View) (meta : ℕ) (P : Group → Type 0) → Searches v w → OfGroup v meta P → OfGroup w meta P
of_kept v w meta P searches of g there = of g (subst (Among g) (groups_kept v w searches) there)

-- ---- what the rules are asked doesn't hang on the seat

spare_same : {M P : Type 0} (s : State M P) (w : View) (meta : ℕ) (found : LiveGroup) (spare : Spare) → IsSpare (record s { seat = w }) meta found spare → IsSpare s meta found spare
spare_same s w meta found spare is = record {
  class_is = is.class_is;
  slots_is = is.slots_is;
  usage_is = is.usage_is;
  alone_is = is.alone_is;
  bouncing_is = is.bouncing_is;
}

may_same : {M P : Type 0} (keeps : Spare → Bool → Type 0) (s : State M P) (w : View) (meta : ℕ) (found : LiveGroup) → MayGo keeps (record s { seat = w }) meta found → MayGo keeps s meta found
may_same keeps s w meta found (inl loose) = inl loose
may_same keeps s w meta found (inr (spare, is, lets)) = inr (spare, spare_same s w meta found spare is, lets)

stays_same : {M P : Type 0} (A : Type 0) (keeps : Spare → Bool → Type 0) (s : State M P) (w : View) (meta : ℕ) (found : LiveGroup) → A ⊎ IsKept keeps (record s { seat = w }) meta found → A ⊎ IsKept keeps s meta found
stays_same A keeps s w meta found (inl rest) = inl rest
stays_same A keeps s w meta found (inr (tight, (spare, is, lets))) = inr (tight, (spare, spare_same s w meta found spare is, lets))

-- ---- a slot was returned, and the masks of its group were read

module _ {M P : Type 0} (start : Start) (span : M → Span) (runs : M → List mapper.Run) (refused : M → Refusals) (now s : State M P) (same : s ≡ now) (now_works : Working start span runs refused now)
    (meta index : ℕ) (found : LiveGroup) (now_has : HasReturned now.seat meta index) (now_of : OfGroup now.seat meta (Describes found)) where
  works : Working start span runs refused s
  works = subst (Working start span runs refused) (sym same) now_works

  has : HasReturned s.seat meta index
  has = subst (λ (x : State M P). HasReturned x.seat meta index) (sym same) now_has

  of : OfGroup s.seat meta (Describes found)
  of = subst (λ (x : State M P). OfGroup x.seat meta (Describes found)) (sym same) now_of

  pub own_few : found.last < 32
  own_few = omega (arith, (works.stands.groups.each has.group has.there).few, (of has.group has.there has.of_meta).last)

  pub own_slot : index ≤ found.last
  own_slot = omega (arith, has.within, (of has.group has.there has.of_meta).last)

  module _ (w : View) (avail freed : ℕ) (looks : LooksAt s.seat meta avail freed w) where
    abbrev mid : State M P
    mid = record s { seat = w }

    pub read_works : Working start span runs refused mid
    read_works = searched_works start span runs refused s w looks.searches works

    read_only : (class : ℕ) → OnlyRing class now mid
    read_only class = subst (λ (x : State M P). OnlyRing class x mid) same (searched_only class s w looks.searches)

    pub read_group : OfGroup w meta (Describes found)
    read_group = of_kept s.seat w meta (Describes found) looks.searches of

    pub read_last : OfGroup w meta (λ g. g.last ≡ found.last)
    read_last g there of_meta = (read_group g there of_meta).last

    pub read_class : OfGroup w meta (λ g. g.tag ≡ found.class + 1)
    read_class g there of_meta = (read_group g there of_meta).tag

    there_read : Among has.group w.desk.groups
    there_read = subst (Among has.group) (sym (groups_kept s.seat w looks.searches)) has.there

    pub read_avail : AreSlots avail found.last
    read_avail = subst (AreSlots avail) (of has.group has.there has.of_meta).last (looks.avail_slots has.group has.there has.of_meta)

    pub read_freed : AreSlots freed found.last
    read_freed = subst (AreSlots freed) (of has.group has.there has.of_meta).last (looks.freed_slots has.group has.there has.of_meta)

    -- a group that is in no ring has avail noted as 0
    pub read_bare : ¬ IsListed s.rings meta → Among meta w.desk.zero_avail
    read_bare absent = ⊎_elim
        (λ (none : avail ≡ 0). looks.bare none)
        (λ (some : avail ≢ 0).
        let serving : IsServing s.seat has.group = looks.avail_serves (omega arith) has.group has.there has.of_meta in
        absurd (absent (works.stands.ringed.ringed meta (subst (λ m. Among m s.seat.desk.listed) has.of_meta serving.listed))))
        (cases_eq avail 0)

    -- one that stays is plain
    pub read_plain : (keeps : Spare → Bool → Type 0) → (¬ FillsGroup avail freed index found.last) ⊎ IsKept keeps mid meta found → OfGroup w meta IsPlain
    read_plain keeps stays g there of_meta =
        let kind : IsKind g = (read_works.stands.groups.each g there).kind in
        ⊎_elim
        (λ (rest : ¬ FillsGroup avail freed index found.last). plain_rest g found avail freed index (read_group g there of_meta) kind own_slot rest)
        (λ (kept : IsKept keeps mid meta found). plain_tight g found (read_group g there of_meta) kind kept.0)
        stays

    -- one of more slots that is filled serves
    pub read_served : FillsGroup avail freed index found.last → (found.last ≡ 0) ⊎ IsServed w meta
    read_served fills = ⊎_elim
        (λ (more : 0 < found.last). inr (⊎_elim
        (λ (some : 0 < avail). served (looks.avail_serves some has.group has.there has.of_meta))
        (λ (some : 0 < freed). served (looks.freed_serves some has.group has.there has.of_meta))
        (fills_some avail freed index found.last own_slot more fills)))
        (λ (none : found.last ≤ 0). inl (omega arith))
        (cases_lt 0 found.last)
      where
        served : IsServing s.seat has.group → IsServed w meta
        served serving = record {
          group = has.group;
          there = there_read;
          of_meta = has.of_meta;
          plain = serving.plain;
          listed = subst (Among meta) (sym looks.searches.listed) (subst (λ m. Among m s.seat.desk.listed) has.of_meta serving.listed);
        }

    -- ---- then the slot is back

    pub back_only : (after : State M P) → OnlyRing found.class mid after → OnlyRing found.class now after
    back_only after only = only_then found.class now mid after (read_only found.class) only

    pub back_takes : (keeps : P → Spare → Bool → Type 0) (after : State M P) → GoesBack found.class meta index mid after
        → (¬ FillsGroup avail freed index found.last) ⊎ IsKept (keeps s.rules) mid meta found → TakesWhole (keeps now.rules) now meta index found false after
    back_takes keeps after back stays = subst (λ (y : State M P). TakesWhole (keeps y.rules) y meta index found false after) same (record {
      freed = freed;
      avail = avail;
      between = w;
      reads = looks.reads;
      ends = inr (stays_same (¬ FillsGroup avail freed index found.last) (keeps s.rules) s w meta found stays, refl, back);
    })

    -- ---- or all slots are in the seat

    module _ (x : View) (searches : Searches w x) where
      pub all_works : Working start span runs refused (record s { seat = x })
      all_works = searched_works start span runs refused mid x searches read_works

      pub all_only : OnlyRing found.class now (record s { seat = x })
      all_only = only_then found.class now mid (record s { seat = x }) (read_only found.class) (searched_only found.class mid x searches)

    pub all_takes : (keeps : P → Spare → Bool → Type 0) (x : View) (answer : Bool)
        → FillsGroup avail freed index found.last → MayGo (keeps s.rules) mid meta found → CapturesAll w meta index found.last answer x → TakesWhole (keeps now.rules) now meta index found answer (record s { seat = x })
    all_takes keeps x answer fills may all = subst (λ (y : State M P). TakesWhole (keeps y.rules) y meta index found answer (record s { seat = x })) same (record {
      freed = freed;
      avail = avail;
      between = w;
      reads = looks.reads;
      ends = inl (fills, may_same (keeps s.rules) s w meta found may, all, refl);
    })
