-- A slot that was taken out of the freed mask of a group, which is then the first of its ring.
use Rattle.std.proofs.Common.{◌≡◌, ◌≢◌, ℕ, ◌+◌, ◌-◌, ◌*◌, ◌<◌, ◌≤◌, List, [], ◌∷◌, min, refl, sym, ap, ◌∙◌, subst, arith}
use Rattle.ng_class.specs.Class.{units_of}
use Rattle.ng_class.specs.Slot.{room_of, stride_of}
use Rattle.ng_class.proofs.Slots.{room_of_slot}
use Rattle.ng_mapper.specs.Runs as mapper
use Rattle.ng_mapper.specs.Mapping.{Span}
use Rattle.ng_mapper.specs.declared.refusals.Refusals.{Refusals}
use Rattle.ng_lists.specs.Rings.{RingTable, ring_of, rotated}
use Rattle.ng_policy.specs.Bounce.{Bounces}
use Rattle.ng_view.specs.Lists.{Among}
use Rattle.ng_view.specs.LockSteps.{active_set}
use Rattle.ng_view.specs.Places.{room, stride}
use Rattle.ng_view.specs.Slots.{IsPlain}
use Rattle.ng_view.specs.Steps.{in_motion}
use Rattle.ng_view.specs.declared.view.Group.{Group}
use Rattle.ng_view.specs.declared.view.Held.{Held}
use Rattle.ng_view.specs.declared.view.Start.{Start}
use Rattle.ng_view.specs.declared.view.View.{View}
use Rattle.ng_mask.specs.Fetches.{OfGroup}
use Rattle.ng_serve.specs.Choices.{IsChoice}
use Rattle.ng_serve.specs.Groups.{Describes}
use Rattle.ng_serve.specs.Reads.{Reads}
use Rattle.ng_serve.specs.Takes.{HasFreed, TakesFreed}
use Rattle.ng_serve.specs.declared.choosing.Choice.{Choice}
use Rattle.ng_serve.specs.declared.group.LiveGroup.{LiveGroup}
use Rattle.ng_serve.proofs.Changes.{changes_groups, changes_listed, changes_reads, changes_then}
use Rattle.ng_serve.proofs.Readings.{reads_groups, reads_then}
use Rattle.ng_ledger.specs.Groups.{IsOfClass}
use Rattle.ng_ledger.specs.Rings.{AreRinged, IsBare, IsIn, IsTable, turned}
use Rattle.ng_ledger.proofs.RingLemmas.{stock_alone, turn}
use Rattle.ng_ledger.proofs.StepLemmas.{turned_changes, turned_first, turned_stays}
use Rattle.ng_ledger.proofs.TableLemmas.{in_within, one_ring}
use Rattle.ng_group.specs.Serving.{HasServed, OnlyRing, with_search}
use Rattle.ng_group.specs.States.{State, Working, first_of}
use Rattle.ng_group.proofs.WordLemmas.{followed_ring, set_search}
use Rattle.ng_group.proofs.WorkingLemmas.{only_works}

-- ---- what a plain group's slots serve
least : (x given stride' size : ℕ) → given ≡ min stride' size → size ≤ stride' → x ≤ size → x ≤ given
least x given stride' size is wide fits = omega (arith, is, wide, fits)

pub plain_room : (g : Group) (class bytes : ℕ) → IsPlain g → g.tag ≡ class + 1 → class < 48 → bytes + 4 ≤ 16 * units_of class → bytes + 4 ≤ room g
unfolding room stride
plain_room g class bytes plain of_class known fits =
    let low : g.tag - 1 ≡ class = omega (arith, of_class) in
    let below : class ≡ 63 → ⊥ = (λ (same : class ≡ 63). omega (arith, same, known)) in
    least (bytes + 4) (room_of (g.tag - 1) g.last g.maplen) (stride_of (g.tag - 1) g.last g.maplen) (16 * units_of (g.tag - 1))
    (room_of_slot (g.tag - 1) g.last g.maplen (λ (same : g.tag - 1 ≡ 63). below (sym low ∙ same)))
    plain.wide
    (subst (λ (k : ℕ). bytes + 4 ≤ 16 * units_of k) (sym low) fits)

-- ---- what the words of a chosen group say
pub described_small : (v : View) (class meta : ℕ) (found : LiveGroup)
    → IsOfClass v.desk.groups meta class → class < 48 → OfGroup v meta (Describes found) → found.class < 48
described_small v class meta found is known describes =
    let tag : is.group.tag ≡ found.class + 1 = (describes is.group is.there is.of_meta).tag in
    let tag' : is.group.tag ≡ class + 1 = is.of_class in
    omega (arith, tag, tag', known)

pub described_within : (v : View) (class lowest meta : ℕ) (found : LiveGroup)
    → IsOfClass v.desk.groups meta class → OfGroup v meta (λ g. lowest ≤ g.last) → OfGroup v meta (Describes found) → lowest ≤ found.last
described_within v class lowest meta found is within describes =
    let last : is.group.last ≡ found.last = (describes is.group is.there is.of_meta).last in
    let low : lowest ≤ is.group.last = within is.group is.there is.of_meta in
    omega (arith, last, low)

-- the slot that was chosen is still noted
pub choice_freed : (v w : View) (choice : Choice) (upto : ℕ) → IsChoice v choice → Reads v w → choice.lowest ≤ upto → HasFreed w choice.meta upto
choice_freed v w choice upto is reads reached = record {
  index = choice.lowest;
  noted = subst (λ (u : View). Among {A = ℕ × ℕ} (choice.meta, choice.lowest) u.desk.set_freed) (sym reads.view) is.noted;
  below = reached;
}

-- ---- a slot is taken after words were read
pub takes_after : (v r u w : View) (meta index : ℕ) → Reads v r → Reads r u → TakesFreed u meta index w → TakesFreed v meta index w
takes_after v r u w meta index first second takes = record {
  changes = changes_then v r w meta (changes_reads v r meta first) (changes_then r u w meta (changes_reads r u meta second) takes.changes);
  held = λ g there of_meta. subst (λ (hs : List Held). w.held ≡ in_motion g index ∷ hs) (ap (λ (x : View). x.held) both.view) (takes.held g (still g there) of_meta);
  plain = λ g there of_meta. takes.plain g (still g there) of_meta;
  within = λ g there of_meta. takes.within g (still g there) of_meta;
}
  where
    both : Reads v u
    both = reads_then v r u first second

    still : (g : Group) → Among g v.desk.groups → Among g u.desk.groups
    still g there = subst (Among g) (sym (reads_groups v u both)) there

-- ---- what a call leaves that serves a slot
pub record Serves {M P : Type 0} (start : Start) (span : M → Span) (runs : M → List mapper.Run) (refused : M → Refusals) (class bytes meta index : ℕ) (before after : State M P) : Type 0 where
  pub working : Working start span runs refused after
  pub only : OnlyRing class before after
  pub served : HasServed class bytes after.seat meta index

pub serves : {M P : Type 0} (start : Start) (span : M → Span) (runs : M → List mapper.Run) (refused : M → Refusals) (s now : State M P) (class bytes meta index : ℕ) (w u : View) (t : RingTable) (b : Bounces)
    → s ≡ now → class < 48 → bytes + 4 ≤ 16 * units_of class → IsIn now.rings class meta → IsBare now.seat.desk.zero_avail now.rings class → now.seat.held ≡ []
    → t ≡ turned s.rings class meta → IsTable t → TakesFreed s.seat meta index w → u ≡ active_set w class (first_of (ring_of t class))
    → Working start span runs refused now → Serves start span runs refused class bytes meta index now (record s { seat = u; rings = t; bounces = b })
serves {M} {P} start span runs refused s now class bytes meta index w u t b same known fits member bare idle turns is takes sets works =
    subst (λ (x : View). Serves start span runs refused class bytes meta index now (record s { seat = x; rings = t; bounces = b })) (sym sets)
    (subst (λ (t' : RingTable). Serves start span runs refused class bytes meta index now (record s { seat = active_set w class (first_of (ring_of t' class)); rings = t'; bounces = b })) (sym turns)
    (subst (λ (u : State M P). Serves start span runs refused class bytes meta index u after) same
    (at
    (subst IsTable turns is)
    (subst (λ (u : State M P). IsIn u.rings class meta) (sym same) member)
    (subst (λ (u : State M P). IsBare u.seat.desk.zero_avail u.rings class) (sym same) bare)
    (subst (λ (u : State M P). u.seat.held ≡ []) (sym same) idle)
    (subst (λ (u : State M P). Working start span runs refused u) (sym same) works))))
  where
    t' : RingTable
    t' = turned s.rings class meta

    word : ℕ
    word = first_of (ring_of t' class)

    after : State M P
    after = record s { seat = active_set w class word; rings = t'; bounces = b }

    apart : IsTable t' → IsIn s.rings class meta → (k m : ℕ) → k ≢ class → IsIn s.rings k m → m ≢ meta
    apart is' in' k m other there same' = other (one_ring t' k class m is'
        (turned_stays s.rings class meta k m in' there)
        (subst (IsIn t' class) (sym same') (turned_stays s.rings class meta class meta in' in')))

    only : IsTable t' → IsIn s.rings class meta → OnlyRing class s after
    only is' in' = record {
      state = refl;
      view = set_search s.seat w class word (subst (λ (u : View). u ≡ with_search s.seat u) (sym takes.changes.view) refl);
      came = record { words = takes.changes.words; readings = ap (λ (u : View). u.readings) takes.changes.view };
      rings = (turned_changes s.rings class meta (in_within s.rings class meta in')).others;
      bare = λ k m below other there zero. takes.changes.zero_avail m (apart is' in' k m other there) zero;
    }

    ringed : IsTable t' → IsIn s.rings class meta → IsBare s.seat.desk.zero_avail s.rings class → AreRinged s.seat.desk.groups s.seat.desk.listed s.seat.desk.zero_avail s.rings
        → AreRinged s.seat.desk.groups w.desk.listed w.desk.zero_avail t'
    ringed is' in' bare' are =
        subst (λ (ls : List ℕ). AreRinged s.seat.desk.groups ls w.desk.zero_avail t') (sym (changes_listed s.seat w meta takes.changes))
        (stock_alone s.seat.desk.groups s.seat.desk.listed s.seat.desk.zero_avail w.desk.zero_avail t' class meta is' (turned_first s.rings class meta in') takes.changes.zero_avail
        (turn s.seat.desk.groups s.seat.desk.listed s.seat.desk.zero_avail s.rings class meta in' bare' are))

    served : IsOfClass s.seat.desk.groups meta class → s.seat.held ≡ [] → HasServed class bytes after.seat meta index
    served of idle' = record {
      group = of.group;
      there = subst (Among of.group) (sym (changes_groups s.seat w meta takes.changes)) of.there;
      of_meta = of.of_meta;
      of_class = of.of_class;
      within = takes.within of.group of.there of.of_meta;
      motion = subst (λ (hs : List Held). w.held ≡ in_motion of.group index ∷ hs) idle' (takes.held of.group of.there of.of_meta);
      roomy = plain_room of.group class bytes (takes.plain of.group of.there of.of_meta) of.of_class known fits;
    }

    at : IsTable t' → IsIn s.rings class meta → IsBare s.seat.desk.zero_avail s.rings class → s.seat.held ≡ [] → Working start span runs refused s
        → Serves start span runs refused class bytes meta index s after
    at is' in' bare' idle' works' = record {
      working = only_works start span runs refused class s after (only is' in') refl (ringed is' in' bare' works'.stands.ringed) works'
          (followed_ring works'.followed w.desk.active t' class (rotated meta (ring_of s.rings class)) (ap (λ (u : View). u.desk.active) takes.changes.view) refl);
      only = only is' in';
      served = served (works'.stands.ringed.grouped class meta known in') idle';
    }
