-- What holds of a core on the way to a slot of a new group.
use Rattle.std.proofs.Common.{◌≡◌, ℕ, ◌+◌, ◌*◌, ◌<◌, ◌≤◌, Bool, true, false, if◌then◌else◌, List, [], Contains, max, sym, ap, ◌∙◌, subst, arith}
use Rattle.std.proofs.Math.Nat.{le-max_left, le-max_right, max-le, mul_assoc}
use Rattle.ng_class.specs.Class.{units_of}
use Rattle.ng_class.proofs.Classes.{units_of_le}
use Rattle.ng_mapper.specs.Mapping.{NotesNone, Span}
use Rattle.ng_mapper.specs.Runs as mapper
use Rattle.ng_mapper.specs.declared.refusals.Refusals.{Refusals}
use Rattle.ng_policy.specs.Ask.{IsCount}
use Rattle.ng_policy.specs.declared.ask.Ask.{Ask}
use Rattle.ng_shelf.specs.Shape.{group_bytes, makes_one, pages_of, shape_of}
use Rattle.ng_shelf.specs.Stock.{Stock}
use Rattle.ng_shelf.specs.declared.shape.RunShape.{RunShape}
use Rattle.ng_terms.specs.Accounts.{pages_for}
use Rattle.ng_view.specs.declared.view.Start.{Start}
use Rattle.ng_view.specs.declared.view.View.{View}
use Rattle.ng_ledger.specs.Rings.{IsBare}
use Rattle.ng_ledger.specs.Standing.{KeepsHand, Ledger}
use Rattle.ng_supply.specs.Metas.{FindsMeta, IsHeapStock}
use Rattle.ng_supply.specs.Runs.{IsHeapMapper, RefusesRun}
use Rattle.ng_group.specs.Serving.{FindsNoSlot, OnlyRing}
use Rattle.ng_group.specs.States.{State, Working, ledger_of}
use Rattle.ng_group.specs.Steps.{GoesOn, HandsOver, LeavesBelow}
use Rattle.ng_group.proofs.AskingLemmas.{none_inside, only_inside}
use Rattle.ng_group.proofs.RecursionLemmas.{Brings, brings_before, brings_over, brings_put, brings_then, put_works, stocked}
use Rattle.ng_group.proofs.SupplyLemmas.{found_brings, found_goes, found_runs, found_view, refused_goes, refused_view, supplied, supplied_bare, supplied_below, with_supply}
use Rattle.ng_group.proofs.WorkingLemmas.{below_then, goes_then, only_below, only_goes, only_hand}

-- ---- the classes below one
pub below_less : {class above : ℕ} {before after : Ledger} → class < above → LeavesBelow above before after → LeavesBelow class before after
below_less less below = record {
  rings = λ k low. below.rings k (omega (arith, low, less));
  usage = λ k low. below.usage k (omega (arith, low, less));
  bare = λ k m low in' noted. below.bare k m (omega (arith, low, less)) in' noted;
}

pub below_of : {class same : ℕ} {before after : Ledger} → class ≡ same → LeavesBelow class before after → LeavesBelow same before after
below_of {before = before} {after = after} is below = subst (λ k. LeavesBelow k before after) is below

-- a ring below was bare, and still is
pub bare_after : {class above : ℕ} {before after : Ledger} → class < above → LeavesBelow above before after
    → IsBare before.seat.desk.zero_avail before.rings class → IsBare after.seat.desk.zero_avail after.rings class
bare_after {class} less below bare m in' =
    let was = subst (λ (ring : List ℕ). Contains ring m) (below.rings class less) in' in
    below.bare class m less was (bare m was)

-- ---- the most refused pages
-- the pages of a group's shape are few
pub shape_few : (ask : Ask) (class bytes count : ℕ) → ask.class ≡ class → class < 48 → bytes + 4 ≤ 16 * units_of class → IsCount ask.class count
    → (shape_of ask bytes count).pages ≤ 512
unfolding shape_of
shape_few ask class bytes count same known room is = by_test (makes_one ask bytes count)
  where
    shape_by : Bool → RunShape
    shape_by b = if b then record { count = 1; pages = pages_for bytes } else record { count = count; pages = pages_of (group_bytes ask.class count) }

    by_test : (b : Bool) → (shape_by b).pages ≤ 512
    by_test true =
        let wide : units_of class ≤ 8191 = units_of_le class known in
        omega (arith, wide, room)
    by_test false =
        let units : 16 * units_of ask.class * count ≡ 16 * (units_of ask.class * count) = mul_assoc 16 (units_of ask.class) count in
        let fits : units_of ask.class * count < 65536 = is.fits in
        omega (arith, units, fits)

-- the most refused pages rose to 512 at most
pub most_few : (was mid now pages : ℕ) → mid ≡ was → now ≡ max mid pages → pages ≤ 512 → now ≤ max was 512
most_few was mid now pages before same few =
    let left : was ≤ max was 512 = le-max_left was 512 in
    let right : 512 ≤ max was 512 = le-max_right was 512 in
    let most : max was pages ≤ max was 512 = max-le left (omega (arith, few, right)) in
    subst (λ n. n ≤ max was 512) (sym (same ∙ ap (λ n. max n pages) before)) most

module _ {M P : Type 0} (start : Start) (span : M → Span) (runs : M → List mapper.Run) (refused : M → Refusals) where
  -- the meta is in hand besides those that were, and the classes below are as before
  pub record HasMeta (class meta : ℕ) (before after : State M P) : Type 0 where
    pub working : Working start span runs refused after
    pub on : GoesOn before.seat after.seat
    pub brings : Brings start meta (ledger_of before) (ledger_of after)
    pub below : LeavesBelow class (ledger_of before) (ledger_of after)

  -- so it is where a search found it, after the ring of the class was found bare
  pub record HasFound (class meta : ℕ) (before after : State M P) : Type 0 where
    pub has : HasMeta class meta before after
    pub bare : IsBare after.seat.desk.zero_avail after.rings class
    pub idle : after.seat.held ≡ []
    pub calm : NotesNone (refused before.mapper) (refused after.mapper)

  -- what holds after a call
  pub record HasLeft (class : ℕ) (before after : State M P) : Type 0 where
    pub working : Working start span runs refused after
    pub on : GoesOn before.seat after.seat
    pub hand : KeepsHand (ledger_of before) (ledger_of after)
    pub below : LeavesBelow class (ledger_of before) (ledger_of after)

  -- a meta was searched for, once the ring was
  module _ {class : ℕ} {before inside found : State M P} {w : View} {stock : Stock} (now : M) (same : inside ≡ found) (known : class < 48) (idle : before.seat.held ≡ [])
      (only' : OnlyRing class before found) (none' : FindsNoSlot class before found) (works' : Working start span runs refused found)
      (maps : IsHeapMapper start w (span now) (runs now) (refused now)) (stocks : IsHeapStock start w stock) where
    abbrev searched : State M P
    searched = record inside { seat = w; stock = stock; mapper = now }

    only : OnlyRing class before inside
    only = only_inside class before inside found same only'

    none : FindsNoSlot class before inside
    none = none_inside class before inside found same none'

    works : Working start span runs refused inside
    works = subst (λ (s : State M P). Working start span runs refused s) (sym same) works'

    refused_mid : refused inside.mapper ≡ refused before.mapper
    refused_mid = ap (λ (s : State M P). refused s.mapper) only.state

    below_mid : w ≡ with_supply inside.seat w → LeavesBelow class (ledger_of before) (ledger_of searched)
    below_mid view = below_then class (ledger_of before) (ledger_of inside) (ledger_of searched) (only_below class before inside known only)
        (supplied_below class (ledger_of inside) w stock view)

    pub meta_found : {meta : ℕ} → FindsMeta start inside.seat (runs inside.mapper) inside.stock meta w (runs now) stock → NotesNone (refused inside.mapper) (refused now)
        → HasFound class meta before searched
    meta_found {meta} finds calm =
        let view : w ≡ with_supply inside.seat w = found_view start inside.seat (runs inside.mapper) inside.stock meta w (runs now) stock finds in
        record {
          has = record {
            working = supplied start (span inside.mapper) (span now) (runs inside.mapper) (runs now) (refused inside.mapper) (refused now) (ledger_of inside) w stock works view
                (found_runs start inside.seat (runs inside.mapper) inside.stock meta w (runs now) stock finds) maps stocks;
            on = goes_then before.seat inside.seat w (only_goes class before inside only) (found_goes start inside.seat (runs inside.mapper) inside.stock meta w (runs now) stock finds);
            brings = brings_before start meta (ledger_of inside) (ledger_of searched)
                (found_brings start (runs inside.mapper) (runs now) (ledger_of inside) meta w stock finds)
                (ledger_of before) (only_hand class before inside only);
            below = below_mid view;
          };
          bare = supplied_bare class (ledger_of inside) w view none.bare;
          idle = ap (λ (x : View). x.held) view ∙ none.held ∙ idle;
          calm = subst (λ (r : Refusals). NotesNone r (refused now)) refused_mid calm;
        }

    -- or a page was refused
    module _ {number : ℕ} (refuses : RefusesRun inside.seat (refused inside.mapper) (refused now) 1 number w) where
      pub page_on : GoesOn before.seat w
      page_on = goes_then before.seat inside.seat w (only_goes class before inside only) (refused_goes inside.seat w (refused inside.mapper) (refused now) 1 number refuses)

      pub page_below : LeavesBelow class (ledger_of before) (ledger_of searched)
      page_below = below_mid (refused_view inside.seat w (refused inside.mapper) (refused now) 1 number refuses)

-- ---- the meta is in hand
module _ {M P : Type 0} {start : Start} {span : M → Span} {runs : M → List mapper.Run} {refused : M → Refusals} {class meta : ℕ} {before found : State M P}
    (has : HasMeta start span runs refused class meta before found) where
  -- the meta is still in hand after a call
  pub meta_then : (mid : State M P) → Working start span runs refused mid → GoesOn found.seat mid.seat → KeepsHand (ledger_of found) (ledger_of mid)
      → LeavesBelow class (ledger_of found) (ledger_of mid) → HasMeta start span runs refused class meta before mid
  meta_then mid works on keeps below = record {
    working = works;
    on = goes_then before.seat found.seat mid.seat has.on on;
    brings = brings_then start meta (ledger_of before) (ledger_of found) has.brings (ledger_of mid) keeps;
    below = below_then class (ledger_of before) (ledger_of found) (ledger_of mid) has.below below;
  }

  -- it goes to a new group
  pub meta_over : (after : State M P) → Working start span runs refused after → GoesOn found.seat after.seat
      → HandsOver meta (ledger_of found) (ledger_of after) → LeavesBelow class (ledger_of found) (ledger_of after) → HasLeft start span runs refused class before after
  meta_over after works on over below = record {
    working = works;
    on = goes_then before.seat found.seat after.seat has.on on;
    hand = brings_over start meta (ledger_of before) (ledger_of found) has.brings (ledger_of after) over;
    below = below_then class (ledger_of before) (ledger_of found) (ledger_of after) has.below below;
  }

  put_there : HasLeft start span runs refused class before (record found { stock = stocked found.stock meta })
  put_there = record {
    working = put_works start (span found.mapper) (runs found.mapper) (refused found.mapper) (ledger_of found) meta has.working has.brings.has;
    on = has.on;
    hand = brings_put start meta (ledger_of before) (ledger_of found) has.brings;
    below = record { rings = has.below.rings; usage = has.below.usage; bare = has.below.bare };
  }

  -- or to the stock
  pub meta_put : {e : State M P} {put : Stock} → e ≡ found → put ≡ stocked e.stock meta → HasLeft start span runs refused class before (record e { stock = put })
  meta_put {e} {put} same puts =
      subst (λ (x : Stock). HasLeft start span runs refused class before (record e { stock = x })) (sym puts)
      (subst (λ (s : State M P). HasLeft start span runs refused class before (record s { stock = stocked s.stock meta })) (sym same) put_there)
