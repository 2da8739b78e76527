-- What a call for a slot builds and asks for, by the contracts of its calls.
use Rattle.std.proofs.Common.{◌≡◌, ◌⊎◌, ◌↔◌, ℕ, ◌+◌, ◌*◌, ◌%◌, ◌^◌, ◌<◌, Bool, true, false, IsTrue, List, ◌∷◌, refl, sym, ap, ◌∙◌, subst, arith}
use Rattle.ng_view.specs.Lists.{count_of}
use Rattle.ng_class.specs.Class.{IsLeastClass, units_of}
use Rattle.ng_view.specs.Notes.{plain_run}
use Rattle.ng_mapper.specs.Runs as mapper
use Rattle.ng_mapper.specs.declared.refusals.Refusals.{Refusals}
use Rattle.ng_policy.specs.Ask.{IsCount}
use Rattle.ng_policy.specs.Bounce.{accounted, stepped}
use Rattle.ng_policy.specs.declared.ask.Ask.{Ask}
use Rattle.ng_shelf.specs.Shape.{IsNestedSize, shape_of}
use Rattle.ng_shelf.specs.Stock.{Stock}
use Rattle.ng_supply.specs.Metas.{FindsMeta}
use Rattle.ng_view.specs.declared.view.Start.{Start}
use Rattle.ng_view.specs.declared.view.View.{View}
use Rattle.ng_group.specs.Asking.{GetsSlot, IsAsked, IsCarried, LeavesHeap, RefusedWanted, Want, carried_bytes}
use Rattle.ng_group.specs.Building.{HasBuilt, IsAsk, LeavesAll}
use Rattle.ng_group.specs.Serving.{FindsNoSlot, OnlyRing}
use Rattle.ng_group.specs.States.{State, ledger_of}
use Rattle.ng_group.specs.Steps.{GoesOn, LeavesBelow}
use Rattle.ng_group.proofs.AskingLemmas.{found_seeks, takes}
use Rattle.ng_group.proofs.GroupWantLemmas.{builds_nested, builds_run, run_cause, run_leaves, slot_cause, slot_leaves}
use Rattle.ng_group.proofs.WantLemmas.{Seeks, TakesArea, TakesFree, asked_moved}

-- ---- what a test and an answer tell
pub is_small : {Q : Type 0} (b : Bool) → (IsTrue b ↔ Q) → b ≡ true → Q
is_small b tells is = tells.0 is

pub is_large : {Q : Type 0} (b : Bool) → (IsTrue b ↔ Q) → b ≡ false → ¬ Q
is_large b tells is q =
    let one : count_of true ≡ count_of false = ap count_of (sym (tells.1 q) ∙ is) in
    omega (arith, one)

-- the rules were asked of a group, once the ring of its class was found bare and a meta was found for it
pub record WasAsked {M P : Type 0} (start : Start) (runs : M → List mapper.Run) (gives : P → Ask → ℕ → Type 0) (class : ℕ) (s inside : State M P)
    (meta : ℕ) (w : View) (stock : Stock) (m : M) (ask : Ask) (count : ℕ) : Type 0 where
  pub only : OnlyRing class s inside
  pub none : FindsNoSlot class s inside
  pub finds : FindsMeta start inside.seat (runs inside.mapper) inside.stock meta w (runs m) stock
  pub asks : IsAsk inside.usage inside.bounces class ask
  pub answer : gives inside.rules ask count
  pub allowed : IsCount ask.class count

module _ {M P : Type 0} {start : Start} {runs : M → List mapper.Run} {gives : P → Ask → ℕ → Type 0} {class : ℕ} {s inside : State M P}
    {meta : ℕ} {w : View} {stock : Stock} {m : M} {ask : Ask} {count : ℕ} (was : WasAsked start runs gives class s inside meta w stock m ask count) (bytes : ℕ) where
  abbrev mid : State M P
  mid = record inside { seat = w; stock = stock; mapper = m }

  abbrev want : Want
  want = record { class = class; bytes = bytes; ask = ask; count = count }

  abbrev counts : Ask → ℕ → Type 0
  counts = gives s.rules

  sought : Seeks class s mid
  sought = found_seeks class s inside was.only start (runs inside.mapper) (runs m) meta w stock m was.finds was.none

  took : TakesFree s mid ⊎ TakesArea s mid
  took = takes class s inside was.only start (runs inside.mapper) (runs m) meta w stock m was.finds

  same_rules : inside.rules ≡ s.rules
  same_rules = ap (λ (x : State M P). x.rules) was.only.state

  asked : IsAsked counts s want
  asked = asked_moved counts s mid want sought.usage sought.bounces (record {
    ask_is = was.asks;
    count_is = subst (λ (p : P). gives p ask count) same_rules was.answer;
    allowed = subst (λ k. IsCount k count) was.asks.class_is was.allowed;
  })

  -- ---- with a run of its own
  module _ (large : ¬ IsNestedSize class count) where
    pub mapped_builds : (after : State M P) → GoesOn w after.seat → HasBuilt meta ask.class (shape_of ask bytes count).count mid after
        → ((base : ℕ) × (after.seat.desk.layout.runs ≡ plain_run base (shape_of ask bytes count).pages ∷ w.desk.layout.runs))
        → after.counter ≡ (inside.counter + 1) % 2 ^ 64 → after.bounces ≡ stepped (accounted inside.bounces ask.class) → GetsSlot counts s after class bytes
    mapped_builds after on built run counter bounces = builds_run counts s mid class bytes sought took want refl refl asked large after run.0 meta (shape_of ask bytes count).count on.came refl
        (subst (λ k. HasBuilt meta k (shape_of ask bytes count).count mid after) was.asks.class_is built) run.1 counter
        (subst (λ k. after.bounces ≡ stepped (accounted inside.bounces k)) was.asks.class_is bounces)

  -- ---- in a slot of another group
  module _ (small : IsNestedSize class count) (next size : ℕ) (size_is : size ≡ 16 * units_of class * count + 12) (least : IsLeastClass size next) where
    carried : IsCarried counts s want next
    carried = record { asked = asked; small = small; least = subst (λ n. IsLeastClass n next) size_is least }

    pub nested_builds : class < 48 → (inner after : State M P) → GetsSlot (gives inside.rules) mid inner next size → GoesOn inner.seat after.seat
        → HasBuilt meta class count inner after → after.seat.desk.layout.runs ≡ inner.seat.desk.layout.runs → after.counter ≡ inner.counter
        → after.bounces ≡ inner.bounces → GetsSlot counts s after class bytes
    nested_builds known inner after inner_builds on built same_runs counter bounces = builds_nested counts s mid class bytes sought took want refl refl next carried inner known after meta
        (subst (λ n. GetsSlot counts mid inner next n) size_is (subst (λ (p : P). GetsSlot (gives p) mid inner next size) same_rules inner_builds))
        on.came built same_runs counter bounces

  -- ---- a map call was refused, and the meta went to the stock
  module _ (inner : State M P) {e : State M P} (same : e ≡ inner) (put : Stock) where
    seat : e.seat ≡ inner.seat
    seat = ap (λ (x : State M P). x.seat) same

    rings : e.rings ≡ inner.rings
    rings = ap (λ (x : State M P). x.rings) same

    usage : e.usage ≡ inner.usage
    usage = ap (λ (x : State M P). x.usage) same

    counter : e.counter ≡ inner.counter
    counter = ap (λ (x : State M P). x.counter) same

    bounces : e.bounces ≡ inner.bounces
    bounces = ap (λ (x : State M P). x.bounces) same

    -- for the run of the group
    module _ (large : ¬ IsNestedSize class count) (left : LeavesAll mid inner) where
      pub mapped_cause : inner.bounces ≡ stepped (accounted inside.bounces ask.class)
          → (refused : M → Refusals) → (refused inner.mapper).last ≡ (shape_of ask bytes count).pages
          → RefusedWanted counts s (record e { stock = put }) class bytes (refused e.mapper).last
      mapped_cause counted refused is = run_cause counts s mid class bytes sought took want refl refl asked large (record e { stock = put }) inner left seat rings usage counter
          (refused e.mapper).last
          (ap (λ (x : State M P). (refused x.mapper).last) same ∙ is)
          (bounces ∙ subst (λ k. inner.bounces ≡ stepped (accounted inside.bounces k)) was.asks.class_is counted)

      pub mapped_leaves : LeavesHeap s (record e { stock = put })
      mapped_leaves = run_leaves counts s mid class bytes sought took want refl refl asked large (record e { stock = put }) inner left seat rings usage counter

    -- in the call for the slot
    module _ (small : IsNestedSize class count) (next size : ℕ) (size_is : size ≡ 16 * units_of class * count + 12) (least : IsLeastClass size next) where
      inner_cause : (pages : ℕ) → RefusedWanted (gives inside.rules) mid inner next size pages → RefusedWanted counts mid inner next (carried_bytes want) pages
      inner_cause pages cause =
          subst (λ n. RefusedWanted counts mid inner next n pages) size_is
          (subst (λ (p : P). RefusedWanted (gives p) mid inner next size pages) same_rules cause)

      pub nested_cause : (refused : M → Refusals) → RefusedWanted (gives inside.rules) mid inner next size (refused inner.mapper).last
          → RefusedWanted counts s (record e { stock = put }) class bytes (refused e.mapper).last
      nested_cause refused cause = slot_cause counts s mid class bytes sought took want refl refl next
          (carried small next size size_is least)
          inner
          (record e { stock = put })
          seat
          rings
          usage
          counter
          (refused e.mapper).last
          bounces
          (subst (λ n. RefusedWanted counts mid inner next (carried_bytes want) n) (sym (ap (λ (x : State M P). (refused x.mapper).last) same))
          (inner_cause (refused inner.mapper).last cause))

      pub nested_leaves : (pages : ℕ) → RefusedWanted (gives inside.rules) mid inner next size pages → LeavesHeap mid inner → class < 48 → class < next
          → LeavesBelow next (ledger_of mid) (ledger_of inner) → LeavesHeap s (record e { stock = put })
      nested_leaves pages cause leaves known above below =
          let told : RefusedWanted counts mid inner next (carried_bytes want) pages = inner_cause pages cause in
          slot_leaves counts s mid class bytes sought took want refl refl next
          (carried small next size size_is least)
          inner
          (record e { stock = put })
          seat
          rings
          usage
          counter
          leaves
          (told.came.words, told.one_area)
          known
          (below.rings class above)
