-- Wanted groups: of a call, and of the call inside it for a slot that carries the group.
use Rattle.std.proofs.Common.{◌≡◌, ◌≢◌, ℕ, ◌+◌, ◌<◌, ◌≤◌, List, [], ◌∷◌, ◌++◌, Contains, true, length, refl, sym, ap, ◌∙◌, subst, ⊎_elim, inl, inr, arith}
use Rattle.std.proofs.lemmas.Bool.{cases_eq}
use Rattle.std.proofs.lemmas.List.{append_assoc}
use Rattle.ng_lists.specs.Rings.{ring_of}
use Rattle.ng_policy.specs.Bounce.{Bounces}
use Rattle.ng_policy.specs.declared.ask.Ask.{Ask}
use Rattle.ng_ledger.specs.Rings.{IsIn}
use Rattle.ng_serve.specs.Reads.{AllBare, IsBareIn}
use Rattle.ng_serve.proofs.Readings.{among_left, among_right}
use Rattle.ng_shelf.specs.Stock.{free_of}
use Rattle.ng_view.specs.Lists.{Among}
use Rattle.ng_view.specs.declared.view.Group.{Group}
use Rattle.ng_view.specs.declared.view.Run.{Run}
use Rattle.ng_view.specs.declared.view.View.{View}
use Rattle.ng_group.specs.Asking.{AreRising, AreWanted, IsAsked, IsCarried, IsChain, IsLastWanted, IsSought, Want, WantsArea, WantsRun, carried_bytes}
use Rattle.ng_group.specs.Building.{IsAsk}
use Rattle.ng_group.specs.Serving.{IsLeft}
use Rattle.ng_group.specs.States.{State}
use Rattle.ng_group.specs.Steps.{Came}
use Rattle.ng_group.proofs.BuildingLemmas.{carrier_above}

-- ---- words that were read
pub bare_left : (xs ys : List (ℕ × ℕ)) (m : ℕ) → IsBareIn xs m → IsBareIn (xs ++ ys) m
bare_left xs ys m bare = record {
  avail = bare.avail;
  no_avail = bare.no_avail;
  avail_read = among_left xs ys (m + 24, bare.avail) bare.avail_read;
  freed_read = among_left xs ys (m + 28, 0) bare.freed_read;
}

pub bare_right : (xs ys : List (ℕ × ℕ)) (m : ℕ) → IsBareIn ys m → IsBareIn (xs ++ ys) m
bare_right xs ys m bare = record {
  avail = bare.avail;
  no_avail = bare.no_avail;
  avail_read = among_right xs ys (m + 24, bare.avail) bare.avail_read;
  freed_read = among_right xs ys (m + 28, 0) bare.freed_read;
}

-- words read in four parts
pub in_four : (ws xs ys zs : List (ℕ × ℕ)) → ws ++ ((xs ++ ys) ++ zs) ≡ (ws ++ xs) ++ (ys ++ zs)
in_four ws xs ys zs = ap (λ (l : List (ℕ × ℕ)). ws ++ l) (append_assoc xs ys zs) ∙ sym (append_assoc ws xs (ys ++ zs))

-- the words of two steps
abbrev pub came_on : (v u w : View) → Came v u → Came u w → Came v w
came_on v u w first second = record {
  words = first.words ++ second.words;
  readings = second.readings
      ∙ ap (λ (l : List (ℕ × ℕ)). l ++ second.words) first.readings
      ∙ append_assoc v.readings first.words second.words;
}

-- ---- the same usage and bounces
pub asked_moved : {M P : Type 0} (counts : Ask → ℕ → Type 0) (s mid : State M P) (w : Want) → mid.usage ≡ s.usage → mid.bounces ≡ s.bounces → IsAsked counts mid w → IsAsked counts s w
asked_moved counts s mid w usage bounces asked = record {
  ask_is = subst (λ (u : List ℕ). IsAsk u s.bounces w.class w.ask) usage (subst (λ (b : Bounces). IsAsk mid.usage b w.class w.ask) bounces asked.ask_is);
  count_is = asked.count_is;
  allowed = asked.allowed;
}

pub carried_moved : {M P : Type 0} (counts : Ask → ℕ → Type 0) (s mid : State M P) (w : Want) (next : ℕ) → mid.usage ≡ s.usage → mid.bounces ≡ s.bounces
    → IsCarried counts mid w next → IsCarried counts s w next
carried_moved counts s mid w next usage bounces carried = record {
  asked = asked_moved counts s mid w usage bounces carried.asked;
  small = carried.small;
  least = carried.least;
}

pub chain_moved : {M P : Type 0} (counts : Ask → ℕ → Type 0) (s mid : State M P) (class bytes : ℕ) (ws : List Want) → mid.usage ≡ s.usage → mid.bounces ≡ s.bounces → IsChain counts mid class bytes ws → IsChain counts s class bytes ws
chain_moved counts s mid class bytes [] usage bounces chain = tt
chain_moved counts s mid class bytes (w ∷ ws) usage bounces (of_class, of_bytes, inl last) = (of_class, of_bytes, inl last)
chain_moved counts s mid class bytes (w ∷ ws) usage bounces (of_class, of_bytes, inr (next, carried, chain)) = (
  of_class,
  of_bytes,
  inr (
    next,
    carried_moved counts s mid w next usage bounces carried,
    chain_moved counts s mid next (carried_bytes w) ws usage bounces chain,
  ),
)

-- the classes rise
pub few_wants : {M P : Type 0} (counts : Ask → ℕ → Type 0) (s : State M P) (class bytes : ℕ) (ws : List Want) → class < 48 → IsChain counts s class bytes ws → class + length ws ≤ 48
few_wants counts s class bytes [] known chain = omega (arith, known)
few_wants counts s class bytes (w ∷ ws) known (of_class, of_bytes, inl last) =
    let none : length ws ≡ 0 = ap (λ (xs : List Want). length xs) last in
    omega (arith, known, none)
few_wants counts s class bytes (w ∷ ws) known (of_class, of_bytes, inr (next, carried, chain)) =
    let above : w.class < next = carrier_above w.class w.count next (omega (arith, of_class, known)) carried.asked.allowed.some carried.least in
    let rest : next + length ws ≤ 48 = few_wants counts s next (carried_bytes w) ws carried.least.known chain in
    omega (arith, above, of_class, rest)

-- an area holds more metas than groups can be wanted
pub no_area : {M P : Type 0} (counts : Ask → ℕ → Type 0) (s : State M P) (words : List (ℕ × ℕ)) (class bytes : ℕ) → class < 48 → 100 ≤ length (free_of s.stock) → WantsArea counts s words class bytes → ⊥
no_area counts s words class bytes known many wants =
    let most : class + length wants.wants ≤ 48 = few_wants counts s class bytes wants.wants known wants.wanted.chain in
    let few : length (free_of s.stock) < length wants.wants = wants.few in
    omega (arith, most, few, many)

-- ---- groups of rising classes
pub rising_less : (less class : ℕ) (gs : List Group) → less ≤ class → AreRising class gs → AreRising less gs
rising_less less class [] below rising = tt
rising_less less class (g ∷ gs) below (above, rest) = (omega (arith, below, above), rest)

-- ---- a call searched the ring of its class, and for a meta
pub record Seeks {M P : Type 0} (class : ℕ) (s mid : State M P) : Type 0 where
  pub came : Came s.seat mid.seat
  pub read : (m : ℕ) → IsIn s.rings class m → IsBareIn came.words m
  pub all : AllBare came.words
  pub left : IsLeft (ring_of s.rings class) (ring_of mid.rings class)
  pub rings : (k : ℕ) → k ≢ class → ring_of mid.rings k ≡ ring_of s.rings k
  pub groups : mid.seat.desk.groups ≡ s.seat.desk.groups
  pub nests : mid.seat.desk.layout.nests ≡ s.seat.desk.layout.nests
  pub usage : mid.usage ≡ s.usage
  pub bounces : mid.bounces ≡ s.bounces
  pub counter : mid.counter ≡ s.counter

abbrev pub runs_of : {M P : Type 0} → State M P → List Run
runs_of s = s.seat.desk.layout.runs

-- a meta was free
pub record TakesFree {M P : Type 0} (s mid : State M P) : Type 0 where
  pub runs : runs_of mid ≡ runs_of s
  pub free : length (free_of s.stock) ≤ length (free_of mid.stock) + 1

-- none was, and an area came
pub record TakesArea {M P : Type 0} (s mid : State M P) : Type 0 where
  pub run : Run
  pub area : run.area ≡ true
  pub page : run.pages ≡ 1
  pub runs : runs_of mid ≡ run ∷ runs_of s
  pub none : free_of s.stock ≡ []
  pub free : 100 ≤ length (free_of mid.stock)

-- what the words tell that were read by the call and inside it
module _ {M P : Type 0} (counts : Ask → ℕ → Type 0) (s mid : State M P) (class bytes : ℕ) (seeks : Seeks class s mid)
    (w : Want) (of_class : w.class ≡ class) (of_bytes : w.bytes ≡ bytes)
    (words : List (ℕ × ℕ)) (read : (m : ℕ) → IsBareIn seeks.came.words m → IsBareIn words m) where
  pub one_wanted : AreWanted counts s words class bytes (w ∷ [])
  one_wanted = record { chain = (of_class, of_bytes, inl refl); bare = bare }
    where
      bare : (v : Want) → Among v (w ∷ []) → (m : ℕ) → IsIn s.rings v.class m → IsBareIn words m
      bare v (inl same) m in' = read m (seeks.read m (subst (λ k. IsIn s.rings k m) (ap (λ (x : Want). x.class) same ∙ of_class) in'))
      bare v (inr none) m in' = absurd none

  pub last_first : IsAsked counts s w → IsLastWanted counts s words class bytes w
  last_first asked = record { asked = asked; before = []; wanted = one_wanted }

  pub area_first : free_of s.stock ≡ [] → WantsArea counts s words class bytes
  area_first none = record {
    wants = w ∷ [];
    wanted = one_wanted;
    few = let empty : length (free_of s.stock) ≡ 0 = ap (λ (xs : List ℕ). length xs) none in omega (arith, empty);
  }

  module _ (next : ℕ) (carried : IsCarried counts s w next) (rest : List (ℕ × ℕ)) (reread : (m : ℕ) → IsBareIn rest m → IsBareIn words m) where
    pub wanted_more : (ws : List Want) → AreWanted counts mid rest next (carried_bytes w) ws → AreWanted counts s words class bytes (w ∷ ws)
    wanted_more ws wanted = record {
      chain = (of_class, of_bytes, inr (next, carried, chain_moved counts s mid next (carried_bytes w) ws seeks.usage seeks.bounces wanted.chain));
      bare = bare;
    }
      where
        here : (v : Want) → v.class ≡ class → (m : ℕ) → IsIn s.rings v.class m → IsBareIn words m
        here v same m in' = read m (seeks.read m (subst (λ k. IsIn s.rings k m) same in'))

        there : (v : Want) → v.class ≢ class → Among v ws → (m : ℕ) → IsIn s.rings v.class m → IsBareIn words m
        there v apart among m in' = reread m (wanted.bare v among m (subst (λ (ring : List ℕ). Contains ring m) (sym (seeks.rings v.class apart)) in'))

        bare : (v : Want) → Among v (w ∷ ws) → (m : ℕ) → IsIn s.rings v.class m → IsBareIn words m
        bare v (inl same) m in' = here v (ap (λ (x : Want). x.class) same ∙ of_class) m in'
        bare v (inr among) m in' = ⊎_elim (λ (same : v.class ≡ class). here v same m in') (λ (apart : v.class ≢ class). there v apart among m in') (cases_eq v.class class)

    pub last_more : (v : Want) → IsLastWanted counts mid rest next (carried_bytes w) v → IsLastWanted counts s words class bytes v
    last_more v last = record {
      asked = asked_moved counts s mid v seeks.usage seeks.bounces last.asked;
      before = w ∷ last.before;
      wanted = wanted_more (last.before ++ v ∷ []) last.wanted;
    }

    pub sought_more : (k : ℕ) → IsSought counts mid rest next (carried_bytes w) k → IsSought counts s words class bytes k
    sought_more k told = inr (⊎_elim
        (λ (here : k ≡ next). (w, last_first carried.asked, subst (λ n. IsCarried counts s w n) (sym here) carried))
        (λ (later : (v : Want) × IsLastWanted counts mid rest next (carried_bytes w) v × IsCarried counts mid v k).
        (later.0, last_more later.0 later.1, carried_moved counts s mid later.0 k seeks.usage seeks.bounces later.2))
        told)

    unfoldable pub run_more : (pages : ℕ) → WantsRun counts mid rest next (carried_bytes w) pages → WantsRun counts s words class bytes pages
    run_more pages run = record {
      want = run.want;
      last = last_more run.want run.last;
      large = run.large;
      pages_are = run.pages_are;
    }

    pub area_more : TakesFree s mid → WantsArea counts mid rest next (carried_bytes w) → WantsArea counts s words class bytes
    area_more takes area = record {
      wants = w ∷ area.wants;
      wanted = wanted_more area.wants area.wanted;
      few = let less : length (free_of mid.stock) < length area.wants = area.few in omega (arith, less, takes.free);
    }
