-- A slot of the trial's group comes back to the lock's seat.
use Rattle.std.proofs.Common.{◌≡◌, ℕ, zero, suc, ◌+◌, ◌*◌, ◌≤◌, eqb, cond, Bool, true, false, List, [], ◌∷◌, ◌++◌, map, refl, sym, ap, ◌∙◌, subst, ⊎_elim, inl, arith}
use Rattle.std.specs.Int.{bit_at}
use Rattle.std.specs.Prelude.{◌&&◌, Some}
use Rattle.ng_rule.proofs.geometry.Lists.{find_among}
use Rattle.ng_view.specs.Conditions.{IsBlanked, IsSettled, IsUnborn}
use Rattle.ng_view.specs.LockSteps.{avail_emptied, freed_taken, moving}
use Rattle.ng_view.specs.Lists.{Among, find, is_at, select}
use Rattle.ng_view.specs.Steps.{in_motion, read}
use Rattle.ng_view.specs.declared.view.Group.{Group}
use Rattle.ng_view.specs.declared.view.Held.{Held}
use Rattle.ng_view.specs.declared.view.Run.{Run}
use Rattle.ng_view.specs.declared.view.View.{View}
use Rattle.ng_view.specs.Fetches.{ClearsFreed, EmptiesAvail, HasGroup}
use Rattle.ng_view.specs.Groups.{HasAllSlots}
use Rattle.ng_mask.specs.Fetches.{Captures}
use Rattle.ng_space.specs.Callers.{Caller}
use Rattle.ng_space.specs.Passed.{with_slot}
use Rattle.ng_space.specs.Tokens.{HasSlot, Token}
use Rattle.ng_space_tests.specs.Trials.{AreMetasBlank, IsBuilt, Stands, area_run, page_runs}
use Rattle.ng_space_tests.proofs.Groups.{pair_group}

abbrev pub has_pair : (v : View) → Stands v page_runs (pair_group ∷ []) → HasGroup v 4120
has_pair v s = record { group = pair_group; there = subst (Among pair_group) (sym s.groups) (inl refl); of_meta = refl }

-- its first slot is in motion where the second alone is in the mask
pub first_moves : (v : View) → IsBuilt v pair_group 2 → find 4120 0 v.held ≡ Some (in_motion pair_group 0)
first_moves v b = ap (find 4120 0) b.slots ∙ ap (λ (is : List ℕ). find 4120 0 (map (in_motion pair_group) is ++ b.others)) picks
  where
    picks : select (moving pair_group 2 0) 32 ≡ 0 ∷ []
    picks = refl

-- some slot of that meta and index is among these
abbrev pub Has : ℕ → ℕ → List Held → Type 0
Has m i hs = (h : Held) × (find m i hs ≡ Some h)

pub has-front : (m i : ℕ) (h : Held) (hs : List Held) → Has m i hs → Has m i (h ∷ hs)
has-front m i h hs r = by_test (is_at m i h.place) refl
  where
    by_test : (b : Bool) → is_at m i h.place ≡ b → Has m i (h ∷ hs)
    by_test true e = (h, ap (λ t. cond t (Some h) (find m i hs)) e)
    by_test false e = (r.0, ap (λ t. cond t (Some h) (find m i hs)) e ∙ r.1)

has-fetched : (i : ℕ) (g : Group) (is : List ℕ) (hs : List Held) → Has 4120 i hs → Has 4120 i (map (in_motion g) is ++ hs)
has-fetched i g [] hs r = r
has-fetched i g (j ∷ is) hs r = has-front 4120 i (in_motion g j) (map (in_motion g) is ++ hs) (has-fetched i g is hs r)

-- both slots are there
abbrev pub HasBoth : View → Type 0
HasBoth v = Has 4120 0 v.held × Has 4120 1 v.held

pub all_slots : (v : View) → Stands v page_runs (pair_group ∷ []) → HasBoth v → HasAllSlots v 4120
all_slots v s both = record { live = has_pair v s; each = slots }
  where
    slots : (i : ℕ) → i ≤ 1 → (h : Held) × (find 4120 i v.held ≡ Some h)
    slots zero le = both.0
    slots (suc zero) le = both.1
    slots (suc (suc i)) le = absurd (omega arith)

-- the slot comes from the hand
module _ (v w : View) (hand : Caller) (slot : Token) (stands : Stands v page_runs (pair_group ∷ [])) (blank : AreMetasBlank v 1) (first : find 4120 0 v.held ≡ Some (in_motion pair_group 0))
    (has : HasSlot hand slot) (meta : slot.meta ≡ 4120) (index : slot.index ≡ 1) (is : w ≡ with_slot v (find slot.meta slot.index hand.view.held)) where
  came : w ≡ with_slot v (Some has.held)
  came = is ∙ ap (with_slot v) has.found

  pub came_stands : Stands w page_runs (pair_group ∷ [])
  came_stands = subst (λ (x : View). Stands x page_runs (pair_group ∷ [])) (sym came) (record { runs = stands.runs; nests = stands.nests; groups = stands.groups; next = stands.next })

  pub came_metas : AreMetasBlank w 1
  came_metas = subst (λ (x : View). AreMetasBlank x 1) (sym came) blank

  pub came_both : HasBoth w
  came_both = subst HasBoth (sym came) (
    has-front 4120 0 has.held v.held (in_motion pair_group 0, first),
    (has.held, ap (λ t. cond t (Some has.held) (find 4120 1 v.held)) (subst (λ m. is_at m 1 has.held.place ≡ true) meta (subst (λ i. is_at slot.meta i has.held.place ≡ true) index (find_among slot.meta slot.index hand.view.held has.held has.found).1))),
  )

module _ (v w : View) (stands : Stands v page_runs (pair_group ∷ [])) (n : ℕ) (told : EmptiesAvail v 4120 n w) where
  emptied : w ≡ read (avail_emptied v pair_group n) 4144 n
  emptied = told.view pair_group (has_pair v stands).there refl

  pub emptied_stands : Stands w page_runs (pair_group ∷ [])
  emptied_stands = subst (λ (x : View). Stands x page_runs (pair_group ∷ [])) (sym emptied) (record { runs = stands.runs; nests = stands.nests; groups = stands.groups; next = stands.next })

  pub emptied_metas : AreMetasBlank v 1 → AreMetasBlank w 1
  emptied_metas blank = subst (λ (x : View). AreMetasBlank x 1) (sym emptied) blank

  pub emptied_both : HasBoth v → HasBoth w
  emptied_both both = subst HasBoth (sym emptied) (has-fetched 0 pair_group (select (λ i. eqb (bit_at n i) 1) 32) v.held both.0, has-fetched 1 pair_group (select (λ i. eqb (bit_at n i) 1) 32) v.held both.1)

module _ (v w : View) (stands : Stands v page_runs (pair_group ∷ [])) (bits n : ℕ) (told : ClearsFreed v 4120 bits n w) where
  taken : w ≡ read (freed_taken v pair_group bits n) 4148 n
  taken = told.view pair_group (has_pair v stands).there refl

  pub taken_stands : Stands w page_runs (pair_group ∷ [])
  taken_stands = subst (λ (x : View). Stands x page_runs (pair_group ∷ [])) (sym taken) (record { runs = stands.runs; nests = stands.nests; groups = stands.groups; next = stands.next })

  pub taken_metas : AreMetasBlank v 1 → AreMetasBlank w 1
  taken_metas blank = subst (λ (x : View). AreMetasBlank x 1) (sym taken) blank

  pub taken_both : HasBoth v → HasBoth w
  taken_both both = subst HasBoth (sym taken) (has-fetched 0 pair_group (select (λ i. eqb (bit_at n i) 1 && eqb (bit_at bits i) 1) 32) v.held both.0, has-fetched 1 pair_group (select (λ i. eqb (bit_at n i) 1 && eqb (bit_at bits i) 1) 32) v.held both.1)

-- both masks were captured
module _ (v w : View) (stands : Stands v page_runs (pair_group ∷ [])) (avail freed : ℕ) (told : Captures v 4120 avail freed w) where
  empty : Stands told.between page_runs (pair_group ∷ [])
  empty = emptied_stands v told.between stands told.word told.empties

  pub captured_stands : Stands w page_runs (pair_group ∷ [])
  captured_stands = taken_stands told.between w empty _ told.takes.freed told.takes.clears

  pub captured_metas : AreMetasBlank v 1 → AreMetasBlank w 1
  captured_metas blank = taken_metas told.between w empty _ told.takes.freed told.takes.clears (emptied_metas v told.between stands told.word told.empties blank)

  pub captured_all : HasBoth v → HasAllSlots w 4120
  captured_all both = all_slots w captured_stands
      (taken_both told.between w empty _ told.takes.freed told.takes.clears (emptied_both v told.between stands told.word told.empties both))

-- ---- the close
pub settled : (v : View) → Stands v (area_run ∷ []) [] → IsSettled v
settled v s r t = ⊎_elim (λ (e : r ≡ area_run). inl (ap (λ (x : Run). x.area) e)) (λ (q : ⊥). absurd q) (subst (Among r) s.runs t)

pub blanked : (v : View) → Stands v (area_run ∷ []) [] → AreMetasBlank v 0 → IsBlanked v
blanked v s blank m b al i u lt bl = ⊎_elim
    (λ (e : i.run ≡ area_run).
    let p = i.place in let a : i.run.addr ≡ 4096 = ap (λ (x : Run). x.addr) e in
    let q : 4120 + 40 * i.number + b ≡ m + b = omega arith in
    subst (λ n. Rattle.ng_view.specs.Conditions.Sees v n 0) q (blank i.number b (omega arith) i.below lt bl))
    (λ (q : ⊥). absurd q) (subst (Among i.run) s.runs i.noted)
