-- What a hand still has once a block has come in.
use Rattle.std.proofs.Common.{◌≡◌, ◌≢◌, ℕ, ◌+◌, ◌≤◌, cond, true, false, true≢false, [], ◌∷◌, ◌++◌, sym, ap, ◌∙◌, subst, ⊎_elim, inl, inr, arith}
use Rattle.std.proofs.lemmas.Bool.{cases_eq}
use Rattle.std.specs.Prelude.{Some}
use Rattle.ng_space.specs.Leaving.{AreFramed, IsOther, KeepsOthers, KeepsRest, Leaves}
use Rattle.ng_space.proofs.LeavingFrames.{known_frame, loaded_each}
use Rattle.ng_space.proofs.Leaving.{learns_itself, loaded_others, not_at, nothing_stored, others_then}
use Rattle.ng_rule.proofs.geometry.Lists.{count_of-zero, find_among, is_at-true, total_by-among}
use Rattle.ng_view.specs.Lists.{Among, count_of, find, is_at, total_by}
use Rattle.ng_view.specs.Steps.{loaded, taken_in}
use Rattle.ng_view.specs.declared.view.Held.{Held}
use Rattle.ng_view.specs.declared.view.View.{View}
use Rattle.ng_space.specs.Blocks.{BlockToken, HasFramed}
use Rattle.ng_space.specs.Callers.{Caller}
use Rattle.ng_space.specs.Parcels.{IsOfOneSlot, ParcelToken, taken_by}
use Rattle.ng_space.specs.Placed.{AreOnce, times_at}
use Rattle.ng_space.specs.Tokens.{Token}
use Rattle.ng_group.specs.Hands.{IsApart}
use Rattle.ng_heap.specs.Keeps.{IsFresh, took_one}

-- a parcel came in, and word 0 was loaded then, which told that each slot is in the hand once
pub record Receives (old mid new : Caller) (parcel : ParcelToken) : Type 0 where
  pub of : IsOfOneSlot parcel
  pub joins : mid.view ≡ taken_in old.view parcel.view
  pub word : ℕ
  pub loads : new.view ≡ loaded mid.view 0 word
  pub once : AreOnce mid.view
  pub number : new.number ≡ old.number

module _ (old mid new : Caller) (parcel : ParcelToken) (receives : Receives old mid new parcel) where
  abbrev k : Held
  k = receives.of.held

  abbrev m' : ℕ
  m' = parcel.block.slot.meta

  abbrev i' : ℕ
  i' = parcel.block.slot.index

  held_is : mid.view.held ≡ k ∷ old.view.held
  held_is = ap (λ (v : View). v.held) receives.joins ∙ ap (λ (v : View). v.held ++ old.view.held) receives.of.view

  -- another slot than the one that came is found as before
  passed : (m i : ℕ) → is_at m i k.place ≡ false → find m i mid.view.held ≡ find m i old.view.held
  passed m i other = ap (λ hs. find m i hs) held_is ∙ ap (λ b. cond b (Some k) (find m i old.view.held)) other

  -- the slot that came isn't one that was there
  not_there : (m i : ℕ) (h : Held) → find m i old.view.held ≡ Some h → is_at m i k.place ≡ false
  not_there m i h found =
      let is = find_among m i old.view.held h found in
      let at = is_at-true m i h.place is.1 in
      let count : Held → ℕ = λ y. count_of (is_at m i y.place) in
      let there : Among h mid.view.held = subst (λ hs. Among h hs) (sym held_is) (inr is.0) in
      let once : times_at h.place.group.meta h.place.index mid.view ≤ 1 = receives.once h there in
      let most : times_at m i mid.view ≤ 1 = subst (λ n. n ≤ 1) (λ j. times_at (at.0 j) (at.1 j) mid.view) once in
      let all : times_at m i mid.view ≡ count k + total_by count old.view.held = ap (λ hs. total_by count hs) held_is in
      let some_one : count h ≤ total_by count old.view.held = total_by-among count old.view.held h is.0 in
      let one : count h ≡ 1 = ap count_of is.1 in
      count_of-zero (is_at m i k.place) (omega (arith, most, all, some_one, one))

  joined_others : KeepsOthers parcel.block.slot old.view mid.view
  joined_others = record {
    slots = λ m i ne h found. (h, other m i ne ∙ found, learns_itself h);
    back = λ m i ne h found. (h, sym (other m i ne) ∙ found, learns_itself h);
  }
    where
      other : (m i : ℕ) → IsOther parcel.block.slot m i → find m i mid.view.held ≡ find m i old.view.held
      other m i ne = passed m i (not_at m' i' m i k.place ne receives.of.there)

  pub came_others : (block : BlockToken) (number : ℕ) → block ≡ taken_by parcel.block number → KeepsOthers block.slot old.view new.view
  came_others block number is = subst (λ (b : BlockToken). KeepsOthers b.slot old.view new.view) (sym is) (record {
    slots = both.slots;
    back = both.back;
  })
    where
      both : KeepsOthers parcel.block.slot old.view new.view
      both =
          others_then parcel.block.slot old.view mid.view new.view joined_others
          (loaded_others parcel.block.slot mid.view new.view 0 receives.word receives.loads)

  pub came_fresh : (block : BlockToken) (number : ℕ) → block ≡ taken_by parcel.block number → IsFresh old block.slot
  came_fresh block number is = subst (λ (b : BlockToken). IsFresh old b.slot) (sym is) (record {
    slots = λ other has. apart other has.held has.found;
    blocks = λ other has. apart other.slot has.held has.found;
  })
    where
      apart : (other : Token) (h : Held) → find other.meta other.index old.view.held ≡ Some h → IsApart other (taken_by parcel.block number).slot
      apart other h found = ⊎_elim
          (λ (m : other.meta ≡ m'). ⊎_elim
          (λ (i : other.index ≡ i').
          let no : is_at other.meta other.index k.place ≡ false = not_there other.meta other.index h found in
          let yes : is_at other.meta other.index k.place ≡ true = (λ j. is_at (m j) (i j) k.place) ∙ receives.of.there in
          absurd (true≢false (sym yes ∙ no)))
          (λ (ne : other.index ≢ i'). inr ne)
          (cases_eq other.index i'))
          (λ (ne : other.meta ≢ m'). inl ne)
          (cases_eq other.meta m')

  came_rest : KeepsRest (took_one old.view) new.view
  came_rest = record {
    excuses = ap (λ (v : View). v.excuses) receives.loads ∙ ap (λ (v : View). v.excuses) receives.joins;
    sent = ap (λ (v : View). v.sent) receives.loads ∙ ap (λ (v : View). v.sent) receives.joins;
    taken = ap (λ (v : View). v.taken) receives.loads ∙ ap (λ (v : View). v.taken) receives.joins;
    more = (0, receives.word) ∷ [];
    readings = ap (λ (v : View). v.readings) receives.loads ∙ ap (λ (v : View). v.readings ++ (0, receives.word) ∷ []) receives.joins;
    stored = nothing_stored (took_one old.view) new.view (ap (λ (v : View). v.stores) receives.loads ∙ ap (λ (v : View). v.stores) receives.joins);
  }

  pub came_leaves : (block : BlockToken) (number : ℕ) → block ≡ taken_by parcel.block number → HasFramed mid block
      → Leaves block.slot (took_one old.view) new.view
  came_leaves block number is has =
      let others = came_others block number is in record {
        others = record { slots = others.slots; back = others.back };
        rest = came_rest;
        each = λ framed. loaded_each mid.view new.view 0 receives.word receives.loads (each framed);
      }
    where
      here : find m' i' mid.view.held ≡ Some k
      here = ap (λ hs. find m' i' hs) held_is ∙ ap (λ b. cond b (Some k) (find m' i' old.view.held)) receives.of.there

      each : AreFramed old.view → AreFramed mid.view
      each framed h there = ⊎_elim
          (λ (e : h ≡ k). known_frame mid (taken_by parcel.block number) h (subst (HasFramed mid) is has) (here ∙ ap (λ x. Some x) (sym e)))
          (λ (was : Among h old.view.held). framed h was)
          (subst (λ hs. Among h hs) held_is there)
