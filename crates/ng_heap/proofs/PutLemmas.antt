-- A block is put into the slot that came.
use Rattle.std.proofs.Common.{◌≡◌, ◌≢◌, ℕ, ◌+◌, ◌-◌, ◌*◌, ◌%◌, max, sym, ap, ◌∙◌, subst, ⊎_elim, inl, inr, arith}
use Rattle.std.specs.Prelude.{Some}
use Rattle.ng_policy.specs.declared.ask.Ask.{Ask}
use Rattle.ng_view.specs.Classes.{IsAllowed}
use Rattle.ng_view.specs.Lists.{find}
use Rattle.ng_view.specs.declared.view.Held.{Held}
use Rattle.ng_view.specs.declared.view.Place.{Place}
use Rattle.ng_view.specs.declared.view.View.{View}
use Rattle.ng_space.specs.Leaving.{Learns, Leaves, LeavesAll, LiesStill, Stays}
use Rattle.ng_space.proofs.LeavingFrames.{all_leaves, leaves_then}
use Rattle.ng_frame.specs.Puts.{Cycles, IsNear, asked_for, put_at}
use Rattle.ng_frame.proofs.Frames.{given_by_cycle}
use Rattle.ng_frame.proofs.Tokens.{block_stays}
use Rattle.ng_space.specs.Blocks.{BlockToken, HasBlock, HasFramed, OfSlot, Serves}
use Rattle.ng_space.specs.Callers.{Caller}
use Rattle.ng_space.specs.Tokens.{HasSlot, Token}
use Rattle.ng_group.specs.Hands.{GainsSlot}
use Rattle.ng_group.specs.States.{State}
use Rattle.ng_heap.specs.Causes.{BuildsFor, HasClass}
use Rattle.ng_heap.specs.Keeps.{IsFresh}
use Rattle.ng_heap.specs.Making.{IsGivenNow, IsMade, IsPutBy}
use Rattle.ng_heap.proofs.SlotLemmas.{gained_leaves}

-- ---- the slot lies where it did
pub lies_then : (m i : ℕ) (v u w : View) → Stays m i v u Learns → Stays m i u w LiesStill → Stays m i v w LiesStill
lies_then m i v u w one two h found = let k = one h found in let l = two k.0 k.1 in (l.0, l.1, l.2 ∙ k.2.place)

pub still_serves : (old new : Caller) (slot : Token) (n : ℕ) → HasSlot old slot → LeavesAll old.view new.view
    → OfSlot old slot (Serves n 16) → OfSlot new slot (Serves n 16)
still_serves old new slot n has leaves serves h found =
    let k = leaves.all.slots slot.meta slot.index has.held has.found in
    let q : k.0 ≡ h = cc in
    subst (Serves n 16) q (subst (λ (p : Place). Serves n 16 (record k.0 { place = p })) (sym k.2.place) (serves has.held has.found))

-- ---- what a block asks for
pub asked_common : (n : ℕ) → asked_for n 16 ≡ n
asked_common n = omega arith

pub asked_once : (n align asked : ℕ) → asked ≡ asked_for (1 * n) align → asked ≡ asked_for n align
asked_once n align asked is = omega (arith, is)

-- a class that serves what a block asks for serves the block with its align
pub serves_asked : (hand : Caller) (slot : Token) (n align asked : ℕ) → asked ≡ asked_for n align
    → OfSlot hand slot (Serves asked 16) → OfSlot hand slot (Serves n align)
serves_asked hand slot n align asked is serves h found =
    let same : (asked + 16) - 16 ≡ (n + max align 16) - 16 = omega (arith, is) in
    subst (IsAllowed h.place.group.tag) same (serves h found)

-- the slot's class is the same where it lies still
pub same_class : (class : ℕ) (mid after : Caller) (slot : Token) (x : Held) → find slot.meta slot.index mid.view.held ≡ Some x
    → Stays slot.meta slot.index mid.view after.view LiesStill → HasClass mid slot class → HasClass after slot class
same_class class mid after slot x there stays is h found =
    let k = stays x there in
    let q : k.0 ≡ h = cc in
    let of_class : k.0.place.group.tag ≡ class + 1 = subst (λ (p : Place). p.group.tag ≡ class + 1) (sym k.2) (is x there) in
    subst (λ (y : Held). y.place.group.tag ≡ class + 1) q of_class

pub same_builds : {M P : Type 0} (counts : Ask → ℕ → Type 0) (before core : State M P) (n : ℕ) (mid after : Caller) (slot : Token) (x : Held)
    → find slot.meta slot.index mid.view.held ≡ Some x → Stays slot.meta slot.index mid.view after.view LiesStill
    → BuildsFor counts before core n mid slot → BuildsFor counts before core n after slot
same_builds counts before core n mid after slot x there stays builds = record {
  source = ⊎_elim
      (λ large. inl (large.0, same_class 63 mid after slot x there stays large.1, large.2))
      (λ small. let of = small.1 in inr (small.0, (of.0, of.1, of.2, same_class of.1 mid after slot x there stays of.3, of.4)))
      builds.source;
  untouched = builds.untouched;
}

-- and so it is once a block was put into it
pub put_class : (class : ℕ) (mid after : Caller) (slot : Token) → HasSlot mid slot → Stays slot.meta slot.index mid.view after.view LiesStill
    → HasClass mid slot class → HasClass after slot class
put_class class mid after slot has stays is = same_class class mid after slot has.held has.found stays is

pub put_builds : {M P : Type 0} (counts : Ask → ℕ → Type 0) (before core : State M P) (asked : ℕ) (mid after : Caller) (slot : Token) (n align o : ℕ)
    (block : BlockToken) → block ≡ put_at slot n align o → HasSlot mid slot → Stays slot.meta slot.index mid.view after.view LiesStill
    → BuildsFor counts before core asked mid slot → BuildsFor counts before core asked after block.slot
put_builds counts before core asked mid after slot n align o block is has stays builds =
    subst (λ (b : BlockToken). BuildsFor counts before core asked after b.slot) (sym is)
    (same_builds counts before core asked mid after slot has.held has.found stays builds)

-- ---- the word that was found gives the block's place
pub put_by : (came found : View) (after : Caller) (slot : Token) (n align counter o : ℕ) (block : BlockToken)
    → block ≡ put_at slot n align o → Cycles came slot (asked_for n align) counter o found → IsNear slot (asked_for n align) o
    → Leaves slot found after.view → HasFramed after block → IsPutBy came block counter after
put_by came found after slot n align counter o block is cycles near leaves framed =
    subst (λ (b : BlockToken). IsPutBy came b counter after) (sym is) (record {
      word = cycles.word;
      leaves = subst (λ (v : View). Leaves slot v after.view) cycles.view leaves;
      given = given_by_cycle after slot o n align (cycles.word % 4294967296) counter near.whole
          (let within = near.within in omega (arith, within)) cycles.offset_is (subst (HasFramed after) is framed);
    })

pub given_now : (before came : View) (after : Caller) (slot : Token) (n align counter o : ℕ) (block : BlockToken)
    → block ≡ put_at slot n align o → GainsSlot slot.meta slot.index before came → IsPutBy came block counter after
    → IsGivenNow before block counter after
given_now before came after slot n align counter o block is gains puts = record {
  came = came;
  gains = subst (λ (b : BlockToken). GainsSlot b.slot.meta b.slot.index before came) (sym is) gains;
  puts = puts;
}

-- the slot had no block, and each other block stays until the put
pub made_now : (before came found after : Caller) (slot : Token) (n align o : ℕ) (block : BlockToken)
    → block ≡ put_at slot n align o → IsFresh before slot → GainsSlot slot.meta slot.index before.view came.view
    → came.number ≡ before.number → found.number ≡ came.number → LeavesAll came.view found.view
    → ((other : BlockToken) → HasBlock found other → other.at ≢ block.at) → HasFramed after block → IsMade n align before block after
made_now before came found after slot n align o block is fresh gains number same leaves apart framed = record {
  len = ap (λ (b : BlockToken). b.len) is;
  align = ap (λ (b : BlockToken). b.align) is;
  framed = framed;
  fresh = subst (λ (b : BlockToken). IsFresh before b.slot) (sym is) fresh;
  apart = λ other has.
      let gained = gained_leaves slot before.view came.view gains in
      let stays = gained.others.slots other.slot.meta other.slot.index (fresh.blocks other has) in
      let there = block_stays before came number other stays has in
      apart other (block_stays came found same other (leaves.all.slots other.slot.meta other.slot.index) there);
}

-- ---- what the hand has besides
pub put_leaves : (slot : Token) (v u w x : View) → GainsSlot slot.meta slot.index v u → LeavesAll u w → Leaves slot w x → Leaves slot v x
put_leaves slot v u w x gains found put =
    leaves_then slot v u x (gained_leaves slot v u gains) (leaves_then slot u w x (all_leaves slot u w found) put)
