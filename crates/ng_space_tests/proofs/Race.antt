-- What the lock's seat knows while the two threads race.
use Rattle.std.proofs.Common.{◌≡◌, ℕ, ◌+◌, ◌*◌, ◌%◌, ◌^◌, ◌<◌, ◌≤◌, cond, List, [], ◌∷◌, ◌++◌, refl, sym, ap, ◌∙◌, subst, ⊎_elim, inl, inr, arith}
use mathlib.Core.Bool.{true≢false}
use Rattle.std.specs.Prelude.{Some}
use Rattle.std.specs.Int.{bit_at}
use Rattle.std.proofs.lemmas.Bool.{cases_lt}
use Rattle.std.proofs.lemmas.Nat.{one_shl}
use Rattle.std.proofs.lemmas.Nat.Bits.{bit_at-zero}
use Rattle.ng_rule.proofs.geometry.Lists.{is_at-here}
use Rattle.ng_view.specs.Conditions.{IsBlanked, IsSettled, Sees}
use Rattle.ng_view.specs.Lists.{Among, find}
use Rattle.ng_view.specs.LockSteps.{AreOut, bits_of, let_go}
use Rattle.ng_view.specs.Steps.{in_motion}
use Rattle.ng_view.specs.declared.view.Held.{Held}
use Rattle.ng_view.specs.declared.view.Layout.{Layout}
use Rattle.ng_view.specs.declared.view.Run.{Run}
use Rattle.ng_view.specs.declared.view.View.{View}
use Rattle.ng_view.specs.Notes.{plain_run}
use Rattle.ng_view.specs.Fetches.{HasGroup, MayPutBack, PushesFreed}
use Rattle.ng_space_tests.specs.Trials.{IsBuilt, area_run}
use Rattle.ng_space.specs.Passed.{with_slot}
use Rattle.ng_space.specs.Callers.{Caller}
use Rattle.ng_space.specs.Tokens.{HasSlot, Token}
use Rattle.ng_mask.specs.Fetches.{Captures, FindsNone, MayStock, Stocks, Takes, TakesLowest, slots_of}
use Rattle.ng_space_tests.specs.Race.{Serves, race_group}
use Rattle.ng_mask.proofs.Motion.{SplitsInto, bits_of-pow, others_are_left, part_is_out}
use Rattle.ng_space_tests.proofs.Groups.{race_plain}

-- ---- steps on the masks change nothing else of the desk
record IsSameDesk (v w : View) : Type 0 where
  layout : w.desk.layout ≡ v.desk.layout
  groups : w.desk.groups ≡ v.desk.groups
  cells : w.desk.cells ≡ v.desk.cells
  listed : w.desk.listed ≡ v.desk.listed
  next : w.desk.next ≡ v.desk.next

still : (v w : View) → IsSameDesk v w → Serves v → Serves w
still v w same s = record {
  stands = record {
    runs = ap (λ (d : Layout). d.runs) same.layout ∙ s.stands.runs;
    nests = ap (λ (d : Layout). d.nests) same.layout ∙ s.stands.nests;
    groups = same.groups ∙ s.stands.groups;
    next = same.next ∙ s.stands.next;
  };
  metas = λ i b le lt lb al. subst (Among {A = ℕ × ℕ} (4120 + 40 * i + b, 0)) (sym same.cells) (s.metas i b le lt lb al);
  listed = subst (Among 4120) (sym same.listed) s.listed;
}

same_by : (v u w : View) → w ≡ u → IsSameDesk v u → IsSameDesk v w
same_by v u w e same = subst (IsSameDesk v) (sym e) same

pub serves-built : (v : View) (mask : ℕ) → IsBuilt v race_group mask → Serves v
serves-built v mask b = record { stands = b.stands; metas = b.metas; listed = b.listed }

there : (v : View) → Serves v → Among race_group v.desk.groups
there v s = subst (Among race_group) (sym s.stands.groups) (inl refl)

pub has_group : (v : View) → Serves v → HasGroup v 4120
has_group v s = record { group = race_group; there = there v s; of_meta = refl }

may_put_back : (v : View) (bits : ℕ) → Serves v → AreOut 4120 (bits_of bits) v.held → MayPutBack v 4120 bits
may_put_back v bits s out = record { group = race_group; there = there v s; of_meta = refl; plain = race_plain; listed = s.listed; held = out }

-- ---- the whole of a mask is out
all_of : (bits : ℕ) → SplitsInto bits bits 0
all_of bits i lt = sum (bit_at bits i) (bit_at 0 i) (bit_at-zero i)
  where
    sum : (a b : ℕ) → b ≡ 0 → a ≡ a + b
    sum a b none = omega arith

out_of_front : (bits : ℕ) (hs : List Held) → AreOut 4120 (bits_of bits) (slots_of race_group bits ++ hs)
out_of_front bits hs = part_is_out race_group hs bits bits 0 (all_of bits)

front_left : (bits : ℕ) (hs : List Held) → let_go 4120 (bits_of bits) (slots_of race_group bits ++ hs) ≡ hs
front_left bits hs = others_are_left race_group hs bits bits 0 (all_of bits)

-- ---- a slot of avail goes to freed
abbrev pub one_bit : ℕ → ℕ
one_bit index = 1 * 2 ^ index % 4294967296

pub serves-taken_lowest : (v w : View) (index : ℕ) → Serves v → TakesLowest v 4120 index w → Serves w
serves-taken_lowest v w index s told = ⊎_elim
    (λ last. still v w (same_by v _ w (last.view race_group (there v s) refl) (record { layout = refl; groups = refl; cells = refl; listed = refl; next = refl })) s)
    (λ left. still v w (same_by v _ w (left.view race_group (there v s) refl) (record { layout = refl; groups = refl; cells = refl; listed = refl; next = refl })) s)
    told.views

pub may_push : (v w : View) (index : ℕ) → Serves v → TakesLowest v 4120 index w → MayPutBack w 4120 (one_bit index)
may_push v w index s told =
    let known = told.lowest.known in
    let is : one_bit index ≡ 2 ^ index = one_shl index 32 known in
    let h = in_motion race_group index in
    let out : AreOut 4120 (index ∷ []) (h ∷ v.held) = ((h, ap (λ b. cond b (Some h) (find 4120 index v.held)) (is_at-here h.place), refl), tt) in
    let here : AreOut 4120 (index ∷ []) w.held = subst (AreOut 4120 (index ∷ [])) (sym (told.slot race_group (there v s) refl)) out in
    subst (MayPutBack w 4120) (sym is) (may_put_back w (2 ^ index) (serves-taken_lowest v w index s told) (subst (λ (is : List ℕ). AreOut 4120 is w.held) (sym (bits_of-pow index known)) here))

pub serves-pushed : (v w : View) (bits n : ℕ) → Serves v → PushesFreed v 4120 bits n w → Serves w
serves-pushed v w bits n s told = still v w (same_by v _ w told.view (record { layout = refl; groups = refl; cells = refl; listed = refl; next = refl })) s

-- ---- the slots of freed go to avail
pub serves-none : (v w : View) → Serves v → FindsNone v 4120 w → Serves w
serves-none v w s told = still v w (same_by v _ w told.view (record { layout = refl; groups = refl; cells = refl; listed = refl; next = refl })) s

pub serves-taken : (v w : View) (upto taken : ℕ) → Serves v → Takes v 4120 upto taken w → Serves w
serves-taken v w upto taken s told = still v w (same_by v _ w (told.clears.view race_group (there v s) refl) (record { layout = refl; groups = refl; cells = refl; listed = refl; next = refl })) s

pub may_refill : (v u w : View) (taken : ℕ) → Serves v → FindsNone v 4120 u → Takes u 4120 31 taken w → MayStock w 4120 taken
may_refill v u w taken s none told =
    let s' = serves-none v u s none in
    let t = serves-taken u w 31 taken s' told in
    let out = out_of_front taken u.held in
    record {
      live = has_group w t;
      slots = λ some. may_put_back w taken t (subst (AreOut 4120 (bits_of taken)) (sym (told.slots race_group (there u s') refl)) out);
      zero = λ some. subst (λ (x : View). Among 4120 x.desk.zero_avail) (sym (told.clears.view race_group (there u s') refl)) (subst (λ (x : View). Among 4120 x.desk.zero_avail) (sym none.view) (inl refl));
    }

pub serves-stocked : (v w : View) (bits : ℕ) → Serves v → (bits ≡ 0 → w ≡ v) → (0 < bits → Stocks v 4120 bits w) → Serves w
serves-stocked v w bits s none some = ⊎_elim
    (λ (more : 0 < bits). still v w (same_by v _ w (some more).stocks.view (record { layout = refl; groups = refl; cells = refl; listed = refl; next = refl })) s)
    (λ (few : bits ≤ 0). subst Serves (sym (none (omega arith))) s)
    (cases_lt 0 bits)

-- ---- both masks are emptied, and change places
module _ (v w : View) (avail freed : ℕ) (s : Serves v) (told : Captures v 4120 avail freed w) where
  s' : Serves told.between
  s' = still v told.between (same_by v _ told.between (told.empties.view race_group (there v s) refl) (record { layout = refl; groups = refl; cells = refl; listed = refl; next = refl })) s

  pub serves-captured : Serves w
  serves-captured = serves-taken told.between w 31 freed s' told.takes

  held : w.held ≡ slots_of race_group freed ++ (slots_of race_group avail ++ v.held)
  held = told.slots race_group (there v s) refl

  pub may_stock_freed : MayStock w 4120 freed
  may_stock_freed = record {
    live = has_group w serves-captured;
    slots = λ some. may_put_back w freed serves-captured (subst (AreOut 4120 (bits_of freed)) (sym held) (out_of_front freed (slots_of race_group avail ++ v.held)));
    zero = λ some. told.bare_avail;
  }

  module _ (u : View) (none : freed ≡ 0 → u ≡ w) (stocked : 0 < freed → Stocks w 4120 freed u) where
    abbrev rest : List Held
    rest = slots_of race_group avail ++ v.held

    left : u.held ≡ rest
    left = ⊎_elim
        (λ (more : 0 < freed). ap (λ (x : View). x.held) (stocked more).stocks.view ∙ ap (let_go 4120 (bits_of freed)) held ∙ front_left freed rest)
        (λ (few : freed ≤ 0). let z : freed ≡ 0 = omega arith in ap (λ (x : View). x.held) (none z) ∙ held ∙ ap (λ n. slots_of race_group n ++ rest) z)
        (cases_lt 0 freed)

    pub may_push_avail : MayPutBack u 4120 avail
    may_push_avail = may_put_back u avail (serves-stocked w u freed serves-captured none stocked) (subst (AreOut 4120 (bits_of avail)) (sym left) (out_of_front avail v.held))

-- ---- the slot that the hand still has
pub serves-came : (v w : View) (hand : Caller) (slot : Token) → Serves v → HasSlot hand slot → w ≡ with_slot v (find slot.meta slot.index hand.view.held) → Serves w
serves-came v w hand slot s has is = still v w (same_by v _ w (is ∙ ap (with_slot v) has.found) (record { layout = refl; groups = refl; cells = refl; listed = refl; next = refl })) s

-- ---- the close
pub settled : (v : View) → Serves v → IsSettled v
settled v s r t = ⊎_elim
    (λ (e : r ≡ plain_run 8192 1). inr (race_group, there v s, ap (λ (x : Run). x.addr) (sym e)))
    (λ rest. ⊎_elim (λ (e : r ≡ area_run). inl (ap (λ (x : Run). x.area) e)) (λ (q : ⊥). absurd q) rest)
    (subst (Among r) s.stands.runs t)

pub blanked : (v : View) → Serves v → IsBlanked v
blanked v s m b al i u lt bl = ⊎_elim
    (λ (e : i.run ≡ plain_run 8192 1). absurd (true≢false (sym i.is_area ∙ ap (λ (x : Run). x.area) e)))
    (λ rest. ⊎_elim
    (λ (e : i.run ≡ area_run).
    let p = i.place in let a : i.run.addr ≡ 4096 = ap (λ (x : Run). x.addr) e in
    let q : 4120 + 40 * i.number + b ≡ m + b = omega arith in
    let ne : 4120 ≡ m → ⊥ = u race_group (there v s) in
    let le : 1 ≤ i.number = omega (arith, ne) in
    subst (λ n. Sees v n 0) q (s.metas i.number b le i.below lt bl))
    (λ (q : ⊥). absurd q) rest)
    (subst (Among i.run) s.stands.runs i.noted)
