-- Slots of the seat that go into the masks of their group.
use Rattle.std.proofs.Common.{◌≡◌, ℕ, ◌*◌, ◌%◌, ◌^◌, ◌<◌, ◌≤◌, List, [], ◌++◌, refl, sym, ap, ◌∙◌, subst, ⊎_elim, arith}
use Rattle.std.proofs.lemmas.Bool.{cases_lt}
use Rattle.std.proofs.lemmas.List.{append-nil}
use Rattle.std.proofs.lemmas.Nat.{one_shl, pow_pos}
use Rattle.ng_view.specs.Lists.{Among, without}
use Rattle.ng_view.specs.LockSteps.{AreOut, bits_of, let_go}
use Rattle.ng_view.specs.declared.view.Group.{Group}
use Rattle.ng_view.specs.declared.view.Held.{Held}
use Rattle.ng_view.specs.declared.view.View.{View}
use Rattle.ng_view.specs.Fetches.{MayPutBack, PushesFreed}
use Rattle.ng_mask.specs.Fetches.{MayStock, Stocks, slots_of}
use Rattle.ng_mask.proofs.Motion.{bits_of-pow, others_are_left, part_is_out}
use Rattle.ng_serve.specs.Takes.{ChangesMasks, HasBare, HasCaptured, IsServed, Pushes, PutsBits, PutsCaptured, PutsSlot}
use Rattle.ng_serve.proofs.Changes.{all_of, changes_groups, changes_listed, changes_pushed, changes_stocked, changes_then, stocked_held}

-- ---- bits are set, or there are none
pub puts_bits : (v w : View) (meta bits n : ℕ) → (bits ≡ 0 → ⊥) → PushesFreed v meta bits n w → PutsBits v meta bits w
puts_bits v w meta bits n more pushes = record {
  sets = (λ none. absurd (more none), λ some. record { mask = n; view = pushes.view });
  changes = changes_pushed v w meta bits n pushes;
  avail = ap (λ (x : View). x.desk.zero_avail) pushes.view;
  held = ap (λ (x : View). x.held) pushes.view;
}

pub puts_none : (v : View) (meta bits : ℕ) → bits ≡ 0 → PutsBits v meta bits v
puts_none v meta bits none = subst (λ n. PutsBits v meta n v) (sym none) (record {
  sets = (λ zero. refl, λ some. absurd (omega (arith, some)));
  changes = record {
    words = [];
    view = ap (λ (l : List (ℕ × ℕ)). record v { readings = l }) (sym (append-nil v.readings));
    zero_avail = λ m ne s. s;
    zero_freed = λ m ne s. s;
    set_freed = λ m i ne s. s;
  };
  avail = refl;
  held = refl;
})

pub some_bits : (bits : ℕ) → (bits ≡ 0 → ⊥) → 0 < bits
some_bits bits some = ⊎_elim (λ (more : 0 < bits). more) (λ (few : bits ≤ 0). absurd (some (omega arith))) (cases_lt 0 bits)

-- ---- one slot
abbrev pub one_bit : ℕ → ℕ
one_bit index = 1 * 2 ^ index % 4294967296

is_pow : (index : ℕ) → index < 32 → one_bit index ≡ 2 ^ index
is_pow index few = one_shl index 32 few

pub may_put_slot : (v : View) (meta index : ℕ) → IsServed v meta → HasBare v.held meta index → MayPutBack v meta (one_bit index)
may_put_slot v meta index served slot = subst (MayPutBack v meta) (sym (is_pow index slot.few)) (record {
  group = served.group;
  there = served.there;
  of_meta = served.of_meta;
  plain = served.plain;
  listed = served.listed;
  held = subst (λ (is : List ℕ). AreOut meta is v.held) (sym (bits_of-pow index slot.few)) ((slot.slot, slot.found, slot.bare), tt);
})

pub puts_slot : (v w : View) (meta index : ℕ) → HasBare v.held meta index → PutsBits v meta (one_bit index) w → PutsSlot v meta index w
puts_slot v w meta index slot puts = record {
  pushes = subst (λ n. Pushes v meta n w) (is_pow index slot.few) (puts.sets.1 (subst (λ n. 0 < n) (sym (is_pow index slot.few)) (pow_pos index)));
  changes = puts.changes;
  avail = puts.avail;
  held = puts.held
      ∙ ap (λ n. let_go meta (bits_of n) v.held) (is_pow index slot.few)
      ∙ ap (λ (is : List ℕ). let_go meta is v.held) (bits_of-pow index slot.few);
}

-- ---- all slots of a mask, in front of others
front_out : (g : Group) (meta bits : ℕ) (hs : List Held) → g.meta ≡ meta → AreOut meta (bits_of bits) (slots_of g bits ++ hs)
front_out g meta bits hs e = subst (λ m. AreOut m (bits_of bits) (slots_of g bits ++ hs)) e (part_is_out g hs bits bits 0 (all_of bits))

front_left : (g : Group) (meta bits : ℕ) (hs : List Held) → g.meta ≡ meta → let_go meta (bits_of bits) (slots_of g bits ++ hs) ≡ hs
front_left g meta bits hs e = subst (λ m. let_go m (bits_of bits) (slots_of g bits ++ hs) ≡ hs) e (others_are_left g hs bits bits 0 (all_of bits))

still_served : (v w : View) (meta : ℕ) → ChangesMasks v meta w → IsServed v meta → IsServed w meta
still_served v w meta changes served = record {
  group = served.group;
  there = subst (Among served.group) (sym (changes_groups v w meta changes)) served.there;
  of_meta = served.of_meta;
  plain = served.plain;
  listed = subst (Among meta) (sym (changes_listed v w meta changes)) served.listed;
}

may_put : (v : View) (meta bits : ℕ) → IsServed v meta → AreOut meta (bits_of bits) v.held → MayPutBack v meta bits
may_put v meta bits served out = record {
  group = served.group;
  there = served.there;
  of_meta = served.of_meta;
  plain = served.plain;
  listed = served.listed;
  held = out;
}

-- ---- captured slots go back
module _ (v u t : View) (meta avail freed index : ℕ) (served : IsServed v meta) (bare : Among meta v.desk.zero_avail) (captured : HasCaptured v meta avail freed index) where
  pub may_put_freed : 0 < freed → MayPutBack v meta freed
  may_put_freed some = may_put v meta freed served
      (subst (AreOut meta (bits_of freed)) (sym captured.held) (front_out captured.group meta freed (slots_of captured.group avail ++ captured.before) captured.of_meta))

  module _ (puts : PutsBits v meta freed u) where
    after_freed : (c : HasCaptured v meta avail freed index) → u.held ≡ slots_of c.group avail ++ c.before
    after_freed c = puts.held ∙ ap (let_go meta (bits_of freed)) c.held ∙ front_left c.group meta freed (slots_of c.group avail ++ c.before) c.of_meta

    served_freed : IsServed u meta
    served_freed = still_served v u meta puts.changes served

    there_freed : Among served.group u.desk.groups
    there_freed = subst (Among served.group) (sym (changes_groups v u meta puts.changes)) served.there

    pub may_stock_avail : MayStock u meta avail
    may_stock_avail = record {
      live = record { group = served.group; there = there_freed; of_meta = served.of_meta };
      slots = λ some. may_put u meta avail served_freed (subst (AreOut meta (bits_of avail)) (sym (after_freed captured)) (front_out captured.group meta avail captured.before captured.of_meta));
      zero = λ some. subst (Among meta) (sym puts.avail) bare;
    }

    module _ (none : avail ≡ 0 → t ≡ u) (some : 0 < avail → Stocks u meta avail t) where
      stocked : ChangesMasks u meta t
      stocked = changes_stocked u t meta avail none some

      after_avail : (c : HasCaptured v meta avail freed index) → t.held ≡ c.before
      after_avail c = stocked_held u t meta avail none some ∙ ap (let_go meta (bits_of avail)) (after_freed c) ∙ front_left c.group meta avail c.before c.of_meta

      pub served_avail : IsServed t meta
      served_avail = still_served u t meta stocked served_freed

      pub slot_left : HasBare t.held meta index
      slot_left = subst (λ (hs : List Held). HasBare hs meta index) (sym (after_avail captured)) captured.slot

      pub puts_captured : (w : View) → PutsSlot t meta index w → PutsCaptured v meta avail freed index w
      puts_captured w puts_last = record {
        sets = record { first = u; second = t; freed_back = puts.sets; avail_back = (none, some); slot_back = puts_last.pushes };
        changes = changes_then v t w meta (changes_then v u t meta puts.changes stocked) puts_last.changes;
        bare = λ empty. puts_last.avail ∙ ap (λ (x : View). x.desk.zero_avail) (none empty) ∙ puts.avail;
        held = λ c. puts_last.held ∙ ap (without meta index) (after_avail c);
      }
