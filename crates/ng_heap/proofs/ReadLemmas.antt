-- What a call still comes to where words were read before it, or since.
use Rattle.std.proofs.Common.{◌≡◌, ℕ, cond, Bool, true, false, List, [], ◌∷◌, ◌++◌, map, refl, sym, ap, ◌∙◌, subst, inr}
use Rattle.std.specs.Prelude.{Some}
use Rattle.ng_terms.specs.declared.entry.Entry.{Entry}
use Rattle.ng_terms.specs.declared.refusal.AllocRefusal.{AllocRefusal}
use Rattle.ng_terms.specs.declared.refusal.AllocRefusal.TheVariants.{NoMemory, TooLarge}
use Rattle.ng_view.specs.Lists.{Among}
use Rattle.ng_view.specs.Notes.{excuse_of_call}
use Rattle.ng_view.specs.Blocks.{Knows}
use Rattle.ng_view.specs.Places.{owns_at}
use Rattle.ng_view.specs.Steps.{in_motion, learnt, loaded, popped, with_excuse}
use Rattle.ng_view.specs.declared.view.Group.{Group}
use Rattle.ng_view.specs.declared.view.Held.{Held}
use Rattle.ng_view.specs.declared.view.View.{View}
use Rattle.ng_space.specs.Blocks.{BlockToken}
use Rattle.ng_space.specs.Callers.{Caller}
use Rattle.ng_space.specs.Leaving.{Entered, KeepsBook, KeepsSlots, Leaves, LeavesAll}
use Rattle.ng_space.specs.Passed.{EntersNoMemory}
use Rattle.ng_space.specs.Tokens.{Token}
use Rattle.ng_space.proofs.Leaving.{nothing_stored, stays_then}
use Rattle.ng_space.proofs.LeavingFrames.{all_leaves, leaves_all_then, leaves_then}
use Rattle.ng_frame.proofs.Tokens.{block_stays, slot_stays}
use Rattle.ng_group.specs.Hands.{AreSameSlots, GainsExcuse, GainsSlot, IsSameSlot, Learns}
use Rattle.ng_group.proofs.HandSlotLemmas.{excused, learns_same, learns_then}
use Rattle.ng_terms.specs.Heap.{IsTooLarge}
use Rattle.ng_heap.specs.Making.{IsGivenNow, IsMade, RefusesNow}
use Rattle.ng_heap.specs.Trying.{OnlyReads}
use Rattle.ng_heap.proofs.SlotLemmas.{same_all, same_each}

-- ---- (as in ng_group)
same_slot : (h : Held) → IsSameSlot h h
same_slot h = record { place = refl; block = refl; known = λ a x knows. knows }

learnt_slot : (a x : ℕ) (h : Held) → IsSameSlot h (learnt a x h)
learnt_slot a x h = record { place = refl; block = refl; known = λ b y knows. by_test b y knows (owns_at h.place a) }
  where
    by_test : (b y : ℕ) → Knows b y h → (t : Bool) → Among {A = ℕ × ℕ} (b, y) (cond t ((a, x) ∷ h.cells) h.cells)
    by_test b y knows true = inr knows
    by_test b y knows false = knows

learnt_slots : (a x : ℕ) (hs : List Held) → AreSameSlots hs (map (learnt a x) hs)
learnt_slots a x [] = tt
learnt_slots a x (h ∷ hs) = (learnt_slot a x h, learnt_slots a x hs)

pub learns_loaded : (v : View) (a x : ℕ) → Learns v (loaded v a x)
learns_loaded v a x = record {
  view = refl;
  slots = learnt_slots a x v.held;
  came = record { words = (a, x) ∷ []; readings = refl };
}

pub learns_popped : (v w : View) (g : Group) (index : ℕ) → Learns v w → Learns (popped v g index) (popped w g index)
learns_popped v w g index learns = record {
  view = ap (λ (x : View). popped x g index) learns.view;
  slots = (same_slot (in_motion g index), learns.slots);
  came = record { words = learns.came.words; readings = learns.came.readings };
}

-- ---- words were read
pub learns_leaves : (v w : View) → Learns v w → LeavesAll v w
learns_leaves v w learns = record {
  all = same_all v w learns.slots;
  rest = record {
    excuses = ap (λ (u : View). u.excuses) learns.view;
    sent = ap (λ (u : View). u.sent) learns.view;
    taken = ap (λ (u : View). u.taken) learns.view;
    more = learns.came.words;
    readings = learns.came.readings;
    stored = nothing_stored v w (ap (λ (u : View). u.stores) learns.view);
  };
  each = same_each v.held w.held learns.slots;
}

pub reads_none : (hand : Caller) → OnlyReads hand hand
reads_none hand = record { book = record { number = refl; spare = refl; entries = refl }; learns = learns_same hand.view }

pub reads_one : (old new : Caller) (a x : ℕ) → new.view ≡ loaded old.view a x → KeepsBook old new → OnlyReads old new
reads_one old new a x view book = record { book = book; learns = subst (Learns old.view) (sym view) (learns_loaded old.view a x) }

pub book_then : (old mid new : Caller) → KeepsBook old mid → KeepsBook mid new → KeepsBook old new
book_then old mid new first second = record {
  number = second.number ∙ first.number;
  spare = second.spare ∙ first.spare;
  entries = second.entries ∙ first.entries;
}

pub reads_then : (old mid new : Caller) → OnlyReads old mid → OnlyReads mid new → OnlyReads old new
reads_then old mid new first second = record {
  book = book_then old mid new first.book second.book;
  learns = learns_then old.view mid.view new.view first.learns second.learns;
}

pub entered_since : (old mid new : Caller) (entry : Entry) → KeepsBook old mid → Entered mid new entry → Entered old new entry
entered_since old mid new entry book entered = record {
  number = entered.number ∙ book.number;
  spare = entered.spare ∙ book.spare;
  entries = entered.entries ∙ ap (λ es. es ++ entry ∷ []) book.entries;
}

-- ---- before a slot or an excuse came, or since
pub gains_after : (m i : ℕ) (v u w : View) → Learns v u → GainsSlot m i u w → GainsSlot m i v w
gains_after m i v u w learns gains = record {
  group = gains.group;
  of_meta = gains.of_meta;
  learns = learns_then (popped v gains.group i) (popped u gains.group i) w (learns_popped v u gains.group i learns) gains.learns;
}

pub gains_then : (m i : ℕ) (v u w : View) → GainsSlot m i v u → Learns u w → GainsSlot m i v w
gains_then m i v u w gains learns = record {
  group = gains.group;
  of_meta = gains.of_meta;
  learns = learns_then (popped v gains.group i) u w gains.learns learns;
}

excused_after : (number : ℕ) (v u w : View) → Learns v u → GainsExcuse number u w → GainsExcuse number v w
excused_after number v u w learns gains =
    let mid : View = with_excuse u (Some (excuse_of_call number)) in
    let first : GainsExcuse number v mid = excused number number v u mid (Some (excuse_of_call number)) refl learns refl refl in record {
      learns = learns_then (with_excuse v (Some (excuse_of_call number))) mid w first.learns gains.learns;
    }

-- ---- before a call
module _ (old mid : Caller) (reads : OnlyReads old mid) where
  pub leaves_mid : LeavesAll old.view mid.view
  leaves_mid = learns_leaves old.view mid.view reads.learns

  pub made_after : (n align : ℕ) (block : BlockToken) (new : Caller) → IsMade n align mid block new → IsMade n align old block new
  made_after n align block new made = record {
    len = made.len;
    align = made.align;
    framed = made.framed;
    fresh = record {
      slots = λ other has. made.fresh.slots other (slot_stays old mid reads.book.number other (stays other.meta other.index) has);
      blocks = λ other has. made.fresh.blocks other (block_stays old mid reads.book.number other (stays other.slot.meta other.slot.index) has);
    };
    apart = λ other has. made.apart other (block_stays old mid reads.book.number other (stays other.slot.meta other.slot.index) has);
  }
    where
      stays : KeepsSlots old.view mid.view
      stays = leaves_mid.all.slots

  pub given_after : (block : BlockToken) (counter : ℕ) (new : Caller) → IsGivenNow mid.view block counter new → IsGivenNow old.view block counter new
  given_after block counter new given = record {
    came = given.came;
    gains = gains_after block.slot.meta block.slot.index old.view mid.view given.came reads.learns given.gains;
    puts = given.puts;
  }

  pub entered_after : (entry : Entry) (new : Caller) → Entered mid new entry → Entered old new entry
  entered_after entry new entered = entered_since old mid new entry reads.book entered

  pub leaves_after : (slot : Token) (w : View) → Leaves slot mid.view w → Leaves slot old.view w
  leaves_after slot w leaves = leaves_then slot old.view mid.view w (all_leaves slot old.view mid.view leaves_mid) leaves

  pub all_after : (w : View) → LeavesAll mid.view w → LeavesAll old.view w
  all_after w leaves = leaves_all_then old.view mid.view w leaves_mid leaves

  pub slots_after : (w : View) → KeepsSlots mid.view w → KeepsSlots old.view w
  slots_after w slots m i = stays_then _ _ _ m i old.view mid.view w (λ a t. (t, t)) (leaves_mid.all.slots m i) (slots m i)

  pub refuses_after : (n align : ℕ) (why : AllocRefusal) (after : View) → (IsTooLarge 1 n align → ⊥) → RefusesNow n align mid why after → RefusesNow n align old why after
  refuses_after n align (NoMemory excuse) after small spends = record {
    came = spends.came;
    gains = excused_after excuse old.view mid.view spends.came reads.learns spends.gains;
    enters = subst (λ number. EntersNoMemory spends.came number n excuse after) reads.book.number spends.enters;
  }
  refuses_after n align TooLarge after small is = absurd (small is.large)
