-- What a push found, put together.
use Rattle.std.proofs.Common.{◌≡◌, ℕ, ◌+◌, ◌*◌, ◌%◌, ◌^◌, ◌<◌, ◌≤◌, arith, sym, ap, ◌∙◌, subst, add-one}
use Rattle.std.specs.Prelude.{Some, bit_or}
use Rattle.std.proofs.lemmas.Nat.{one_shl}
use Rattle.ng_class.specs.Mask.{all_bits_of}
use Rattle.ng_view.specs.Lists.{find}
use Rattle.ng_view.specs.Steps.{loaded}
use Rattle.ng_view.specs.Tells.{Tells}
use Rattle.ng_view.specs.declared.view.Held.{Held}
use Rattle.ng_view.specs.declared.view.View.{View}
use Rattle.ng_view.specs.declared.view.Start.{Start}
use Rattle.ng_rule.proofs.geometry.Lists.{find_among, is_at-true}
use Rattle.ng_mask.specs.Pushes.{Answers, Fills, HasPushCause, Loads, Loses, LosesOnce, Pushed}
use Rattle.ng_mask.specs.declared.outcome.Push.{Push}

pub loses_more : (slot : Pushed) (n : ℕ) (v u w : View) → Loses slot n v u → LosesOnce slot u w → Loses slot (n + 1) v w
loses_more slot n v u w before once = rw add-one (u, before, once)

-- the two masks were loaded one after the other
pub loads_both : (slot : Pushed) (freed avail first second : ℕ) (v u w : View) → freed ≡ first % 2 ^ 32 → avail ≡ second % 2 ^ 32 → u ≡ loaded v (slot.meta + 28) first → w ≡ loaded u (slot.meta + 24) second → Loads slot freed avail v w
loads_both slot freed avail first second v u w f a one two = record {
  first = first;
  second = second;
  freed_is = f;
  avail_is = a;
  view = two ∙ ap (λ x. loaded x (slot.meta + 24) second) one;
}

-- the flags tell the group's last index
last_of : (key : Start) (v : View) (m meta index flags : ℕ) (h : Held) → m ≡ meta → Tells key v (m + 32) flags → find meta index v.held ≡ Some h → h.place.group.last ≡ flags % 32
last_of key v m meta index flags h same told e =
    let is = find_among meta index v.held h e in
    let at = is_at-true meta index h.place is.1 in
    sym ((told.slots h is.0).flags (ap (λ (n : ℕ). n + 32) (same ∙ sym at.0))).last

pub has_cause : {X : Type 0} (key : Start) (v start w : View) (m meta index flags : ℕ) (answer : Push X) → m ≡ meta → Tells key v (m + 32) flags → start ≡ loaded v (m + 32) flags
    → Answers (record { meta = m; index = index; last = flags % 32 }) answer start w → HasPushCause v meta index answer w
has_cause {X} key v start w m meta index flags answer same told view answers = record {
  flags = flags;
  last = flags % 32;
  of_group = λ h e. last_of key v m meta index flags h same told e;
  answers = subst (λ n. Answers (record { meta = n; index = index; last = flags % 32 }) answer (loaded v (n + 32) flags) w) same (subst (λ x. Answers (record { meta = m; index = index; last = flags % 32 }) answer x w) view answers);
}

-- the test for a full group
pub fills : (slot : Pushed) (freed avail bit all : ℕ) → bit ≡ 2 ^ slot.index → all ≡ all_bits_of slot.last → bit_or (bit_or freed avail) bit ≡ all → Fills slot freed avail
fills slot freed avail bit all b a e = ap (bit_or (bit_or freed avail)) (sym b) ∙ e ∙ a

pub fills_not : (slot : Pushed) (freed avail bit all : ℕ) → bit ≡ 2 ^ slot.index → all ≡ all_bits_of slot.last → (bit_or (bit_or freed avail) bit ≡ all → ⊥) → Fills slot freed avail → ⊥
fills_not slot freed avail bit all b a unlike full = unlike (ap (bit_or (bit_or freed avail)) b ∙ full ∙ sym a)

-- the bit of a slot, as it is shifted
pub bit_is : (i j : ℕ) → i ≡ j → i < 32 → 1 * 2 ^ i % 4294967296 ≡ 2 ^ j
bit_is i j same few = one_shl i 32 few ∙ ap (λ (n : ℕ). 2 ^ n) same

pub all_lost : (slot : Pushed) (n : ℕ) (v w : View) → n ≤ 32 → 32 ≤ n → Loses slot n v w → Loses slot 32 v w
all_lost slot n v w most least lost = subst (λ (k : ℕ). Loses slot k v w) (let e : n ≡ 32 = omega arith in e) lost
