-- Blocks come and go in the slots of a hand.
use Rattle.std.proofs.Common.{◌≡◌, ℕ, ◌+◌, ◌-◌, ◌/◌, ◌%◌, ◌&&◌, ◌<◌, ◌≤◌, max, cond, true, ◌∷◌, refl, sym, ap, ◌∙◌, subst, inl, arith}
use Rattle.std.specs.Prelude.{Some, None}
use Rattle.std.proofs.lemmas.Bool.{le-leb}
use Rattle.ng_rule.proofs.geometry.Lists.{find_among, find_edit, is_at-true}
use Rattle.ng_rule.proofs.hand.Moves.{stores_in_may}
use Rattle.ng_rule.proofs.entry.Gives.{gives_may, kills_may, regives_may}
use Rattle.ng_terms.specs.Heap.{IsAlignment, extent}
use Rattle.ng_terms.specs.declared.entry.Entry.{Entry}
use Rattle.ng_terms.specs.declared.entry.Entry.TheVariants.{Give, Take, Resize, NoMemory, TooLarge, BadAlign, Refused}
use Rattle.ng_view.specs.Blocks.{Knows}
use Rattle.ng_view.specs.Conditions.{Gives}
use Rattle.ng_view.specs.Frame.{Frames}
use Rattle.ng_view.specs.Lists.{Among, find}
use Rattle.ng_view.specs.May.{May}
use Rattle.ng_view.specs.Places.{owns_at, slot_start, stride}
use Rattle.ng_view.specs.Steps.{given, killed, learnt, loaded, regiven, stored, with_block, wrote}
use Rattle.ng_view.specs.Views.{numbered}
use Rattle.ng_view.specs.declared.view.Held.{Held}
use Rattle.ng_view.specs.declared.view.Place.{Place}
use Rattle.ng_view.specs.declared.view.Start.{Start}
use Rattle.ng_view.specs.declared.view.View.{View}
use Rattle.ng_space.specs.Blocks.{BlockToken, HasBlock, HasFramed, IsBlockToken, IsReady, OfSlot, Serves, header_at}
use Rattle.ng_space.specs.Callers.{Caller}
use Rattle.ng_space.specs.Tokens.{HasSlot, IsToken, LiesAt, Token}
use Rattle.ng_space.proofs.Apart.{IsNewAt, new_at}
use Rattle.ng_space.proofs.Frames.{framed, frames, gives}
use Rattle.ng_space.proofs.Holding.{find-loaded}

-- the view after the header cell in front of a block was stored with an entry
abbrev pub after_header : View → ℕ → ℕ → ℕ → ℕ → Entry → View
after_header v m i x k (Give n a p) = given v m i p n a k x
after_header v m i x k (Take p) = killed v m i p k x
after_header v m i x k (Resize p n) = regiven v m i p n k x
after_header v m i x k (NoMemory n e) = v
after_header v m i x k (TooLarge c s a) = v
after_header v m i x k (BadAlign a) = v
after_header v m i x k (Refused p f) = v

index_of : (m i : ℕ) (v : View) (h : Held) → find m i v.held ≡ Some h → h.place.index ≡ i
index_of m i v h found = (is_at-true m i h.place (find_among m i v.held h found).1).1

-- ---- what the steps ask
module _ (key : Start) (id : ℕ) (v : View) (hand : Caller) (k x : ℕ) (same : v ≡ hand.view) (mine : numbered k v ≡ 1) where
  here : (m i : ℕ) (h : Held) → find m i hand.view.held ≡ Some h → find m i v.held ≡ Some h
  here m i h found = ap (λ (u : View). find m i u.held) same ∙ found

  pub gives_block : (slot : Token) (p n a : ℕ) → HasSlot hand slot → IsToken key slot → IsAlignment a → p % max a 16 ≡ 0 → OfSlot hand slot (Serves n a) → OfSlot hand slot (IsReady slot p n) → x ≡ header_at slot p n
      → May key id v ((p - 4) / 4) (λ n. x) (λ before found after. (after ≡ given before slot.meta slot.index p n a k x) × IsNewAt p before)
  gives_block slot p n a has token power aligned serves ready is ws vs kept at fits =
      let h = has.held in let found = here slot.meta slot.index h has.found in
      let may : Gives h p n a x = subst (λ y. Gives h p n a y) (sym is) (gives h slot p n has.place (index_of slot.meta slot.index hand.view h has.found) token.few token.whole token.first (ready h has.found) a (serves h has.found)) in
      let step = gives_may key id v slot.meta slot.index p n a k x h found has.free mine power aligned may ws vs kept at fits in
      (step.0, step.1, (step.2, new_at key ws vs id v kept at slot.meta slot.index h found p has.free may.framed.whole may.framed.from may.framed.roomy))

  pub regives_block : (block : BlockToken) (n : ℕ) → HasBlock hand block → IsToken key block.slot → OfSlot hand block.slot (Serves n 16) → OfSlot hand block.slot (IsReady block.slot block.at n) → x ≡ header_at block.slot block.at n
      → May key id v ((block.at - 4) / 4) (λ n. x) (λ before found after. after ≡ regiven before block.slot.meta block.slot.index block.at n k x)
  regives_block block n has token serves ready is =
      let h = has.held in let slot = block.slot in
      regives_may key id v slot.meta slot.index n k x h (extent block.at block.len block.align) (here slot.meta slot.index h has.found) has.live mine
      (subst (λ y. Gives h block.at n 16 y) (sym is) (gives h slot block.at n has.place (index_of slot.meta slot.index hand.view h has.found) token.few token.whole token.first (ready h has.found) 16 (serves h has.found)))

-- the header cell of a block is its slot's own
owns_header : (p : Place) (slot : Token) (at len : ℕ) → LiesAt p slot → slot.start ≤ at → at + len ≤ slot.end → at % 16 ≡ 0 → owns_at p (at - 4) ≡ true
owns_header p slot at len place from within whole =
    let start = place.start in let end = place.end in
    let a : ℕ = slot_start p in let s : ℕ = stride p.group in
    let low : a ≤ (at - 4) + 4 = omega arith in
    let high : (at - 4) + 5 ≤ a + s = omega arith in
    λ k. le-leb a ((at - 4) + 4) low k && le-leb ((at - 4) + 5) (a + s) high k

module _ (key : Start) (id : ℕ) (v : View) (hand : Caller) (k x y : ℕ) (block : BlockToken) (numbers : IsBlockToken block) (has : HasBlock hand block) (same : v ≡ loaded hand.view (block.at - 4) y) where
  abbrev slot : Token
  slot = block.slot

  found : find slot.meta slot.index v.held ≡ Some (learnt (block.at - 4) y has.held)
  found = ap (λ (u : View). find slot.meta slot.index u.held) same ∙ find-loaded hand.view (block.at - 4) y slot.meta slot.index has.held has.found

  known : Knows (block.at - 4) y (learnt (block.at - 4) y has.held)
  known = subst (λ b. Among {A = ℕ × ℕ} (block.at - 4, y) (cond b ((block.at - 4, y) ∷ has.held.cells) has.held.cells)) (sym (owns_header has.held.place slot block.at block.len has.place numbers.from numbers.within numbers.whole)) (inl refl)

  pub kills_block : numbered k v ≡ 1 → x ≡ y % 256 + 65280 → May key id v ((block.at - 4) / 4) (λ n. x) (λ before found after. after ≡ killed before slot.meta slot.index block.at k x)
  kills_block mine is = kills_may key id v slot.meta slot.index k x y (learnt (block.at - 4) y has.held) (extent block.at block.len block.align) found has.live mine known (omega arith) (omega arith)

pub stores_in_block : (key : Start) (id : ℕ) (v : View) (m i a x : ℕ) (hand : Caller) (block : BlockToken) → v ≡ hand.view → m ≡ block.slot.meta → i ≡ block.slot.index → HasBlock hand block → a % 4 ≡ 0 → block.at ≤ a → a < block.slot.end → x < 4294967296
    → May key id v (a / 4) (λ n. x) (λ before found after. after ≡ stored before m i a x)
stores_in_block key id v m i a x hand block same meta index has whole from below fits =
    let end = has.place.end in
    stores_in_may key id v m i a x has.held (extent block.at block.len block.align) ((λ t. find (meta t) (index t) (same t).held) ∙ has.found) has.live from (omega arith) whole fits

-- ---- what the hand has then
pub given_block : (hand new : Caller) (slot : Token) (p n a k x : ℕ) (has : HasSlot hand slot) → new.number ≡ hand.number → new.view ≡ given hand.view slot.meta slot.index p n a k x → slot.index < 32 → slot.storage % 16 ≡ 0 → slot.storage ≤ slot.start → 4 ≤ p
    → IsReady slot p n has.held → x ≡ header_at slot p n → HasFramed new (record { slot = slot; at = p; len = n; align = a })
given_block hand new slot p n a k x has number is few whole first some_cells ready header = record {
  has = record {
    own = has.own ∙ sym number;
    held = with_block (Some (extent p n a)) (wrote (p - 4) x has.held);
    found = ap (λ (u : View). find slot.meta slot.index u.held) is ∙ find_edit slot.meta slot.index (with_block (Some (extent p n a))) _ (wrote (p - 4) x has.held) (λ y. refl) (find_edit slot.meta slot.index (wrote (p - 4) x) hand.view.held has.held (λ y. refl) has.found);
    live = refl;
    place = has.place;
  };
  framed = framed has.held p n x (Some (extent p n a)) (subst (λ y. Frames has.held p n y) (sym header) (frames has.held slot p n has.place (index_of slot.meta slot.index hand.view has.held has.found) few whole first ready)) some_cells;
}

pub regiven_block : (hand new : Caller) (block : BlockToken) (n k x : ℕ) (has : HasBlock hand block) → new.number ≡ hand.number → new.view ≡ regiven hand.view block.slot.meta block.slot.index block.at n k x → block.slot.index < 32 → block.slot.storage % 16 ≡ 0 → block.slot.storage ≤ block.slot.start → 4 ≤ block.at
    → IsReady block.slot block.at n has.held → x ≡ header_at block.slot block.at n → HasFramed new (record { slot = block.slot; at = block.at; len = n; align = 16 })
regiven_block hand new block n k x has number is few whole first some_cells ready header =
    let slot = block.slot in let p = block.at in record {
      has = record {
        own = has.own ∙ sym number;
        held = with_block (Some (extent p n 16)) (wrote (p - 4) x has.held);
        found = ap (λ (u : View). find slot.meta slot.index u.held) is ∙ find_edit slot.meta slot.index (with_block (Some (extent p n 16))) _ (wrote (p - 4) x has.held) (λ y. refl) (find_edit slot.meta slot.index (wrote (p - 4) x) hand.view.held has.held (λ y. refl) has.found);
        live = refl;
        place = has.place;
      };
      framed = framed has.held p n x (Some (extent p n 16)) (subst (λ y. Frames has.held p n y) (sym header) (frames has.held slot p n has.place (index_of slot.meta slot.index hand.view has.held has.found) few whole first ready)) some_cells;
    }

pub killed_slot : (hand new : Caller) (block : BlockToken) (k x y : ℕ) → HasBlock hand block → new.number ≡ hand.number → new.view ≡ killed (loaded hand.view (block.at - 4) y) block.slot.meta block.slot.index block.at k x → HasSlot new block.slot
killed_slot hand new block k x y has number is =
    let slot = block.slot in let p = block.at in record {
      own = has.own ∙ sym number;
      held = wrote (p - 4) x (with_block None (learnt (p - 4) y has.held));
      found = ap (λ (u : View). find slot.meta slot.index u.held) is ∙ find_edit slot.meta slot.index (wrote (p - 4) x) _ (with_block None (learnt (p - 4) y has.held)) (λ y. refl) (find_edit slot.meta slot.index (with_block None) _ (learnt (p - 4) y has.held) (λ y. refl) (find-loaded hand.view (p - 4) y slot.meta slot.index has.held has.found));
      free = refl;
      place = has.place;
    }

pub stored_block : (hand new : Caller) (block : BlockToken) (a x : ℕ) → HasBlock hand block → new.number ≡ hand.number → new.view ≡ stored hand.view block.slot.meta block.slot.index a x → HasBlock new block
stored_block hand new block a x has number is = record {
  own = has.own ∙ sym number;
  held = wrote a x has.held;
  found = ap (λ (u : View). find block.slot.meta block.slot.index u.held) is ∙ find_edit block.slot.meta block.slot.index (wrote a x) hand.view.held has.held (λ y. refl) has.found;
  live = has.live;
  place = has.place;
}

pub loaded_block : (hand new : Caller) (a x : ℕ) (block : BlockToken) → new.view ≡ loaded hand.view a x → new.number ≡ hand.number → HasBlock hand block → HasBlock new block
loaded_block hand new a x block is number has = record {
  own = has.own ∙ sym number;
  held = learnt a x has.held;
  found = ap (λ (u : View). find block.slot.meta block.slot.index u.held) is ∙ find-loaded hand.view a x block.slot.meta block.slot.index has.held has.found;
  live = has.live;
  place = has.place;
}

pub stored_slot : (hand new : Caller) (slot : Token) (a x : ℕ) → HasSlot hand slot → new.number ≡ hand.number → new.view ≡ stored hand.view slot.meta slot.index a x → HasSlot new slot
stored_slot hand new slot a x has number is = record {
  own = has.own ∙ sym number;
  held = wrote a x has.held;
  found = ap (λ (u : View). find slot.meta slot.index u.held) is ∙ find_edit slot.meta slot.index (wrote a x) hand.view.held has.held (λ y. refl) has.found;
  free = has.free;
  place = has.place;
}
