-- Where a block's slot lies, by the words of its group's meta.
use Rattle.std.proofs.Common.{◌≡◌, ◌⊎◌, ℕ, ◌+◌, ◌<◌, ◌≤◌, sym, ap, ◌∙◌, subst, ⊎_elim, inl, inr, arith}
use Rattle.ng_class.specs.Slot.{IsGroupClass, IsLoneGroup, start_at, stride_of}
use Rattle.ng_meta.specs.Cells.{joined}
use Rattle.ng_meta.specs.Flags.{fields_in}
use Rattle.ng_meta.specs.declared.flags.Fields.{Fields}
use Rattle.ng_rule.proofs.geometry.Lists.{find_among}
use Rattle.ng_view.specs.Lists.{find}
use Rattle.ng_view.specs.Steps.{loaded}
use Rattle.ng_view.specs.Tells.{Tells}
use Rattle.ng_view.specs.declared.view.Place.{Place}
use Rattle.ng_view.specs.declared.view.Start.{Start}
use Rattle.ng_view.specs.declared.view.View.{View}
use Rattle.ng_space.specs.Blocks.{BlockToken, HasBlock, OfSlot}
use Rattle.ng_space.specs.Callers.{Caller}
use Rattle.ng_space.specs.Leaving.{LeavesAll}
use Rattle.ng_space.specs.Placed.{ArePlaced, IsRead, LiesIn}
use Rattle.ng_space.proofs.Holding.{read_of}
use Rattle.ng_space.proofs.Reading.{IsFieldsOf, fields_are, group_class, start_is, stride_is}
use Rattle.ng_frame.specs.Located.{IsLocated}

-- the mem and flags of the meta of a block's group were loaded
module _ (key : Start) (hand one : Caller) (block : BlockToken) (has : HasBlock hand block) (meta index base flags : ℕ) (same_meta : meta ≡ block.slot.meta) (same_index : index ≡ block.slot.index)
    (loads : one.view ≡ loaded hand.view (meta + 16) base) (first : Tells key hand.view (meta + 16) base) (second : Tells key one.view (meta + 32) flags) (placed : ArePlaced key hand.view) where
  abbrev p : Place
  p = has.held.place

  read : IsRead p meta index base flags
  read = read_of key hand.view meta index base flags has.held ((λ k. find (same_meta k) (same_index k) hand.view.held) ∙ has.found) first (subst (λ (v : View). Tells key v (meta + 32) flags) loads second)

  lies : LiesIn key p
  lies = placed has.held (find_among block.slot.meta block.slot.index hand.view.held has.held has.found).0

  pub flags_fit : flags < 4294967296
  flags_fit = let maplen = read.flags_are.maplen in let few = lies.few in omega (arith, maplen, few)

  -- the fields that these flags tell
  module _ (fields : Fields) (told : fields ≡ fields_in (joined flags 0)) where
    are : IsFieldsOf fields p
    are = fields_are p meta index base flags fields read told

    pub location_class : IsGroupClass fields.class fields.last fields.maplen
    location_class = group_class p fields are lies.class

    pub location_pages : fields.maplen ≤ 16384
    location_pages = let same = are.maplen in let few = lies.few in omega (arith, same, few)

    pub location_kind : (fields.class < 48) ⊎ (fields.class ≡ 63)
    location_kind = ⊎_elim (λ (small : fields.class < 48). inl small) (λ (lone : IsLoneGroup fields.class fields.last fields.maplen). inr lone.lone) location_class

    pub location_start : (s : ℕ) → s ≡ stride_of fields.class fields.last fields.maplen → start_at (base + 16) s index ≡ block.slot.start
    location_start s is = start_is p base index s read.base_is read.index_is (is ∙ stride_is p fields are) ∙ sym has.place.start

    pub located : (new : Caller) (start : ℕ) → LeavesAll hand.view new.view → start ≡ block.slot.start
        → OfSlot new block.slot (IsLocated (record { class = fields.class; maplen = fields.maplen; start = start }) block)
    located new start leaves begins h found =
        let k = leaves.all.slots block.slot.meta block.slot.index has.held has.found in
        let same : k.0 ≡ h = cc in
        let live = lies.live in
        let class = are.class in
        let tag : p.group.tag ≡ fields.class + 1 = omega (arith, class, live) in
        subst (IsLocated (record { class = fields.class; maplen = fields.maplen; start = start }) block) same (record {
          class = ap (λ (q : Place). q.group.tag) k.2.place ∙ tag;
          maplen = ap (λ (q : Place). q.group.maplen) k.2.place ∙ sym are.maplen;
          start = sym begins;
        })
