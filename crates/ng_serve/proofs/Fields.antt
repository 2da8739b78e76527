-- What the words of a live group's meta say of it.
use Rattle.std.proofs.Common.{◌≡◌, ◌≢◌, ◌⊎◌, ℕ, ◌+◌, ◌*◌, ◌%◌, ◌<◌, ◌≤◌, sym, ap, ◌∙◌, subst, ⊎_elim, arith}
use Rattle.ng_meta.specs.Cells.{high_half, joined, low_half}
use Rattle.ng_meta.specs.Flags.{fields_in}
use Rattle.ng_meta.specs.declared.flags.Fields.{Fields}
use Rattle.ng_view.specs.Conditions.{HasFlags}
use Rattle.ng_view.specs.Lists.{Among}
use Rattle.ng_view.specs.Steps.{read}
use Rattle.ng_view.specs.declared.view.Group.{Group}
use Rattle.ng_view.specs.declared.view.View.{View}
use Rattle.ng_view.specs.Fetches.{HasGroup}
use Rattle.ng_view.specs.Loads.{IsField, Loads, TellsGroups}
use Rattle.ng_view.specs.Stores.{IsActiveIndex, Stores}
use Rattle.ng_mask.specs.Fetches.{OfGroup}
use Rattle.ng_space.specs.Placed.{AreOfGroups, HasSlotOf}
use Rattle.ng_serve.specs.Groups.{AreInSpace, Describes, IsInSpace, ReadsFields, ReadsIndex}
use Rattle.ng_serve.specs.Reads.{Reads}
use Rattle.ng_serve.specs.declared.group.LiveGroup.{LiveGroup}
use Rattle.ng_serve.proofs.Readings.{reads_groups, reads_one, reads_then}

-- ---- a group's fields by its two words
abbrev pub group_with : ℕ → Fields → LiveGroup
group_with base f = record { base = base; class = f.class; last = f.last; maplen = f.maplen }

halves : (flags low high : ℕ) → low ≡ low_half flags → high ≡ high_half flags → joined low high ≡ flags
halves flags low high l h = omega arith

describes : (g : Group) (base flags : ℕ) (f : Fields) → base ≡ g.base → HasFlags g flags → f ≡ fields_in flags → Describes (group_with base f) g
describes g base flags f at has is = record {
  base = sym at;
  tag = sym has.class ∙ ap (λ (x : Fields). x.class + 1) (sym is);
  last = sym has.last ∙ ap (λ (x : Fields). x.last) (sym is);
  maplen = sym has.maplen ∙ ap (λ (x : Fields). x.maplen) (sym is);
}

-- a slot's group is live
pub has_group : (v : View) (meta : ℕ) → HasGroup v meta ⊎ HasSlotOf v meta → AreOfGroups v → HasGroup v meta
has_group v meta live slots = ⊎_elim
    (λ (has : HasGroup v meta). has)
    (λ (slot : HasSlotOf v meta). record { group = slot.slot.place.group; there = (slots slot.slot slot.there).there; of_meta = slot.of_meta })
    live

field_at : (v : View) (meta offset : ℕ) → HasGroup v meta → offset < 40 → offset ≢ 24 → offset ≢ 28 → IsField v (meta + offset)
field_at v meta offset has below no_avail no_freed = record {
  group = has.group;
  there = has.there;
  offset = offset;
  place = ap (λ m. m + offset) (sym has.of_meta);
  below = below;
  no_mask = (no_avail, no_freed);
}

module _ (v u w : View) (meta base flags : ℕ) (has : HasGroup v meta) (first : Loads v (meta + 16) base u) (second : Loads u (meta + 32) flags w) where
  mem_read : u ≡ read v (meta + 16) base
  mem_read = first.field (field_at v meta 16 has (omega arith) (λ e. omega arith) (λ e. omega arith))

  still : HasGroup u meta
  still = record { group = has.group; there = subst (λ (x : View). Among has.group x.desk.groups) (sym mem_read) has.there; of_meta = has.of_meta }

  flags_read : w ≡ read u (meta + 32) flags
  flags_read = second.field (field_at u meta 32 still (omega arith) (λ e. omega arith) (λ e. omega arith))

  pub reads_fields : ReadsFields v meta w
  reads_fields = record {
    mem = base;
    flags = flags;
    view = flags_read ∙ ap (λ (x : View). read x (meta + 32) flags) mem_read;
  }

  pub fields_reads : Reads v w
  fields_reads = reads_then v u w (reads_one v u (meta + 16) base mem_read) (reads_one u w (meta + 32) flags flags_read)

  pub described : TellsGroups v (meta + 16) base → TellsGroups u (meta + 32) flags → (low high : ℕ) (f : Fields) → low ≡ low_half flags → high ≡ high_half flags
      → f ≡ fields_in (joined low high) → OfGroup v meta (Describes (group_with base f))
  described tells_mem tells_flags low high f l h is g there e =
      let there' : Among g u.desk.groups = subst (λ (x : View). Among g x.desk.groups) (sym mem_read) there in
      describes g base flags f
      ((tells_mem g there).fields.mem (ap (λ m. m + 16) (sym e)))
      ((tells_flags g there').fields.flags (ap (λ m. m + 32) (sym e)))
      (is ∙ ap fields_in (halves flags low high l h))

-- ---- the cell of its active index
pub index_cell : (v : View) (base pages : ℕ) → IsActiveIndex v (base + 8) → AreInSpace pages v.desk.groups → IsInSpace pages (record { meta = 0; base = base; tag = 0; last = 0; maplen = 0 })
index_cell v base pages is inside =
    let g = is.group in
    let s = inside g is.there in
    let same : base + 8 ≡ g.base + 8 = is.place in
    let at : g.base ≡ base = omega arith in
    record { whole = ap (λ b. b % 16) (sym at) ∙ s.whole; inside = subst (λ b. b + 16 ≤ 4096 * pages) at s.inside }

pub reads_index : (v w : View) (base n index : ℕ) → IsActiveIndex v (base + 8) → Loads v (base + 8) n w → index ≡ n % 32 → ReadsIndex v base index w
reads_index v w base n index is loads low = record { word = n; index_is = low; view = loads.index is }

pub index_reads : (v w : View) (base index : ℕ) → ReadsIndex v base index w → Reads v w
index_reads v w base index r = reads_one v w (base + 8) r.word r.view

-- ---- after readings
pub lives_then : (v w : View) (meta : ℕ) → Reads v w → HasGroup v meta → HasGroup w meta
lives_then v w meta reads has = record { group = has.group; there = subst (Among has.group) (sym (reads_groups v w reads)) has.there; of_meta = has.of_meta }

pub bare_then : (v w : View) (meta : ℕ) → Reads v w → Among meta v.desk.zero_avail → Among meta w.desk.zero_avail
bare_then v w meta reads bare = subst (λ (x : View). Among meta x.desk.zero_avail) (sym reads.view) bare

pub inside_then : (v w : View) (pages : ℕ) → Reads v w → AreInSpace pages v.desk.groups → AreInSpace pages w.desk.groups
inside_then v w pages reads inside = subst (AreInSpace pages) (sym (reads_groups v w reads)) inside

pub group_index : (v w : View) (meta : ℕ) (found : LiveGroup) → HasGroup v meta → OfGroup v meta (Describes found) → Reads v w → IsActiveIndex w (found.base + 8)
group_index v w meta found has group reads = record {
  group = has.group;
  there = subst (Among has.group) (sym (reads_groups v w reads)) has.there;
  place = ap (λ b. b + 8) (sym (group has.group has.there has.of_meta).base);
}

-- ---- an index that is raised
pub index_stays : (v w : View) (a b : ℕ) → IsActiveIndex v a → a ≡ b → Reads v w → IsActiveIndex w b
index_stays v w a b is same reads = record { group = is.group; there = subst (Among is.group) (sym (reads_groups v w reads)) is.there; place = sym same ∙ is.place }

pub reads_stored : (v u w : View) (a x : ℕ) → IsActiveIndex u a → Reads v u → Stores u a x w → Reads v w
reads_stored v u w a x is reads stores = subst (Reads v) (sym (stores.index is)) reads
