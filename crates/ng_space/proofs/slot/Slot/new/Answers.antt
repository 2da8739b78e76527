use Rattle.std.proofs.Common.{ℕ, ◌+◌, ◌*◌, ◌≤◌, ◌∙◌, sym, ap, subst, arith}
use Rattle.ng_meta.specs.Place.{IsMetaPlace}
use Rattle.ng_space.proofs.Reading.{fields_are, group_class, stride_is, room_is, ends_below, start_is, end_is}
use Rattle.ng_space.proofs.slot.Slot.new.Given.{Over}
use Rattle.ng_space.proofs.slot.Slot.new.Goals as goal

pub stride-stride-requires-clause-class : goal.stride-stride-requires-clause-class
stride-stride-requires-clause-class g c =
    let p = c.requires.place in
    group_class p.0 _ (fields_are p.0 _ _ _ _ _ p.1 c.fields_of-fields.ensures.fields) p.2.class

pub stride-stride-requires-clause-maplen : goal.stride-stride-requires-clause-maplen
stride-stride-requires-clause-maplen g c =
    let p = c.requires.place in
    let is = fields_are p.0 _ _ _ _ _ p.1 c.fields_of-fields.ensures.fields in let same = is.maplen in let few = p.2.few in omega arith

below : (g : Over) (c : goal.After-stride-stride g) → c.args.base + 16 + c.stride-stride.result * c.args.index + c.stride-stride.result ≤ 4096 * g.N.Name.facts.start.pages
below g c =
    let p = c.requires.place in
    let is = fields_are p.0 _ _ _ _ _ p.1 c.fields_of-fields.ensures.fields in
    ends_below _ p.0 _ _ _ p.2 p.1.base_is p.1.index_is (c.stride-stride.ensures.value ∙ stride_is p.0 _ is)

pub overflow_add-base : goal.overflow_add-base
overflow_add-base g c = let most = below g c in let pages = c.requires.pages in omega arith

pub invariant_of-result : goal.invariant_of-result
invariant_of-result g c =
    let p = c.requires.place in
    let l = p.2 in let r = p.1 in record {
      place = subst (λ m. IsMetaPlace m g.N.Name.facts.start.pages) r.meta_is l.meta;
      few = (let le = l.index in let many = l.many in let is = r.index_is in omega arith);
      whole = (let base = l.whole in let is = r.base_is in omega arith);
      first = (let start = c.slot_start.ensures in omega arith);
      addressed = c.requires.pages;
      below = (let most = below g c.before.before.before in let end = c.slot_end.ensures in let least = c.stride-stride.ensures.least in omega arith);
    }

pub returns-clause-stands : goal.returns-clause-stands
returns-clause-stands g c = λ p r.
    let is = fields_are p _ _ _ _ _ r c.fields_of-fields.ensures.fields in
    let s = c.stride-stride.ensures.value ∙ stride_is p _ is in record {
      storage = ap (λ (b : ℕ). b + 16) (sym r.base_is);
      start = c.slot_start.ensures ∙ start_is p _ _ _ r.base_is r.index_is s;
      end = c.slot_end.ensures ∙ end_is p _ _ _ r.base_is r.index_is s;
      room = c.room.ensures.value ∙ room_is p _ is;
    }
