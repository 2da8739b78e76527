-- Where a slot lies, by the words of its meta.
use Rattle.std.proofs.Common.{◌≡◌, ℕ, suc, ◌+◌, ◌-◌, ◌*◌, ◌≤◌, sym, ap, ◌∙◌, subst, mul-le-mul_left, arith}
use Rattle.ng_class.specs.Slot.{IsGroupClass, stride_of, room_of, start_at, end_at}
use Rattle.ng_meta.specs.Cells.{joined}
use Rattle.ng_meta.specs.Flags.{fields_in}
use Rattle.ng_meta.specs.declared.flags.Fields.{Fields}
use Rattle.ng_view.specs.Places.{stride, room, slot_start, slot_end}
use Rattle.ng_view.specs.declared.view.Place.{Place}
use Rattle.ng_view.specs.declared.view.Start.{Start}
use Rattle.ng_space.specs.Placed.{IsRead, LiesIn}

-- the fields are those of the place's group
pub record IsFieldsOf (f : Fields) (p : Place) : Type 0 where
  pub class : f.class ≡ p.group.tag - 1
  pub last : f.last ≡ p.group.last
  pub maplen : f.maplen ≡ p.group.maplen

pub fields_are : (p : Place) (meta index base flags : ℕ) (f : Fields) → IsRead p meta index base flags → f ≡ fields_in (joined flags 0) → IsFieldsOf f p
fields_are p meta index base flags f r e =
    let w = r.flags_are in record {
      class = ap (λ (x : Fields). x.class) e ∙ (let c = w.class in omega arith);
      last = ap (λ (x : Fields). x.last) e ∙ (let l = w.last in omega arith);
      maplen = ap (λ (x : Fields). x.maplen) e ∙ (let m = w.maplen in omega arith);
    }

pub group_class : (p : Place) (f : Fields) → IsFieldsOf f p → IsGroupClass (p.group.tag - 1) p.group.last p.group.maplen → IsGroupClass f.class f.last f.maplen
group_class p f is c = subst (λ n. IsGroupClass n f.last f.maplen) (sym is.class) (subst (λ n. IsGroupClass (p.group.tag - 1) n f.maplen) (sym is.last) (subst (λ n. IsGroupClass (p.group.tag - 1) p.group.last n) (sym is.maplen) c))

pub stride_is : (p : Place) (f : Fields) → IsFieldsOf f p → stride_of f.class f.last f.maplen ≡ stride p.group
unfolding stride
stride_is p f is = λ i. stride_of (is.class i) (is.last i) (is.maplen i)

pub room_is : (p : Place) (f : Fields) → IsFieldsOf f p → room_of f.class f.last f.maplen ≡ room p.group
unfolding room
room_is p f is = λ i. room_of (is.class i) (is.last i) (is.maplen i)

-- the slot ends in the space, and so do the sums for it
pub ends_below : (key : Start) (p : Place) (base index s : ℕ) → LiesIn key p → p.group.base ≡ base → p.index ≡ index → s ≡ stride p.group → base + 16 + s * index + s ≤ 4096 * key.pages
ends_below key p base index s l b i e =
    let t : ℕ = stride p.group in
    let more : t * suc p.index ≤ t * (p.group.last + 1) = mul-le-mul_left t (let le = l.index in omega arith) in
    let inside = l.inside in
    let here : p.group.base + 16 + t * p.index + t ≤ 4096 * key.pages = omega arith in
    subst (λ n. n + 16 + s * index + s ≤ 4096 * key.pages) b (subst (λ n. p.group.base + 16 + s * n + s ≤ 4096 * key.pages) i (subst (λ n. p.group.base + 16 + n * p.index + n ≤ 4096 * key.pages) (sym e) here))

pub start_is : (p : Place) (base index s : ℕ) → p.group.base ≡ base → p.index ≡ index → s ≡ stride p.group → start_at (base + 16) s index ≡ slot_start p
start_is p base index s b i e = λ k. start_at (sym b k + 16) (e k) (sym i k)

pub end_is : (p : Place) (base index s : ℕ) → p.group.base ≡ base → p.index ≡ index → s ≡ stride p.group → end_at (base + 16) s index ≡ slot_end p
end_is p base index s b i e = λ k. end_at (sym b k + 16) (e k) (sym i k)
