-- The verdict on the frame of a block of the hand, as the last three checks have it.
use Rattle.std.proofs.Common.{◌≡◌, ◌≢◌, ⊎_elim, ℕ, ◌+◌, ◌-◌, ◌*◌, ◌/◌, ◌%◌, ◌<◌, ◌≤◌, Bool, true, false, cond, ◌&&◌, ◌||◌, eq-eqb, ne_eqb, refl, sym, ap, ◌∙◌, subst, true≢false, arith}
use Rattle.std.specs.Prelude.{Option, Some, None, Result, Ok, Err, nat_lt, nat_le, ◌==◌, is_err}
use Rattle.std.specs.Option.{option_and_then, option_map}
use Rattle.std.proofs.lemmas.Bool.{cases_eq}
use Rattle.std.proofs.lemmas.Bool.Decides.{nat_tests}
use Rattle.ng_class.specs.Slot.{end_at, start_at, stride_of}
use Rattle.ng_header.specs.Reading.{nominal_in, reserved_in}
use Rattle.ng_header.specs.declared.reading.NominalFault.{NominalFault}
use Rattle.ng_header.specs.declared.reading.NominalFault.TheVariants as nominal
use Rattle.ng_meta.specs.Flags.{fields_in}
use Rattle.ng_meta.specs.declared.flags.Fields.{Fields}
use Rattle.ng_view.specs.Places.{slot_end, slot_start}
use Rattle.ng_view.specs.declared.view.Group.{Group}
use Rattle.ng_view.specs.declared.view.Held.{Held}
use Rattle.ng_view.specs.declared.view.Start.{Start}
use Rattle.ng_frame.specs.Judging.{IsJudged, IsSureByte, verdict_by}
use Rattle.ng_check.specs.Answers.{found_of, or_zero}
use Rattle.ng_check.specs.Cells.{AreOnce}
use Rattle.ng_check.specs.Checks as checks
use Rattle.ng_check.specs.Checks.{overrun_with}
use Rattle.ng_check.specs.Queries as query
use Rattle.ng_check.specs.Queries.{Query, both, byte, is_class, len_with, mark_with, number}
use Rattle.ng_check.proofs.Loaded.{learnt_in_turn}
use Rattle.ng_check.proofs.Options.{both_is, both_some, map_some, then_some}
use Rattle.ng_check.proofs.OwnCells.{IsOwn, own_index, own_meta}
use Rattle.ng_check.proofs.OwnEnds.{IsFramedBy, end_after, end_inside, ends, err_ok, ok_is, only_bad, own_end, own_reserved, own_slot_end, own_start, sure_byte, whole_end, within_gap}
use Rattle.ng_check.proofs.OwnTests.{never_both}
use Rattle.ng_check.proofs.Tests.{above_test, below_test}

in_test : (p e a : ℕ) → e < p → a ≤ e → (nat_le p e || nat_lt e a) ≡ false
in_test p e a below from = grind (arith, nat_tests)

err_bad : (res : Result ℕ NominalFault) → is_err res ≡ true → (f w x gap : ℕ) → res ≡ reserved_in f w x gap → res ≡ Err nominal.BadReserved
err_bad (Ok r) e f w x gap told = absurd (true≢false (sym e))
err_bad (Err fault) e f w x gap told = ap (λ z. Err z) (only_bad f w x gap fault (sym told))

ok_of : (res : Result ℕ NominalFault) → is_err res ≡ false → (r : ℕ) × (res ≡ Ok r)
ok_of (Ok r) e = (r, refl)
ok_of (Err fault) e = absurd (true≢false e)

where_some : {A : Type 0} (b : Bool) (o : Option A) (x : A) → cond b None o ≡ Some x → o ≡ Some x
where_some true o x e = absurd (cc)
where_some false o x e = e

-- the length, where the first reserved byte is 0
no_over : (gap r mark : ℕ) → (nat_lt 0 r && nat_lt 0 mark) ≡ false → nominal_in gap r mark 0 ≡ Ok (gap - r)
no_over gap r mark e = ap (λ b. cond b (Err nominal.Overrun) (Ok (gap - r))) e

over : (gap r mark : ℕ) → (nat_lt 0 r && nat_lt 0 mark) ≡ true → nominal_in gap r mark 0 ≡ Err nominal.Overrun
over gap r mark e = ap (λ b. cond b (Err nominal.Overrun) (Ok (gap - r))) e

module _ (key : Start) (h : Held) (q : Query) (own : IsOwn key h q) (once : AreOnce q.cells) where
  abbrev g : Group
  g = h.place.group

  abbrev e : ℕ
  e = slot_end h.place

  abbrev pub gap : ℕ
  gap = e - q.addr

  abbrev pub k : Held
  k = learnt_in_turn h q.cells

  framed : (res : Result ℕ NominalFault) → query.reserved q ≡ Some res → IsFramedBy k q.addr gap res
  framed = own_reserved key h q own once

  judged : (res : Result ℕ NominalFault) (mark : ℕ) → IsFramedBy k q.addr gap res → ((r : ℕ) → res ≡ Ok r → 0 < r → IsSureByte (q.addr + gap - r) mark k)
      → IsJudged k q.addr gap (verdict_by gap mark res)
  judged res mark f first =
      let at = ends key h q own once in let whole = whole_end key h q own once in record {
        header = f.header;
        word = f.word;
        fifth = f.fifth;
        mark = mark;
        whole = omega (arith, at, whole);
        front = f.front;
        number = f.number;
        first = λ r is some_r. first r (f.told ∙ is) some_r;
        told = ap (verdict_by gap mark) f.told;
      }

  -- the reserved number's test, where the slot's end is in the space and not below the address
  tested : (b : Bool) → checks.bad_reserved q ≡ Some b → (res : Result ℕ NominalFault) × (query.reserved q ≡ Some res) × (is_err res ≡ b)
  unfolding checks.bad_reserved
  tested b is =
      let f = then_some (λ e. cond (nat_le (4096 * q.pages) e || nat_lt e q.addr) (Some true) (option_map is_err (query.reserved q))) (query.slot_end q) b is in
      let same = own_slot_end key h q own once f.0 f.1 in let after = end_after key h q own once in let below = end_inside key h q own once in
      let rest : option_map is_err (query.reserved q) ≡ Some b =
      subst (λ t. cond t (Some true) (option_map is_err (query.reserved q)) ≡ Some b) (in_test (4096 * q.pages) f.0 q.addr (omega (arith, same, below)) (omega (arith, same, after))) f.2 in
      map_some is_err (query.reserved q) b rest

  -- the twelfth check fails
  pub judged_bad : checks.bad_reserved q ≡ Some true → IsJudged k q.addr gap (Err nominal.BadReserved)
  judged_bad failed =
      let t = tested true failed in
      let f = framed t.0 t.1 in
      let bad = err_bad t.0 t.2 (f.header / 8192 % 8) (f.word % 4294967296) f.fifth gap f.told in
      subst (λ v. IsJudged k q.addr gap v) (ap (verdict_by gap 0) bad) (judged t.0 0 f (λ r is some_r. absurd (err_ok nominal.BadReserved r (sym bad ∙ is))))

  -- the first reserved byte
  sure_mark : (r mark : ℕ) → query.reserved q ≡ Some (Ok r) → query.mark q ≡ Some mark → 0 < r → IsSureByte (q.addr + gap - r) mark k
  unfolding query.mark
  sure_mark r mark res is some_r =
      let f = then_some (λ e. option_and_then (mark_with q e) (query.reserved q)) (query.end q) mark is in
      let first : byte q (f.0 - r) ≡ Some mark = where_some (r == 0) (byte q (f.0 - r)) mark (subst (λ o. option_and_then (mark_with q f.0) o ≡ Some mark) res f.2) in
      let same : f.0 ≡ q.addr + gap = own_end key h q own once f.0 f.1 ∙ sym (ends key h q own once) in
      let fr = framed (Ok r) res in
      let few = within_gap (fr.header / 8192 % 8) (fr.word % 4294967296) fr.fifth gap r (sym fr.told) in
      let at = ends key h q own once in
      let there : byte q (q.addr + gap - r) ≡ Some mark = subst (λ n. byte q (n - r) ≡ Some mark) same first in
      let low : q.addr ≤ q.addr + gap - r = omega (arith, few) in
      let high : q.addr + gap - r < e = omega (arith, at, some_r, few) in
      sure_byte key h q own once (q.addr + gap - r) mark there low high

  -- the verdict where there is a reserved number
  judged_mark : (r mark : ℕ) → query.reserved q ≡ Some (Ok r) → (0 < r → query.mark q ≡ Some mark) → IsJudged k q.addr gap (nominal_in gap r mark 0)
  judged_mark r mark res is = judged (Ok r) mark (framed (Ok r) res) (λ n same some_n.
      let r_is : r ≡ n = ok_is r n same in
      subst (λ m. IsSureByte (q.addr + gap - m) mark k) r_is (sure_mark r mark res (is (subst (λ m. 0 < m) (sym r_is) some_n)) (subst (λ m. 0 < m) (sym r_is) some_n)))

  -- the thirteenth check fails
  pub judged_over : checks.overrun q ≡ Some true → IsJudged k q.addr gap (Err nominal.Overrun)
  unfolding checks.overrun
  judged_over failed =
      let f = then_some (overrun_with q) (query.reserved q) true failed in by_reserved f.0 f.1 f.2
    where
      by_reserved : (res : Result ℕ NominalFault) → query.reserved q ≡ Some res → overrun_with q res ≡ Some true → IsJudged k q.addr gap (Err nominal.Overrun)
      by_reserved (Err fault) res is = absurd (never_both (Some false) refl is)
      by_reserved (Ok r) res is = ⊎_elim
          (λ (none : r ≡ 0). absurd (never_both (Some false) refl (subst (λ b. cond b (Some false) (option_map (nat_lt 0) (query.mark q)) ≡ Some true) (eq-eqb r 0 none) is)))
          (λ (ne : r ≢ 0).
          let m = map_some (nat_lt 0) (query.mark q) true (subst (λ b. cond b (Some false) (option_map (nat_lt 0) (query.mark q)) ≡ Some true) (ne_eqb r 0 ne) is) in
          subst (λ v. IsJudged k q.addr gap v) (over gap r m.0 (λ j. below_test 0 r (omega (arith, ne)) j && m.2 j)) (judged_mark r m.0 res (λ some_r. m.1)))
          (cases_eq r 0)

  -- neither fails
  pub judged_ok : checks.bad_reserved q ≡ Some false → checks.overrun q ≡ Some false → (r : ℕ) × (query.reserved q ≡ Some (Ok r)) × IsJudged k q.addr gap (Ok (gap - r))
  unfolding checks.overrun
  judged_ok good clean =
      let t = tested false good in
      let o = ok_of t.0 t.2 in
      let r : ℕ = o.0 in
      let res : query.reserved q ≡ Some (Ok r) = t.1 ∙ ap (λ z. Some z) o.1 in
      let is : overrun_with q (Ok r) ≡ Some false = subst (λ z. option_and_then (overrun_with q) z ≡ Some false) res clean in (
        r,
        res,
        ⊎_elim
            (λ (none : r ≡ 0).
            subst (λ v. IsJudged k q.addr gap v) (no_over gap r 0 (ap (λ b. b && nat_lt 0 0) (above_test 0 r (omega (arith, none))))) (judged_mark r 0 res (λ some_r. absurd (omega (arith, none, some_r)))))
            (λ (ne : r ≢ 0).
            let m = map_some (nat_lt 0) (query.mark q) false (subst (λ b. cond b (Some false) (option_map (nat_lt 0) (query.mark q)) ≡ Some false) (ne_eqb r 0 ne) is) in
            subst (λ v. IsJudged k q.addr gap v) (no_over gap r m.0 (λ j. below_test 0 r (omega (arith, ne)) j && m.2 j)) (judged_mark r m.0 res (λ some_r. m.1)))
            (cases_eq r 0),
      )

  -- ---- what is found
  meta_there : (f : Fields) → query.fields q ≡ Some f → query.meta q ≡ Some g.meta
  unfolding query.fields query.flags
  meta_there f is =
      let p = map_some fields_in (option_and_then (λ m. number q (m + 32)) (query.meta q)) f is in
      let t = then_some (λ m. number q (m + 32)) (query.meta q) p.0 p.1 in
      t.1 ∙ ap (λ z. Some z) (own_meta key h q own t.0 t.1)

  -- the parts of a slot that has an end
  parts : (n : ℕ) → query.slot_end q ≡ Some n → (b s j : ℕ) × (query.base q ≡ Some b) × (query.stride q ≡ Some s) × (query.index q ≡ Some j)
  unfolding query.slot_end
  parts n is =
      let f = then_some (λ b. both (end_at (b + 16)) (query.stride q) (query.index q)) (query.base q) n is in
      let p = both_some (end_at (f.0 + 16)) (query.stride q) (query.index q) n f.2 in (f.0, p.0, p.1, f.1, p.2, p.3)

  fields_there : (s : ℕ) → query.stride q ≡ Some s → (f : Fields) × (query.fields q ≡ Some f)
  unfolding query.stride
  fields_there s is =
      let f = then_some (λ f. cond (is_class f) (Some (stride_of f.class f.last f.maplen)) None) (query.fields q) s is in (f.0, f.1)

  start_there : (b s j : ℕ) → query.base q ≡ Some b → query.stride q ≡ Some s → query.index q ≡ Some j → query.start q ≡ Some (start_at (b + 16) s j)
  unfolding query.start
  start_there b s j base step index = ap (option_and_then (λ b. both (start_at (b + 16)) (query.stride q) (query.index q))) base ∙ both_is (start_at (b + 16)) (query.stride q) (query.index q) s j step index

  end_there : (r : ℕ) → query.reserved q ≡ Some (Ok r) → query.end q ≡ Some e
  unfolding query.reserved
  end_there r is =
      let f = then_some (λ f. option_and_then (query.reserved_with q f) (query.end q)) (query.field q) (Ok r) is in
      let n = then_some (query.reserved_with q f.0) (query.end q) (Ok r) f.2 in
      n.1 ∙ ap (λ z. Some z) (own_end key h q own once n.0 n.1)

  slot_end_there : query.end q ≡ Some e → (n : ℕ) × (query.slot_end q ≡ Some n)
  unfolding query.end
  slot_end_there is =
      let f = then_some (λ e. cond (nat_lt e (4096 * q.pages)) (Some e) None) (query.slot_end q) e is in (f.0, f.1)

  len_there : (r : ℕ) → query.reserved q ≡ Some (Ok r) → query.end q ≡ Some e → query.len q ≡ Some (gap - r)
  unfolding query.len
  len_there r res end = (λ j. option_and_then (λ n. option_and_then (len_with (n - q.addr)) (res j)) (end j))

  pub found_own : (r : ℕ) → query.reserved q ≡ Some (Ok r)
      → found_of q ≡ record { meta = g.meta; index = h.place.index; start = slot_start h.place; end = e; len = gap - r }
  found_own r res =
      let end = end_there r res in
      let n = slot_end_there end in
      let p = parts n.0 n.1 in
      let f = fields_there p.1 p.4 in
      let meta = meta_there f.0 f.1 in
      let index : query.index q ≡ Some h.place.index = p.5 ∙ ap (λ z. Some z) (own_index key h q own p.2 p.5) in
      let there = start_there p.0 p.1 p.2 p.3 p.4 p.5 in
      let start : query.start q ≡ Some (slot_start h.place) = there ∙ ap (λ z. Some z) (own_start key h q own once (start_at (p.0 + 16) p.1 p.2) there) in
      let len = len_there r res end in
      λ j. record { meta = or_zero (meta j); index = or_zero (index j); start = or_zero (start j); end = or_zero (end j); len = or_zero (len j) }
