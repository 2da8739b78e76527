-- What a check answers for a block of the hand.
use Rattle.std.proofs.Common.{◌≡◌, ◌⊎◌, ⊎_elim, ℕ, ◌+◌, ◌-◌, ◌%◌, ◌<◌, ◌≤◌, Bool, true, false, cond, [], ◌∷◌, sym, ap, ◌∙◌, subst, inl, inr}
use Rattle.std.specs.Prelude.{Option, Some, None, Result, Ok, Err}
use Rattle.ng_header.specs.declared.reading.NominalFault.{NominalFault}
use Rattle.ng_header.specs.declared.reading.NominalFault.TheVariants as nominal
use Rattle.ng_rule.proofs.geometry.Lists.{find_among, is_at-true}
use Rattle.ng_view.specs.Blocks.{IsBlock, IsHeader, IsSet}
use Rattle.ng_view.specs.Layouts.{InRange}
use Rattle.ng_view.specs.Lists.{Among, find, is_at}
use Rattle.ng_view.specs.Places.{room, slot_end, slot_start, stride}
use Rattle.ng_view.specs.declared.view.Held.{Held}
use Rattle.ng_view.specs.declared.view.Start.{Start}
use Rattle.ng_view.specs.declared.view.View.{View}
use Rattle.ng_terms.specs.Heap.{extent}
use Rattle.ng_space.specs.Blocks.{BlockToken, HasBlock, OfSlot}
use Rattle.ng_space.specs.Callers.{Caller}
use Rattle.ng_frame.specs.Inspects.{gap_of}
use Rattle.ng_frame.specs.Judging.{IsJudged}
use Rattle.ng_check.specs.Answers.{Judges, JudgesOwn, found_in, found_of}
use Rattle.ng_check.specs.Checks as checks
use Rattle.ng_check.specs.Checks.{check, first_of}
use Rattle.ng_check.specs.Queries.{Query, cell}
use Rattle.ng_check.specs.Readings.{Goes, HasCell, Reads}
use Rattle.ng_check.specs.declared.fault.BadPointer.{BadPointer}
use Rattle.ng_check.specs.declared.fault.Found.{Found}
use Rattle.ng_check.specs.declared.fault.PointerFault.{PointerFault}
use Rattle.ng_check.specs.declared.fault.PointerFault.TheVariants.{Misaligned, Outside, BadWide, NotGroup, BadIndex, Available, Freed, BadSecret, BadOffset, BadClass, BadMaplen, BadReserved, Overrun, EndByte}
use Rattle.ng_check.proofs.Answering as answering
use Rattle.ng_check.proofs.Answering.{asked}
use Rattle.ng_check.proofs.Failing.{Tests, from_10, from_11, from_12, from_13, from_14, from_2, from_3, from_4, from_5, from_6, from_7, from_8, from_9, none_left}
use Rattle.ng_check.proofs.Loaded.{cell_loaded, found_after, learnt_in_turn}
use Rattle.ng_check.proofs.Options.{some_is, then_some}
use Rattle.ng_check.proofs.OwnCells.{IsOwn, IsTold}
use Rattle.ng_check.proofs.OwnEnds.{never_end_byte}
use Rattle.ng_check.proofs.OwnTests.{Never, never_available, never_class, never_freed, never_group, never_index, never_maplen, never_misaligned, never_offset, never_outside, never_secret, never_wide}
use Rattle.ng_check.proofs.OwnVerdicts.{found_own, judged_bad, judged_ok, judged_over}

-- ---- the first check that fails
-- it is the first of these, or that passed
either : (f : PointerFault) (t : Query → Option Bool) (ts : Tests) (q : Query) (r : Option PointerFault) → first_of ((f, t) ∷ ts) q ≡ Some r
    → ((t q ≡ Some true) × (r ≡ Some f)) ⊎ ((t q ≡ Some false) × (first_of ts q ≡ Some r))
unfolding first_of
either f t ts q r e = let s = then_some (λ fails. cond fails (Some (Some f)) (first_of ts q)) (t q) r e in by_test s.0 s.1 s.2
  where
    by_test : (b : Bool) → t q ≡ Some b → cond b (Some (Some f)) (first_of ts q) ≡ Some r → ((t q ≡ Some true) × (r ≡ Some f)) ⊎ ((t q ≡ Some false) × (first_of ts q ≡ Some r))
    by_test true is rest = inl (is, sym (some_is (Some f) r rest))
    by_test false is rest = inr (is, rest)

never : (f : PointerFault) (t : Query → Option Bool) (ts : Tests) (q : Query) (r : Option PointerFault) → Never (t q) → first_of ((f, t) ∷ ts) q ≡ Some r → first_of ts q ≡ Some r
never f t ts q r no_fault e = ⊎_elim (λ failed. absurd (no_fault failed.0)) (λ rest. rest.1) (either f t ts q r e)

no_fault_is : (f : PointerFault) → ◌≡◌ {A = Option PointerFault} None (Some f) → ⊥
no_fault_is f e = absurd (cc)

-- how the last three checks answer
abbrev pub Ends : Query → Option PointerFault → Type 0
Ends q r = ((checks.bad_reserved q ≡ Some true) × (r ≡ Some BadReserved)) ⊎ ((checks.overrun q ≡ Some true) × (r ≡ Some Overrun))
    ⊎ ((checks.bad_reserved q ≡ Some false) × (checks.overrun q ≡ Some false) × (r ≡ None))

ends_by : (q : Query) (r : Option PointerFault) → Never (checks.end_byte q) → first_of from_12 q ≡ Some r → Ends q r
ends_by q r no_byte e = ⊎_elim
    (λ bad. inl bad)
    (λ good. ⊎_elim
    (λ over. inr (inl over))
    (λ clean. inr (inr (good.0, clean.0, sym (some_is None r (sym (none_left q) ∙ never EndByte checks.end_byte [] q r no_byte clean.1)))))
    (either Overrun checks.overrun from_14 q r good.1))
    (either BadReserved checks.bad_reserved from_13 q r e)

-- ---- a block of the hand
module _ (key : Start) (before after : Caller) (q : Query) (block : BlockToken) (has : HasBlock before block) (reads : Reads key before q after) (range : InRange key) (pages : q.pages ≡ key.pages) (secret : q.secret ≡ key.secret) (at : q.addr ≡ block.at) (some : HasCell q) where
  abbrev m : ℕ
  m = block.slot.meta

  abbrev i : ℕ
  i = block.slot.index

  abbrev h : Held
  h = has.held

  there : Among h before.view.held × (is_at m i h.place ≡ true)
  there = find_among m i before.view.held h has.found

  cells : (a x : ℕ) → cell q a ≡ Some x → IsTold key h q a x
  cells a x e =
      let c = cell_loaded q.cells a x e in
      let t = reads.told a c.0 c.1 in
      record { word = c.0; there = c.1; low = c.2; tells = t.0.slots h there.0; small = t.2 h there.0 }

  own : IsOwn key h q
  own =
      let c = cell_loaded q.cells some.at some.value some.is in
      let placed = (reads.told some.at c.0 c.1).1 in
      let t = (cells some.at some.value some.is).tells in
      let b : IsBlock h (extent block.at block.len block.align) = subst (IsSet h) has.live t.block in record {
        cells = cells;
        range = range;
        pages = pages;
        secret = secret;
        lies = placed h there.0;
        above = t.above;
        runs = t.lies;
        whole = subst (λ n. n % 16 ≡ 0) (sym at) b.whole;
        from = subst (λ n. slot_start h.place ≤ n) (sym at) b.from;
        first = subst (λ n. n + 4 < slot_start h.place + stride h.place.group) (sym at) b.first;
        roomy = subst (λ n. n < slot_start h.place + room h.place.group) (sym at) b.roomy;
        header = subst (IsHeader h) (sym at) b.header;
      }

  -- the verdict is on what the hand has then
  judged_then : (verdict : Result ℕ NominalFault) → IsJudged (learnt_in_turn h q.cells) q.addr (slot_end h.place - q.addr) verdict
      → OfSlot after block.slot (λ k. IsJudged k block.at (gap_of block) verdict)
  judged_then verdict j k found =
      let same : learnt_in_turn h q.cells ≡ k = some_is (learnt_in_turn h q.cells) k
      (sym (found_after before.view q.cells m i h has.found) ∙ ap (λ (v : View). find m i v.held) (sym reads.view) ∙ found) in
      let end = has.place.end in
      subst (λ k. IsJudged k block.at (gap_of block) verdict) same
      (subst (λ (p : ℕ × ℕ). IsJudged (learnt_in_turn h q.cells) p.0 p.1 verdict) (λ j. (at j, sym end j - at j)) j)

  -- no check up to the eleventh fails
  ends : (r : Option PointerFault) → check q ≡ Some r → Ends q r
  ends r e = ends_by q r (never_end_byte key h q own reads.once)
      (never BadMaplen checks.bad_maplen from_12 q r (never_maplen key h q own)
      (never BadClass checks.bad_class from_11 q r (never_class key h q own)
      (never BadOffset checks.bad_offset from_10 q r (never_offset key h q own)
      (never BadSecret checks.bad_secret from_9 q r (never_secret key h q own)
      (never Freed checks.is_freed from_8 q r (never_freed key h q own)
      (never Available checks.available from_7 q r (never_available key h q own)
      (never BadIndex checks.bad_index from_6 q r (never_index key h q own)
      (never NotGroup checks.not_group from_5 q r (never_group key h q own)
      (never BadWide checks.bad_wide from_4 q r (never_wide key h q own)
      (never Outside checks.outside from_3 q r (never_outside key h q own)
      (never Misaligned checks.misaligned from_2 q r (never_misaligned key h q own) e)))))))))))

  pub judges_ok : (found : Found) → check q ≡ Some None → found ≡ found_of q → Judges block (Ok found) after
  judges_ok found e is = ⊎_elim
      (λ bad. absurd (no_fault_is BadReserved bad.1))
      (λ rest. ⊎_elim
      (λ over. absurd (no_fault_is Overrun over.1))
      (λ clean.
      let j = judged_ok key h q own reads.once clean.0 clean.1 in
      let slot = is_at-true m i h.place there.1 in
      let len : ℕ = (slot_end h.place - q.addr) - j.0 in
      let same : found_of q ≡ found_in block len = found_own key h q own reads.once j.0 j.1
      ∙ (λ k. record { meta = slot.0 k; index = slot.1 k; start = sym has.place.start k; end = sym has.place.end k; len = len }) in
      record { verdict = Ok len; judged = judged_then (Ok len) j.2; follows = ap (λ f. Ok f) (is ∙ same) })
      rest)
      (ends None e)

  pub judges_err : (bad : BadPointer) → check q ≡ Some (Some bad.fault) → Judges block (Err bad) after
  judges_err bad e = ⊎_elim
      (λ f. record {
        verdict = Err nominal.BadReserved;
        judged = judged_then (Err nominal.BadReserved) (judged_bad key h q own reads.once f.0);
        follows = (bad.seen, ap (λ n. Err (record bad { fault = n })) (some_is bad.fault BadReserved f.1));
      })
      (λ rest. ⊎_elim
      (λ f. record {
        verdict = Err nominal.Overrun;
        judged = judged_then (Err nominal.Overrun) (judged_over key h q own reads.once f.0);
        follows = (bad.seen, ap (λ n. Err (record bad { fault = n })) (some_is bad.fault Overrun f.1));
      })
      (λ clean. absurd (no_fault_is bad.fault (sym clean.2)))
      rest)
      (ends (Some bad.fault) e)

-- ---- the call
module _ (key : Start) (secret addr n : ℕ) (first last : Query) (hand after : Caller) (is : first ≡ asked key.pages secret addr []) (goes : Goes key n first hand last after) (range : InRange key) (some : HasCell last) where
  same : last ≡ asked key.pages secret addr last.cells
  same = answering.is_asked key key.pages secret addr n first last hand after is goes

  read : Reads key hand last after
  read = answering.reads key key.pages secret addr n first last hand after is goes

  pub own_ok : (found : Found) → check last ≡ Some None → found ≡ found_of last → JudgesOwn key.secret secret addr hand (Ok found) after
  own_ok found e f block has at heap =
      judges_ok key hand after last block has read range (ap (λ (q : Query). q.pages) same) (ap (λ (q : Query). q.secret) same ∙ heap) (ap (λ (q : Query). q.addr) same ∙ sym at) some found e f

  pub own_err : (bad : BadPointer) → check last ≡ Some (Some bad.fault) → JudgesOwn key.secret secret addr hand (Err bad) after
  own_err bad e block has at heap =
      judges_err key hand after last block has read range (ap (λ (q : Query). q.pages) same) (ap (λ (q : Query). q.secret) same ∙ heap) (ap (λ (q : Query). q.addr) same ∙ sym at) some bad e
