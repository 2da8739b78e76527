-- What the free of an address leads to.
use Rattle.std.proofs.Common.{◌≡◌, ◌≢◌, ◌⊎◌, ℕ, ◌+◌, ◌-◌, ◌*◌, ◌/◌, ◌%◌, ◌<◌, ◌≤◌, Bool, true, false, List, [], ◌∷◌, ◌++◌, length, get_or, refl, sym, ap, ◌∙◌, subst, inl, inr, ⊎_elim, arith}
use Rattle.std.specs.Prelude.{Option, Some, None, Result, Ok, Err, swap_remove}
use Rattle.ng_check.specs.Answers as check
use Rattle.ng_check.specs.declared.fault.BadPointer.{BadPointer}
use Rattle.ng_check.specs.declared.fault.Found.{Found}
use Rattle.ng_check.specs.declared.fault.PointerFault.{PointerFault}
use Rattle.ng_check.specs.declared.fault.PointerFault.TheVariants as pointer
use Rattle.ng_frame.specs.Inspects.{gap_of}
use Rattle.ng_header.specs.declared.reading.NominalFault.{NominalFault}
use Rattle.ng_header.specs.declared.reading.NominalFault.TheVariants as nominal
use Rattle.ng_heap.specs.At as heap
use Rattle.ng_heap.specs.At.{HasNoneAt, IsPlaceAt, ProbesFirst}
use Rattle.ng_script.specs.declared.command.Command.TheVariants as command
use Rattle.ng_script.specs.declared.command.Place.TheVariants as place
use Rattle.ng_space.specs.Blocks.{BlockToken, HasBlock}
use Rattle.ng_space.specs.Callers.{Caller}
use Rattle.ng_space.specs.Leaving.{Learns, LeavesAll, Stays}
use Rattle.ng_space.proofs.Leaving.{learns_itself}
use Rattle.ng_view.specs.Lists.{find}
use Rattle.ng_view.specs.declared.view.Held.{Held}
use Rattle.ng_view.specs.declared.view.Start.{Start}
use Rattle.ng_view.specs.declared.view.View.{View}
use Rattle.ng_heap.specs.declared.freeing_at.AtRefusal.{AtRefusal}
use Rattle.ng_heap.specs.declared.freeing_at.AtRefusal.TheVariants as refusal
use Rattle.ng_drill.specs.Desks.{AreStanding, IsAt, IsIndexed, Stands, Steps, fault_of}
use Rattle.ng_drill.specs.States.{Standing, State, standing_at, with_bytes, with_told, without_at}
use Rattle.ng_drill.specs.Steps.{FreesAt, FreesBy, Judges, RefusesAt}
use Rattle.ng_drill.specs.declared.answer.Answer.TheVariants as answer
use Rattle.ng_drill.specs.declared.answer.AtFault.{AtFault}
use Rattle.ng_drill.specs.declared.answer.AtFault.TheVariants.{Bad, NotHeld}
use Rattle.ng_drill.specs.declared.answer.Freed.{Freed}
use Rattle.ng_drill.specs.declared.answer.Freed.TheVariants as freed
use Rattle.ng_drill.specs.declared.desk.Desk.{Desk}
use Rattle.ng_drill.proofs.CheckLemmas.{refuses_bad, refuses_not_held}
use Rattle.ng_drill.proofs.HandLemmas.{judged_standing, stands_still}
use Rattle.ng_drill.proofs.StateLemmas.{standing_less, standing_still, standing_told}
use Rattle.ng_drill.proofs.StepLemmas.{distinct, stays_beside}

-- a probe that passed judged the block to have a length
pub follows_ok : (block : BlockToken) (found : Found) (verdict : Result ℕ NominalFault) → check.Follows block verdict (Ok found) → (len : ℕ) × (verdict ≡ Ok len)
follows_ok block found (Ok len) follows = (len, refl)
follows_ok block found (Err nominal.BadReserved) follows = absurd (let e = follows.1 in cc)
follows_ok block found (Err nominal.Overrun) follows = absurd (let e = follows.1 in cc)
follows_ok block found (Err nominal.EndByte) follows = absurd follows

-- and one that failed judged it so
pub follows_err : (block : BlockToken) (bad : BadPointer) (verdict : Result ℕ NominalFault) (state : State) (at : ℕ) (bytes : List (ℕ × ℕ)) → check.Follows block verdict (Err bad)
    → FreesBy state at bytes verdict (freed.Refused (Bad bad.fault)) (record state { blocks = with_bytes at bytes state.blocks })
follows_err block bad (Ok len) state at bytes follows = absurd (cc)
follows_err block bad (Err nominal.BadReserved) state at bytes follows =
    let same : bad ≡ record { fault = pointer.BadReserved; seen = follows.0 } = let e = follows.1 in cc in (ap (λ (b : BadPointer). freed.Refused (Bad b.fault)) same, refl)
follows_err block bad (Err nominal.Overrun) state at bytes follows =
    let same : bad ≡ record { fault = pointer.Overrun; seen = follows.0 } = let e = follows.1 in cc in (ap (λ (b : BadPointer). freed.Refused (Bad b.fault)) same, refl)
follows_err block bad (Err nominal.EndByte) state at bytes follows = absurd follows

-- the same slots stay as they are
pub stays_same : (v w : View) (m i : ℕ) → w.held ≡ v.held → Stays m i v w Learns
stays_same v w m i same h found = (h, ap (find m i) same ∙ found, learns_itself h)

-- ---- a block is freed
pub free_done : {N : Type 0} (start : Start) (frees : Caller → BlockToken → Type 0) (before after : Caller) (at : ℕ) (desk left : Desk N) (kept : List BlockToken) → IsIndexed desk.held.items desk.places.items
    → heap.FreesAt start frees before at desk.held.items kept after.view → left.held.items ≡ kept → after.number ≡ before.number → left.names.items ≡ desk.names.items
    → Steps start.pages (command.Free (place.At at)) (answer.Free freed.Done) before desk after left
free_done {N} start frees before after at desk left kept index f held number names state s =
    let k : ℕ = f.takes.place in
    let block : BlockToken = f.block in
    let b : BlockToken = get_or desk.held.items k block in
    let same : b ≡ block = f.takes.there in
    let b_at : b.at ≡ at = ap (λ (t : BlockToken). t.at) same ∙ f.takes.at in
    let st = s.blocks.each k block f.takes.within in
    let own = f.probes.own b st.stands.has b_at in
    let len = follows_ok b f.found own.verdict own.follows in
    let j = judged_standing before f.probed b st.standing own.verdict st.stands f.probes.book.number (f.probes.leaves.all.slots b.slot.meta b.slot.index) own.judged in
    let next : State = record state { blocks = without_at b.at state.blocks } in
    let by : FreesBy state b.at j.0 own.verdict freed.Done next = subst (λ v. FreesBy state b.at j.0 v freed.Done next) (sym len.1) (refl, refl) in
    let step : FreesAt start.pages state b.at (standing_at b.at state.blocks) freed.Done next =
    subst (λ o. FreesAt start.pages state b.at o freed.Done next) (sym st.found) (j.0, own.verdict, j.1, by) in (
      next,
      subst (λ a. FreesAt start.pages state a (standing_at a state.blocks) freed.Done next) b_at step,
      record {
        names = s.names ∙ sym names;
        blocks = subst (λ (xs : List BlockToken). AreStanding after xs (without_at b.at state.blocks)) (sym (held ∙ f.takes.others))
            (standing_less before after desk.held.items state.blocks k block number f.takes.within
            (stays_beside before after b.slot (subst (λ (t : BlockToken). Rattle.ng_space.specs.Leaving.KeepsOthers t.slot before.view after.view) (sym same) f.leaves.others))
            (distinct desk.held.items desk.places.items k block index f.takes.within) s.blocks);
      },
    )

-- ---- an address is refused
-- a block that stands there is refused for its own bytes, and they are told
pub free_bad : {N : Type 0} (start : Start) (before after : Caller) (at k : ℕ) (d : BlockToken) (bad : BadPointer) (desk left : Desk N) → IsIndexed desk.held.items desk.places.items
    → IsPlaceAt desk.held.items at (Some k) → heap.RefusesBad start before at bad after.view → after.number ≡ before.number → LeavesAll before.view after.view
    → left.names.items ≡ desk.names.items → left.held.items ≡ desk.held.items
    → Steps start.pages (command.Free (place.At at)) (answer.Free (freed.Refused (Bad bad.fault))) before desk after left
free_bad {N} start before after at k d bad desk left index here r number leaves names held state s =
    let b : BlockToken = get_or desk.held.items k d in
    let b_at : b.at ≡ at = here.1 d in
    let st = s.blocks.each k d here.0 in
    let own = r.probes.own b st.stands.has b_at in
    let j = judged_standing before r.probed b st.standing own.verdict st.stands r.probes.book.number (r.probes.leaves.all.slots b.slot.meta b.slot.index) own.judged in
    let next : State = record state { blocks = with_bytes b.at j.0 state.blocks } in
    let by = follows_err b bad own.verdict state b.at j.0 own.follows in
    let answered : Freed = freed.Refused (Bad bad.fault) in
    let step : FreesAt start.pages state b.at (standing_at b.at state.blocks) answered next =
    subst (λ o. FreesAt start.pages state b.at o answered next) (sym st.found) (j.0, own.verdict, j.1, by) in
    let view_held : after.view.held ≡ r.probed.view.held = ap (λ (v : View). v.held) r.enters.view in
    let stands : Stands after b (with_told j.0 st.standing) = stands_still r.probed after b (with_told j.0 st.standing) (number ∙ sym r.probes.book.number)
    (stays_same r.probed.view after.view b.slot.meta b.slot.index view_held) j.2 in (
      next,
      subst (λ a. FreesAt start.pages state a (standing_at a state.blocks) answered next) b_at step,
      record {
        names = s.names ∙ sym names;
        blocks = subst (λ (xs : List BlockToken). AreStanding after xs (with_bytes b.at j.0 state.blocks)) (sym held)
            (standing_told before after desk.held.items state.blocks k d j.0 st.standing number here.0 (λ m i apart. leaves.all.slots m i) (distinct desk.held.items desk.places.items k d index here.0) st.found stands s.blocks);
      },
    )

-- no block stands there, and the state stays
pub free_refused : {N : Type 0} (pages : ℕ) (before after : Caller) (at : ℕ) (answered : Freed) (desk left : Desk N) → HasNoneAt desk.held.items at → RefusesAt pages at answered
    → after.number ≡ before.number → LeavesAll before.view after.view → left.names.items ≡ desk.names.items → left.held.items ≡ desk.held.items
    → Steps pages (command.Free (place.At at)) (answer.Free answered) before desk after left
free_refused {N} pages before after at answered desk left none refuses number leaves names held state s = (
  state,
  subst (λ o. FreesAt pages state at o answered state) (sym (s.blocks.none at none)) (refuses, refl),
  record {
    names = s.names ∙ sym names;
    blocks = subst (λ (xs : List BlockToken). AreStanding after xs state.blocks) (sym held) (standing_still before after desk.held.items state.blocks number leaves.all.slots s.blocks);
  },
)

-- a failed check, whether a block stands there or not
pub free_bad_any : {N : Type 0} (start : Start) (before after : Caller) (at : ℕ) (o : Option ℕ) (bad : BadPointer) (desk left : Desk N) → IsIndexed desk.held.items desk.places.items
    → IsPlaceAt desk.held.items at o → heap.RefusesBad start before at bad after.view → after.number ≡ before.number → LeavesAll before.view after.view
    → left.names.items ≡ desk.names.items → left.held.items ≡ desk.held.items
    → Steps start.pages (command.Free (place.At at)) (answer.Free (freed.Refused (Bad bad.fault))) before desk after left
free_bad_any {N} start before after at (Some k) bad desk left index here r number leaves names held =
    free_bad start before after at k (record { slot = record { meta = 0; index = 0; storage = 0; start = 0; end = 0; room = 0; hand = 0 }; at = 0; len = 0; align = 0 }) bad desk left index here r number leaves names held
free_bad_any {N} start before after at None bad desk left index none r number leaves names held =
    free_refused start.pages before after at (freed.Refused (Bad bad.fault)) desk left none
    (refuses_bad (record { pages = start.pages; secret = start.secret; addr = at; cells = r.probes.checks.cells }) bad.fault r.probes.checks.answer.0) number leaves names held

pub free_not_held : {N : Type 0} (start : Start) (before after : Caller) (at : ℕ) (desk left : Desk N)
    → heap.RefusesNotHeld start before at desk.held.items after.view → after.number ≡ before.number → LeavesAll before.view after.view
    → left.names.items ≡ desk.names.items → left.held.items ≡ desk.held.items
    → Steps start.pages (command.Free (place.At at)) (answer.Free (freed.Refused NotHeld)) before desk after left
free_not_held {N} start before after at desk left r number leaves names held =
    free_refused start.pages before after at (freed.Refused NotHeld) desk left r.none
    (refuses_not_held (record { pages = start.pages; secret = start.secret; addr = at; cells = r.probes.checks.cells }) r.probes.checks.answer.0) number leaves names held

-- a refusal
pub free_err : {N : Type 0} (start : Start) (frees : Caller → BlockToken → Type 0) (before after : Caller) (at : ℕ) (o : Option ℕ) (why : AtRefusal) (desk left : Desk N) (kept : List BlockToken)
    → IsIndexed desk.held.items desk.places.items → IsPlaceAt desk.held.items at o → heap.HasAtCause {A = Unit {0}} start frees before at desk.held.items (Err why) kept after.view
    → after.number ≡ before.number → LeavesAll before.view after.view → left.names.items ≡ desk.names.items → left.held.items ≡ desk.held.items
    → Steps start.pages (command.Free (place.At at)) (answer.Free (freed.Refused (fault_of why))) before desk after left
free_err {N} start frees before after at o (refusal.Bad bad) desk left kept index here cause number leaves names held =
    free_bad_any start before after at o bad desk left index here cause number leaves names held
free_err {N} start frees before after at o refusal.NotHeld desk left kept index here cause number leaves names held =
    free_not_held start before after at desk left cause number leaves names held

-- a block that was freed was one of those that are held
pub not_none : {start : Start} {frees : Caller → BlockToken → Type 0} {before : Caller} (at : ℕ) (held kept : List BlockToken) {after : View} → heap.FreesAt start frees before at held kept after → HasNoneAt held at → ⊥
not_none at held kept f none = none f.takes.place f.block f.takes.within (ap (λ (b : BlockToken). b.at) f.takes.there ∙ f.takes.at)
