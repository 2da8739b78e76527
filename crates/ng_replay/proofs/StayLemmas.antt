-- What a resize tells of where a block stands then, and of its bytes.
use Rattle.std.proofs.Common.{◌≡◌, ◌≢◌, ◌⊎◌, ◌<◌, ℕ, min, Some, Result, Ok, Err, IfOk, ap, ⊎_elim, inl, inr}
use Rattle.std.specs.Prelude.{◌↔◌}
use Rattle.ng_space.specs.Blocks.{BlockToken, HasFramed, OfSlot}
use Rattle.ng_space.specs.Callers.{Caller}
use Rattle.ng_terms.specs.Heap.{large}
use Rattle.ng_terms.specs.declared.reply.Reply.{Reply}
use Rattle.ng_terms.specs.declared.reply.Reply.TheVariants as reply
use Rattle.ng_view.specs.declared.view.View.{View}
use Rattle.ng_resize.specs.Fitting.{StaysInPlace}
use Rattle.ng_resize.specs.Moving.{KeepsFirst}
use Rattle.ng_resize.specs.Resizing.{HasResizeCause, with_len}
use Rattle.ng_resize.specs.declared.refusal.ResizeRefusal.{ResizeRefusal}
use Rattle.ng_resize.specs.declared.refusal.ResizeRefusal.TheVariants.{NoMemory, TooLarge, BadReserved, Overrun}
use Rattle.ng_replay.specs.Serving.{IsReplyTo, KeepsBytesOf, StaysByRule, left_of}

-- a block that got another length stands where it did, or somewhere else
pub told_where : {S : Type 0} (makes : Caller → BlockToken → Caller → S → Type 0) (frees : S → Caller → View → Type 0) (before after : Caller) (old : BlockToken) (size : ℕ)
    → (given : Result BlockToken (BlockToken × ResizeRefusal)) → HasResizeCause makes frees before old size given after
    → IfOk given (λ (new : BlockToken). (new ≡ with_len size old) ⊎ (new.at ≢ old.at))
told_where makes frees before after old size (Ok new) cause = ⊎_elim (λ here. inl here.0) (λ away. inr away.0) cause
told_where makes frees before after old size (Err left) cause = tt

pub stays-told : (size : ℕ) (before : Caller) (old : BlockToken) (given : Result BlockToken (BlockToken × ResizeRefusal)) (answer : Reply) → IsReplyTo old.at given answer
    → HasFramed before old → (size < large → HasFramed before old → OfSlot before old.slot (λ h. (given ≡ Ok (with_len size old)) ↔ StaysInPlace size old h))
    → IfOk given (λ (new : BlockToken). (new ≡ with_len size old) ⊎ (new.at ≢ old.at)) → StaysByRule before answer old size
stays-told size before old (Ok new) answer is framed stays place =
    λ small h found.
    let rule : (Ok new ≡ Ok (with_len size old)) ↔ StaysInPlace size old h = stays small framed h found in
    rw is (
      λ moved. rule.0 (⊎_elim (λ (same : new ≡ with_len size old). ap Ok same) (λ (away : new.at ≢ old.at). absurd (away (cc))) place),
      λ fits. let told : Ok new ≡ Ok (with_len size old) = rule.1 fits in let same : new ≡ with_len size old = cc in ap (λ (b : BlockToken). reply.Moved old.at b.at) same,
    )
stays-told size before old (Err (block, NoMemory excuse)) answer is framed stays place =
    λ small h found.
    let rule : (Err (block, NoMemory excuse) ≡ Ok (with_len size old)) ↔ StaysInPlace size old h = stays small framed h found in
    rw is (λ moved. absurd (cc), λ fits. absurd (let told : Err (block, NoMemory excuse) ≡ Ok (with_len size old) = rule.1 fits in cc))
stays-told size before old (Err (block, TooLarge)) answer is framed stays place =
    λ small h found.
    let rule : (Err (block, TooLarge) ≡ Ok (with_len size old)) ↔ StaysInPlace size old h = stays small framed h found in
    rw is (λ moved. absurd (cc), λ fits. absurd (let told : Err (block, TooLarge) ≡ Ok (with_len size old) = rule.1 fits in cc))
stays-told size before old (Err (block, BadReserved)) answer is framed stays place = absurd is
stays-told size before old (Err (block, Overrun)) answer is framed stays place = absurd is

pub kept-told : (size : ℕ) (before after : Caller) (old : BlockToken) (given : Result BlockToken (BlockToken × ResizeRefusal)) (answer : Reply) → IsReplyTo old.at given answer
    → HasFramed before old → IfOk given (λ (new : BlockToken). HasFramed before old → KeepsFirst (min old.len size) before old after new)
    → KeepsBytesOf before answer (Some (left_of given)) after old size
kept-told size before after old (Ok new) answer is framed kept = λ at moved. kept framed
kept-told size before after old (Err (block, NoMemory excuse)) answer is framed kept = λ at moved. absurd (cc)
kept-told size before after old (Err (block, TooLarge)) answer is framed kept = λ at moved. absurd (cc)
kept-told size before after old (Err (block, BadReserved)) answer is framed kept = absurd is
kept-told size before after old (Err (block, Overrun)) answer is framed kept = absurd is
