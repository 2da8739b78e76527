-- What a resize tells of an op.
use Rattle.std.proofs.Common.{◌≡◌, ◌+◌, ◌≤◌, ℕ, Bool, true, false, cond, eqb, List, [], ◌∷◌, ◌++◌, length, Some, None, Result, Ok, Err, IfErr, IfOk, arith, refl, ap, sym, subst, ⊎_elim, ◌∙◌}
use Rattle.std.proofs.lemmas.Bool.{cases_Bool, eqb-true}
use Rattle.std.specs.Prelude.{◌↔◌}
use Rattle.ng_group.specs.Hands.{IsApart}
use Rattle.ng_heap.specs.Keeps.{KeepsFrames}
use Rattle.ng_space.specs.Blocks.{BlockToken, HasFramed}
use Rattle.ng_space.specs.Callers.{Caller}
use Rattle.ng_space.specs.Leaving.{KeepsRest}
use Rattle.ng_terms.specs.declared.entry.Entry.{Entry}
use Rattle.ng_terms.specs.declared.entry.Entry.TheVariants as entry
use Rattle.ng_terms.specs.declared.reply.Reply.{Reply}
use Rattle.ng_terms.specs.Heap.{IsTooLarge}
use Rattle.ng_replay.specs.Serving.{IsReplyTo, Resizes, left_of}
use Rattle.ng_resize.specs.Refusals.{EnteredAll, realloc_entries, refusal_of}
use Rattle.ng_resize.specs.Resizing.{IsLeft, IsResized}
use Rattle.ng_resize.specs.declared.refusal.ResizeRefusal.{ResizeRefusal}
use Rattle.ng_resize.specs.declared.refusal.ResizeRefusal.TheVariants.{NoMemory, TooLarge, BadReserved, Overrun}

-- a resize has two entries at most
few : (here : Bool) (one more : List Entry) (spare was : ℕ) → length one ≤ 2 → length more ≤ 2 → spare + length (cond here one more) ≡ was → was ≤ spare + 2
few true one more spare was single double used = omega arith
few false one more spare was single double used = omega arith

-- a block that stays is entered at its address
same_entries : (old new size : ℕ) (rest : List Entry) → cond (eqb old new) (entry.Resize old size ∷ []) rest ≡ cond (eqb old new) (entry.Resize new size ∷ []) rest
same_entries old new size rest = ⊎_elim (λ yes. rw (eqb-true old new yes) refl) (λ no. rw no refl) (cases_Bool (eqb old new))

pub Resizes-given : (size : ℕ) (before after : Caller) (old : BlockToken) (given : Result BlockToken (BlockToken × ResizeRefusal)) (answer : Reply)
    → IsReplyTo old.at given answer → HasFramed before old
    → IfOk given (λ (new : BlockToken). IsResized size before old new after)
    → ((refusal_of given ≡ Some TooLarge) ↔ IsTooLarge 1 size 16)
    → IfErr given (λ (left : BlockToken × ResizeRefusal). IsLeft before old left.0 after)
    → EnteredAll before after (realloc_entries old size given)
    → ((other : BlockToken) → IsApart other.slot old.slot → HasFramed before other → HasFramed after other)
    → KeepsFrames before after → KeepsRest before.view after.view
    → Resizes size before old answer (Some (left_of given)) after
Resizes-given size before after old (Ok new) answer is framed resized large left entered others frames rest = rw is (record {
  fits = (refl, λ too. absurd (let clash : None ≡ Some TooLarge = large.1 too in cc));
  entries = λ mode. entered.entries ∙ ap (λ (calls : List Entry). before.entries ++ calls) (same_entries old.at new.at size (entry.Give size 16 new.at ∷ entry.Take old.at ∷ []));
  stands = refl;
  framed = resized.framed;
  others = others;
  apart = λ other apart had. resized.apart other apart had.has;
  frames = frames;
  rest = rest;
  spare = few (eqb old.at new.at) _ _ after.spare before.spare (omega arith) (omega arith) entered.spare;
})
Resizes-given size before after old (Err (block, NoMemory excuse)) answer is framed resized large left entered others frames rest = rw is (record {
  fits = (refl, λ too. absurd (let clash : Some (NoMemory excuse) ≡ Some TooLarge = large.1 too in cc));
  entries = λ mode. entered.entries;
  stands = ap (λ (b : BlockToken). Some b.at) left.same;
  framed = subst (HasFramed after) (sym left.same) (left.framed framed);
  others = others;
  apart = λ other apart had. subst (λ (b : BlockToken). IsApart other.slot b.slot) (sym left.same) apart;
  frames = frames;
  rest = rest;
  spare = omega (arith, entered.spare);
})
Resizes-given size before after old (Err (block, TooLarge)) answer is framed resized large left entered others frames rest = rw is (record {
  fits = (refl, large.0 refl);
  entries = λ mode. entered.entries;
  stands = ap (λ (b : BlockToken). Some b.at) left.same;
  framed = subst (HasFramed after) (sym left.same) (left.framed framed);
  others = others;
  apart = λ other apart had. subst (λ (b : BlockToken). IsApart other.slot b.slot) (sym left.same) apart;
  frames = frames;
  rest = rest;
  spare = omega (arith, entered.spare);
})
Resizes-given size before after old (Err (block, BadReserved)) answer is framed resized large left entered others frames rest = absurd is
Resizes-given size before after old (Err (block, Overrun)) answer is framed resized large left entered others frames rest = absurd is
