-- What a request tells of a make under the mode.
use Rattle.std.proofs.Common.{◌≡◌, ℕ, ◌-◌, ◌*◌, ◌%◌, ◌^◌, ◌∷◌, [], Some, None, Result, Ok, Err, IfErr, IfOk, IfSome, arith, refl, ap, ⊎_elim}
use Rattle.std.specs.Prelude.{◌↔◌, bit_and}
use Rattle.std.proofs.lemmas.Bool.{cases_eq}
use Rattle.ng_heap.specs.Keeps.{IsFresh}
use Rattle.ng_bytes.specs.Contents.{AreZero}
use Rattle.ng_space.specs.Blocks.{BlockToken, HasFramed, OfSlot}
use Rattle.ng_space.specs.Callers.{Caller}
use Rattle.ng_space.specs.Leaving.{Entered, KeepsSlots, Leaves, LeavesAll}
use Rattle.ng_terms.specs.declared.entry.Entry.{Entry}
use Rattle.ng_terms.specs.declared.entry.Entry.TheVariants as entry
use Rattle.ng_terms.specs.declared.refusal.AllocRefusal.{AllocRefusal}
use Rattle.ng_terms.specs.declared.refusal.AllocRefusal.TheVariants as refusal
use Rattle.ng_terms.specs.declared.reply.Made.{Made}
use Rattle.ng_terms.specs.declared.reply.Made.TheVariants as made
use Rattle.ng_terms.specs.declared.reply.Mode.{Mode}
use Rattle.ng_terms.specs.Calls.{FitsMade, align_of, calls_of_make, reply_of, standing}
use Rattle.ng_terms.specs.Heap.{IsAlignment, IsTooLarge}
use Rattle.ng_replay.specs.Serving.{Makes, at_of, block_of, made_of, made_of_aligned}
use Rattle.ng_heap.specs.Making.{IsMade, calloc_entry, request_entry}
use Rattle.ng_resize.specs.Aligning.{aligned_entry}
use Rattle.ng_resize.specs.declared.refusal.AlignRefusal.{AlignRefusal}
use Rattle.ng_resize.specs.declared.refusal.AlignRefusal.TheVariants as align_refusal

common : IsAlignment 16
common = refl

-- a block that was given, and a request that was refused
Makes-given : (mode : Mode) (size : ℕ) (before after : Caller) (block : BlockToken) → FitsMade mode size (made.Given block.at)
    → Entered before after (entry.Give size (align_of mode) block.at) → HasFramed after block → IsFresh before block.slot
    → Leaves block.slot before.view after.view → KeepsSlots before.view after.view → Makes mode size before (made.Given block.at) (Some block) after
Makes-given mode size before after block fits entered framed fresh leaves slots = record {
  fits = fits;
  entries = entered.entries;
  stands = refl;
  framed = framed;
  fresh = fresh;
  slots = slots;
  frames = record { number = entered.number; each = leaves.each };
  rest = leaves.rest;
  spare = entered.spare;
}

Makes-refused : (mode : Mode) (size : ℕ) (before after : Caller) (why : Made) (call : Entry) → FitsMade mode size why
    → calls_of_make mode size why ≡ call ∷ [] → at_of None ≡ standing (reply_of why)
    → Entered before after call → LeavesAll before.view after.view → KeepsSlots before.view after.view → Makes mode size before why None after
Makes-refused mode size before after why call fits calls stands entered leaves slots = record {
  fits = fits;
  entries = rw calls entered.entries;
  stands = stands;
  framed = tt;
  fresh = tt;
  slots = slots;
  frames = record { number = entered.number; each = leaves.each };
  rest = leaves.rest;
  spare = entered.spare;
}

-- a request with the common align, where the mode has none of its own
pub Makes-requested : (mode : Mode) (size n : ℕ) (before after : Caller) (given : Result BlockToken AllocRefusal) → align_of mode ≡ 16
    → ((given ≡ Err refusal.TooLarge) ↔ IsTooLarge 1 size 16) → Entered before after (request_entry size 16 given)
    → IfOk given (λ (block : BlockToken). IsMade n 16 before block after)
    → IfOk given (λ (block : BlockToken). Leaves block.slot before.view after.view) → IfErr given (λ (why : AllocRefusal). LeavesAll before.view after.view)
    → KeepsSlots before.view after.view → Makes mode size before (made_of given) (block_of given) after
Makes-requested mode size n before after (Ok block) same large entered given_so leaves kept slots =
    Makes-given mode size before after block
    (rw same (common, λ too. absurd (let clash : Ok block ≡ Err refusal.TooLarge = large.1 too in cc))) (rw same entered) given_so.framed given_so.fresh leaves slots
Makes-requested mode size n before after (Err (refusal.NoMemory excuse)) same large entered given_so leaves kept slots =
    Makes-refused mode size before after (made.NoMemory excuse) (entry.NoMemory size excuse)
    (rw same (common, λ too. absurd (let clash : Err (refusal.NoMemory excuse) ≡ Err refusal.TooLarge = large.1 too in cc))) refl refl entered kept slots
Makes-requested mode size n before after (Err refusal.TooLarge) same large entered given_so leaves kept slots =
    Makes-refused mode size before after made.TooLarge (entry.TooLarge 1 size 16) (rw same (common, large.0 refl)) (rw same refl) refl entered kept slots

-- a request of one zeroed block
pub one-zeroed : (size : ℕ) (given : Result BlockToken AllocRefusal) → calloc_entry 1 size given ≡ request_entry size 16 given
one-zeroed size (Ok block) = let one : 1 * size ≡ size = omega arith in ap (λ (n : ℕ). entry.Give n 16 block.at) one
one-zeroed size (Err (refusal.NoMemory excuse)) = let one : 1 * size ≡ size = omega arith in ap (λ (n : ℕ). entry.NoMemory n excuse) one
one-zeroed size (Err refusal.TooLarge) = refl

-- a request that asks for the mode's align, whatever it is
is_alignment : (align : ℕ) (given : Result BlockToken AlignRefusal) → ((given ≡ Err align_refusal.BadAlign) ↔ (¬ IsAlignment align))
    → ¬ (given ≡ Err align_refusal.BadAlign) → IsAlignment align
is_alignment align given bad good =
    ⊎_elim (λ (is : IsAlignment align). is) (λ (fails : ¬ IsAlignment align). absurd (good (bad.1 fails))) (cases_eq (bit_and align ((2 ^ 64 - align) % 2 ^ 64)) align)

pub Makes-aligned : (mode : Mode) (size align : ℕ) (before after : Caller) (given : Result BlockToken AlignRefusal) → align_of mode ≡ align
    → ((given ≡ Err align_refusal.BadAlign) ↔ (¬ IsAlignment align))
    → ((given ≡ Err align_refusal.TooLarge) ↔ (IsAlignment align × IsTooLarge 1 size align))
    → Entered before after (aligned_entry align size given)
    → IfOk given (λ (block : BlockToken). IsMade size align before block after)
    → IfOk given (λ (block : BlockToken). Leaves block.slot before.view after.view) → IfErr given (λ (why : AlignRefusal). LeavesAll before.view after.view)
    → KeepsSlots before.view after.view → Makes mode size before (made_of_aligned given) (block_of given) after
Makes-aligned mode size align before after (Ok block) same bad large entered given_so leaves kept slots =
    let good : IsAlignment align = is_alignment align (Ok block) bad (λ (clash : Ok block ≡ Err align_refusal.BadAlign). absurd (cc)) in
    Makes-given mode size before after block
    (rw same (good, λ too. absurd (let clash : Ok block ≡ Err align_refusal.TooLarge = large.1 (good, too) in cc))) (rw same entered) given_so.framed given_so.fresh leaves slots
Makes-aligned mode size align before after (Err (align_refusal.NoMemory excuse)) same bad large entered given_so leaves kept slots =
    let good : IsAlignment align = is_alignment align (Err (align_refusal.NoMemory excuse)) bad (λ (clash : Err (align_refusal.NoMemory excuse) ≡ Err align_refusal.BadAlign). absurd (cc)) in
    Makes-refused mode size before after (made.NoMemory excuse) (entry.NoMemory size excuse)
    (rw same (good, λ too. absurd (let clash : Err (align_refusal.NoMemory excuse) ≡ Err align_refusal.TooLarge = large.1 (good, too) in cc))) refl refl entered kept slots
Makes-aligned mode size align before after (Err align_refusal.TooLarge) same bad large entered given_so leaves kept slots =
    Makes-refused mode size before after made.TooLarge (entry.TooLarge 1 size align) (rw same (large.0 refl)) (rw same refl) refl entered kept slots
Makes-aligned mode size align before after (Err align_refusal.BadAlign) same bad large entered given_so leaves kept slots =
    Makes-refused mode size before after made.BadAlign (entry.BadAlign align) (rw same (bad.0 refl)) (rw same refl) refl entered kept slots

-- and its bytes
pub zeroed-given : (after : Caller) (given : Result BlockToken AllocRefusal) → IfOk given (λ (block : BlockToken). OfSlot after block.slot (AreZero block.at block.len))
    → IfSome (block_of given) (λ (block : BlockToken). OfSlot after block.slot (AreZero block.at block.len))
zeroed-given after (Ok block) zero = zero
zeroed-given after (Err why) zero = tt
