-- What a worker has done, one op on.
use Rattle.std.proofs.Common.{◌≡◌, ◌≢◌, ℕ, zero, suc, ◌+◌, ◌<◌, ◌≤◌, false, List, [], ◌∷◌, ◌++◌, Option, Some, None, length, get_or, map, take, arith, refl, ap, sym, subst, ⊎_elim, ◌∙◌}
use Rattle.std.specs.Prelude.{Contains, find, flat_map}
use Rattle.std.specs.List.{zip}
use Rattle.std.specs.Option.{option_and_then}
use Rattle.std.proofs.lemmas.Bool.{cases_lt, eq-eqb, ne_eqb}
use Rattle.std.proofs.lemmas.List.{append-nil, get_or-take, get_or_append_left, get_or_push, length_push, length-append, length-take-le, map-append, take_more}
use Rattle.std.proofs.lemmas.List.Concat.{flat_map-append}
use Rattle.std.proofs.lemmas.List.Sums.{sum_by-append}
use Rattle.ng_heap.specs.Keeps.{KeepsFrames}
use Rattle.ng_plan.specs.Sound.{op_of_log}
use Rattle.ng_post.specs.declared.boxes.Boxes.{Boxes}
use Rattle.ng_post.specs.declared.boxes.Door.{Door}
use Rattle.ng_post.specs.Doors.{IsDoorOf}
use Rattle.ng_post.specs.Ends.{is_of}
use Rattle.ng_post.specs.Letters.{Pair}
use Rattle.ng_space.specs.Callers.{Caller}
use Rattle.ng_terms.specs.declared.plan.Op.{Op}
use Rattle.ng_terms.specs.declared.plan.Op.TheVariants.{Make}
use Rattle.ng_terms.specs.declared.plan.Origin.{Origin}
use Rattle.ng_terms.specs.declared.plan.Origin.TheVariants.{Own, Claim, Skip}
use Rattle.ng_terms.specs.declared.reply.Mode.{Mode}
use Rattle.ng_terms.specs.declared.reply.Reply.{Reply}
use Rattle.ng_terms.specs.declared.reply.Reply.TheVariants.{Absent}
use Rattle.ng_terms.specs.Calls.{FitsOp, calls_of, calls_of_log, handed_as, origin_of, standing}
use Rattle.ng_replay.specs.Serial.{row_after, row_without, staying}
use Rattle.ng_replay.specs.Works.{AreDoing, MayDo, Serves, blocks_among, claimed_by, collected_as, collected_for, posted_for, posted_of, source_by, source_in}
use Rattle.ng_replay.proofs.BookLemmas.{calls_of_log-push, zip-push}
use Rattle.ng_replay.proofs.FlatLemmas.{Contains-map, find-push_no, find-push_yes, flat_map-place}
use Rattle.ng_replay.proofs.FoundLemmas.{find-none}
use Rattle.ng_replay.proofs.PassingLemmas.{length-row_without, row_without-other}

-- ---- numbers that were claimed
claims-of : (origin : Origin) (number : ℕ) → Contains (map (λ (pair : Pair). pair.0) (collected_for origin None)) number → origin ≡ Claim number
claims-of (Own op) number (k, below, is) = absurd (omega arith)
claims-of (Claim other) number (zero, below, is) = ap Claim is
claims-of (Claim other) number (suc k, below, is) = absurd (omega arith)
claims-of Skip number (k, below, is) = absurd (omega arith)

-- what no op has claimed wasn't collected
pub unclaimed : (ops : List Op) (got : List Pair) (number : ℕ) → map (λ (pair : Pair). pair.0) got ≡ flat_map claimed_by ops
    → ((k : ℕ) → k < length ops → origin_of (op_of_log ops k) ≢ Claim number) → find (is_of number) got ≡ None
unclaimed ops got number same none = find-none (is_of number) got fails
  where
    fails : (pair : Pair) → Contains got pair → is_of number pair ≡ false
    fails pair there =
        ne_eqb pair.0 number
        (λ at.
        let named : Contains (flat_map claimed_by ops) pair.0 = subst (λ (all : List ℕ). Contains all pair.0) same (Contains-map (λ (p : Pair). p.0) got pair there) in
        let (k, below, is) = flat_map-place claimed_by ops (Make 0 0 None) pair.0 named in
        none k below (claims-of (origin_of (op_of_log ops k)) pair.0 is ∙ ap Claim at))

-- what was collected under another number stays
collected-other : (got : List Pair) (origin : Origin) (taken : Option ℕ) (number : ℕ) → origin ≢ Claim number
    → collected_as (got ++ collected_for origin taken) number ≡ collected_as got number
collected-other got (Own op) taken number other = ap (λ (g : List Pair). collected_as g number) (append-nil got)
collected-other got (Claim claimed) taken number other =
    ap (option_and_then (λ (pair : Pair). pair.1)) (find-push_no (is_of number) got (claimed, taken) (ne_eqb claimed number (λ at. other (ap Claim at))))
collected-other got Skip taken number other = ap (λ (g : List Pair). collected_as g number) (append-nil got)

collected-here : (got : List Pair) (taken : Option ℕ) (number : ℕ) → find (is_of number) got ≡ None
    → collected_as (got ++ (number, taken) ∷ []) number ≡ taken
collected-here got taken number none =
    ap (option_and_then (λ (pair : Pair). pair.1)) (find-push_yes (is_of number) got (number, taken) none (eq-eqb number number refl))

length-collected_for : (origin : Origin) (taken : Option ℕ) → length (collected_for origin taken) ≤ 1
length-collected_for (Own op) taken = omega arith
length-collected_for (Claim number) taken = omega arith
length-collected_for Skip taken = omega arith

length-posted_for : (given block : Option ℕ) → length (posted_for given block) ≤ 1
length-posted_for None block = omega arith
length-posted_for (Some number) block = omega arith

numbers-collected_for : (origin : Origin) (taken : Option ℕ) → map (λ (pair : Pair). pair.0) (collected_for origin taken) ≡ map (λ (pair : Pair). pair.0) (collected_for origin None)
numbers-collected_for (Own op) taken = refl
numbers-collected_for (Claim number) taken = refl
numbers-collected_for Skip taken = refl

-- ---- lists one op on
posted_of-push : (ops : List Op) (replies : List Reply) (reply : Reply) → length replies < length ops
    → posted_of ops (replies ++ reply ∷ []) ≡ posted_of ops replies ++ posted_for (handed_as (op_of_log ops (length replies))) (standing reply)
posted_of-push ops replies reply short =
    let posts : (Op × Reply) → List Pair = λ done. posted_for (handed_as done.0) (standing done.1) in
    ap (flat_map posts) (zip-push ops replies (Make 0 0 None) reply short)
    ∙ flat_map-append posts (zip ops replies) ((op_of_log ops (length replies), reply) ∷ [])
    ∙ ap (λ (rest : List Pair). flat_map posts (zip ops replies) ++ rest) (append-nil (posts (op_of_log ops (length replies), reply)))

claimed-more : (ops : List Op) (i : ℕ) → i < length ops → flat_map claimed_by (take (i + 1) ops) ≡ flat_map claimed_by (take i ops) ++ claimed_by (op_of_log ops i)
claimed-more ops i below =
    ap (flat_map claimed_by) (take_more ops i (Make 0 0 None) below)
    ∙ flat_map-append claimed_by (take i ops) (op_of_log ops i ∷ [])
    ∙ ap (λ (rest : List ℕ). flat_map claimed_by (take i ops) ++ rest) (append-nil (claimed_by (op_of_log ops i)))

-- ---- one op on
module _ {N : Type 0} {mode : Mode} {boxes : Boxes N} {cap : ℕ} {ops : List Op} {i log : ℕ} {was now : Caller} {before after : Door N} {row : List (Option ℕ)}
    {replies : List Reply} {reply : Reply} (may : MayDo mode cap boxes.receivers.items ops) (below : i < length ops)
    (doing : AreDoing mode boxes ops i log was before row replies) (serves : Serves mode before after was now row (op_of_log ops i) reply) where
  abbrev op : Op
  op = op_of_log ops i

  abbrev more : List Reply
  more = replies ++ reply ∷ []

  earlier : (k : ℕ) → k < i → get_or more k Absent ≡ get_or replies k Absent
  earlier k before_i = get_or_append_left replies (reply ∷ []) Absent k (omega (arith, doing.count))

  here : get_or more i Absent ≡ reply
  here = get_or_push replies reply Absent i doing.count

  unclaimed-before : (number : ℕ) → origin_of op ≡ Claim number → find (is_of number) before.got.items ≡ None
  unclaimed-before number claims = unclaimed (take i ops) before.got.items number doing.got none
    where
      none : (k : ℕ) → k < length (take i ops) → origin_of (op_of_log (take i ops) k) ≢ Claim number
      none k within also = inside (omega (arith, length-take-le i ops (omega arith)))
        where
          inside : k < i → ⊥
          inside first =
              let same : op_of_log (take i ops) k ≡ op_of_log ops k = get_or-take i ops k (Make 0 0 None) first in
              let one : k ≡ i = may.once k i number (omega arith) below (ap origin_of (sym same) ∙ also) claims in
              absurd (omega arith)

  -- the source of an op that was done stays
  source-kept : (k : ℕ) → k < i → (origin : Origin) → origin_of (op_of_log ops k) ≡ origin
      → source_by more after.got.items origin ≡ source_by replies before.got.items origin
  source-kept k first (Own maker) is =
      let made : maker < k = may.own.earlier k maker (omega arith) is in
      ap standing (earlier maker (omega arith))
  source-kept k first (Claim number) is =
      ap (λ (got : List Pair). collected_as got number) serves.got
      ∙ collected-other before.got.items (origin_of op) serves.taken number
      (λ also. absurd (let one : k ≡ i = may.once k i number (omega arith) below is also in omega arith))
  source-kept k first Skip is = refl

  -- and that of the op is what it took
  source-here : (origin : Origin) → origin_of op ≡ origin → source_by more after.got.items origin ≡ source_in row serves.taken origin
  source-here (Own maker) is =
      let made : maker < i = may.own.earlier i maker below is in
      ap standing (earlier maker made) ∙ sym (doing.ready i maker (omega arith) below is made)
  source-here (Claim number) is =
      ap (λ (got : List Pair). collected_as got number) (serves.got ∙ ap (λ (o : Origin). before.got.items ++ collected_for o serves.taken) is)
      ∙ collected-here before.got.items serves.taken number (unclaimed-before number is)
  source-here Skip is = refl

  pub fit-more : (k : ℕ) → k < i + 1 → FitsOp mode (source_by more after.got.items (origin_of (op_of_log ops k))) (op_of_log ops k) (get_or more k Absent)
  fit-more k within = ⊎_elim old new (cases_lt k i)
    where
      old : k < i → FitsOp mode (source_by more after.got.items (origin_of (op_of_log ops k))) (op_of_log ops k) (get_or more k Absent)
      old first = rw (source-kept k first (origin_of (op_of_log ops k)) refl) (rw (earlier k first) (doing.fit k first))

      new : i ≤ k → FitsOp mode (source_by more after.got.items (origin_of (op_of_log ops k))) (op_of_log ops k) (get_or more k Absent)
      new last =
          let at : i ≡ k = omega arith in
          subst (λ (n : ℕ). FitsOp mode (source_by more after.got.items (origin_of (op_of_log ops n))) (op_of_log ops n) (get_or more n Absent)) at
          (rw (source-here (origin_of op) refl) (rw here serves.fits))

  left-lined : length (row_without (origin_of op) row) ≡ i
  left-lined = length-row_without (origin_of op) row ∙ doing.lined

  pub lined-more : length (row_after op reply row) ≡ i + 1
  lined-more = length_push (row_without (origin_of op) row) (staying (handed_as op) (standing reply)) ∙ ap (λ (n : ℕ). n + 1) left-lined

  pub ready-more : (k maker : ℕ) → i + 1 ≤ k → k < length ops → origin_of (op_of_log ops k) ≡ Own maker → maker < i + 1
      → get_or (row_after op reply row) maker None ≡ standing (get_or more maker Absent)
  ready-more k maker later within is made = ⊎_elim old new (cases_lt maker i)
    where
      old : maker < i → get_or (row_after op reply row) maker None ≡ standing (get_or more maker Absent)
      old first =
          get_or_append_left (row_without (origin_of op) row) (staying (handed_as op) (standing reply) ∷ []) None maker (omega (arith, left-lined))
          ∙ row_without-other (origin_of op) row maker
          (λ taken. absurd (let one : i ≡ k = may.own.once i k maker below within taken is in omega arith))
          ∙ doing.ready k maker (omega arith) within is first
          ∙ sym (ap standing (earlier maker first))

      new : i ≤ maker → get_or (row_after op reply row) maker None ≡ standing (get_or more maker Absent)
      new last =
          let at : i ≡ maker = omega arith in
          let kept : handed_as op ≡ None = subst (λ (n : ℕ). handed_as (op_of_log ops n) ≡ None) (sym at) (may.kept k maker within is) in
          subst (λ (n : ℕ). get_or (row_after op reply row) n None ≡ standing (get_or more n Absent)) at
          (get_or_push (row_without (origin_of op) row) (staying (handed_as op) (standing reply)) None i left-lined
          ∙ ap (λ (given : Option ℕ). staying given (standing reply)) kept ∙ sym (ap standing here))

  pub AreDoing-more : IsDoorOf boxes after → after.log ≡ before.log → KeepsFrames was now → now.entries ≡ was.entries ++ calls_of mode op reply
      → was.spare ≤ now.spare + 2 → AreDoing mode boxes ops (i + 1) log now after (row_after op reply row) more
  AreDoing-more of_boxes log_is frames entered used = record {
    count = length_push replies reply ∙ ap (λ (n : ℕ). n + 1) doing.count;
    lined = lined-more;
    fit = fit-more;
    ready = ready-more;
    number = frames.number ∙ doing.number;
    book = entered ∙ ap (λ (front : List _). front ++ calls_of mode op reply) doing.book
        ∙ ap (λ (n : ℕ). calls_of_log mode ops replies ++ calls_of mode (op_of_log ops n) reply) (sym doing.count) ∙ sym (calls_of_log-push mode ops replies reply (omega (arith, doing.count)));
    framed = frames.each doing.framed;
    spare = omega (arith, doing.spare, used);
    of_boxes = of_boxes;
    log_is = log_is ∙ doing.log_is;
    sent = serves.sent ∙ ap (λ (front : List Pair). front ++ posted_for (handed_as op) (standing reply)) doing.sent
        ∙ ap (λ (n : ℕ). posted_of ops replies ++ posted_for (handed_as (op_of_log ops n)) (standing reply)) (sym doing.count)
        ∙ sym (posted_of-push ops replies reply (omega (arith, doing.count)));
    got = ap (map (λ (pair : Pair). pair.0)) serves.got ∙ map-append (λ (pair : Pair). pair.0) before.got.items (collected_for (origin_of op) serves.taken)
        ∙ ap (λ (rest : List ℕ). map (λ (pair : Pair). pair.0) before.got.items ++ rest) (numbers-collected_for (origin_of op) serves.taken)
        ∙ ap (λ (front : List ℕ). front ++ claimed_by op) doing.got ∙ sym (claimed-more ops i below);
    few_sent = omega (arith, ap length serves.sent, length-append before.sent.items (posted_for (handed_as op) (standing reply)), length-posted_for (handed_as op) (standing reply), doing.few_sent);
    few_got = omega (arith, ap length serves.got, length-append before.got.items (collected_for (origin_of op) serves.taken), length-collected_for (origin_of op) serves.taken, doing.few_got);
    counted_sent = serves.counted_sent ∙ ap (λ (n : ℕ). n + blocks_among (posted_for (handed_as op) (standing reply))) doing.counted_sent
        ∙ sym (ap blocks_among serves.sent ∙ sum_by-append _ before.sent.items (posted_for (handed_as op) (standing reply)));
    counted = serves.counted ∙ ap (λ (n : ℕ). n + blocks_among (collected_for (origin_of op) serves.taken)) doing.counted
        ∙ sym (ap blocks_among serves.got ∙ sum_by-append _ before.got.items (collected_for (origin_of op) serves.taken));
  }
