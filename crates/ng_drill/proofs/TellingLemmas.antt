-- What is told of a block's bytes, and the verdict on it.
use Rattle.std.proofs.Common.{◌≡◌, ◌≢◌, ◌⊎◌, ℕ, zero, suc, ◌+◌, ◌-◌, ◌*◌, ◌/◌, ◌%◌, ◌^◌, ◌<◌, ◌≤◌, cond, eqb, Bool, true, false, List, [], ◌∷◌, refl, sym, ap, ◌∙◌, subst, inl, inr, ⊎_elim, arith}
use Rattle.std.proofs.lemmas.Bool.{eq-eqb, eqb-false, eqb-true}
use Rattle.std.proofs.lemmas.Bool.Decides.{nat_tests}
use Rattle.std.specs.Prelude.{◌==◌, Option, Some, None, Result, Ok, Err, find, if◌then◌else◌}
use Rattle.std.proofs.Math.Dec.{eqb-suc-zero}
use Rattle.std.specs.Option.{option_and_then, option_map, option_zip}
use Rattle.ng_header.specs.Bytes.{byte_of}
use Rattle.ng_header.specs.Reading.{nominal_in, reserved_in}
use Rattle.ng_header.specs.declared.reading.NominalFault.{NominalFault}
use Rattle.ng_frame.specs.Judging.{IsJudged, IsSure, IsSureByte, verdict_by}
use Rattle.ng_view.specs.Blocks.{Knows}
use Rattle.ng_view.specs.Frame.{KnowsByte}
use Rattle.ng_view.specs.declared.view.Held.{Held}
use Rattle.ng_drill.specs.Desks.{AreTold, KnowsField}
use Rattle.ng_drill.specs.States.{Extends, Standing, byte_in, length_told, number_in, reserved_told, verdict_in, with_told}
use Rattle.ng_drill.specs.Steps.{Judges}

-- ---- one byte more
told_here : (k b : ℕ) (bytes : List (ℕ × ℕ)) → byte_in k ((k, b) ∷ bytes) ≡ Some b
told_here k b bytes = ap (λ t. option_map (λ (told : ℕ × ℕ). told.1) (cond t (Some (k, b)) (find (λ (told : ℕ × ℕ). told.0 == k) bytes))) (eq-eqb k k refl)

-- a byte is told of one place, or what was told before
pub told_either : (k j b : ℕ) (bytes : List (ℕ × ℕ)) → ((k ≡ j) × (byte_in k ((j, b) ∷ bytes) ≡ Some b)) ⊎ ((k ≢ j) × (byte_in k ((j, b) ∷ bytes) ≡ byte_in k bytes))
told_either k j b bytes = by_test (j == k) refl
  where
    by_test : (t : Bool) → (j == k) ≡ t → ((k ≡ j) × (byte_in k ((j, b) ∷ bytes) ≡ Some b)) ⊎ ((k ≢ j) × (byte_in k ((j, b) ∷ bytes) ≡ byte_in k bytes))
    by_test true same =
        let e : j ≡ k = eqb-true j k same in
        inl (sym e, ap (λ t. option_map (λ (told : ℕ × ℕ). told.1) (cond t (Some (j, b)) (find (λ (told : ℕ × ℕ). told.0 == k) bytes))) same)
    by_test false other =
        inr ((λ e. eqb-false j k other (sym e)), ap (λ t. option_map (λ (told : ℕ × ℕ). told.1) (cond t (Some (j, b)) (find (λ (told : ℕ × ℕ). told.0 == k) bytes))) other)

-- the known bytes are told with one more that is known
pub told_more : (h : Held) (at j b : ℕ) (bytes : List (ℕ × ℕ)) → KnowsByte (at + j) b h → AreTold at bytes h → AreTold at ((j, b) ∷ bytes) h
told_more h at j b bytes knows told k byte is = ⊎_elim
    (λ (here : (k ≡ j) × (byte_in k ((j, b) ∷ bytes) ≡ Some b)).
    let same : b ≡ byte = cc in
    subst (λ i. KnowsByte (at + i) byte h) (sym here.0) (subst (λ x. KnowsByte (at + j) x h) same knows))
    (λ (before : (k ≢ j) × (byte_in k ((j, b) ∷ bytes) ≡ byte_in k bytes)). told k byte (sym before.1 ∙ is))
    (told_either k j b bytes)

-- a known byte is below 256
pub byte_small : (h : Held) (y b : ℕ) → KnowsByte y b h → b < 256
byte_small h y b knows = let e = knows.2 in omega (arith, e)

pub extends_itself : (h : Held) (at : ℕ) (bytes : List (ℕ × ℕ)) → AreTold at bytes h → Extends bytes bytes
extends_itself h at bytes told = record { told = λ k byte is. is; small = λ k byte is. byte_small h (at + k) byte (told k byte is) }

pub extends_then : (a b c : List (ℕ × ℕ)) → Extends a b → Extends b c → Extends a c
extends_then a b c first second = record { told = λ k byte is. second.told k byte (first.told k byte is); small = second.small }

-- ---- a byte that is sure
sure_byte : (h : Held) (y b c : ℕ) → IsSureByte y b h → KnowsByte y c h → c ≡ b
sure_byte h y b c sure knows =
    let same : knows.0 ≡ sure.0 = sure.1.only knows.0 knows.1 in
    sym knows.2 ∙ ap (λ x. x / 2 ^ (8 * (y % 4)) % 256) same ∙ sure.2

known_byte : (h : Held) (y b : ℕ) → IsSureByte y b h → KnowsByte y b h
known_byte h y b sure = (sure.0, sure.1.known, sure.2)

-- what was told before, grown by bytes that are sure
pub record Grows (h : Held) (at : ℕ) (before after : List (ℕ × ℕ)) : Type 0 where
  pub extends : Extends before after
  pub told : AreTold at after h

grow : (h : Held) (at j b : ℕ) (before bytes : List (ℕ × ℕ)) → IsSureByte (at + j) b h → Grows h at before bytes → Grows h at before ((j, b) ∷ bytes) × Extends bytes ((j, b) ∷ bytes)
grow h at j b before bytes sure grown = (record { extends = extends_then before bytes ((j, b) ∷ bytes) grown.extends more; told = all }, more)
  where
    all : AreTold at ((j, b) ∷ bytes) h
    all = told_more h at j b bytes (known_byte h (at + j) b sure) grown.told

    more : Extends bytes ((j, b) ∷ bytes)
    more = record {
      told = λ k byte is. ⊎_elim
          (λ (here : (k ≡ j) × (byte_in k ((j, b) ∷ bytes) ≡ Some b)).
          let knows : KnowsByte (at + j) byte h = subst (λ i. KnowsByte (at + i) byte h) here.0 (grown.told k byte is) in
          here.1 ∙ ap (λ x. Some x) (sym (sure_byte h (at + j) b byte sure knows)))
          (λ (same : (k ≢ j) × (byte_in k ((j, b) ∷ bytes) ≡ byte_in k bytes)). same.1 ∙ is)
          (told_either k j b bytes);
      small = λ k byte is. byte_small h (at + k) byte (all k byte is);
    }

-- ---- the number in a cell
-- each of its bytes is sure
cell_byte : (h : Held) (at gap k i word : ℕ) → (at + gap) % 4 ≡ 0 → k + 4 ≡ gap → i < 4 → IsSure (at + gap - 4) word h → IsSureByte (at + (k + i)) (byte_of word i) h
cell_byte h at gap k i word whole here lt sure =
    let front : 4 * ((at + (k + i)) / 4) ≡ at + gap - 4 = omega arith in
    let place : (at + (k + i)) % 4 ≡ i = omega arith in
    (word, subst (λ a. IsSure a word h) (sym front) sure, ap (λ p. word / 2 ^ (8 * p) % 256) place)

number_of_bytes : (word : ℕ) → (byte_of word 0 + 256 * byte_of word 1) + 65536 * (byte_of word 2 + 256 * byte_of word 3) ≡ word % 4294967296
number_of_bytes word = omega arith

-- the number is told by its four bytes
number_told : (k a b c d : ℕ) (bytes : List (ℕ × ℕ)) → byte_in k bytes ≡ Some a → byte_in (k + 1) bytes ≡ Some b → byte_in (k + 2) bytes ≡ Some c → byte_in (k + 3) bytes ≡ Some d
    → number_in k bytes ≡ Some ((a + 256 * b) + 65536 * (c + 256 * d))
number_told k a b c d bytes first second third fourth = rw (first, second, third, fourth) refl

-- the number and the byte before it are told, whatever more is told
pub record TellsNumber (h : Held) (at gap word fifth : ℕ) (before after : List (ℕ × ℕ)) : Type 0 where
  pub grows : Grows h at before after
  pub number : (more : List (ℕ × ℕ)) → Extends after more → number_in (gap - 4) more ≡ Some (word % 4294967296)
  pub fifth_is : (more : List (ℕ × ℕ)) → Extends after more → byte_in (gap - 5) more ≡ Some fifth

tell_number : (h : Held) (at gap word fifth : ℕ) (before : List (ℕ × ℕ)) → (at + gap) % 4 ≡ 0 → 5 ≤ gap → IsSure (at + gap - 4) word h → IsSureByte (at + gap - 5) fifth h
    → AreTold at before h → (after : List (ℕ × ℕ)) × TellsNumber h at gap word fifth before after
tell_number h at gap word fifth before whole roomy sure sure_fifth told =
    let k : ℕ = gap - 4 in
    let here : k + 4 ≡ gap = omega arith in
    let start : Grows h at before before = record { extends = extends_itself h at before told; told = told } in
    let same : k + 0 ≡ k = omega arith in
    let a : ℕ = byte_of word 0 in let b : ℕ = byte_of word 1 in let c : ℕ = byte_of word 2 in let d : ℕ = byte_of word 3 in
    let b0 = grow h at k a before before (subst (λ j. IsSureByte (at + j) a h) same (cell_byte h at gap k 0 word whole here (omega arith) sure)) start in
    let l0 : List (ℕ × ℕ) = (k, a) ∷ before in
    let b1 = grow h at (k + 1) b before l0 (cell_byte h at gap k 1 word whole here (omega arith) sure) b0.0 in
    let l1 : List (ℕ × ℕ) = (k + 1, b) ∷ l0 in
    let b2 = grow h at (k + 2) c before l1 (cell_byte h at gap k 2 word whole here (omega arith) sure) b1.0 in
    let l2 : List (ℕ × ℕ) = (k + 2, c) ∷ l1 in
    let b3 = grow h at (k + 3) d before l2 (cell_byte h at gap k 3 word whole here (omega arith) sure) b2.0 in
    let l3 : List (ℕ × ℕ) = (k + 3, d) ∷ l2 in
    let place : at + gap - 5 ≡ at + (gap - 5) = omega arith in
    let b4 = grow h at (gap - 5) fifth before l3 (subst (λ y. IsSureByte y fifth h) place sure_fifth) b3.0 in
    let l4 : List (ℕ × ℕ) = (gap - 5, fifth) ∷ l3 in
    let t3 = b4.1.told (k + 3) d (told_here (k + 3) d l2) in
    let t2 = b4.1.told (k + 2) c (b3.1.told (k + 2) c (told_here (k + 2) c l1)) in
    let t1 = b4.1.told (k + 1) b (b3.1.told (k + 1) b (b2.1.told (k + 1) b (told_here (k + 1) b l0))) in
    let t0 = b4.1.told k a (b3.1.told k a (b2.1.told k a (b1.1.told k a (told_here k a before)))) in (
      l4,
      record {
        grows = b4.0;
        number = λ more extends. number_told k a b c d more (extends.told k a t0) (extends.told (k + 1) b t1) (extends.told (k + 2) c t2) (extends.told (k + 3) d t3)
            ∙ ap (λ n. Some n) (number_of_bytes word);
        fifth_is = λ more extends. extends.told (gap - 5) fifth (told_here (gap - 5) fifth l3);
      },
    )

-- ---- the verdict
-- the known field is that of the header
field_is : (h : Held) (at field header : ℕ) → 4 ≤ at → at % 16 ≡ 0 → KnowsField at field h → IsSure (at - 4) header h → field ≡ header / 8192 % 8
field_is h at field header above whole knows sure =
    let byte = knows.1 in
    let front : 4 * ((at - 3) / 4) ≡ at - 4 = omega arith in
    let place : (at - 3) % 4 ≡ 1 = omega arith in
    let same : byte.0 ≡ header = sure.only byte.0 (subst (λ a. Knows a byte.0 h) front byte.1) in
    let is : header / 256 % 256 ≡ knows.0 = ap (λ x. x / 256 % 256) (sym same) ∙ ap (λ p. byte.0 / 2 ^ (8 * p) % 256) (sym place) ∙ byte.2 in
    let field_byte = knows.2 in
    omega (arith, is, field_byte)

-- where the field isn't 5, no other byte matters
reserved_any : (f w x v y gap : ℕ) → (f == 5) ≡ false → reserved_in f w x gap ≡ reserved_in f v y gap
reserved_any f w x v y gap other = rw other refl

reserved_le : (f w x gap r : ℕ) → reserved_in f w x gap ≡ Ok r → r ≤ gap
reserved_le f w x gap r is = grind (arith, nat_tests)

-- the length by a reserved number above 0 and the first reserved byte
length_step : (block : Standing) (r mark : ℕ) → byte_in (block.gap - suc r) block.bytes ≡ Some mark → length_told block (Ok (suc r)) ≡ Some (nominal_in block.gap (suc r) mark 0)
length_step block r mark is = rw (eqb-suc-zero r) (rw is refl)

-- what is told of the reserved number, and whatever more is told
pub record TellsReserved (h : Held) (block : Standing) (reserved : Result ℕ NominalFault) (after : List (ℕ × ℕ)) : Type 0 where
  pub grows : Grows h block.at block.bytes after
  pub told : (more : List (ℕ × ℕ)) → Extends after more → reserved_told (with_told more block) ≡ Some reserved

tell_reserved : (h : Held) (block : Standing) (header word fifth : ℕ) → block.field ≡ header / 8192 % 8 → (block.at + block.gap) % 4 ≡ 0 → (block.field ≡ 5 → 5 ≤ block.gap)
    → (header / 8192 % 8 ≡ 5 → IsSure (block.at + block.gap - 4) word h × IsSureByte (block.at + block.gap - 5) fifth h) → AreTold block.at block.bytes h
    → (after : List (ℕ × ℕ)) × TellsReserved h block (reserved_in (header / 8192 % 8) (word % 4294967296) fifth block.gap) after
tell_reserved h block header word fifth field whole roomy number told = by_test (block.field == 5) refl
  where
    by_field : (more : List (ℕ × ℕ)) → (block.field == 5) ≡ false → reserved_told (with_told more block) ≡ Some (reserved_in block.field 0 0 block.gap)
    by_field more other =
        ap (λ t. cond t (option_map (λ (told : ℕ × ℕ). reserved_in 5 told.0 told.1 block.gap) (option_zip (number_in (block.gap - 4) more) (byte_in (block.gap - 5) more)))
        (Some (reserved_in block.field 0 0 block.gap))) other

    by_test : (t : Bool) → (block.field == 5) ≡ t → (after : List (ℕ × ℕ)) × TellsReserved h block (reserved_in (header / 8192 % 8) (word % 4294967296) fifth block.gap) after
    by_test true is_five =
        let five : block.field ≡ 5 = eqb-true block.field 5 is_five in
        let sure = number (sym field ∙ five) in
        let tells = tell_number h block.at block.gap word fifth block.bytes whole (roomy five) sure.0 sure.1 told in (
          tells.0,
          record {
            grows = tells.1.grows;
            told = λ more extends. rw is_five (rw (tells.1.number more extends, tells.1.fifth_is more extends) (ap (λ f. Some (reserved_in f (word % 4294967296) fifth block.gap)) (sym five ∙ field)));
          },
        )
    by_test false other = (
      block.bytes,
      record {
        grows = record { extends = extends_itself h block.at block.bytes told; told = told };
        told = λ more extends. by_field more other ∙ (ap (λ r. Some r) (reserved_any block.field 0 0 (word % 4294967296) fifth block.gap other ∙ ap (λ f. reserved_in f (word % 4294967296) fifth block.gap) field));
      },
    )

-- so a judged slot has a verdict by more bytes that are told
pub judged : (h : Held) (block : Standing) (verdict : Result ℕ NominalFault) → 4 ≤ block.at → block.at % 16 ≡ 0 → (block.field ≡ 5 → 5 ≤ block.gap)
    → KnowsField block.at block.field h → AreTold block.at block.bytes h → IsJudged h block.at block.gap verdict
    → (after : List (ℕ × ℕ)) × Judges block after verdict × AreTold block.at after h
judged h block verdict above whole roomy field told j = by_reserved (reserved_in (j.header / 8192 % 8) (j.word % 4294967296) j.fifth block.gap) refl
  where
    tells : (after : List (ℕ × ℕ)) × TellsReserved h block (reserved_in (j.header / 8192 % 8) (j.word % 4294967296) j.fifth block.gap) after
    tells = tell_reserved h block j.header j.word j.fifth (field_is h block.at block.field j.header above whole field j.front) j.whole roomy j.number told

    by_reserved : (r : Result ℕ NominalFault) → reserved_in (j.header / 8192 % 8) (j.word % 4294967296) j.fifth block.gap ≡ r
        → (after : List (ℕ × ℕ)) × Judges block after verdict × AreTold block.at after h
    by_reserved (Err fault) is =
        let self = extends_itself h block.at tells.0 tells.1.grows.told in (
          tells.0,
          record {
            extends = tells.1.grows.extends;
            judged = rw (tells.1.told tells.0 self ∙ ap (λ r. Some r) is) (ap (λ v. Some v) (sym (j.told ∙ ap (verdict_by block.gap j.mark) is)));
          },
          tells.1.grows.told,
        )
    by_reserved (Ok zero) is =
        let self = extends_itself h block.at tells.0 tells.1.grows.told in
        let whole_gap : block.gap - 0 ≡ block.gap = omega arith in (
          tells.0,
          record {
            extends = tells.1.grows.extends;
            judged = rw (tells.1.told tells.0 self ∙ ap (λ r. Some r) is) (ap (λ v. Some v) (sym (j.told ∙ ap (verdict_by block.gap j.mark) is ∙ ap (λ n. Ok n) whole_gap)));
          },
          tells.1.grows.told,
        )
    by_reserved (Ok (suc r)) is =
        let le : suc r ≤ block.gap = reserved_le (j.header / 8192 % 8) (j.word % 4294967296) j.fifth block.gap (suc r) is in
        let place : block.at + block.gap - suc r ≡ block.at + (block.gap - suc r) = omega arith in
        let sure : IsSureByte (block.at + (block.gap - suc r)) j.mark h = subst (λ y. IsSureByte y j.mark h) place (j.first (suc r) is (omega arith)) in
        let more = grow h block.at (block.gap - suc r) j.mark block.bytes tells.0 sure tells.1.grows in
        let after : List (ℕ × ℕ) = (block.gap - suc r, j.mark) ∷ tells.0 in (
          after,
          record {
            extends = more.0.extends;
            judged = ap (option_and_then (length_told (with_told after block))) (tells.1.told after more.1 ∙ ap (λ r. Some r) is)
                ∙ length_step (with_told after block) r j.mark (told_here (block.gap - suc r) j.mark tells.0) ∙ ap (λ v. Some v) (sym (j.told ∙ ap (verdict_by block.gap j.mark) is));
          },
          more.0.told,
        )
