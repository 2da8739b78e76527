-- What a resize enters.
use Rattle.std.proofs.Common.{append_assoc, cond, eqb, eq-eqb, false, true, max, ◌≡◌, ◌≢◌, ℕ, ◌+◌, ◌*◌, ◌^◌, ◌<◌, ◌≤◌, List, [], ◌∷◌, ◌++◌, arith, sym, ap, ◌∙◌, refl, ⊎_elim}
use Rattle.std.proofs.lemmas.Grind.{common_steps}
use Rattle.ng_terms.specs.Heap.{IsTooLarge, large}
use Rattle.ng_space.specs.Callers.{Caller}
use Rattle.ng_space.specs.Leaving.{Entered, KeepsBook}
use Rattle.ng_terms.specs.declared.entry.Entry.{Entry}
use Rattle.ng_terms.specs.declared.entry.Entry.TheVariants.{Give, Resize, Take}
use Rattle.ng_resize.specs.Refusals.{EnteredAll}

pub entered_one : (before after : Caller) (entry : Entry) → Entered before after entry → EnteredAll before after (entry ∷ [])
entered_one before after entry entered = record { number = entered.number; spare = entered.spare; entries = entered.entries }

pub entered_two : (before mid after : Caller) (first second : Entry) → Entered before mid first → Entered mid after second
    → EnteredAll before after (first ∷ second ∷ [])
entered_two before mid after first second one two = record {
  number = two.number ∙ one.number;
  spare = omega (arith, one.spare, two.spare);
  entries = two.entries ∙ ap (λ es. es ++ second ∷ []) one.entries ∙ append_assoc before.entries (first ∷ []) (second ∷ []);
}

-- entries after words were read
pub entered_later : (before mid after : Caller) (entries : List Entry) → KeepsBook before mid → EnteredAll mid after entries
    → EnteredAll before after entries
entered_later before mid after entries book entered = record {
  number = entered.number ∙ book.number;
  spare = entered.spare ∙ book.spare;
  entries = entered.entries ∙ ap (λ es. es ++ entries) book.entries;
}

-- the entries of a block that moved, and of one that stayed
pub entries_moved : (at to n : ℕ) → to ≢ at → cond (eqb at to) (Resize at n ∷ []) (Give n 16 to ∷ Take at ∷ []) ≡ Give n 16 to ∷ Take at ∷ []
entries_moved at to n other =
    let ne : at ≢ to = λ same. other (sym same) in
    let differ : eqb at to ≡ false = grind (arith, common_steps) in
    ap (λ b. cond b (Resize at n ∷ []) (Give n 16 to ∷ Take at ∷ [])) differ

pub entries_stayed : (at n : ℕ) → cond (eqb at at) (Resize at n ∷ []) (Give n 16 at ∷ Take at ∷ []) ≡ Resize at n ∷ []
entries_stayed at n =
    let same : eqb at at ≡ true = eq-eqb at at refl in
    ap (λ b. cond b (Resize at n ∷ []) (Give n 16 at ∷ Take at ∷ [])) same

-- a size below the largest isn't too large
pub not_large : (n : ℕ) → n < large → IsTooLarge 1 n 16 → ⊥
not_large n small is = ⊎_elim (λ (align : 2 ^ 35 ≤ 16). absurd (omega arith)) (λ (size : large + 16 ≤ 1 * n + max 16 16). absurd (omega arith)) is
