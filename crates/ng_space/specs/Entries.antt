-- Entries that a hand makes by itself.
use Rattle.std.specs.Prelude.{◌≡◌, ℕ, ◌≤◌}
use Rattle.ng_terms.specs.declared.entry.Entry.{Entry}
use Rattle.ng_terms.specs.declared.entry.Entry.TheVariants.{Give, Take, Resize, NoMemory, TooLarge, BadAlign, Refused}
use Rattle.ng_terms.specs.Heap.{IsAlignment, IsTooLarge}
use Rattle.ng_view.specs.Steps.{entered, read}
use Rattle.ng_view.specs.declared.view.View.{View}

-- the entry is a legal step from every state of the heap, and changes none: a request too large, an
-- alignment that is none, or a pointer that failed a check
abbrev pub IsLegalAnytime : Entry → Type 0
IsLegalAnytime (Give n align at) = ⊥
IsLegalAnytime (Take at) = ⊥
IsLegalAnytime (Resize at n) = ⊥
IsLegalAnytime (NoMemory n excuse) = ⊥
IsLegalAnytime (TooLarge count size align) = IsTooLarge count size align
IsLegalAnytime (BadAlign align) = ¬ IsAlignment align
IsLegalAnytime (Refused at name) = (1 ≤ name) × (name ≤ 15)

-- the entry comes into the view's book of that number, at a load of word 0
pub record Enters (before : View) (number : ℕ) (entry : Entry) (after : View) : Type 0 where
  pub found : ℕ
  pub view : after ≡ read (entered before number entry) 0 found
