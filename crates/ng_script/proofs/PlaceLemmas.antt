-- The place that a token writes.
use Rattle.std.proofs.Common.{◌≡◌, ℕ, ◌<◌, List, [], ◌∷◌, length, true, false, Option, Some, None, refl, arith}
use Rattle.ng_mtrace.specs.Text.{parts_at}
use Rattle.ng_mtrace.proofs.Parts.{parts_at-some_part}
use Rattle.ng_script.specs.Forms.{PlaceForm, Named, is_name, named_of, shifted}
use Rattle.ng_script.specs.declared.command.Shift.{Shift}
use Rattle.ng_script.specs.declared.command.Shift.TheVariants.{Up, Down}

unnamed : (shift : ℕ → Shift) (name : List ℕ) (parts : List (List ℕ)) → is_name name ≡ false → shifted shift (name ∷ parts) ≡ None
unnamed shift name [] off = refl
unnamed shift name (number ∷ []) off = rw off refl
unnamed shift name (number ∷ other ∷ parts) off = refl

-- no name stands before the sign
pub shifted-unnamed : (shift : ℕ → Shift) (sign : ℕ) (token name digits : List ℕ) → parts_at sign token ≡ name ∷ parts_at sign digits
    → is_name name ≡ false → shifted shift (parts_at sign token) ≡ None
shifted-unnamed shift sign token name digits cut off = rw cut (unnamed shift name (parts_at sign digits) off)

many : (shift : ℕ → Shift) (name number : List ℕ) (parts : List (List ℕ)) → 0 < length parts → shifted shift (name ∷ number ∷ parts) ≡ None
many shift name number [] some = absurd (omega arith)
many shift name number (other ∷ parts) some = refl

-- the sign stands there twice
pub shifted-many : (shift : ℕ → Shift) (sign : ℕ) (token name digits number behind : List ℕ) → parts_at sign token ≡ name ∷ parts_at sign digits
    → parts_at sign digits ≡ number ∷ parts_at sign behind → shifted shift (parts_at sign token) ≡ None
shifted-many shift sign token name digits number behind cut again = rw (cut, again) (many shift name number (parts_at sign behind) (parts_at-some_part sign behind))

pub named_of-plain : (token : List ℕ) → is_name token ≡ true → named_of token ≡ Some (Named token (Up 0))
unfolding named_of
named_of-plain token on = rw on refl

pub named_of-up : (token : List ℕ) (x : PlaceForm) → is_name token ≡ false → shifted (λ n. Up n) (parts_at 43 token) ≡ Some x → named_of token ≡ Some x
unfolding named_of
named_of-up token x off up = rw (off, up) refl

pub named_of-down : (token : List ℕ) (x : Option PlaceForm) → is_name token ≡ false → shifted (λ n. Up n) (parts_at 43 token) ≡ None
    → shifted (λ n. Down n) (parts_at 45 token) ≡ x → named_of token ≡ x
unfolding named_of
named_of-down token x off up down = rw (off, up, down) refl
