-- The largest request of some commands, one command on.
use Rattle.std.proofs.Common.{◌≡◌, ◌⊎◌, ℕ, zero, suc, ◌+◌, ◌<◌, ◌≤◌, max, Contains, List, [], ◌∷◌, ◌++◌, length, get_or, take, refl, sym, ap, ◌∙◌, subst, inl, inr, ⊎_elim, arith}
use Rattle.std.proofs.Math.Seq.{take-suc}
use Rattle.std.proofs.lemmas.Bool.{cases_lt}
use Rattle.std.proofs.lemmas.List.Elements.{Contains-append_cases, Contains-append_left, Contains-append_right}
use Rattle.ng_script.specs.declared.command.Command.{Command}
use Rattle.ng_script.specs.declared.command.Command.TheVariants.{Malloc, Free, Write, Usable}
use Rattle.ng_terms.specs.Heap.{large}
use Rattle.ng_drill.specs.Caps.{AskedBy, IsCapOf, size_of}

none_in : {X : Type 0} (x : X) → ¬ Contains [] x
none_in x there = absurd (omega (arith, there.1))

only_in : {X : Type 0} (y x : X) → Contains (y ∷ []) x → y ≡ x
only_in y x (zero, below, is) = is
only_in y x (suc k, below, is) = absurd (omega arith)

itself_in : {X : Type 0} (x : X) → Contains (x ∷ []) x
itself_in x = (0, omega arith, refl)

-- the first of a list, one more
pub take_more : {X : Type 0} (xs : List X) (i : ℕ) (d : X) → i < length xs → take (i + 1) xs ≡ take i xs ++ get_or xs i d ∷ []
take_more xs i d below = let add_one : suc i ≡ i + 1 = omega arith in
    subst (λ (n : ℕ). take n xs ≡ take i xs ++ get_or xs i d ∷ []) add_one (take-suc xs i d below)

pub cap_none : IsCapOf [] 0
cap_none = record { asked = inl refl; greatest = λ bytes asked. absurd (none_in asked.command asked.there) }

-- what is asked by an m is its size
size_asked : (command : Command) (bytes : ℕ) → ((name : ℕ) × (command ≡ Malloc name bytes)) → size_of command ≡ bytes
size_asked command bytes asks = ap size_of asks.1

-- a command of which bytes are asked asks them
asked_size : (command : Command) → 0 < size_of command → (name : ℕ) × (command ≡ Malloc name (size_of command))
asked_size (Malloc name size) some = (name, refl)
asked_size (Free place) some = absurd (omega arith)
asked_size (Write name offset byte) some = absurd (omega arith)
asked_size (Usable name) some = absurd (omega arith)

pub cap_more : (commands : List Command) (command : Command) (cap size : ℕ) → IsCapOf commands cap
    → (size_of command < large → size ≡ size_of command) → (large ≤ size_of command → size ≡ 0) → IsCapOf (commands ++ command ∷ []) (max cap size)
cap_more commands command cap size is fits none = record { asked = asked; greatest = greatest }
  where
    all : List Command
    all = commands ++ command ∷ []

    old : AskedBy commands cap → AskedBy all cap
    old a = record { command = a.command; there = Contains-append_left commands (command ∷ []) a.command a.there; asks = a.asks; small = a.small }

    new : cap < size → AskedBy all size
    new more = ⊎_elim
        (λ (small : size_of command < large).
        let same : size_of command ≡ size = sym (fits small) in
        subst (AskedBy all) same (record {
          command = command;
          there = Contains-append_right commands (command ∷ []) command (itself_in command);
          asks = asked_size command (omega (arith, same, more));
          small = small;
        }))
        (λ (wide : large ≤ size_of command). absurd (omega (arith, none wide, more)))
        (cases_lt (size_of command) large)

    asked : (max cap size ≡ 0) ⊎ AskedBy all (max cap size)
    asked = ⊎_elim
        (λ (more : cap < size). let same : size ≡ max cap size = omega arith in inr (subst (AskedBy all) same (new more)))
        (λ (least : size ≤ cap).
        let same : cap ≡ max cap size = omega arith in
        ⊎_elim
        (λ (zero_cap : cap ≡ 0). inl (sym same ∙ zero_cap))
        (λ (a : AskedBy commands cap). inr (subst (AskedBy all) same (old a)))
        is.asked)
        (cases_lt cap size)

    greatest : (bytes : ℕ) → AskedBy all bytes → bytes ≤ max cap size
    greatest bytes a = ⊎_elim
        (λ (before : Contains commands a.command).
        let was : bytes ≤ cap = is.greatest bytes (record { command = a.command; there = before; asks = a.asks; small = a.small }) in omega arith)
        (λ (here : Contains (command ∷ []) a.command).
        let same : size_of command ≡ bytes = ap size_of (only_in command a.command here) ∙ size_asked a.command bytes a.asks in
        let small = a.small in
        omega (arith, fits (omega (arith, same, small)), same))
        (Contains-append_cases commands (command ∷ []) a.command a.there)
