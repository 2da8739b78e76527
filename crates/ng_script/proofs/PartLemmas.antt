-- The first fault and the script of a text, as its bytes come.
use Rattle.std.proofs.Common.{◌≡◌, ℕ, ◌+◌, ◌<◌, ◌≤◌, ◌⊎◌, true, false, List, [], ◌∷◌, ◌++◌, length, Option, Some, None, refl, sym, ap, ◌∙◌, append_assoc, arith, ⊎_elim, inl, inr, ltb, true≢false, All}
use Rattle.std.specs.Prelude.{option_to_list}
use Rattle.std.specs.List.{cons_option}
use Rattle.std.specs.Option.{option_or}
use Rattle.std.proofs.lemmas.Bool.Decides.{nat_tests}
use Rattle.std.proofs.lemmas.Bool.{cases_Bool, cases_eq}
use Rattle.std.proofs.lemmas.List.{length-append, append-nil}
use Rattle.std.proofs.lemmas.List.Elements.{All-append}
use Rattle.ng_mtrace.specs.Faults.{is_beyond}
use Rattle.ng_mtrace.specs.Text.{parts_of, IsWithout}
use Rattle.ng_mtrace.proofs.LineParts.{HasFirst, first_part, parts_of-alone, parts_of-front, parts_of-joined, is_beyond-append, joined-unfed}
use Rattle.ng_mtrace.proofs.Parts.{parts_at-some_part}
use Rattle.ng_script.specs.Faults.{is_bad, line_fault, cut_fault, first_fault_behind}
use Rattle.ng_script.specs.Forms.{Form, form_of}
use Rattle.ng_script.specs.PartScript.{fault_at, faults_from, script_with}
use Rattle.ng_script.specs.Reads.{IsNamedBelow}
use Rattle.ng_script.specs.Scripts.{names_behind, names_of, command_in, commands_in, forms_of}
use Rattle.ng_script.specs.declared.command.Command.{Command}
use Rattle.ng_script.specs.declared.script.Script.{Script}
use Rattle.ng_script.specs.declared.script_fault.ScriptFault.{ScriptFault}
use Rattle.ng_script.specs.declared.script_fault.ScriptFault.TheVariants.{BadLine, Limit, Host}
use Rattle.ng_script.specs.declared.line.LineFault.{LineFault}
use Rattle.ng_script.specs.declared.line.LineFault.TheVariants as why
use Rattle.ng_script.proofs.NameLemmas.{names_behind-append, names-grow}
use Rattle.ng_script.proofs.FormLemmas.{command-keeps, named_in, named-weaker}

-- a part beyond the limits is the first fault
beyond_first : (lines : ℕ) (names : List (List ℕ)) (first : List ℕ) (others : List (List ℕ)) → is_beyond (lines + 1) first ≡ true
    → (0 < length first) ⊎ (0 < length others) → faults_from lines names (first ∷ others) ≡ Some (Limit (lines + 1))
beyond_first lines names [] [] beyond some = absurd (⊎_elim (λ a. omega arith) (λ b. omega arith) some)
beyond_first lines names (byte ∷ bytes) [] beyond some = rw beyond refl
beyond_first lines names first (next ∷ parts) beyond some = rw beyond refl

-- bytes beyond the limits, whatever comes
pub beyond_kept : (lines : ℕ) (names : List (List ℕ)) (line part rest : List ℕ) → IsWithout 10 line → IsWithout 10 part
    → 0 < length part → is_beyond (lines + 1) (line ++ part) ≡ true
    → faults_from lines names (parts_of (line ++ (part ++ rest))) ≡ Some (Limit (lines + 1))
beyond_kept lines names line part rest unfed fresh some beyond =
    let whole : List ℕ = line ++ part in
    let found : HasFirst (parts_of rest) = first_part rest in
    let first : List ℕ = whole ++ found.first in
    let cut : parts_of (whole ++ rest) ≡ first ∷ found.others = parts_of-front whole rest found.first found.others (joined-unfed line part unfed fresh) found.is in
    let long : 0 < length first = omega (arith, length-append whole found.first, length-append line part) in
    rw (← append_assoc line part rest) (rw cut (beyond_first lines names first found.others (is_beyond-append (lines + 1) whole found.first beyond) (inl long)))

-- a line beyond the limits
pub beyond_fed : (lines : ℕ) (names : List (List ℕ)) (line rest : List ℕ) → is_beyond (lines + 1) line ≡ true
    → faults_from lines names (line ∷ parts_of rest) ≡ Some (Limit (lines + 1))
beyond_fed lines names line rest beyond = beyond_first lines names line (parts_of rest) beyond (inr (parts_at-some_part 10 rest))

cons-nil : (byte : ℕ) (bytes : List ℕ) → byte ∷ bytes ≡ [] → ⊥
cons-nil byte bytes same = cc

cut_fine : (lines : ℕ) (line : List ℕ) → lines ≤ 1000000 → (lines ≡ 1000000 → line ≡ []) → length line ≤ 4096 → cut_fault lines line ≡ None
cut_fine lines [] few full short = refl
cut_fine lines (byte ∷ bytes) few full short =
    let under : lines < 1000000 = ⊎_elim (λ same. absurd (cons-nil byte bytes (full same))) (λ other. omega arith) (cases_eq lines 1000000) in
    let a : ltb 1000000 (lines + 1) ≡ false = grind (arith, nat_tests) in
    let b : ltb 4096 (length (byte ∷ bytes)) ≡ false = grind (arith, nat_tests) in
    rw a (rw b refl)

-- the end of a text within the limits
pub ended_faults : (lines : ℕ) (names : List (List ℕ)) (line : List ℕ) → IsWithout 10 line
    → lines ≤ 1000000 → (lines ≡ 1000000 → line ≡ []) → length line ≤ 4096
    → faults_from lines names (parts_of (line ++ [])) ≡ None
ended_faults lines names line unfed few full short = rw (parts_of-alone line unfed) (cut_fine lines line few full short)

pub ended_forms : (line : List ℕ) → IsWithout 10 line → forms_of (line ++ []) ≡ []
ended_forms line unfed = rw (parts_of-alone line unfed) refl

-- the forms behind a whole line
pub fed_forms : (line part fresh rest : List ℕ) → fresh ≡ [] → IsWithout 10 line → IsWithout 10 part
    → forms_of (line ++ (part ++ 10 ∷ rest)) ≡ form_of (line ++ part) ∷ forms_of (fresh ++ rest)
fed_forms line part fresh rest empty unfed unfed_part =
    let found : HasFirst (parts_of rest) = first_part rest in
    rw (parts_of-joined line part rest unfed unfed_part) (rw empty (rw found.is refl))

-- the first fault, where a whole line has none
pub fine_fed : (lines more : ℕ) (names grown : List (List ℕ)) (line fresh rest : List ℕ) → fresh ≡ []
    → more ≡ lines + 1 → grown ≡ names_behind names (form_of line ∷ [])
    → is_beyond (lines + 1) line ≡ false → is_bad names (form_of line) ≡ false
    → faults_from more grown (parts_of (fresh ++ rest)) ≡ faults_from lines names (line ∷ parts_of rest)
fine_fed lines more names grown line fresh rest empty next now within fine =
    let found : HasFirst (parts_of rest) = first_part rest in
    let none : line_fault lines names line ≡ None = rw within (rw fine refl) in
    rw empty (rw (next, now) (rw found.is (rw none refl)))

-- the first fault, where a whole line has one
pub faulty_fed : (lines : ℕ) (names : List (List ℕ)) (line rest : List ℕ) → is_beyond (lines + 1) line ≡ false → is_bad names (form_of line) ≡ true
    → faults_from lines names (line ∷ parts_of rest) ≡ Some (BadLine (lines + 1))
faulty_fed lines names line rest within bad =
    let found : HasFirst (parts_of rest) = first_part rest in
    let some : line_fault lines names line ≡ Some (BadLine (lines + 1)) = rw within (rw bad refl) in
    rw found.is (rw some refl)

-- as the names of the lines read, so the lines themselves
faults_from-behind : (before : List Form) (parts : List (List ℕ)) → faults_from (length before) (names_of before) parts ≡ first_fault_behind before parts
faults_from-behind before [] = refl
faults_from-behind before (cut ∷ []) = refl
faults_from-behind before (line ∷ next ∷ parts) =
    let form : Form = form_of line in
    let lines : length (before ++ form ∷ []) ≡ length before + 1 = length-append before (form ∷ []) in
    let names : names_of (before ++ form ∷ []) ≡ names_behind (names_of before) (form ∷ []) = names_behind-append [] before (form ∷ []) in
    let rest : faults_from (length before + 1) (names_behind (names_of before) (form ∷ [])) (next ∷ parts) ≡ first_fault_behind (before ++ form ∷ []) (next ∷ parts) =
    rw (← lines, ← names) (faults_from-behind (before ++ form ∷ []) (next ∷ parts)) in
    ap (λ (later : Option ScriptFault). option_or (line_fault (length before) (names_of before) line) later) rest

pub faults_from-start : (parts : List (List ℕ)) → faults_from 0 [] parts ≡ first_fault_behind [] parts
unfolding names_behind
faults_from-start parts = faults_from-behind [] parts

-- a line's command, and then those of the lines behind it
pushed : (commands later : List Command) (command : Option Command) → (commands ++ option_to_list command) ++ later ≡ commands ++ cons_option command later
pushed commands later None = ap (λ (front : List Command). front ++ later) (append-nil commands)
pushed commands later (Some command) = append_assoc commands (command ∷ []) later

made : (a b : List Command) (m n : List (List ℕ)) → a ≡ b → m ≡ n → ◌≡◌ {A = Script} (record { commands = a; names = length m }) (record { commands = b; names = length n })
made a b m n commands names =
    ap (λ (all : List Command). record { commands = all; names = length m }) commands ∙ ap (λ (known : List (List ℕ)). record { commands = b; names = length known }) names

-- the script, where a whole line was taken
pub script_fed : (names grown : List (List ℕ)) (commands pushed_one : List Command) (command : Option Command) (form : Form) (forms : List Form)
    → grown ≡ names_behind names (form ∷ []) → is_bad names form ≡ false → command ≡ command_in grown form → pushed_one ≡ commands ++ option_to_list command
    → script_with grown pushed_one forms ≡ script_with names commands (form ∷ forms)
unfolding script_with
script_fed names grown commands pushed_one command form forms now fine is next =
    let all : names_behind names (form ∷ forms) ≡ names_behind grown forms = names_behind-append names (form ∷ []) forms ∙ ap (λ (known : List (List ℕ)). names_behind known forms) (sym now) in
    let kept : command_in (names_behind grown forms) form ≡ command_in grown form = rw now (command-keeps names form forms fine) in
    let later : List Command = commands_in (names_behind grown forms) forms in
    let one : pushed_one ++ later ≡ commands ++ cons_option (command_in (names_behind grown forms) form) later =
    ap (λ (front : List Command). front ++ later) next ∙ pushed commands later command ∙ ap (λ (x : Option Command). commands ++ cons_option x later) (is ∙ sym kept) in
    made (pushed_one ++ later) (commands ++ commands_in (names_behind names (form ∷ forms)) (form ∷ forms)) (names_behind grown forms) (names_behind names (form ∷ forms))
    (one ∙ ap (λ (known : List (List ℕ)). commands ++ commands_in known (form ∷ forms)) (sym all)) (sym all)

-- the script, where the text ends here
pub script_with-nil : (names : List (List ℕ)) (commands : List Command) → ◌≡◌ {A = Script} (script_with names commands []) (record { commands = commands; names = length names })
unfolding script_with names_behind
script_with-nil names commands = ap (λ (all : List Command). record { commands = all; names = length names }) (append-nil commands)

pub script_with-start : (forms : List Form) → ◌≡◌ {A = Script} (script_with [] [] forms) (record { commands = commands_in (names_of forms) forms; names = length (names_of forms) })
unfolding script_with
script_with-start forms = refl

-- a line within the limits is one of the first million
pub within-few : (number : ℕ) (line : List ℕ) → is_beyond number line ≡ false → number ≤ 1000000
within-few number line within =
    ⊎_elim
    (λ (many : ltb 1000000 number ≡ true). absurd (true≢false (rw many at within)))
    (λ (few : ltb 1000000 number ≡ false). grind (arith, nat_tests))
    (cases_Bool (ltb 1000000 number))

one_at_most : (command : Option Command) → length (option_to_list command) ≤ 1
one_at_most None = omega arith
one_at_most (Some command) = omega arith

-- one line has one command at most
pub commands-grow : (commands pushed_one : List Command) (command : Option Command) → pushed_one ≡ commands ++ option_to_list command → length pushed_one ≤ length commands + 1
commands-grow commands pushed_one command next = rw next (omega (arith, length-append commands (option_to_list command), one_at_most command))

-- the names of all commands, one line on
pub named-pushed : (names grown : List (List ℕ)) (form : Form) (commands pushed_one : List Command) (command : Option Command) → grown ≡ names_behind names (form ∷ [])
    → command ≡ command_in grown form → pushed_one ≡ commands ++ option_to_list command → All (IsNamedBelow (length names)) commands → All (IsNamedBelow (length grown)) pushed_one
named-pushed names grown form commands pushed_one command now is next named =
    let more : length names ≤ length grown = rw now (names-grow names form).0 in
    rw next (All-append (IsNamedBelow (length grown)) commands (option_to_list command) (named-weaker (length names) (length grown) commands more named) (rw is (named_in grown form)))

-- the names, one line on
pub names-few : (names grown : List (List ℕ)) (form : Form) (lines : ℕ) → grown ≡ names_behind names (form ∷ []) → length names ≤ lines → length grown ≤ lines + 1
names-few names grown form lines now few = rw now (omega (arith, (names-grow names form).1))

-- a line that fails for another cause than memory is bad
pub other_cause : (line : ℕ) (cause : LineFault) → (fault_at line cause ≡ Host → ⊥) → cause ≡ why.Host → ⊥
other_cause line cause real host = real (ap (fault_at line) host)

pub only_bad : (line : ℕ) (cause : LineFault) → (fault_at line cause ≡ Host → ⊥) → cause ≡ why.Bad
only_bad line why.Bad real = refl
only_bad line why.Host real = absurd (real refl)
