-- The fault of a line, and the first fault of all.
use Rattle.std.proofs.Common.{◌≡◌, ℕ, ◌+◌, Bool, true, false, List, [], ◌∷◌, ◌++◌, length, Option, Some, None, refl, ap, ◌∙◌, ◌&&◌, cond, leb}
use Rattle.std.specs.Option.{option_or, option_map}
use Rattle.std.specs.List.{count_by}
use Rattle.std.proofs.lemmas.List.{length-append}
use Rattle.std.proofs.lemmas.List.Sums.{sum_by-append, fold-append}
use Rattle.ng_mtrace.specs.Text.{parts_of}
use Rattle.ng_mtrace.specs.Kinds.{kind_of, is_start, is_bad}
use Rattle.ng_mtrace.specs.Faults.{is_beyond, open_then, is_open, line_fault, first_fault_behind}
use Rattle.ng_mtrace.specs.OpenSections.{one_if, kind_fault}
use Rattle.ng_mtrace.specs.PartRead.{fault_at, faults_from}
use Rattle.ng_mtrace.specs.declared.kind.Kind.{Kind}
use Rattle.ng_mtrace.specs.declared.log_fault.LogFault.{LogFault}
use Rattle.ng_mtrace.specs.declared.log_fault.LogFault.TheVariants.{BadLine, Limit, Host}
use Rattle.ng_mtrace.specs.declared.sections.KindFault.{KindFault}
use Rattle.ng_mtrace.specs.declared.sections.KindFault.TheVariants as fault
use Rattle.ng_mtrace.proofs.LineParts.{HasFirst, first_part}

fault_by : (many bad : Bool) (line : ℕ)
    → cond many (Some (Limit line)) (cond bad (Some (BadLine line)) None)
    ≡ option_map (fault_at line) (cond many (Some fault.TooMany) (cond bad (Some fault.Bad) None))
fault_by true bad line = refl
fault_by false true line = refl
fault_by false false line = refl

-- a line within the limits has the fault of its kind
pub line_fault-kind : (lines sections : ℕ) (inside : Bool) (line : List ℕ) → is_beyond (lines + 1) line ≡ false
    → line_fault lines sections inside line ≡ option_map (fault_at (lines + 1)) (kind_fault sections inside (kind_of line))
line_fault-kind lines sections inside line within =
    rw within (fault_by (is_start (kind_of line) && leb 16 sections) (inside && is_bad (kind_of line)) (lines + 1))

-- the first fault, where a whole line has none
pub fine_fed : (lines more sections grown : ℕ) (inside after : Bool) (line fresh rest : List ℕ) → fresh ≡ []
    → more ≡ lines + 1 → grown ≡ sections + one_if (is_start (kind_of line)) → after ≡ open_then inside (kind_of line)
    → is_beyond (lines + 1) line ≡ false → kind_fault sections inside (kind_of line) ≡ None
    → faults_from more grown after (parts_of (fresh ++ rest)) ≡ faults_from lines sections inside (line ∷ parts_of rest)
fine_fed lines more sections grown inside after line fresh rest empty next count now within fine =
    let found : HasFirst (parts_of rest) = first_part rest in
    let none : line_fault lines sections inside line ≡ None = line_fault-kind lines sections inside line within ∙ ap (option_map (fault_at (lines + 1))) fine in
    rw empty (rw (next, count, now) (rw found.is (rw none refl)))

-- the first fault, where a whole line has one
pub faulty_fed : (lines sections : ℕ) (inside : Bool) (line rest : List ℕ) (why : KindFault)
    → is_beyond (lines + 1) line ≡ false → kind_fault sections inside (kind_of line) ≡ Some why
    → faults_from lines sections inside (line ∷ parts_of rest) ≡ Some (fault_at (lines + 1) why)
faulty_fed lines sections inside line rest why within faulty =
    let found : HasFirst (parts_of rest) = first_part rest in
    let some : line_fault lines sections inside line ≡ Some (fault_at (lines + 1) why) = line_fault-kind lines sections inside line within ∙ ap (option_map (fault_at (lines + 1))) faulty in
    rw found.is (rw some refl)

-- a line that fails for another cause than memory has a fault of its kind
pub other_cause : (line : ℕ) (why : KindFault) → (fault_at line why ≡ Host → ⊥) → why ≡ fault.Host → ⊥
other_cause line why real host = real (ap (fault_at line) host)

cond_one : (b : Bool) → 0 + cond {A = ℕ} b 1 0 ≡ one_if b
cond_one true = refl
cond_one false = refl

count_by-push : (before : List Kind) (kind : Kind) → count_by is_start (before ++ kind ∷ []) ≡ count_by is_start before + one_if (is_start kind)
count_by-push before kind =
    sum_by-append (λ (k : Kind). cond {A = ℕ} (is_start k) 1 0) before (kind ∷ []) ∙ ap (λ (n : ℕ). count_by is_start before + n) (cond_one (is_start kind))

is_open-push : (before : List Kind) (kind : Kind) → is_open (before ++ kind ∷ []) ≡ open_then (is_open before) kind
is_open-push before kind = fold-append open_then false before (kind ∷ [])

-- as the counts of the lines read, so the lines themselves
pub faults_from-behind : (before : List Kind) (parts : List (List ℕ))
    → faults_from (length before) (count_by is_start before) (is_open before) parts ≡ first_fault_behind before parts
faults_from-behind before [] = refl
faults_from-behind before (cut ∷ []) = refl
faults_from-behind before (line ∷ next ∷ parts) =
    let kind : Kind = kind_of line in
    let lines : length (before ++ kind ∷ []) ≡ length before + 1 = length-append before (kind ∷ []) in
    let sections : count_by is_start (before ++ kind ∷ []) ≡ count_by is_start before + one_if (is_start kind) = count_by-push before kind in
    let inside : is_open (before ++ kind ∷ []) ≡ open_then (is_open before) kind = is_open-push before kind in
    let rest : faults_from (length before + 1) (count_by is_start before + one_if (is_start kind)) (open_then (is_open before) kind) (next ∷ parts) ≡ first_fault_behind (before ++ kind ∷ []) (next ∷ parts) =
    rw (← lines, ← sections, ← inside) (faults_from-behind (before ++ kind ∷ []) (next ∷ parts)) in
    ap (λ (later : Option LogFault). option_or (line_fault (length before) (count_by is_start before) (is_open before) line) later) rest
