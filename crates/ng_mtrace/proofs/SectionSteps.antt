-- One more line, and the logs that come of all.
use Rattle.std.proofs.Common.{◌≡◌, ℕ, Bool, true, false, List, [], ◌∷◌, ◌++◌, Option, Some, None, map, refl, sym, ap, ◌∙◌, append_assoc, ◌+◌, add-zero}
use Rattle.std.proofs.lemmas.List.{append-nil}
use Rattle.ng_mtrace.specs.Faults.{open_then}
use Rattle.ng_mtrace.specs.Kinds.{is_start}
use Rattle.ng_mtrace.specs.OpenSections.{kind_fault, one_if, is_inner, given, old_then, after_old, logs_with}
use Rattle.ng_mtrace.specs.Sections.{entries_of, log_of, section_of, sections_of}
use Rattle.ng_mtrace.specs.declared.kind.Kind.{Kind}
use Rattle.ng_mtrace.specs.declared.kind.Kind.TheVariants.{Start, Stop, Blank, End, Old, Make, New, Failed, Bad}
use Rattle.ng_mtrace.specs.declared.log.Line.{Line}
use Rattle.ng_mtrace.specs.declared.log.Log.{Log}

nothing_left : (pending : Option ℕ) → entries_of (after_old pending []) ≡ []
nothing_left None = refl
nothing_left (Some old) = refl

ended : (entries : List Line) (pending : Option ℕ) → entries ++ entries_of (after_old pending []) ≡ entries
ended entries pending = ap (λ (more : List Line). entries ++ more) (nothing_left pending) ∙ append-nil entries

-- the mark of an end closes the open section
close_stop : (done : List Log) (entries : List Line) (pending : Option ℕ) (kinds : List Kind)
    → logs_with (done ++ record { lines = entries } ∷ []) false [] None kinds ≡ logs_with done true entries pending (Stop ∷ kinds)
unfolding logs_with
close_stop done entries pending kinds = rw (ended entries pending) (rw (append-nil (done ++ record { lines = entries } ∷ [])) refl)

-- so does the mark of a start
close_start : (done : List Log) (entries : List Line) (pending : Option ℕ) (kinds : List Kind)
    → logs_with (done ++ record { lines = entries } ∷ []) false [] None (Start ∷ kinds) ≡ logs_with done true entries pending (Start ∷ kinds)
unfolding logs_with
close_start done entries pending kinds = rw (ended entries pending) (rw (append-nil (done ++ record { lines = entries } ∷ [])) refl)

-- a section begins
begun : (done : List Log) (entries : List Line) (pending : Option ℕ) (kinds : List Kind)
    → logs_with done true [] None kinds ≡ logs_with done false entries pending (Start ∷ kinds)
unfolding logs_with
begun done entries pending kinds = rw (append-nil done) (append_assoc done (log_of (section_of kinds) ∷ []) (map log_of (sections_of kinds)))

-- outside a section each other line is passed over
passed : (done : List Log) (entries : List Line) (pending : Option ℕ) (kind : Kind) (kinds : List Kind) → is_start kind ≡ false
    → logs_with done false entries pending kinds ≡ logs_with done false entries pending (kind ∷ kinds)
unfolding logs_with
passed done entries pending Start kinds other = cc
passed done entries pending Stop kinds other = refl
passed done entries pending Blank kinds other = refl
passed done entries pending (End name) kinds other = refl
passed done entries pending (Old name) kinds other = refl
passed done entries pending (Make name size) kinds other = refl
passed done entries pending (New name size) kinds other = refl
passed done entries pending Failed kinds other = refl
passed done entries pending Bad kinds other = refl

-- what a line gives comes first
given_first : (pending : Option ℕ) (kind : Kind) (kinds : List Kind)
    → entries_of (after_old pending (kind ∷ kinds)) ≡ given pending kind ++ entries_of (after_old (old_then kind) kinds)
given_first None Start kinds = refl
given_first None Stop kinds = refl
given_first None Blank kinds = refl
given_first None (End name) kinds = refl
given_first None (Old name) kinds = refl
given_first None (Make name size) kinds = refl
given_first None (New name size) kinds = refl
given_first None Failed kinds = refl
given_first None Bad kinds = refl
given_first (Some old) Start kinds = refl
given_first (Some old) Stop kinds = refl
given_first (Some old) Blank kinds = refl
given_first (Some old) (End name) kinds = refl
given_first (Some old) (Old name) kinds = refl
given_first (Some old) (Make name size) kinds = refl
given_first (Some old) (New name size) kinds = refl
given_first (Some old) Failed kinds = refl
given_first (Some old) Bad kinds = refl

inner_first : (kind : Kind) (kinds : List Kind) → is_inner kind ≡ true → section_of (kind ∷ kinds) ≡ kind ∷ section_of kinds
inner_first Start kinds inner = cc
inner_first Stop kinds inner = cc
inner_first Blank kinds inner = refl
inner_first (End name) kinds inner = refl
inner_first (Old name) kinds inner = refl
inner_first (Make name size) kinds inner = refl
inner_first (New name size) kinds inner = refl
inner_first Failed kinds inner = refl
inner_first Bad kinds inner = refl

inner_later : (kind : Kind) (kinds : List Kind) → is_inner kind ≡ true → sections_of (kind ∷ kinds) ≡ sections_of kinds
inner_later Start kinds inner = cc
inner_later Stop kinds inner = refl
inner_later Blank kinds inner = refl
inner_later (End name) kinds inner = refl
inner_later (Old name) kinds inner = refl
inner_later (Make name size) kinds inner = refl
inner_later (New name size) kinds inner = refl
inner_later Failed kinds inner = refl
inner_later Bad kinds inner = refl

-- a line of the open section is added
added : (done : List Log) (entries : List Line) (pending : Option ℕ) (kind : Kind) (kinds : List Kind) → is_inner kind ≡ true
    → logs_with done true (entries ++ given pending kind) (old_then kind) kinds ≡ logs_with done true entries pending (kind ∷ kinds)
unfolding logs_with
added done entries pending kind kinds inner =
    let g : List Line = given pending kind in
    let more : List Line = entries_of (after_old (old_then kind) (section_of kinds)) in
    let first : entries_of (after_old pending (section_of (kind ∷ kinds))) ≡ g ++ more = ap (λ (ks : List Kind). entries_of (after_old pending ks)) (inner_first kind kinds inner) ∙ given_first pending kind (section_of kinds) in
    let whole : (entries ++ g) ++ more ≡ entries ++ entries_of (after_old pending (section_of (kind ∷ kinds))) = append_assoc entries g more ∙ ap (λ (ls : List Line). entries ++ ls) (sym first) in
    let later : map log_of (sections_of kinds) ≡ map log_of (sections_of (kind ∷ kinds)) = ap (λ (ks : List (List Kind)). map log_of ks) (sym (inner_later kind kinds inner)) in
    rw whole (ap (λ (rest : List Log). (done ++ record { lines = entries ++ entries_of (after_old pending (section_of (kind ∷ kinds))) } ∷ []) ++ rest) later)

-- the same, as the code has it
pub added_to : (done : List Log) (active : Bool) (entries more : List Line) (pending next : Option ℕ) (kind : Kind) (kinds : List Kind)
    → active ≡ true → is_inner kind ≡ true → more ≡ entries ++ given pending kind → next ≡ old_then kind
    → logs_with done active more next kinds ≡ logs_with done active entries pending (kind ∷ kinds)
added_to done active entries more pending next kind kinds on inner grown then_next = rw on (rw grown (rw then_next (added done entries pending kind kinds inner)))

pub begun_from : (done : List Log) (active : Bool) (entries : List Line) (pending : Option ℕ) (kinds : List Kind)
    → active ≡ false → entries ≡ [] → pending ≡ None
    → logs_with done true entries pending kinds ≡ logs_with done active entries pending (Start ∷ kinds)
begun_from done active entries pending kinds off none idle = rw off (rw none (rw idle (begun done [] None kinds)))

-- the marks, as the code closes a section
pub full_stop : (done more : List Log) (active : Bool) (entries fresh : List Line) (pending : Option ℕ) (kinds : List Kind)
    → active ≡ true → more ≡ done ++ record { lines = entries } ∷ [] → fresh ≡ []
    → logs_with more false fresh None kinds ≡ logs_with done active entries pending (Stop ∷ kinds)
full_stop done more active entries fresh pending kinds on grown none = rw on (rw grown (rw none (close_stop done entries pending kinds)))

pub full_start : (done more : List Log) (active : Bool) (entries fresh : List Line) (pending : Option ℕ) (kinds : List Kind)
    → active ≡ true → more ≡ done ++ record { lines = entries } ∷ [] → fresh ≡ []
    → logs_with more false fresh None (Start ∷ kinds) ≡ logs_with done active entries pending (Start ∷ kinds)
full_start done more active entries fresh pending kinds on grown none = rw on (rw grown (rw none (close_start done entries pending kinds)))

pub idle_stop : (done : List Log) (active : Bool) (entries : List Line) (pending : Option ℕ) (kinds : List Kind) → active ≡ false
    → logs_with done active entries None kinds ≡ logs_with done active entries pending (Stop ∷ kinds)
unfolding logs_with
idle_stop done active entries pending kinds off = rw off refl

pub idle_same : (done : List Log) (active : Bool) (entries : List Line) (pending : Option ℕ) (kinds : List Kind) → active ≡ false
    → logs_with done active entries None kinds ≡ logs_with done active entries pending kinds
unfolding logs_with
idle_same done active entries pending kinds off = rw off refl

-- a line that begins no section
pub not_start : (kind : Kind) → (kind ≡ Start → ⊥) → is_start kind ≡ false
not_start Start other = absurd (other refl)
not_start Stop other = refl
not_start Blank other = refl
not_start (End name) other = refl
not_start (Old name) other = refl
not_start (Make name size) other = refl
not_start (New name size) other = refl
not_start Failed other = refl
not_start Bad other = refl

pub passed_at : (done : List Log) (active : Bool) (entries : List Line) (pending : Option ℕ) (kind : Kind) (kinds : List Kind)
    → active ≡ false → is_start kind ≡ false → logs_with done active entries pending kinds ≡ logs_with done active entries pending (kind ∷ kinds)
passed_at done active entries pending kind kinds off other = rw off (passed done entries pending kind kinds other)

pub still_open : (was : Bool) (kind : Kind) → (kind ≡ Start → ⊥) → (kind ≡ Stop → ⊥) → was ≡ open_then was kind
still_open was Start a b = absurd (a refl)
still_open was Stop a b = absurd (b refl)
still_open was Blank a b = refl
still_open was (End name) a b = refl
still_open was (Old name) a b = refl
still_open was (Make name size) a b = refl
still_open was (New name size) a b = refl
still_open was Failed a b = refl
still_open was Bad a b = refl

pub no_fault : (count : ℕ) (active : Bool) (kind : Kind) → active ≡ false → is_start kind ≡ false → kind_fault count active kind ≡ None
no_fault count active kind off other = rw off (rw other refl)

pub same_count : (n : ℕ) (kind : Kind) → is_start kind ≡ false → n ≡ n + one_if (is_start kind)
same_count n kind other = rw other (sym (add-zero n))

-- a mark of an end at the end of the text changes nothing
pub at_end : (done : List Log) (active : Bool) (entries : List Line) (pending : Option ℕ)
    → logs_with done active entries pending (Stop ∷ []) ≡ logs_with done active entries pending []
unfolding logs_with
at_end done true entries pending = refl
at_end done false entries pending = refl

pub only_done : (done : List Log) (active : Bool) (entries : List Line) (pending : Option ℕ) → active ≡ false
    → done ≡ logs_with done active entries pending []
unfolding logs_with
only_done done active entries pending off = rw off (sym (append-nil (done ++ []) ∙ append-nil done))
