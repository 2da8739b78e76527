-- The transcript's text: a line for each answer.
use Rattle.std.specs.Prelude.{ℕ, List, ◌++◌, codes, flat_map}
use Rattle.std.specs.Fmt.{decimal}
use Rattle.ng_check.specs.declared.fault.PointerFault.{PointerFault}
use Rattle.ng_check.specs.declared.fault.PointerFault.TheVariants as pointer
use Rattle.ng_frame.specs.declared.damage.Damage.{Damage}
use Rattle.ng_frame.specs.declared.damage.Damage.TheVariants as damage
use Rattle.ng_terms.specs.Reports.{hex}
use Rattle.ng_drill.specs.declared.answer.Answer.{Answer}
use Rattle.ng_drill.specs.declared.answer.Answer.TheVariants as answer
use Rattle.ng_drill.specs.declared.answer.AtFault.{AtFault}
use Rattle.ng_drill.specs.declared.answer.AtFault.TheVariants.{Bad, NotHeld}
use Rattle.ng_drill.specs.declared.answer.Freed.{Freed}
use Rattle.ng_drill.specs.declared.answer.Freed.TheVariants as freed
use Rattle.ng_drill.specs.declared.answer.Malloced.{Malloced}
use Rattle.ng_drill.specs.declared.answer.Malloced.TheVariants.{Given, NoMemory, TooLarge}
use Rattle.ng_drill.specs.declared.answer.Measured.{Measured}
use Rattle.ng_drill.specs.declared.answer.Measured.TheVariants as measured
use Rattle.ng_drill.specs.declared.answer.Written.{Written}
use Rattle.ng_drill.specs.declared.answer.Written.TheVariants as written

-- the address, or the name of the refusal
abbrev pub malloced_text : Malloced → List ℕ
malloced_text (Given at) = hex at
malloced_text (NoMemory excuse) = codes "NoMemory " ++ decimal excuse
malloced_text TooLarge = codes "TooLarge"

-- the name of a failed check
abbrev pub pointer_text : PointerFault → List ℕ
pointer_text pointer.Misaligned = codes "Misaligned"
pointer_text pointer.Outside = codes "Outside"
pointer_text pointer.BadWide = codes "BadWide"
pointer_text pointer.NotGroup = codes "NotGroup"
pointer_text pointer.BadIndex = codes "BadIndex"
pointer_text pointer.Available = codes "Available"
pointer_text pointer.Freed = codes "Freed"
pointer_text pointer.BadSecret = codes "BadSecret"
pointer_text pointer.BadOffset = codes "BadOffset"
pointer_text pointer.BadClass = codes "BadClass"
pointer_text pointer.BadMaplen = codes "BadMaplen"
pointer_text pointer.BadReserved = codes "BadReserved"
pointer_text pointer.Overrun = codes "Overrun"
pointer_text pointer.EndByte = codes "EndByte"

-- a fault's name
abbrev pub fault_text : AtFault → List ℕ
fault_text (Bad fault) = pointer_text fault
fault_text NotHeld = codes "NotHeld"

abbrev pub freed_text : Freed → List ℕ
freed_text freed.Done = codes "ok"
freed_text (freed.Refused fault) = fault_text fault
freed_text freed.Absent = codes "none"

abbrev pub written_text : Written → List ℕ
written_text written.Done = codes "ok"
written_text written.Range = codes "Range"
written_text written.Absent = codes "none"

-- a damage's name
abbrev pub damage_text : Damage → List ℕ
damage_text damage.BadReserved = codes "BadReserved"
damage_text damage.Overrun = codes "Overrun"

-- the length, or the damage's name
abbrev pub measured_text : Measured → List ℕ
measured_text (measured.Bytes len) = hex len
measured_text (measured.Damaged found) = damage_text found
measured_text measured.Absent = codes "none"

-- the command's letter, and what came of it
abbrev pub line_of : Answer → List ℕ
line_of (answer.Malloc made) = codes "m " ++ malloced_text made ++ codes "\n"
line_of (answer.Free done) = codes "f " ++ freed_text done ++ codes "\n"
line_of (answer.Write done) = codes "w " ++ written_text done ++ codes "\n"
line_of (answer.Usable size) = codes "u " ++ measured_text size ++ codes "\n"

-- the lines of the answers, in order
abbrev pub transcript : List Answer → List ℕ
transcript answers = flat_map line_of answers
