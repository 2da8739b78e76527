-- Statuses: their numbers and the lines that the program prints for them.
use Rattle.std.specs.Prelude.{ℕ, List, [], ◌++◌, codes}
use Rattle.std.specs.Fmt.{decimal}
use Rattle.ng_words.specs.declared.status.Status.{Status}
use Rattle.ng_words.specs.declared.status.Status.TheVariants.{Done, Usage, ReadFault, BadLine, Limit, NoLog, WriteFault, Host}

-- the exit status
abbrev pub number_of : Status → ℕ
number_of Done = 0
number_of Usage = 2
number_of ReadFault = 3
number_of (BadLine line) = 4
number_of (Limit line) = 5
number_of NoLog = 6
number_of WriteFault = 7
number_of Host = 8

-- the line with its line feed, and nothing where all went well
abbrev pub line_of : Status → List ℕ
line_of Done = []
line_of Usage = codes "mng: usage\n"
line_of ReadFault = codes "mng: read fault\n"
line_of (BadLine line) = codes "mng: line " ++ decimal line ++ codes ": not a log line\n"
line_of (Limit line) = codes "mng: line " ++ decimal line ++ codes ": limit\n"
line_of NoLog = codes "mng: no log\n"
line_of WriteFault = codes "mng: write fault\n"
line_of Host = codes "mng: no host memory\n"
