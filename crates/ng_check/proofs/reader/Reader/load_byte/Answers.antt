use Rattle.std.proofs.Common.{◌%◌, ◌∙◌, ap, sym}
use Rattle.std.specs.Prelude.{Some}
use Rattle.std.specs.Option.{option_map}
use Rattle.ng_header.specs.Bytes.{byte_of}
use Rattle.ng_check.specs.Queries.{byte}
use Rattle.ng_check.proofs.reader.Reader.load_byte.Goals as goal

pub returns-clause-byte : goal.returns-clause-byte
unfolding byte
returns-clause-byte g c = ap (option_map (λ x. byte_of x (c.args.addr % 4))) c.load-cell.ensures.cell ∙ ap (λ b. Some b) (sym c.byte_in.ensures)
