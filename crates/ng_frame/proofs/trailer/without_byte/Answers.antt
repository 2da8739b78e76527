use Rattle.ng_frame.proofs.Bytes.{without_others, without_zero}
use Rattle.ng_frame.proofs.trailer.without_byte.Goals as goal

pub returns-clause-zero : goal.returns-clause-zero
returns-clause-zero c = without_zero c.args.cell c.args.place c.requires.place

pub returns-clause-others : goal.returns-clause-others
returns-clause-others c = λ b lt ne. without_others c.args.cell c.args.place b c.requires.place lt ne
