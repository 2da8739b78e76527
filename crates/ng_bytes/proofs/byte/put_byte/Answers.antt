use Rattle.std.proofs.Common.{◌<◌, ap, sym, subst, ◌∙◌, arith}
use Rattle.ng_header.specs.Bytes.{byte_of}
use Rattle.ng_bytes.proofs.Bytes.{put_in, put_is, put_least, put_others, put_small, put_written}
use Rattle.ng_bytes.proofs.byte.put_byte.Goals as goal

pub overflow_mul-result-2 : goal.overflow_mul-result-2
overflow_mul-result-2 c =
    let low = put_least c.args.place c.from.result c.requires.place (subst (λ b. b < 256) (sym c.from.ensures) c.ranges.byte.fits) in
    omega (arith, low)

pub overflow_add-result : goal.overflow_add-result
overflow_add-result c =
    let low = put_small c.args.cell c.args.place c.from.result c.requires.place c.ranges.cell.fits (subst (λ b. b < 256) (sym c.from.ensures) c.ranges.byte.fits) in
    omega (arith, low)

pub returns-clause-value : goal.returns-clause-value
returns-clause-value c = ap (put_in c.args.cell c.args.place) c.from.ensures ∙ put_is c.args.cell c.args.place c.args.byte c.requires.place

pub returns-clause-written : goal.returns-clause-written
returns-clause-written c =
    ap (λ b. byte_of (put_in c.args.cell c.args.place b) c.args.place) c.from.ensures
    ∙ put_written c.args.cell c.args.place c.args.byte c.requires.place c.ranges.byte.fits

pub returns-clause-others : goal.returns-clause-others
returns-clause-others c = λ b lt ne.
    ap (λ x. byte_of (put_in c.args.cell c.args.place x) b) c.from.ensures
    ∙ put_others c.args.cell c.args.place c.args.byte b c.requires.place c.ranges.byte.fits lt ne
