use Rattle.std.proofs.Common.{ap, sym, ◌∙◌}
use Rattle.std.specs.Option.{option_map}
use Rattle.ng_check.specs.Queries as query
use Rattle.ng_check.specs.Readings.{bounds_in}
use Rattle.ng_check.specs.declared.ending.Bounds.{Bounds}
use Rattle.ng_check.proofs.Ends.{end_by, end_is, end_with, no_base, no_fields, no_index}
use Rattle.ng_check.proofs.seeing.end.Goals as goal

pub returns-in_err-base-clause-value : goal.returns-in_err-base-clause-value
returns-in_err-base-clause-value g c =
    let q = c.args.reader.now in
    c.from_residual.ensures ∙ sym (end_is q ∙ (λ k. end_with q.pages ((sym c.base.ensures.value ∙ c.in_err-base.was) k) (query.fields q) (query.index q)) ∙ no_base q.pages (query.fields q) (query.index q))

pub returns-in_err-fields-clause-value : goal.returns-in_err-fields-clause-value
returns-in_err-fields-clause-value g c =
    let q = c.args.reader.now in
    c.from_residual-in_err-fields.ensures ∙ sym (end_is q ∙ (λ k. end_with q.pages ((sym c.base.ensures.value ∙ c.in_ok-base.was) k) ((sym c.fields.ensures.value ∙ c.in_err-fields.was) k) (query.index q)) ∙ no_fields q.pages c.in_ok-base.base (query.index q))

pub returns-in_err-index-clause-value : goal.returns-in_err-index-clause-value
returns-in_err-index-clause-value g c =
    let q = c.args.reader.now in
    c.from_residual-in_err-index.ensures ∙ sym (end_is q ∙ (λ k. end_with q.pages ((sym c.base.ensures.value ∙ c.in_ok-base.was) k) ((sym c.fields.ensures.value ∙ c.in_ok-fields.was) k) ((sym c.index.ensures.value ∙ c.in_err-index.was) k)) ∙ no_index q.pages c.in_ok-base.base c.in_ok-fields.fields)

pub returns-in_err-bounds-clause-value : goal.returns-in_err-bounds-clause-value
returns-in_err-bounds-clause-value g c =
    let q = c.args.reader.now in
    let found = ap (λ p. bounds_in p c.in_ok-base.base c.in_ok-index.index c.in_ok-fields.fields) (sym c.pages.ensures.pages) ∙ sym c.bounds_of.ensures ∙ c.in_err-bounds.was in
    c.from_residual-in_err-bounds.ensures ∙ sym (end_is q ∙ (λ k. end_with q.pages ((sym c.base.ensures.value ∙ c.in_ok-base.was) k) ((sym c.fields.ensures.value ∙ c.in_ok-fields.was) k) ((sym c.index.ensures.value ∙ c.in_ok-index.was) k)) ∙ end_by q.pages c.in_ok-base.base c.in_ok-index.index c.in_ok-fields.fields ∙ ap (option_map (λ (x : Bounds). x.end)) found)

pub returns-clause-value : goal.returns-clause-value
returns-clause-value g c =
    let q = c.args.reader.now in
    let found = ap (λ p. bounds_in p c.in_ok-base.base c.in_ok-index.index c.in_ok-fields.fields) (sym c.pages.ensures.pages) ∙ sym c.bounds_of.ensures ∙ c.in_ok-bounds.was in
    sym (end_is q ∙ (λ k. end_with q.pages ((sym c.base.ensures.value ∙ c.in_ok-base.was) k) ((sym c.fields.ensures.value ∙ c.in_ok-fields.was) k) ((sym c.index.ensures.value ∙ c.in_ok-index.was) k)) ∙ end_by q.pages c.in_ok-base.base c.in_ok-index.index c.in_ok-fields.fields ∙ ap (option_map (λ (x : Bounds). x.end)) found)
