use Rattle.ng_serve.proofs.Fields.{described, fields_reads, has_group, reads_fields}
use Rattle.ng_serve.proofs.group.read_group.Goals as goal

pub returns-clause-group : goal.returns-clause-group
returns-clause-group g c =
    described _ _ _ c.args.meta _ _ (has_group _ _ c.requires.live c.load_seat-base.ensures.slots) c.load_seat-base.ensures.view c.load_seat-flags.ensures.view c.load_seat-base.ensures.told c.load_seat-flags.ensures.told _ _ c.fields_of-fields.result c.mask_of.ensures c.tag_of.ensures c.fields_of-fields.ensures.fields

pub returns-clause-loads : goal.returns-clause-loads
returns-clause-loads g c = reads_fields _ _ _ c.args.meta _ _ (has_group _ _ c.requires.live c.load_seat-base.ensures.slots) c.load_seat-base.ensures.view c.load_seat-flags.ensures.view

pub returns-clause-reads : goal.returns-clause-reads
returns-clause-reads g c = fields_reads _ _ _ c.args.meta _ _ (has_group _ _ c.requires.live c.load_seat-base.ensures.slots) c.load_seat-base.ensures.view c.load_seat-flags.ensures.view
