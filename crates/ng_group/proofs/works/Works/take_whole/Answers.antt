use Rattle.ng_group.proofs.TakingLemmas.{all_only, all_takes, all_works, back_only, back_takes, own_few, own_slot, read_avail, read_bare, read_class, read_freed, read_group, read_last, read_plain, read_served, read_works}
use Rattle.ng_group.proofs.works.Works.take_whole.Goals as goal

pub may_end-requires-clause-working : goal.may_end-requires-clause-working
may_end-requires-clause-working g c = read_works g.N.Name.facts.start g.M.Mapper.span g.M.Mapper.runs g.M.Mapper.refused c.args.self.now _ c.self.view_is c.requires.working c.args.meta c.args.index c.args.group.now c.requires.slot c.requires.group c.read_masks-masks.new.seat c.read_masks-masks.result.0 c.read_masks-masks.result.1 c.read_masks-masks.ensures

pub may_end-requires-clause-group : goal.may_end-requires-clause-group
may_end-requires-clause-group g c = read_group g.N.Name.facts.start g.M.Mapper.span g.M.Mapper.runs g.M.Mapper.refused c.args.self.now _ c.self.view_is c.requires.working c.args.meta c.args.index c.args.group.now c.requires.slot c.requires.group c.read_masks-masks.new.seat c.read_masks-masks.result.0 c.read_masks-masks.result.1 c.read_masks-masks.ensures

pub may_end-requires-clause-index : goal.may_end-requires-clause-index
may_end-requires-clause-index g c = own_slot g.N.Name.facts.start g.M.Mapper.span g.M.Mapper.runs g.M.Mapper.refused c.args.self.now _ c.self.view_is c.requires.working c.args.meta c.args.index c.args.group.now c.requires.slot c.requires.group

pub may_end-requires-clause-avail : goal.may_end-requires-clause-avail
may_end-requires-clause-avail g c = read_avail g.N.Name.facts.start g.M.Mapper.span g.M.Mapper.runs g.M.Mapper.refused c.args.self.now _ c.self.view_is c.requires.working c.args.meta c.args.index c.args.group.now c.requires.slot c.requires.group c.read_masks-masks.new.seat c.read_masks-masks.result.0 c.read_masks-masks.result.1 c.read_masks-masks.ensures

pub may_end-requires-clause-freed : goal.may_end-requires-clause-freed
may_end-requires-clause-freed g c = read_freed g.N.Name.facts.start g.M.Mapper.span g.M.Mapper.runs g.M.Mapper.refused c.args.self.now _ c.self.view_is c.requires.working c.args.meta c.args.index c.args.group.now c.requires.slot c.requires.group c.read_masks-masks.new.seat c.read_masks-masks.result.0 c.read_masks-masks.result.1 c.read_masks-masks.ensures

pub put_back-requires-clause-working : goal.put_back-requires-clause-working
put_back-requires-clause-working g c = read_works g.N.Name.facts.start g.M.Mapper.span g.M.Mapper.runs g.M.Mapper.refused c.args.self.now _ c.self.view_is c.requires.working c.args.meta c.args.index c.args.group.now c.requires.slot c.requires.group c.read_masks-masks.new.seat c.read_masks-masks.result.0 c.read_masks-masks.result.1 c.read_masks-masks.ensures

pub put_back-requires-clause-class : goal.put_back-requires-clause-class
put_back-requires-clause-class g c = read_class g.N.Name.facts.start g.M.Mapper.span g.M.Mapper.runs g.M.Mapper.refused c.args.self.now _ c.self.view_is c.requires.working c.args.meta c.args.index c.args.group.now c.requires.slot c.requires.group c.read_masks-masks.new.seat c.read_masks-masks.result.0 c.read_masks-masks.result.1 c.read_masks-masks.ensures

pub put_back-requires-clause-plain : goal.put_back-requires-clause-plain
put_back-requires-clause-plain g c = read_plain g.N.Name.facts.start g.M.Mapper.span g.M.Mapper.runs g.M.Mapper.refused c.args.self.now _ c.self.view_is c.requires.working c.args.meta c.args.index c.args.group.now c.requires.slot c.requires.group c.read_masks-masks.new.seat c.read_masks-masks.result.0 c.read_masks-masks.result.1 c.read_masks-masks.ensures (g.P.Rules.keep_gives c.self.inside.rules) (c.may_end.ensures.stays c.if-not-may_end.true)

pub put_back-requires-clause-bare : goal.put_back-requires-clause-bare
put_back-requires-clause-bare g c = read_bare g.N.Name.facts.start g.M.Mapper.span g.M.Mapper.runs g.M.Mapper.refused c.args.self.now _ c.self.view_is c.requires.working c.args.meta c.args.index c.args.group.now c.requires.slot c.requires.group c.read_masks-masks.new.seat c.read_masks-masks.result.0 c.read_masks-masks.result.1 c.read_masks-masks.ensures

pub returns-then-not-may_end-clause-only : goal.returns-then-not-may_end-clause-only
returns-then-not-may_end-clause-only g c = back_only g.N.Name.facts.start g.M.Mapper.span g.M.Mapper.runs g.M.Mapper.refused c.args.self.now _ c.self.view_is c.requires.working c.args.meta c.args.index c.args.group.now c.requires.slot c.requires.group c.read_masks-masks.new.seat c.read_masks-masks.result.0 c.read_masks-masks.result.1 c.read_masks-masks.ensures c.put_back.new.self c.put_back.ensures.only

pub returns-then-not-may_end-clause-takes : goal.returns-then-not-may_end-clause-takes
returns-then-not-may_end-clause-takes g c = back_takes g.N.Name.facts.start g.M.Mapper.span g.M.Mapper.runs g.M.Mapper.refused c.args.self.now _ c.self.view_is c.requires.working c.args.meta c.args.index c.args.group.now c.requires.slot c.requires.group c.read_masks-masks.new.seat c.read_masks-masks.result.0 c.read_masks-masks.result.1 c.read_masks-masks.ensures g.P.Rules.keep_gives c.put_back.new.self c.put_back.ensures.back (c.may_end.ensures.stays c.if-not-may_end.true)

pub capture_all-requires-clause-few : goal.capture_all-requires-clause-few
capture_all-requires-clause-few g c = own_few g.N.Name.facts.start g.M.Mapper.span g.M.Mapper.runs g.M.Mapper.refused c.args.self.now _ c.self.view_is c.requires.working c.args.meta c.args.index c.args.group.now c.requires.slot c.requires.group

pub capture_all-requires-clause-last : goal.capture_all-requires-clause-last
capture_all-requires-clause-last g c = read_last g.N.Name.facts.start g.M.Mapper.span g.M.Mapper.runs g.M.Mapper.refused c.args.self.now _ c.self.view_is c.requires.working c.args.meta c.args.index c.args.group.now c.requires.slot c.requires.group c.read_masks-masks.new.seat c.read_masks-masks.result.0 c.read_masks-masks.result.1 c.read_masks-masks.ensures

pub capture_all-requires-clause-served : goal.capture_all-requires-clause-served
capture_all-requires-clause-served g c = read_served g.N.Name.facts.start g.M.Mapper.span g.M.Mapper.runs g.M.Mapper.refused c.args.self.now _ c.self.view_is c.requires.working c.args.meta c.args.index c.args.group.now c.requires.slot c.requires.group c.read_masks-masks.new.seat c.read_masks-masks.result.0 c.read_masks-masks.result.1 c.read_masks-masks.ensures (c.may_end.ensures.fills c.if-not-may_end.false)

pub returns-clause-working : goal.returns-clause-working
returns-clause-working g c = all_works g.N.Name.facts.start g.M.Mapper.span g.M.Mapper.runs g.M.Mapper.refused c.args.self.now _ c.self.view_is c.requires.working c.args.meta c.args.index c.args.group.now c.requires.slot c.requires.group c.read_masks-masks.new.seat c.read_masks-masks.result.0 c.read_masks-masks.result.1 c.read_masks-masks.ensures c.capture_all.new.seat c.capture_all.ensures.searches

pub returns-clause-only : goal.returns-clause-only
returns-clause-only g c = all_only g.N.Name.facts.start g.M.Mapper.span g.M.Mapper.runs g.M.Mapper.refused c.args.self.now _ c.self.view_is c.requires.working c.args.meta c.args.index c.args.group.now c.requires.slot c.requires.group c.read_masks-masks.new.seat c.read_masks-masks.result.0 c.read_masks-masks.result.1 c.read_masks-masks.ensures c.capture_all.new.seat c.capture_all.ensures.searches

pub returns-clause-takes : goal.returns-clause-takes
returns-clause-takes g c = all_takes g.N.Name.facts.start g.M.Mapper.span g.M.Mapper.runs g.M.Mapper.refused c.args.self.now _ c.self.view_is c.requires.working c.args.meta c.args.index c.args.group.now c.requires.slot c.requires.group c.read_masks-masks.new.seat c.read_masks-masks.result.0 c.read_masks-masks.result.1 c.read_masks-masks.ensures g.P.Rules.keep_gives c.capture_all.new.seat c.capture_all.result (c.may_end.ensures.fills c.if-not-may_end.false) (c.may_end.ensures.goes c.if-not-may_end.false) c.capture_all.ensures.captured
