use Rattle.ng_tool.proofs.fresh.Fresh.for_plan.Goals as goal

pub returns-clause-rooms : goal.returns-clause-rooms
returns-clause-rooms g c =
    rw (← c.as_slice.ensures) (rw (← c.in-Ok.ensures) (rw (← c.as_slice-2.ensures.value) c.over.ensures.rooms))
