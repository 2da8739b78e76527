use Rattle.ng_drill.proofs.steps.step.Goals as goal

pub returns-in-Malloc-clause-steps : goal.returns-in-Malloc-clause-steps
returns-in-Malloc-clause-steps g c = rw c.in-Malloc.is c.malloc.ensures.steps

pub returns-in-Free-clause-steps : goal.returns-in-Free-clause-steps
returns-in-Free-clause-steps g c = rw c.in-Free.is c.free.ensures.steps

pub returns-in-Write-clause-steps : goal.returns-in-Write-clause-steps
returns-in-Write-clause-steps g c = rw c.in-Write.is c.write.ensures.steps

pub returns-in-Usable-clause-steps : goal.returns-in-Usable-clause-steps
returns-in-Usable-clause-steps g c = rw c.in-Usable.is c.usable.ensures.steps
