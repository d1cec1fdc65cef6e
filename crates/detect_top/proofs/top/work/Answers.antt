use Rattle.detect_top.proofs.top.work.Goals as goal

pub returns-in-Ok-clause-bytes : goal.returns-in-Ok-clause-bytes
returns-in-Ok-clause-bytes g c = rw c.in-Ok.is c.carry_out.ensures.bytes
