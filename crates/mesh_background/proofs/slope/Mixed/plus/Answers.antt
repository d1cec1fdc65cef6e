use Rattle.mesh_background.proofs.Slopes.{sum-below, sum-above}
use Rattle.mesh_background.proofs.slope.Mixed.plus.Goals as goal

pub returns-then-rest-parts-clause-sum : goal.returns-then-rest-parts-clause-sum
returns-then-rest-parts-clause-sum c =
    sum-below c.args.parts c.args.self.rest c.args.step.rest c.args.self.floor c.args.step.floor c.requires.level c.requires.step

pub returns-else-rest-parts-clause-sum : goal.returns-else-rest-parts-clause-sum
returns-else-rest-parts-clause-sum c =
    sum-above c.args.parts c.args.self.rest c.args.step.rest c.args.self.floor c.args.step.floor c.requires.level c.requires.step c.if-rest-parts.false
