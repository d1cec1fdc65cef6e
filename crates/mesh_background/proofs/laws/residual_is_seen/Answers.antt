use Rattle.mesh_background.proofs.Seeing.{background_is_seen, residual_is_seen, residual_is_shown, clear_is_told}
use Rattle.mesh_background.proofs.laws.residual_is_seen.Goals as goal

pub returns-clause-background : goal.returns-clause-background
returns-clause-background c = background_is_seen

pub returns-clause-residual : goal.returns-clause-residual
returns-clause-residual c = residual_is_seen

pub returns-clause-shown : goal.returns-clause-shown
returns-clause-shown c = residual_is_shown

pub returns-clause-told : goal.returns-clause-told
returns-clause-told c = clear_is_told
