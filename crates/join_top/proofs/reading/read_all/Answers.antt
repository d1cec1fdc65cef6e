use Rattle.std.proofs.Common.{List, ℕ, subst, sym}
use Rattle.join_top.specs.AllBytes.{HasCollected}
use Rattle.join_top.proofs.Collecting.{nothing_collected}
use Rattle.join_top.proofs.reading.read_all.Goals as goal

pub returns-in-Ok-read_on-clause-told : goal.returns-in-Ok-read_on-clause-told
returns-in-Ok-read_on-clause-told g c = λ x told.
    c.in-Ok-read_on.ensures.told x
    (subst (λ (l : List ℕ). HasCollected x (g.S.Source.left c.args.src.now) l) (sym c.new-all.ensures.items) (nothing_collected x _ told))
