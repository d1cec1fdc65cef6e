use Rattle.std.proofs.Common.{sym, subst}
use Rattle.strip_flood.specs.Flood.{AreSides}
use Rattle.strip_flood.proofs.Edges.{sides_four, sides_eight}
use Rattle.strip_flood.proofs.strip.sides_of.Goals as goal

pub returns-in-Four : goal.returns-in-Four
returns-in-Four c = subst (λ d. AreSides d 1 2 4 8) (sym c.in-Four.is) sides_four

pub returns-in-Eight : goal.returns-in-Eight
returns-in-Eight c = subst (λ d. AreSides d 7 41 148 224) (sym c.in-Eight.is) sides_eight
