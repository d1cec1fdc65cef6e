use Rattle.std.proofs.Common.{rules, []}
use Rattle.strip_crew.proofs.Keeping.{gives_allowed}
use Rattle.strip_crew.proofs.claiming.give.Goals as goal

pub fetch_add-requires : goal.fetch_add-requires
fetch_add-requires c = let t = c.requires.held in
    (c.requires.table, search rules, gives_allowed _ _ _ _ _ t.0 [] t.1 c.requires.open c.requires.hand t.2.0 t.2.1)
