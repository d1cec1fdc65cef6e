use Rattle.std.proofs.Common.{rules}
use Rattle.strip_crew.proofs.Keeping.{claims_allowed}
use Rattle.strip_crew.proofs.claiming.claim.Goals as goal

pub fetch_add-requires : goal.fetch_add-requires
fetch_add-requires c = (c.requires.table, search rules, claims_allowed _ _ _ _ c.requires.may.0 c.requires.may.1 c.requires.may.2)
