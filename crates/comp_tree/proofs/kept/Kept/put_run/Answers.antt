use Rattle.comp_tree.proofs.kept.Kept.put_run.Goals as goal

pub shorten-requires-clause-within : goal.shorten-requires-clause-within
shorten-requires-clause-within c = rw c.in-Short.is at c.requires.room
