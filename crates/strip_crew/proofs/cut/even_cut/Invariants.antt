use Rattle.std.proofs.Common.{◌≡◌, ◌≤◌, vec_len, vec_capacity}
use Rattle.strip_crew.specs.Run.{rows_of_cut}
use Rattle.strip_crew.proofs.cut.even_cut.Given as goal

abbrev pub invariant-loop-i : goal.invariant-loop-i
invariant-loop-i l =
    (l.cut.items ≡ rows_of_cut l.fn.height l.count l.i)
    × (vec_len l.cut ≡ l.i)
    × (l.count ≤ vec_capacity l.cut)
