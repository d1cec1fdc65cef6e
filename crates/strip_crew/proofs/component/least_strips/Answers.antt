use Rattle.std.proofs.Common.{ℕ, ◌+◌, ◌*◌, ◌/◌, ◌^◌, ◌<◌, ◌≤◌, mul_comm, subst, sym, arith}
use Rattle.std.proofs.lemmas.Grind.{div_ceil_times}
use Rattle.strip_crew.proofs.EvenCuts.{some_rows_fit, ceil_some, ceil_most}
use Rattle.strip_crew.proofs.component.least_strips.Goals as goal

pub returns : goal.returns
returns c =
    let limits = c.args.shape.within_limits in
    let rows : 0 < 2 ^ 24 / c.args.shape.width = some_rows_fit c.args.shape.width limits.some_columns limits.few_columns in
    let both = div_ceil_times c.args.shape.height (2 ^ 24 / c.args.shape.width) rows in
    let enough : c.args.shape.height ≤ c.div_ceil.result * (2 ^ 24 / c.args.shape.width) =
    subst (λ (n : ℕ). c.args.shape.height ≤ n * (2 ^ 24 / c.args.shape.width)) (sym c.div_ceil.ensures) both.0 in
    let less : c.div_ceil.result * (2 ^ 24 / c.args.shape.width) < c.args.shape.height + 2 ^ 24 / c.args.shape.width =
    subst (λ (n : ℕ). n * (2 ^ 24 / c.args.shape.width) < c.args.shape.height + 2 ^ 24 / c.args.shape.width) (sym c.div_ceil.ensures) both.1 in
    record {
      some = ceil_some c.args.shape.height (2 ^ 24 / c.args.shape.width) c.div_ceil.result limits.some_rows enough;
      most = omega (arith, ceil_most c.args.shape.height (2 ^ 24 / c.args.shape.width) c.div_ceil.result rows less, limits.few_rows);
      enough = omega (arith, enough, mul_comm c.div_ceil.result (2 ^ 24 / c.args.shape.width));
    }
