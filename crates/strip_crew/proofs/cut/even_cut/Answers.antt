use Rattle.std.proofs.Common.{◌≡◌, ℕ, ◌+◌, length, get_or, ◌*◌, ◌/◌, ◌<◌, ◌≤◌, ◌++◌, List, [], ◌∷◌, sym, ap, ◌∙◌, subst, arith, mul-le-mul_left}
use Rattle.tree_join.specs.Cuts.{IsCut}
use Rattle.strip_crew.specs.Run.{rows_of_cut}
use Rattle.strip_crew.proofs.EvenCuts.{rows_none, rows_more, even_is_cut, even_is_even}
use Rattle.strip_crew.proofs.cut.even_cut.Goals as goal

pub loop-i-init : goal.loop-i-init
loop-i-init c = (c.in_ok-cut.ensures.items ∙ rows_none c.args.height c.min-count.result, c.in_ok-cut.ensures.len, c.in_ok-cut.ensures.capacity)

pub loop-i-preserved : goal.loop-i-preserved
loop-i-preserved c =
    let inv = c.loop-i.invariant in let push = c.push_reserved.ensures in (
      push.items ∙ (ap (λ (l : List ℕ). l ++ c.loop-i.i * c.args.height / c.min-count.result ∷ []) inv.0
          ∙ sym (rows_more c.args.height c.min-count.result c.loop-i.i)),
      (let more = push.len in let was = inv.1 in omega arith),
      (let same = push.capacity in let was = inv.2 in omega arith),
    )

pub overflow_mul-i : goal.overflow_mul-i
overflow_mul-i c =
    let product : c.loop-i.i * c.args.height ≤ c.loop-i.i * 65535 = mul-le-mul_left c.loop-i.i c.requires.most_rows in
    omega (arith, product, c.loop-i-test.true, c.min-count.ensures, c.requires.most_strips)

pub nonzero_div-i : goal.nonzero_div-i
nonzero_div-i c = omega (arith, c.loop-i-test.true)

pub returns-clause-rows : goal.returns-clause-rows
returns-clause-rows c =
    let n = c.min-count.result in let all : c.loop-i.i ≡ n = omega (arith, c.loop-i-test.false, c.loop-i.auto.i-end) in
    c.loop-i.invariant.0
    ∙ (ap (rows_of_cut c.args.height n) all ∙ ap (λ (k : ℕ). rows_of_cut c.args.height k k) c.min-count.ensures)

pub returns-clause-cut : goal.returns-clause-cut
returns-clause-cut c =
    let n = c.min-count.result in
    let all : c.loop-i.i ≡ n = omega (arith, c.loop-i-test.false, c.loop-i.auto.i-end) in
    let some_strip : 0 < n = omega (arith, c.min-count.ensures, c.requires.some_row, c.requires.some_strip) in
    let few : n ≤ c.args.height = omega (arith, c.min-count.ensures) in
    subst (IsCut c.args.height) (sym (c.loop-i.invariant.0 ∙ ap (rows_of_cut c.args.height n) all)) (even_is_cut c.args.height n some_strip few)

pub returns-clause-even : goal.returns-clause-even
returns-clause-even c k enough =
    let n = c.min-count.result in
    let all : c.loop-i.i ≡ n = omega (arith, c.loop-i-test.false, c.loop-i.auto.i-end) in
    let some_strip : 0 < n = omega (arith, c.min-count.ensures, c.requires.some_row, c.requires.some_strip) in
    let same : c.loop-i.cut.items ≡ rows_of_cut c.args.height n n = c.loop-i.invariant.0 ∙ ap (rows_of_cut c.args.height n) all in
    subst (λ (rows : List ℕ). (i : ℕ) → i < length rows → get_or rows (i + 1) c.args.height ≤ get_or rows i 0 + k) (sym same)
    (even_is_even c.args.height n k some_strip (subst (λ (m : ℕ). c.args.height ≤ k * m) (sym c.min-count.ensures) enough))
