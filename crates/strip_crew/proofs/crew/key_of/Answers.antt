use Rattle.std.proofs.Common.{◌≡◌, ◌++◌, List, ℕ, length, ap, ap₂, ◌∙◌, arith}
use Rattle.strip_crew.specs.Run.{run_with}
use Rattle.strip_crew.proofs.crew.key_of.Goals as goal

pub append_links-requires : goal.append_links-requires
append_links-requires c =
    let none : c.in_ok-rows.rows.len ≡ 0 = c.in_ok-rows.rows.ok.0 ∙ ap (λ (l : List ℕ). length l) c.in_ok-rows.ensures.items in
    omega (arith, none, c.in_ok-rows.ensures.capacity)

pub returns : goal.returns
returns c =
    let are = c.append_links.ensures.items ∙ ap (λ (l : List ℕ). l ++ c.args.cut.now) c.in_ok-rows.ensures.items in
    ap₂ (λ p l. run_with p c.args.connect l c.args.workers) c.of.ensures are
