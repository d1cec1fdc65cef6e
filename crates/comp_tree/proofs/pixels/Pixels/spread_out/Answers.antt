use Rattle.std.proofs.Common.{◌≡◌, ◌<◌, ◌∙◌, ◌++◌, [], ◌∷◌, List, length, take_all, ap, sym, subst, arith}
use Rattle.std.specs.Prelude.{ℤ, Option, None}
use Rattle.std.proofs.lemmas.List.{take_more}
use Rattle.comp_tree.specs.Raster.{value_at}
use Rattle.comp_tree.proofs.Blocks.{kept-length}
use Rattle.comp_tree.proofs.pixels.Pixels.spread_out.Goals as goal

pub pixel-requires : goal.pixel-requires
pixel-requires c = subst (λ n. c.loop-p.p < n) (sym (kept-length _ _ _) ∙ ap length c.self.view_is) c.loop-p-test.true

pub loop-p-preserved : goal.loop-p-preserved
loop-p-preserved c =
    let within : c.loop-p.p < length c.args.self.now =
    subst (λ n. c.loop-p.p < n) (sym (kept-length _ _ _) ∙ ap length c.self.view_is) c.loop-p-test.true in
    c.in_ok-push.ensures.items
    ∙ ap (λ (v : Option ℤ). c.loop-p.pixels.items ++ v ∷ []) c.pixel.ensures
    ∙ ap (λ (vs : List (Option ℤ)). vs ++ value_at c.args.self.now c.loop-p.p ∷ []) c.loop-p.invariant
    ∙ sym (take_more c.args.self.now c.loop-p.p None within)

pub returns : goal.returns
returns c =
    let all : length c.args.self.now ≡ c.self.inside.count = ap length (sym c.self.view_is) ∙ kept-length _ _ _ in
    c.loop-p.invariant ∙ take_all c.loop-p.p c.args.self.now (omega (arith, all, c.loop-p-test.false))
