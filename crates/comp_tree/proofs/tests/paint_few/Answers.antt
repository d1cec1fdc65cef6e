use Rattle.std.proofs.Common.{◌≡◌, ◌∙◌, ap, pos, neg_ℤ, arith}
use Rattle.std.proofs.lemmas.Int.{ints}
use Rattle.comp_tree.specs.Limits.{IsWithin}
use Rattle.comp_tree.specs.Raster.{Painting}
use Rattle.comp_tree.proofs.Values.{within_more}
use Rattle.comp_tree.proofs.tests.paint_few.Goals as goal

pub set-requires-clause-in_range : goal.set-requires-clause-in_range
set-requires-clause-in_range c = within_more 9 c.args.canvas.now.most (pos 7) (omega (arith, c.requires)) (let k : IsWithin 9 (pos 7) = record { low = omega (arith, ints); high = omega (arith, ints) } in k)

pub set-requires-then-pixels-eq70-clause-in_range : goal.set-requires-then-pixels-eq70-clause-in_range
set-requires-then-pixels-eq70-clause-in_range c = within_more 9 c.set.new.self.most (pos 8) (let same : c.set.new.self.most ≡ c.args.canvas.now.most = ap (λ (canvas : Painting). canvas.most) c.set.ensures in omega (arith, same, c.requires)) (let k : IsWithin 9 (pos 8) = record { low = omega (arith, ints); high = omega (arith, ints) } in k)

pub set-requires-then-pixels-eq70-2-clause-in_range : goal.set-requires-then-pixels-eq70-2-clause-in_range
set-requires-then-pixels-eq70-2-clause-in_range c = within_more 9 c.set-then-pixels-eq70.new.self.most (neg_ℤ (pos 9)) (let same : c.set-then-pixels-eq70.new.self.most ≡ c.args.canvas.now.most = ap (λ (canvas : Painting). canvas.most) (c.set-then-pixels-eq70.ensures) ∙ ap (λ (canvas : Painting). canvas.most) c.set.ensures in omega (arith, same, c.requires)) (let k : IsWithin 9 (neg_ℤ (pos 9)) = record { low = omega (arith, ints); high = omega (arith, ints) } in k)
