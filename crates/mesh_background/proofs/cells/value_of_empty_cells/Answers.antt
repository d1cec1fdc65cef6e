use Rattle.std.proofs.Common.{rules, ◌≡◌, ℕ, ◌≤◌, length, sym, ◌∙◌, arith}
use Rattle.std.proofs.lemmas.Int.{to_z-of_z}
use mir.Syntax.{w64}
use mir.Val.{SFits}
use Rattle.mesh_background.proofs.Gathering.{image-is, image-median}
use Rattle.mesh_background.proofs.cells.value_of_empty_cells.Goals as goal

from-zero : (n : ℕ) → 0 ≤ n
from-zero n = omega arith

to-end : (m n : ℕ) → m ≡ n → m ≤ n
to-end m n e = omega (arith, e)

pub returns : goal.returns
returns c =
    let r = c.args.plane.now in
    let fits : SFits w64 c.unwrap_or.result = search rules in
    let count : c.pixels-pixels.result ≡ length r.values = omega (arith, c.pixels-pixels.ensures.product, c.shape.ensures.pixels) in
    λ k e. to_z-of_z w64 c.unwrap_or.result fits
    ∙ image-median r c.deref_mut.result.now c.lower_median.result c.unwrap_or.result
    (c.deref_mut.ensures.value ∙ image-is r c.pixels-pixels.result c.in_ok-members.members.items c.push_values.new.members.items c.in_ok-members.ensures.items
    c.in_ok-push_values.ensures count)
    c.lower_median.ensures c.unwrap_or.ensures

pub overflow_cast-pixels : goal.overflow_cast-pixels
overflow_cast-pixels c = omega (arith, c.pixels-pixels.ensures.few)

pub push_values-requires-clause-ordered : goal.push_values-requires-clause-ordered
push_values-requires-clause-ordered c = from-zero c.pixels-pixels.result

pub push_values-requires-clause-within : goal.push_values-requires-clause-within
push_values-requires-clause-within c = to-end _ _ (c.pixels-pixels.ensures.product ∙ sym c.shape.ensures.pixels)

pub all-requires-clause-can : goal.all-requires-clause-can
all-requires-clause-can c = tt

pub all-requires-clause-finite : goal.all-requires-clause-finite
all-requires-clause-finite c = tt
