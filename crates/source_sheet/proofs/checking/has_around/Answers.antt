use Rattle.std.proofs.Common.{◌≡◌, ◌∙◌, ◌+◌, ◌*◌, ℕ, sym, ap, subst}
use Rattle.std.specs.Prelude.{filter, All, ◌<◌}
use Rattle.std.specs.List.{range_with_len}
use Rattle.comp_tree.specs.declared.shape.Shape.{Shape}
use Rattle.comp_tree.specs.Grid.{are_neighbours}
use Rattle.source_sheet.specs.Laid.{window_at}
use Rattle.source_sheet.specs.Checks.{StaysWithin}
use Rattle.source_sheet.proofs.Copies.{in_whole-row, near_below, stays_from}
use Rattle.source_sheet.proofs.checking.has_around.Goals as goal

pub are_all_seen-requires : goal.are_all_seen-requires
are_all_seen-requires c =
    subst (λ (n : ℕ). All (λ a. a < n) c.deref.result.now) (sym c.shape-whole.ensures.pixels)
    (near_below c.args.connect c.shape-whole.result.width (c.shape-whole.result.width * c.shape-whole.result.height) c.pixel_at-p.result c.deref.result.now
    (c.deref.ensures.0 ∙ c.neighbours-near.ensures))

pub returns : goal.returns
returns c = λ k.
    let wide : c.shape-whole.result.width ≡ c.args.plane.now.shape.width = ap (λ (x : Shape). x.width) c.shape-whole.ensures.same in
    subst (λ (p : ℕ). StaysWithin c.args.plane.now c.args.connect (window_at c.args.left c.args.top c.args.shape) p)
    (c.pixel_at-p.ensures.is ∙ ap (λ (n : ℕ). (c.args.row + c.args.top) * n + (c.args.column + c.args.left)) wide
    ∙ sym (in_whole-row c.args.plane.now.shape.width (window_at c.args.left c.args.top c.args.shape) c.args.row c.args.column c.requires.column))
    (stays_from c.args.plane.now c.args.connect (window_at c.args.left c.args.top c.args.shape) (c.shape-whole.result.width * c.shape-whole.result.height)
    c.pixel_at-p.result c.deref.result.now
    (c.deref.ensures.0 ∙ c.neighbours-near.ensures
    ∙ ap (λ (n : ℕ). filter (are_neighbours c.args.connect n c.pixel_at-p.result) (range_with_len 0 (c.shape-whole.result.width * c.shape-whole.result.height))) wide)
    c.shape-whole.ensures.pixels (c.are_all_seen.ensures k))
