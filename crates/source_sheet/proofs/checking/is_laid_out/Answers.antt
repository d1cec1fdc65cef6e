use Rattle.std.proofs.Common.{◌*◌, ◌∙◌, ap}
use Rattle.std.proofs.lemmas.Option.{slice_get_within}
use Rattle.comp_tree.specs.declared.shape.Shape.{Shape}
use Rattle.source_sheet.proofs.checking.is_laid_out.Goals as goal

pub are_apart-requires : goal.are_apart-requires
are_apart-requires g c = λ i d e.
    let copied : _ = c.are_copied.ensures c.if-not-are_copied.false i d (slice_get_within c.args.places.now i d e) e in
    record { from = copied.inside; to = copied.inside_sheet }

pub hold_all-requires-clause-placed : goal.hold_all-requires-clause-placed
hold_all-requires-clause-placed g c = λ i d e.
    let copied : _ = c.are_copied.ensures c.if-not-are_copied.false i d (slice_get_within c.args.places.now i d e) e in
    record { from = copied.inside; to = copied.inside_sheet }

pub returns : goal.returns
returns g c = λ k. record {
  one_each = c.shape.ensures.pixels ∙ ap (λ (x : Shape). x.width * x.height) c.shape.ensures.same;
  one_each_there = c.shape-2.ensures.pixels ∙ ap (λ (x : Shape). x.width * x.height) c.shape-2.ensures.same;
  copied = c.are_copied.ensures c.if-not-are_copied.false;
  apart_there = c.in_ok-apart.ensures c.if-not-apart.false;
  apart = c.in_ok-held.ensures.apart k;
  held = c.in_ok-held.ensures.held k;
}
