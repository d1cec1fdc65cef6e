use Rattle.std.proofs.Common.{◌∙◌, ◌++◌, ap, subst}
use Rattle.fits_write.specs.Hdus.{header}
use Rattle.fits_back.specs.Fronts.{BeginsNot}
use Rattle.fits_back.proofs.Numbers.{map_here, no_map_header, no_map_data}
use Rattle.fits_back.proofs.map.split_map.Goals as goal

pub returns-in_default-clause-none : goal.returns-in_default-clause-none
returns-in_default-clause-none c =
    no_map_header c.args.shape c.args.bytes.now (subst (λ cards. BeginsNot (header cards) c.args.bytes.now) c.map_cards.ensures c.in_default.ensures)

pub returns-in_default-split_data-clause-none : goal.returns-in_default-split_data-clause-none
returns-in_default-split_data-clause-none c =
    no_map_data c.args.shape c.args.bytes.now c.in-Some.behind.now c.pixels-pixels.result c.pixels-pixels.ensures.product
    (c.in-Some.ensures ∙ ap (λ cards. header cards ++ c.in-Some.behind.now) c.map_cards.ensures) c.in_default-split_data.ensures

pub returns-in-Ok-clause-some : goal.returns-in-Ok-clause-some
returns-in-Ok-clause-some c = (
  map_here c.args.shape c.args.bytes.now c.in-Some.behind.now c.in-Some-split_data.split.bytes.now c.in-Some-split_data.split.rest.now c.in-Ok.numbers.items
      (c.in-Some.ensures ∙ ap (λ cards. header cards ++ c.in-Some.behind.now) c.map_cards.ensures) c.in-Some-split_data.ensures.0 c.in-Ok.ensures.bytes,
  c.in-Ok.ensures.count ∙ c.pixels-pixels.ensures.product,
)
