-- Bookkeeping: what is kept of the cards that were read.
use Rattle.std.specs.Prelude.{ℕ, ◌-◌, ◌^◌, List, ◌==◌, codes, drop, min, slice_index}
use Rattle.std.specs.List.{list_all}
use Rattle.std.specs.Option.{option_map}
use Rattle.fits_hdu.specs.declared.axes.Axes.{Axes}
use Rattle.fits_hdu.specs.declared.others.Others.{Others}
use Rattle.fits_hdu.specs.Cards.{is_true, whole}
use Rattle.fits_hdu.specs.Sizes.{product}
use Rattle.fits_hdu.specs.Headers.{counting, natural_or_zero}

-- up to the last number of 64 bits
abbrev pub held : ℕ → ℕ
held n = min n (2 ^ 64 - 1)

-- of axes of these lengths
unfoldable pub kept_axes : List ℕ → Axes
kept_axes axes = record {
  width = slice_index axes 0;
  height = slice_index axes 1;
  flat = list_all (λ n. n == 1) (drop 2 axes);
  product = held (product axes);
}

-- of the cards after the mandatory ones
unfoldable pub kept_others : List (List ℕ) → Others
kept_others cards = record {
  groups = option_map is_true (counting (codes "GROUPS  ") cards);
  pcount = option_map natural_or_zero (counting (codes "PCOUNT  ") cards);
  gcount = option_map natural_or_zero (counting (codes "GCOUNT  ") cards);
  bscale = option_map whole (counting (codes "BSCALE  ") cards);
  bzero = option_map whole (counting (codes "BZERO   ") cards);
  blank = option_map whole (counting (codes "BLANK   ") cards);
}
