use Rattle.std.proofs.Common.{◌≡◌, ℕ, ◌+◌, ◌<◌, ◌≤◌, ◌∙◌, List, length, sym, subst, arith, ◌⊎◌, inl, inr}
use Rattle.std.specs.Prelude.{ℤ, Option}
use Rattle.std.specs.Fork.{AcceptsAt, ChangesAt}
use Rattle.comp_tree.specs.Raster.{value_at}
use Rattle.comp_tree.proofs.Bands.{band_taken}
use Rattle.comp_tree.proofs.kept.change_short_band.Goals as goal

pub change_at-requires : goal.change_at-requires
change_at-requires g c =
    subst (AcceptsAt g.F.Fn c.args.change.now c.args.start)
    (sym (band_taken c.args.pixels.now c.widen.new.band c.args.start (length c.args.band.now) c.widen.ensures.one_each c.requires.inside c.widen.ensures.same))
    c.requires.accepts

pub shorten-requires-clause-within : goal.shorten-requires-clause-within
shorten-requires-clause-within g c =
    c.requires.within c.change_at.new.band
    (subst (λ (band : List (Option ℤ)). ChangesAt g.F.Fn c.args.change.now c.args.start band c.change_at.new.band)
    (band_taken c.args.pixels.now c.widen.new.band c.args.start (length c.args.band.now) c.widen.ensures.one_each c.requires.inside c.widen.ensures.same)
    c.change_at.ensures.changes)

pub returns : goal.returns
returns g c = record {
  one_each = c.shorten.ensures.one_each;
  left = c.change_at.new.band;
  whole = size;
  changes = subst (λ (band : List (Option ℤ)). ChangesAt g.F.Fn c.args.change.now c.args.start band c.change_at.new.band)
      (band_taken c.args.pixels.now c.widen.new.band c.args.start (length c.args.band.now) c.widen.ensures.one_each c.requires.inside c.widen.ensures.same)
      c.change_at.ensures.changes;
  inside = λ k lt. c.shorten.ensures.inside k (omega (arith, lt, size));
  beside = λ p d. at p d;
}
  where
    size : length c.change_at.new.band ≡ length c.args.band.now
    size = c.change_at.ensures.one_each ∙ c.widen.ensures.one_each

    at : (p : ℕ) → (p < c.args.start) ⊎ (c.args.start + length c.args.band.now ≤ p) → value_at c.shorten.new.pixels p ≡ value_at c.args.pixels.now p
    at p (inl lt) = c.shorten.ensures.before p lt
    at p (inr le) = c.shorten.ensures.behind p (omega (arith, le, size))
