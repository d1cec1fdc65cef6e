-- A sheet whose places pass the checks is laid out for the plane.
use Rattle.std.proofs.Common.{◌≡◌, ℕ, List, ◌⊎◌, inl, inr}
use Rattle.std.specs.Prelude.{Contains, Some, slice_get}
use Rattle.std.proofs.lemmas.Option.{slice_get_within}
use Rattle.comp_tree.specs.declared.shape.Connect.{Connect}
use Rattle.comp_tree.specs.Raster.{Raster}
use Rattle.source_pick.specs.declared.choice.Choice.{Choice}
use Rattle.source_sheet.specs.declared.sheet.Place.{Place}
use Rattle.source_sheet.specs.declared.sheet.Sheet.{Sheet}
use Rattle.source_sheet.specs.Groups.{HoldsGroups}
use Rattle.source_sheet.specs.Laid.{HoldsPixel, HasFewAround, IsLaidOut}
use Rattle.source_sheet.specs.Checks.{AreGoodPlaces}

pub laid_out_from : (r : Raster) (connect : Connect) (choice : Choice) (sheet : Sheet) (ps : List ℕ) → sheet.whole ≡ r.shape
    → AreGoodPlaces r sheet.plane connect choice.threshold sheet.places.items ps → HoldsGroups r connect choice ps → IsLaidOut r connect choice sheet
laid_out_from r connect choice sheet ps whole good groups = record {
  one_each = good.one_each;
  whole = whole;
  one_each_there = good.one_each_there;
  copied = λ i c g. good.copied i c (slice_get_within sheet.places.items i c g) g;
  apart_there = good.apart_there;
  apart = good.apart;
  held = λ p k. held p (groups p k);
}
  where
    held : (p : ℕ) → Contains ps p ⊎ HasFewAround r connect choice.threshold choice.min_area p
        → ((i : ℕ) × ((c : Place) × (slice_get sheet.places.items i ≡ Some c) × HoldsPixel r sheet.plane choice.threshold c p))
        ⊎ HasFewAround r connect choice.threshold choice.min_area p
    held p (inl m) = inl (good.held p m)
    held p (inr few) = inr few
