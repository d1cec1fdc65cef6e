use Rattle.std.proofs.Common.{◌^◌, length, arith}
use Rattle.std.specs.Prelude.{pos, neg_ℤ}
use Rattle.std.proofs.lemmas.Int.{ints}
use Rattle.comp_tree.specs.Limits.{IsWithin}
use Rattle.mesh_background.proofs.HalfRanges.{half_range-small}
use Rattle.mesh_background.proofs.tests.a_given_number_is_subtracted_in_place.Goals as goal

small : IsWithin (2 ^ 29) (neg_ℤ (pos 5))
small = record { low = omega (arith, ints); high = omega (arith, ints) }

pub subtract_background_with-requires-clause-given : goal.subtract_background_with-requires-clause-given
subtract_background_with-requires-clause-given g c κs = half_range-small (length c.in_ok-plane.plane.values) (neg_ℤ (pos 5)) small
