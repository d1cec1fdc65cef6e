use Rattle.std.proofs.Common.{◌≡◌, ◌+◌, ◌*◌, ◌/◌, ◌%◌, min, length, vec_items}
use Rattle.std.specs.Vec.Iter.{into_iter_items}
use Rattle.tree_canon.specs.Canonical.{canonical_between}
use Rattle.tree_canon.proofs.Joining.{AreBands}
use Rattle.tree_canon.proofs.bands.find_in_bands.Given as goal

abbrev pub invariant-loop-band : goal.invariant-loop-band
invariant-loop-band g l = record {
  left : AreBands vec_items l.plane l.links l.fn.size (length l.yielded) (into_iter_items l.band-iterator);
  number : length l.yielded + length (into_iter_items l.band-iterator) ≡ l.count / l.fn.size + min 1 (l.count % l.fn.size);
  found : l.found.items ≡ canonical_between l.plane l.links 0 (min (length l.yielded * l.fn.size) l.count);
}
