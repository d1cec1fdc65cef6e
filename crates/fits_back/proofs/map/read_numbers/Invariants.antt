-- The numbers so far are read, and the other bytes are left.
use Rattle.std.proofs.Common.{◌≡◌, ◌+◌, ◌*◌, ◌++◌, length}
use Rattle.fits_write.specs.Hdus.{map_bytes}
use Rattle.fits_back.proofs.map.read_numbers.Given as goal

abbrev pub invariant-loop : goal.invariant-loop
invariant-loop l = record {
  so_far : map_bytes l.numbers.items ++ l.rest ≡ l.bytes;
  left : length l.rest + 4 * l.counter ≡ 4 * l.count;
  many : length l.numbers.items ≡ l.counter;
}
