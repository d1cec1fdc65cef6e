use Rattle.std.proofs.Common.{◌≡◌, length, take, replicate, Some}
use Rattle.level_queue.proofs.words.Words.new.Given as goal

abbrev pub invariant-loop-i : goal.invariant-loop-i
invariant-loop-i l = record {
  count : length l.array ≡ l.len;
  written : take l.i l.array ≡ replicate l.i (Some 0);
}
