use Rattle.std.proofs.Common.{length, map, get_or, arith, ap}
use Rattle.std.proofs.lemmas.List.{length-map}
use Rattle.level_queue.specs.Bits.{word}
use Rattle.level_queue.proofs.Bits.{filled_at}
use Rattle.level_queue.proofs.words.Words.get.Goals as goal

pub get-requires : goal.get-requires
get-requires c = (
  get_or (map word c.self.inside.array) c.args.index 0,
  filled_at c.self.inside.array c.self.invariant c.args.index (omega (arith, c.requires, ap length c.self.view_is, length-map c.self.inside.array word)),
)
