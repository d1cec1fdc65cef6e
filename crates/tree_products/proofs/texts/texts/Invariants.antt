-- The texts so far are the lines of the stretches so far; what was made of the others is still to come.
use Rattle.std.proofs.Common.{◌≡◌, ◌+◌, ◌-◌, ◌*◌, ◌/◌, ◌%◌, min, length, map, vec_items}
use Rattle.std.specs.List.{concat}
use Rattle.std.specs.Vec.Iter.{into_iter_items}
use Rattle.tree_products.specs.LineStretches.{lines_between, lines_of_stretch}
use Rattle.tree_products.proofs.StretchTexts.{AreTextsFrom}
use Rattle.tree_products.proofs.texts.texts.Given as goal

abbrev pub invariant-loop-text : goal.invariant-loop-text
invariant-loop-text g l = record {
  left : AreTextsFrom vec_items (λ n. lines_of_stretch l.rows l.areas l.fn.first l.fn.end l.fn.size n) (length l.yielded) (into_iter_items l.text-iterator);
  number : length l.yielded + length (into_iter_items l.text-iterator) ≡ (l.fn.end - l.fn.first) / l.fn.size + min 1 ((l.fn.end - l.fn.first) % l.fn.size);
  joined : concat (map vec_items l.texts.items) ≡ lines_between l.rows l.areas l.fn.first (min (l.fn.first + length l.yielded * l.fn.size) l.fn.end);
}
