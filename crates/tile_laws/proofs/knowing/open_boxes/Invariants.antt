use Rattle.tile_laws.specs.Extents.{extent_box}
use Rattle.tile_laws.proofs.Opened.{AreOpened}
use Rattle.tile_laws.proofs.knowing.open_boxes.Given as goal

abbrev pub invariant-loop-n : goal.invariant-loop-n
invariant-loop-n l =
    AreOpened l.choice.threshold l.tree.rows l.outlines l.place.left l.place.top l.place.whole (extent_box l.core) (extent_box l.sure) l.n l.boxes.items
