use Rattle.std.proofs.Common.{refl}
use Rattle.tree_products.proofs.Detections.{can_be_written, is_detection}
use Rattle.tree_products.proofs.detection.detect.Goals as goal

pub returns-clause-writable : goal.returns-clause-writable
returns-clause-writable g c =
    can_be_written c.args.plane c.args.tree c.shape-shape.result _ _ c.requires.of_plane c.shape-shape.ensures.same c.shape-shape.ensures.pixels
    c.in_ok-map.ensures.one_each c.in_ok-map.ensures.few
    c.in_ok-listed.ensures.table

pub returns-clause-bytes : goal.returns-clause-bytes
returns-clause-bytes g c = λ connect is.
    is_detection c.args.plane connect c.args.choice.now c.shape-shape.result c.in_ok-listed.listed.picked.items c.deref.result.now
    c.in_ok-listed.listed.picked.items _ _ c.shape-shape.ensures.same (c.in_ok-listed.ensures.picked connect is) c.deref.ensures.value
    (c.in_ok-map.ensures.exact c.args.plane connect is) refl (c.in_ok-listed.ensures.cells connect is)
