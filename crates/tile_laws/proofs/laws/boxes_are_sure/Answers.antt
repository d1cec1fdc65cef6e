use Rattle.tile_laws.proofs.Boxes.{flat_boxes_are_sure, boxes_are_sure_with_number, boxes_are_sure_without_mesh}
use Rattle.tile_laws.proofs.laws.boxes_are_sure.Goals as goal

pub returns : goal.returns
returns c = record { flat = flat_boxes_are_sure; number = boxes_are_sure_with_number; without = boxes_are_sure_without_mesh }
