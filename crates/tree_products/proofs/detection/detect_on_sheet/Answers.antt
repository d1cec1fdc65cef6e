use Rattle.tree_products.proofs.Detections.{sheet_is_detection}
use Rattle.tree_products.proofs.detection.detect_on_sheet.Goals as goal

pub returns-clause-bytes : goal.returns-clause-bytes
returns-clause-bytes g c = λ plane connect laid_out is.
    sheet_is_detection plane connect c.args.choice.now _ _ _ laid_out.whole (c.in_ok-found.ensures.map plane connect laid_out is)
    (c.in_ok-found.ensures.cells plane connect laid_out is)
