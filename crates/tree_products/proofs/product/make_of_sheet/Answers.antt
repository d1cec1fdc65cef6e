use Rattle.tree_products.proofs.OnSheets.{sheet_of_detection}
use Rattle.tree_products.proofs.product.make_of_sheet.Goals as goal

pub detect_on_sheet-requires-clause-laid_out : goal.detect_on_sheet-requires-clause-laid_out
detect_on_sheet-requires-clause-laid_out g c κs within =
    sheet_of_detection c.args.job c.in-Detect.choice c.args.sheet.now c.args.tree c.in-Detect.is c.requires.of_sheet
