use Rattle.tree_products.proofs.OnSheets.{ground_is_sheet, made_of_sheet}
use Rattle.tree_products.proofs.product.make_of.Goals as goal

pub make_of_sheet-requires-clause-of_sheet : goal.make_of_sheet-requires-clause-of_sheet
make_of_sheet-requires-clause-of_sheet g c κs within =
    ground_is_sheet c.args.job c.args.on c.in-Sheet.sheet c.args.tree c.in-Sheet.is c.requires.of_ground

pub returns-in-Sheet-clause-bytes : goal.returns-in-Sheet-clause-bytes
returns-in-Sheet-clause-bytes g c =
    made_of_sheet c.args.job c.args.on c.in-Sheet.sheet c.args.tree c.make_of_sheet.result c.in-Sheet.is c.make_of_sheet.ensures.bytes
