use Rattle.std.proofs.Common.{rules}
use Rattle.std.proofs.lemmas.Int.{to_z-of_z}
use mir.Syntax.{w64}
use mir.Val.{SFits}
use Rattle.source_pick.specs.Catalogue.{moved_row}
use Rattle.source_pick.proofs.Exported.{same_row}
use Rattle.tile_make.proofs.Moving.{column_read, moved_read, moved_centre_read}
use Rattle.tile_make.proofs.rows.in_image.Goals as goal

pub returns : goal.returns
unfolding moved_row
returns c = λ shape.
    let f = c.requires.fits in
    let row = c.args.row.now in
    let left = c.args.place.now.left in
    let top = c.args.place.now.top in
    let level : SFits w64 c.args.row.now.level = search rules in
    let base : SFits w64 c.args.row.now.base = search rules in
    let flux : SFits w64 c.args.row.now.flux = search rules in
    let peak : SFits w64 c.args.row.now.peak = search rules in
    let xvar : SFits w64 c.args.row.now.xvar = search rules in
    let yvar : SFits w64 c.args.row.now.yvar = search rules in
    let xycov : SFits w64 c.args.row.now.xycov = search rules in
    same_row _ _ (column_read row.number f.number) (to_z-of_z w64 row.level level) (to_z-of_z w64 row.base base) (column_read row.area f.area)
    (to_z-of_z w64 row.flux flux) (to_z-of_z w64 row.peak peak) (moved_read row.xmin left f.xmin c.requires.left)
    (moved_read row.xmax left f.xmax c.requires.left) (moved_read row.ymin top f.ymin c.requires.top) (moved_read row.ymax top f.ymax c.requires.top)
    (moved_read row.xfirst left f.xfirst c.requires.left) (moved_read row.yfirst top f.yfirst c.requires.top)
    (moved_centre_read row.xcen left f.xcen c.requires.left) (moved_centre_read row.ycen top f.ycen c.requires.top) (to_z-of_z w64 row.xvar xvar)
    (to_z-of_z w64 row.yvar yvar) (to_z-of_z w64 row.xycov xycov)
