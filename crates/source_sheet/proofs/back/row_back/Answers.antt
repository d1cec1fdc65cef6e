use Rattle.std.proofs.Common.{rules}
use Rattle.std.proofs.lemmas.Int.{to_z-of_z}
use mir.Syntax.{w64}
use mir.Val.{SFits}
use Rattle.source_pick.specs.Sheets.{row_back}
use Rattle.source_pick.proofs.Exported.{same_row}
use Rattle.source_sheet.proofs.Rows.{column_read, moved_read, moved_centre_read}
use Rattle.source_sheet.proofs.back.row_back.Goals as goal

pub returns : goal.returns
unfolding row_back
returns c = λ s h.
    let f = c.requires.fits in
    let n = c.requires.near in
    let level : SFits w64 c.args.row.now.level = search rules in
    let base : SFits w64 c.args.row.now.base = search rules in
    let flux : SFits w64 c.args.row.now.flux = search rules in
    let peak : SFits w64 c.args.row.now.peak = search rules in
    let xvar : SFits w64 c.args.row.now.xvar = search rules in
    let yvar : SFits w64 c.args.row.now.yvar = search rules in
    let xycov : SFits w64 c.args.row.now.xycov = search rules in
    same_row _ _
    (column_read c.args.row.now.number f.number)
    (to_z-of_z w64 c.args.row.now.level level)
    (to_z-of_z w64 c.args.row.now.base base)
    (column_read c.args.row.now.area f.area)
    (to_z-of_z w64 c.args.row.now.flux flux)
    (to_z-of_z w64 c.args.row.now.peak peak)
    (moved_read c.args.row.now.xmin c.args.place.now.left c.args.place.now.to_left f.xmin n.left n.to_left)
    (moved_read c.args.row.now.xmax c.args.place.now.left c.args.place.now.to_left f.xmax n.left n.to_left)
    (moved_read c.args.row.now.ymin c.args.place.now.top c.args.place.now.to_top f.ymin n.top n.to_top)
    (moved_read c.args.row.now.ymax c.args.place.now.top c.args.place.now.to_top f.ymax n.top n.to_top)
    (moved_read c.args.row.now.xfirst c.args.place.now.left c.args.place.now.to_left f.xfirst n.left n.to_left)
    (moved_read c.args.row.now.yfirst c.args.place.now.top c.args.place.now.to_top f.yfirst n.top n.to_top)
    (moved_centre_read c.args.row.now.xcen c.args.place.now.left c.args.place.now.to_left f.xcen n.left n.to_left)
    (moved_centre_read c.args.row.now.ycen c.args.place.now.top c.args.place.now.to_top f.ycen n.top n.to_top)
    (to_z-of_z w64 c.args.row.now.xvar xvar)
    (to_z-of_z w64 c.args.row.now.yvar yvar)
    (to_z-of_z w64 c.args.row.now.xycov xycov)
