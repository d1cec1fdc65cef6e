use Rattle.source_pick.proofs.SheetsLarge.{sources_are_large}
use Rattle.source_pick.proofs.SheetsCopies.{copies_are_parts}
use Rattle.source_pick.proofs.Sheets.{held_pixels_hold_sources, sources_stand_in_the_sheet, sources_come_from_the_plane, sheet_gives_the_catalogue}
use Rattle.source_pick.proofs.Sheets.{sheet_gives_the_map, sheet_gives_the_tops}
use Rattle.source_pick.proofs.laws.sources_of_sheets.Goals as goal

pub returns : goal.returns
returns c = record {
  parts = copies_are_parts;
  held = held_pixels_hold_sources;
  large = sources_are_large;
  stand = sources_stand_in_the_sheet;
  come = sources_come_from_the_plane;
  catalogue = sheet_gives_the_catalogue;
  tops = sheet_gives_the_tops;
  map = sheet_gives_the_map;
}
