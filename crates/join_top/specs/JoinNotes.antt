-- Model: how a run of `join` ends: its status, and its line on the notes.
use Rattle.std.specs.Prelude.{ℕ, List, [], ◌∷◌, Option, Some, None, codes, decimal}
use Rattle.std.specs.List.{concat}
use Rattle.command_line.specs.Notes.{usage_line}
use Rattle.tile_join.specs.declared.fault.JoinFault.TheVariants.{NotOfImage, OpenComponent, CoresOverlap, CoreGap, SamePixel}
use Rattle.join_top.specs.declared.ends.JoinRefusal.{JoinRefusal}
use Rattle.join_top.specs.declared.ends.JoinRefusal.TheVariants.{NotTiles, Unjoinable}
use Rattle.join_top.specs.declared.ends.JoinEnd.{JoinEnd}
use Rattle.join_top.specs.declared.ends.JoinEnd.TheVariants.{Done, Usage, Refused, ReadFault, WriteFault, NoMemory}
use Rattle.join_top.specs.declared.ends.JoinPlace.{JoinPlace}
use Rattle.join_top.specs.declared.ends.JoinPlace.TheVariants.{Tile, Pixel}

-- the number and the name of a refusal, and the tile or the pixel at fault
abbrev pub refusal_number : JoinRefusal → ℕ
refusal_number NotTiles = 30
refusal_number (Unjoinable (NotOfImage tile)) = 31
refusal_number (Unjoinable (OpenComponent tile)) = 32
refusal_number (Unjoinable (CoresOverlap tile)) = 33
refusal_number (Unjoinable (CoreGap pixel)) = 34
refusal_number (Unjoinable (SamePixel pixel)) = 35

abbrev pub refusal_name : JoinRefusal → List ℕ
refusal_name NotTiles = codes "NotTiles"
refusal_name (Unjoinable (NotOfImage tile)) = codes "NotOfImage"
refusal_name (Unjoinable (OpenComponent tile)) = codes "OpenComponent"
refusal_name (Unjoinable (CoresOverlap tile)) = codes "CoresOverlap"
refusal_name (Unjoinable (CoreGap pixel)) = codes "CoreGap"
refusal_name (Unjoinable (SamePixel pixel)) = codes "SamePixel"

abbrev pub refusal_place : JoinRefusal → Option JoinPlace
refusal_place NotTiles = None
refusal_place (Unjoinable (NotOfImage tile)) = Some (Tile tile)
refusal_place (Unjoinable (OpenComponent tile)) = Some (Tile tile)
refusal_place (Unjoinable (CoresOverlap tile)) = Some (Tile tile)
refusal_place (Unjoinable (CoreGap pixel)) = Some (Pixel pixel)
refusal_place (Unjoinable (SamePixel pixel)) = Some (Pixel pixel)

abbrev pub line_with_part : List ℕ → List ℕ → Option JoinPlace → List ℕ
line_with_part number name None = concat (codes "refused: " ∷ number ∷ codes " " ∷ name ∷ codes "\n" ∷ [])
line_with_part number name (Some (Tile tile)) =
    concat (codes "refused: " ∷ number ∷ codes " " ∷ name ∷ codes " tile " ∷ decimal tile ∷ codes "\n" ∷ [])
line_with_part number name (Some (Pixel pixel)) =
    concat (codes "refused: " ∷ number ∷ codes " " ∷ name ∷ codes " pixel " ∷ decimal pixel ∷ codes "\n" ∷ [])

abbrev pub join_refusal_line : JoinRefusal → List ℕ
join_refusal_line refusal = line_with_part (decimal (refusal_number refusal)) (refusal_name refusal) (refusal_place refusal)

abbrev pub join_status : JoinEnd → ℕ
join_status Done = 0
join_status (Usage usage) = 1
join_status (Refused refusal) = 2
join_status ReadFault = 3
join_status WriteFault = 4
join_status NoMemory = 5

abbrev pub join_note : JoinEnd → List ℕ
join_note Done = []
join_note (Usage usage) = usage_line usage.word
join_note (Refused refusal) = join_refusal_line refusal
join_note ReadFault = codes "read fault\n"
join_note WriteFault = codes "write fault\n"
join_note NoMemory = codes "out of memory\n"
