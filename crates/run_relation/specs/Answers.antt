-- Model: how a run ends: its status, and its line on the notes.
use Rattle.std.specs.Prelude.{ℕ, List, [], ◌∷◌, Option, Some, None, codes, decimal}
use Rattle.std.specs.List.{concat}
use Rattle.std.specs.Fmt.{signed_decimal}
use Rattle.command_line.specs.Notes.{usage_line}
use Rattle.pixel_plane.specs.declared.input_fault.Fault.{Fault}
use Rattle.run_relation.specs.declared.ends.End.{End}
use Rattle.run_relation.specs.declared.ends.End.TheVariants.{Done, Usage, Refused, ReadFault, WriteFault, NoMemory}
use Rattle.pixel_plane.specs.declared.input_fault.Place.{Place}
use Rattle.pixel_plane.specs.declared.input_fault.Place.TheVariants.{Card, Pixel}
use Rattle.pixel_plane.specs.declared.image.Stop.{Stop}
use Rattle.pixel_plane.specs.declared.image.Stop.TheVariants as at_image
use Rattle.pixel_plane.specs.InputFaults.{fault_number, fault_name, place_of}

-- the number and the name of a fault, and the card or the pixel at fault
abbrev pub line_at_place : List ℕ → List ℕ → Place → List ℕ
line_at_place number name (Card place) =
    concat (codes "refused: " ∷ number ∷ codes " " ∷ name ∷ codes " hdu " ∷ decimal place.hdu ∷ codes " card " ∷ decimal place.card ∷ codes "\n" ∷ [])
line_at_place number name (Pixel place) =
    concat (codes "refused: " ∷ number ∷ codes " " ∷ name ∷ codes " pixel " ∷ decimal place.pixel ∷ codes " stored " ∷ signed_decimal place.stored ∷ codes
    "\n" ∷ [])

abbrev pub refusal_by : List ℕ → List ℕ → Option Place → List ℕ
refusal_by number name None = concat (codes "refused: " ∷ number ∷ codes " " ∷ name ∷ codes "\n" ∷ [])
refusal_by number name (Some place) = line_at_place number name place

abbrev pub refusal_line : Fault → List ℕ
refusal_line fault = refusal_by (decimal (fault_number fault)) (fault_name fault) (place_of fault)

-- how a run ends, as its status and as its line on the notes
abbrev pub end_status : End → ℕ
end_status Done = 0
end_status (Usage usage) = 1
end_status (Refused fault) = 2
end_status ReadFault = 3
end_status WriteFault = 4
end_status NoMemory = 5

abbrev pub note_of : End → List ℕ
note_of Done = []
note_of (Usage usage) = usage_line usage.word
note_of (Refused fault) = refusal_line fault
note_of ReadFault = codes "read fault\n"
note_of WriteFault = codes "write fault\n"
note_of NoMemory = codes "out of memory\n"

-- how a run ends whose reading stops, and one whose reading doesn't
abbrev pub end_of : Option Stop → End
end_of None = Done
end_of (Some (at_image.Refused fault)) = Refused fault
end_of (Some at_image.ReadFault) = ReadFault
end_of (Some at_image.NoMemory) = NoMemory
