-- Model: the headline of `join`: what a run does, and that tiles of one image give what detection gives in the whole image.
use Rattle.std.specs.Prelude.{◌≡◌, ℕ, List, length, Some, Result, Ok, Err, IsTrue}
use Rattle.std.specs.Io.KnownBytes.{Appends, Keeps}
use Rattle.dev_io.specs.Causes.{Rose}
use Rattle.dev_io.specs.Streams.{AppendsPrefix}
use Rattle.command_line.specs.Notes.{Noted}
use Rattle.comp_tree.specs.Raster.{Raster, IsPlane}
use Rattle.orders.specs.declared.words.Usage.{Usage as AtFault}
use Rattle.run_relation.specs.Headline.{InputUse, OutputUse, Took, TookAtMost, IsUnused}
use Rattle.mesh_background.specs.Laws.{IsOwnMedian}
use Rattle.mesh_background.specs.Residuals.{residual_of}
use Rattle.tree_products.specs.Catalogues.{detected_hdus}
use Rattle.tile_laws.specs.Pieces.{DetectionChoice, searched}
use Rattle.tile_join.specs.declared.tiles.TileCatalogue.{TileCatalogue}
use Rattle.tile_join.specs.Made.{AreTilesMade}
use Rattle.join_top.specs.declared.ends.JoinEnd.{JoinEnd}
use Rattle.join_top.specs.declared.ends.JoinEnd.TheVariants.{Done, Usage, Refused, ReadFault, WriteFault, NoMemory}
use Rattle.join_top.specs.Joinings.{AreTilesIn, IsJoinedOutput, IsRefusalOf}
use Rattle.join_top.specs.JoinNotes.{join_status, join_note}

-- The tiles' output was written and their bytes were taken. Where they are what detection makes of windows of one image, it is what detection
-- makes of the whole. And where no number was given for cells without a value, or the image's own median was, it is what `detect` writes of it
pub record WritesJoined (bytes : List ℕ) (i : InputUse) (o : OutputUse) : Type 0 where
  pub output : List ℕ
  pub is_output : IsJoinedOutput bytes output
  pub written : Appends o.written o.written' output
  pub taken : Took i.left i.left' (length bytes)
  pub image : (d : DetectionChoice) (r : Raster) (tiles : List TileCatalogue) → IsPlane r → AreTilesIn bytes r.shape tiles → AreTilesMade d r tiles
      → output ≡ detected_hdus (searched d r) d.connect d.choice
  pub whole : (d : DetectionChoice) (r : Raster) (tiles : List TileCatalogue) → IsPlane r → AreTilesIn bytes r.shape tiles → AreTilesMade d r tiles
      → IsOwnMedian d.empty r → output ≡ detected_hdus (residual_of r d.mesh d.flat) d.connect d.choice

-- a front of the tiles' output was written
pub record CutsJoined (bytes : List ℕ) (i : InputUse) (o : OutputUse) : Type 0 where
  pub output : List ℕ
  pub is_output : IsJoinedOutput bytes output
  pub front : AppendsPrefix o.written o.written' output
  pub taken : Took i.left i.left' (length bytes)

-- what an end says of the bytes of the input
abbrev pub JoinEndsBy : List ℕ → InputUse → OutputUse → JoinEnd → Type 0
JoinEndsBy bytes i o Done = WritesJoined bytes i o
JoinEndsBy bytes i o (Usage usage) = Unit {0}
JoinEndsBy bytes i o (Refused refusal) = IsRefusalOf bytes refusal × Took i.left i.left' (length bytes)
JoinEndsBy bytes i o ReadFault = TookAtMost i.left i.left' (length bytes)
JoinEndsBy bytes i o WriteFault = CutsJoined bytes i o
JoinEndsBy bytes i o NoMemory = TookAtMost i.left i.left' (length bytes)

-- what it says in any case, where the words are read so
abbrev pub JoinEndCause : Result Unit AtFault → InputUse → OutputUse → JoinEnd → Type 0
JoinEndCause words i o Done = (words ≡ Ok tt) × IsTrue o.settled'
JoinEndCause words i o (Usage usage) = (words ≡ Err usage) × IsUnused i × Keeps o.written o.written'
JoinEndCause words i o (Refused refusal) = (words ≡ Ok tt) × Keeps o.written o.written'
JoinEndCause words i o ReadFault = (words ≡ Ok tt) × Rose i.faults i.faults' × Keeps o.written o.written'
JoinEndCause words i o WriteFault = (words ≡ Ok tt) × Rose o.faults o.faults'
JoinEndCause words i o NoMemory = (words ≡ Ok tt) × Keeps o.written o.written'

-- What a run of `join` does to its input, its output and its notes, and its status: 0 where all was written, 1 where the words are others, 2 where
-- the input is refused, 3 at a read fault, 4 at a write fault, and 5 where memory is wanted.
pub record IsJoinOf (words : Result Unit AtFault) (i : InputUse) (o n : OutputUse) (status : ℕ) : Type 0 where
  pub end : JoinEnd
  pub status_is : status ≡ join_status end
  pub told : (bytes : List ℕ) → words ≡ Ok tt → i.left ≡ Some bytes → JoinEndsBy bytes i o end
  pub cause : JoinEndCause words i o end
  pub noted : Noted n.written n.written' n.settled' n.faults n.faults' (join_note end)
