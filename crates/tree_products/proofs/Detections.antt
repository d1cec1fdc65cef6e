-- What is written of the sources of a plane.
use Rattle.std.proofs.Common.{◌≡◌, ◌∙◌, ap, subst, subst₂, ℕ, ◌*◌, ◌≤◌, List, ◌++◌, length, Option, Result, ℤ}
use Rattle.std.specs.Prelude.{slice_index}
use Rattle.std.specs.List.{flat_map}
use Rattle.std.proofs.lemmas.List.{get_or_default}
use Rattle.std.specs.Io.KnownBytes.{Appends}
use Rattle.dev_io.specs.Streams.{PutAppends, AppendsPrefix}
use Rattle.dev_io.specs.Laws.{PutAppends-after, AppendsPrefix-more, AppendsPrefix-after}
use Rattle.comp_tree.specs.declared.shape.Shape.{Shape}
use Rattle.comp_tree.specs.declared.shape.Connect.{Connect}
use Rattle.comp_tree.specs.Raster.{Raster}
use Rattle.comp_tree.specs.ComponentTree.{ComponentTree}
use Rattle.node_sums.specs.Sums.{IsTreeOfPlane}
use Rattle.fits_write.specs.declared.table.Column.{Column}
use Rattle.fits_write.specs.Columns.{IsTable}
use Rattle.fits_write.specs.Hdus.{empty_primary, map_hdu, table_hdu}
use Rattle.source_pick.specs.declared.choice.Choice.{Choice}
use Rattle.source_pick.specs.Sources.{sources}
use Rattle.source_pick.specs.Segmentation.{segmentation_of, segmentation}
use Rattle.source_pick.specs.Catalogue.{catalogue_of, catalogue, cells_of}
use Rattle.source_pick.specs.Locality.{HaveSameSources}
use Rattle.source_pick.proofs.Exported.{numbers-length}
use Rattle.fits_write.specs.CatalogueColumns.{catalogue_columns}
use Rattle.tree_products.specs.Catalogues.{hdus, catalogue_cells, detected_hdus}
use Rattle.tree_products.specs.Catalogues.{IsDetection}

-- a primary HDU, a map and a table were put one behind the other
pub all_put : {T E : Type 0} (a b c d : Option (List ℕ)) (r : Result T E) (shape : Shape) (numbers numbers' : List ℕ) (columns list : List Column)
    (cells cells' : List ℤ) → Appends a b empty_primary → Appends b c (map_hdu shape numbers') → PutAppends c d r (table_hdu list cells')
    → numbers' ≡ numbers → list ≡ columns → cells' ≡ cells
    → PutAppends a d r (empty_primary ++ (map_hdu shape numbers ++ table_hdu columns cells))
all_put a b c d r shape numbers numbers' columns list cells cells' first second third same_numbers same_columns same_cells =
    PutAppends-after a b d r empty_primary (map_hdu shape numbers ++ table_hdu columns cells) first
    (PutAppends-after b c d r (map_hdu shape numbers) (table_hdu columns cells) (subst (λ l. Appends b c (map_hdu shape l)) same_numbers second)
    (subst₂ (λ l z. PutAppends c d r (table_hdu l z)) same_columns same_cells third))

-- a primary HDU was put, and the map behind it cut short
pub map_cut : (a b c : Option (List ℕ)) (shape : Shape) (numbers numbers' rest : List ℕ) → Appends a b empty_primary
    → AppendsPrefix b c (map_hdu shape numbers') → numbers' ≡ numbers → AppendsPrefix a c (empty_primary ++ (map_hdu shape numbers ++ rest))
map_cut a b c shape numbers numbers' rest first second same =
    AppendsPrefix-after a b c empty_primary (map_hdu shape numbers ++ rest) first (AppendsPrefix-more b c (map_hdu shape numbers) rest
    (subst (λ l. AppendsPrefix b c (map_hdu shape l)) same second))

-- a map with a number for each pixel, and a table, can be written
pub can_be_written : (plane : Raster) (tree : ComponentTree) (shape : Shape) (numbers : List ℕ) (cells : List ℤ) → IsTreeOfPlane plane tree
    → shape ≡ plane.shape
    → length plane.values ≡ shape.width * shape.height → length numbers ≡ length tree.node_of → ((p : ℕ) → slice_index numbers p ≤ 2147483647)
    → IsTable catalogue_columns cells
    → IsDetection shape numbers cells
can_be_written plane tree shape numbers cells of_plane same whole one_each few table = record {
  one_each = one_each ∙ numbers-length plane of_plane.0 tree of_plane.1 ∙ whole;
  small = λ k d within. subst (λ n. n ≤ 2147483647) (get_or_default numbers k 0 d within) (few k);
  table = table;
}

-- the map over the sources and the cells of their catalogue are what is written of them
pub is_detection : (plane : Raster) (connect : Connect) (choice : Choice) (shape : Shape) (picked marked listed : List ℕ) (numbers : List ℕ) (cells : List ℤ)
    → shape ≡ plane.shape
    → picked ≡ sources plane connect choice → marked ≡ picked → numbers ≡ segmentation_of plane connect marked → listed ≡ picked
    → cells ≡ flat_map cells_of (catalogue_of plane connect listed) → hdus shape numbers cells ≡ detected_hdus plane connect choice
unfolding detected_hdus segmentation catalogue catalogue_cells
is_detection plane connect choice shape picked marked listed numbers cells same are same_marked mapped same_listed rows =
    let numbers_are = mapped ∙ ap (segmentation_of plane connect) (same_marked ∙ are) in
    let cells_are = rows ∙ ap (λ l. flat_map cells_of (catalogue_of plane connect l)) (same_listed ∙ are) in
    λ i. hdus (same i) (numbers_are i) (cells_are i)

-- planes of one shape with the same sources are written alike
pub detection_same : (r s : Raster) (connect : Connect) (choice : Choice) → r.shape ≡ s.shape → HaveSameSources r s connect choice
    → detected_hdus r connect choice ≡ detected_hdus s connect choice
unfolding detected_hdus catalogue_cells
detection_same r s connect choice same h = λ i. hdus (same i) (h.numbers i) (flat_map cells_of (h.rows i))

-- also where both were taken from a sheet
pub sheet_is_detection : (plane : Raster) (connect : Connect) (choice : Choice) (shape : Shape) (numbers : List ℕ) (cells : List ℤ) → shape ≡ plane.shape
    → numbers ≡ segmentation plane connect choice → cells ≡ flat_map cells_of (catalogue plane connect choice)
    → hdus shape numbers cells ≡ detected_hdus plane connect choice
unfolding detected_hdus catalogue_cells
sheet_is_detection plane connect choice shape numbers cells same numbers_are cells_are =
    ap (λ s. hdus s numbers cells) same ∙ ap (λ n. hdus plane.shape n cells) numbers_are
    ∙ ap (hdus plane.shape (segmentation plane connect choice)) cells_are
