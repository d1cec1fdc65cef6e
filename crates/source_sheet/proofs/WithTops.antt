-- The sources of a sheet with the pixels that represent them, taken back to the plane.
use Rattle.std.proofs.Common.{◌≡◌, ℕ, zero, suc, ◌+◌, ◌<◌, ◌≤◌, List, [], ◌∷◌, ◌++◌, length, take, map, get_or, refl, sym, ◌∙◌, ap, subst, arith, length-append}
use Rattle.std.specs.Prelude.{ℤ, Some, slice_get}
use Rattle.std.specs.List.{flat_map}
use Rattle.std.proofs.lemmas.List.{take_more, take_all, length-map, map-append}
use Rattle.std.proofs.lemmas.Simd.{map-map}
use Rattle.std.proofs.lemmas.Option.{slice_get_within, get_or_from_slice_get}
use Rattle.comp_tree.specs.declared.shape.Connect.{Connect}
use Rattle.comp_tree.specs.Raster.{Raster}
use Rattle.comp_tree.specs.ComponentTree.{ComponentTree, rep_in}
use Rattle.comp_tree.specs.Components.{tree_of, nodes}
use Rattle.comp_tree.specs.Laws.{top_of}
use Rattle.comp_tree.specs.declared.shape.Shape.{Shape}
use Rattle.comp_tree.proofs.Exported.{rep-of_node}
use Rattle.node_sums.proofs.Exported.{rows_are}
use Rattle.source_pick.specs.declared.choice.Choice.{Choice}
use Rattle.source_pick.specs.declared.catalogue.CatRow.{CatRow}
use Rattle.source_pick.specs.Catalogue.{FitsColumns, catalogue_row, catalogue, cells_of}
use Rattle.source_pick.specs.Sources.{sources}
use Rattle.source_pick.specs.Sheets.{Part, row_back, sheet_rows, sheet_tops, taken_back, AreTakenBack}
use Rattle.source_sheet.specs.declared.back.Taken.{Taken}
use Rattle.source_sheet.specs.declared.sheet.Sheet.{Sheet}
use Rattle.source_sheet.specs.declared.tops.PickedSource.{PickedSource}
use Rattle.source_sheet.specs.Backs.{SheetLaws, HaveSums, IsNodeAt, found_as, found_of, nodes_in, parts_of}
use Rattle.source_sheet.specs.Checks.{IsInWindow}
use Rattle.source_sheet.specs.Laid.{windows_of, part_of, IsLaidOut}
use Rattle.source_sheet.specs.Tops.{LieAt, tops_back, AreListedWithTops}
use Rattle.source_sheet.proofs.Rows.{length-rows, row_numbered}
use Rattle.source_sheet.proofs.Sheeted.{held_lies, is_sheet_of}
use Rattle.source_sheet.proofs.Showing.{all_placed}
use Rattle.source_sheet.proofs.Taking.{get_mapped}

-- ---- one behind the other

-- what holds of each item so far and of the next holds of all of them
pub each_more : {X : Type 0} (P : X → Type 0) (xs : List X) (x : X) → ((k : ℕ) (y : X) → slice_get xs k ≡ Some y → P y) → P x → (k : ℕ) (y : X)
    → slice_get (xs ++ x ∷ []) k ≡ Some y → P y
each_more P [] x before now zero y at = let same : x ≡ y = cc in subst P same now
each_more P [] x before now (suc k) y at = absurd (cc)
each_more P (z ∷ xs) x before now zero y at = before zero y at
each_more P (z ∷ xs) x before now (suc k) y at = each_more P xs x (λ j w. before (suc j) w) now k y at

pub no_item : {X : Type 0} (P : X → Type 0) (xs : List X) → xs ≡ [] → (k : ℕ) (y : X) → slice_get xs k ≡ Some y → P y
no_item P [] empty k y at = absurd (cc)
no_item P (x ∷ xs) empty k y at = absurd (cc)

-- these are the first count of the sources, as those of the plane
pub record AreFirstBack (width columns : ℕ) (tree : ComponentTree) (taken : List Taken) (count : ℕ) (found : List PickedSource) : Type 0 where
  pub many : length found ≡ count
  pub fits : (i : ℕ) (e : PickedSource) → slice_get found i ≡ Some e → FitsColumns e.row
  pub rows : (s : Raster) (connect : Connect) → tree ≡ tree_of s connect → HaveSums s connect taken → (h : ℤ)
      → map (λ (e : PickedSource). e.row) found ≡ take count (sheet_rows s connect (found_of s h taken))
  pub tops : (s : Raster) (h : ℤ) → map (λ (e : PickedSource). e.rep) found ≡ take count (tops_back width columns s h tree taken)

pub none_back : (width columns : ℕ) (tree : ComponentTree) (taken : List Taken) (found : List PickedSource) → found ≡ []
    → AreFirstBack width columns tree taken 0 found
none_back width columns tree taken found empty = record {
  many = ap (λ (l : List PickedSource). length l) empty;
  fits = no_item (λ (e : PickedSource). FitsColumns e.row) found empty;
  rows = λ s connect is are h. ap (map (λ (e : PickedSource). e.row)) empty;
  tops = λ s h. ap (map (λ (e : PickedSource). e.rep)) empty;
}

top_numbered : (width columns : ℕ) (tree : ComponentTree) (s : Raster) (h : ℤ) (taken : List Taken) (count : ℕ) (e : Taken) (d : ℕ)
    → slice_get taken count ≡ Some e
    → get_or (tops_back width columns s h tree taken) count d ≡ taken_back width columns (part_of s h e.place) (rep_in tree.rows e.node)
top_numbered width columns tree s h taken count e d got =
    get_or_from_slice_get (tops_back width columns s h tree taken) count (taken_back width columns (part_of s h e.place) (rep_in tree.rows e.node)) d
    (get_mapped (λ (x : Taken). taken_back width columns (part_of s h x.place) (rep_in tree.rows x.node)) taken count e got)

length-tops : (width columns : ℕ) (tree : ComponentTree) (s : Raster) (h : ℤ) (taken : List Taken)
    → length (tops_back width columns s h tree taken) ≡ length taken
length-tops width columns tree s h taken = length-map taken (λ (x : Taken). taken_back width columns (part_of s h x.place) (rep_in tree.rows x.node))

pub back_more : (width columns : ℕ) (tree : ComponentTree) (taken : List Taken) (count : ℕ) (found found' : List PickedSource) (e : Taken) (next : PickedSource)
    → AreFirstBack width columns tree taken count found → slice_get taken count ≡ Some e → found' ≡ found ++ next ∷ [] → FitsColumns next.row
    → ((s : Raster) (connect : Connect) → tree ≡ tree_of s connect → HaveSums s connect taken → (t : Raster) (h : ℤ)
    → next.row ≡ row_back (part_of t h e.place) (catalogue_row s connect (count + 1) e.node))
    → ((s : Raster) (h : ℤ) → next.rep ≡ taken_back width columns (part_of s h e.place) (rep_in tree.rows e.node))
    → AreFirstBack width columns tree taken (count + 1) found'
back_more width columns tree taken count found found' e next before got more fits row top = record {
  many = ap (λ (l : List PickedSource). length l) more ∙ length-append found (next ∷ []) ∙ ap (λ n. n + 1) before.many;
  fits = subst (λ (l : List PickedSource). (i : ℕ) (e : PickedSource) → slice_get l i ≡ Some e → FitsColumns e.row) (sym more)
      (each_more (λ (e : PickedSource). FitsColumns e.row) found next before.fits fits);
  rows = λ s connect is are h.
      ap (map (λ (e : PickedSource). e.row)) more ∙ map-append (λ (e : PickedSource). e.row) found (next ∷ [])
      ∙ ap (λ (l : List CatRow). l ++ next.row ∷ []) (before.rows s connect is are h)
      ∙ ap (λ (r : CatRow). take count (sheet_rows s connect (found_of s h taken)) ++ r ∷ [])
      (row s connect is are s h ∙ sym (row_numbered s connect h taken count e next.row got))
      ∙ sym (take_more (sheet_rows s connect (found_of s h taken)) count next.row
      (let few : count < length taken = slice_get_within taken count e got in omega (arith, few, length-rows s connect h taken)));
  tops = λ s h.
      ap (map (λ (e : PickedSource). e.rep)) more ∙ map-append (λ (e : PickedSource). e.rep) found (next ∷ [])
      ∙ ap (λ (l : List ℕ). l ++ next.rep ∷ []) (before.tops s h)
      ∙ ap (λ (x : ℕ). take count (tops_back width columns s h tree taken) ++ x ∷ [])
      (top s h ∙ sym (top_numbered width columns tree s h taken count e next.rep got))
      ∙ sym (take_more (tops_back width columns s h tree taken) count next.rep
      (let few : count < length taken = slice_get_within taken count e got in omega (arith, few, length-tops width columns tree s h taken)));
}

-- so all of them are
pub all_rows : (width columns : ℕ) (tree : ComponentTree) (taken : List Taken) (count : ℕ) (found : List PickedSource)
    → AreFirstBack width columns tree taken count found → length taken ≤ count → (s : Raster) (connect : Connect) → tree ≡ tree_of s connect
    → HaveSums s connect taken → (h : ℤ) → map (λ (e : PickedSource). e.row) found ≡ sheet_rows s connect (found_of s h taken)
all_rows width columns tree taken count found are whole s connect is have h =
    are.rows s connect is have h ∙ take_all count (sheet_rows s connect (found_of s h taken)) (omega (arith, whole, length-rows s connect h taken))

-- ---- where the pixels lie

-- the pixel that represents a node, as the tree has it
pub rep_is_top : (s : Raster) (connect : Connect) (tree : ComponentTree) (n : ℕ) → tree ≡ tree_of s connect → n < length tree.rows
    → rep_in tree.rows n ≡ top_of s connect n
rep_is_top s connect tree n is within =
    ap (λ (t : ComponentTree). rep_in t.rows n) is ∙ rep-of_node s connect n (omega (arith, within, rows_are s connect tree is))

pub lie_with_tops : (r : Raster) (connect : Connect) (choice : Choice) (sheet : Sheet) → IsLaidOut r connect choice sheet → SheetLaws
    → (tree : ComponentTree) (taken : List Taken) → tree ≡ tree_of sheet.plane connect
    → AreTakenBack r sheet.plane connect choice (parts_of sheet.plane choice.threshold sheet.places.items) (found_of sheet.plane choice.threshold taken)
    → ((i : ℕ) (e : Taken) → slice_get taken i ≡ Some e → (j : ℕ) × (slice_get sheet.places.items j ≡ Some e.place))
    → ((i : ℕ) (e : Taken) → slice_get taken i ≡ Some e → IsNodeAt tree e)
    → LieAt sheet.whole sheet.plane.shape tree taken
lie_with_tops r connect choice sheet l laws tree taken is back at nodes_at i e got =
    let k : (j : ℕ) × (slice_get sheet.places.items j ≡ Some e.place) = at i e got in
    let o = back.each i (part_of sheet.plane choice.threshold e.place) e.node (get_mapped (found_as sheet.plane choice.threshold) taken i e got) in
    record {
      placed = all_placed r connect choice sheet l laws k.0 e.place k.1;
      top =
          subst (λ (p : ℕ). IsInWindow sheet.plane.shape.width (windows_of e.place).to p)
          (sym (rep_is_top sheet.plane connect tree e.node is (nodes_at i e got).node))
          (held_lies r connect choice sheet l laws e.place (top_of sheet.plane connect e.node) o.3);
    }

-- ---- so they are those of the plane

same_maps : {X Y : Type 0} (f g : X → Y) (xs : List X) → ((i : ℕ) (x : X) → slice_get xs i ≡ Some x → f x ≡ g x) → map f xs ≡ map g xs
same_maps f g [] same = refl
same_maps f g (x ∷ xs) same = ap (λ y. y ∷ map f xs) (same 0 x refl) ∙ ap (λ l. g x ∷ l) (same_maps f g xs (λ i. same (suc i)))

pub listed_with_tops : (r : Raster) (connect : Connect) (choice : Choice) (sheet : Sheet) → IsLaidOut r connect choice sheet → (tree : ComponentTree)
    → tree ≡ tree_of sheet.plane connect → (taken : List Taken) (nodes : List ℕ) (found : List PickedSource)
    → AreTakenBack r sheet.plane connect choice (parts_of sheet.plane choice.threshold sheet.places.items) (found_of sheet.plane choice.threshold taken)
    → ((i : ℕ) (e : Taken) → slice_get taken i ≡ Some e → (j : ℕ) × (slice_get sheet.places.items j ≡ Some e.place))
    → ((i : ℕ) (e : Taken) → slice_get taken i ≡ Some e → IsNodeAt tree e)
    → nodes ≡ nodes_in taken
    → map (λ (e : PickedSource). e.row) found ≡ sheet_rows sheet.plane connect (found_of sheet.plane choice.threshold taken)
    → map (λ (e : PickedSource). e.rep) found
    ≡ tops_back sheet.whole.width sheet.plane.shape.width sheet.plane choice.threshold tree taken
    → AreListedWithTops r connect choice sheet nodes found
unfolding sheet_tops
listed_with_tops r connect choice sheet l tree is taken nodes found back at nodes_at nodes_are rows tops = record {
  listed = record { taken = taken; back = back; placed = at; nodes_are = nodes_are; cells_are = ap (flat_map cells_of) rows };
  rows_are = rows;
  tops_are = tops ∙ same_maps _ _ taken one ∙ sym (map-map (λ (e : Part × ℕ). taken_back r.shape.width sheet.plane.shape.width e.0 (top_of sheet.plane connect e.1))
      (found_as sheet.plane choice.threshold) taken);
}
  where
    one : (i : ℕ) (e : Taken) → slice_get taken i ≡ Some e
        → taken_back sheet.whole.width sheet.plane.shape.width (part_of sheet.plane choice.threshold e.place) (rep_in tree.rows e.node)
        ≡ taken_back r.shape.width sheet.plane.shape.width (part_of sheet.plane choice.threshold e.place) (top_of sheet.plane connect e.node)
    one i e got =
        ap (λ (x : Shape). taken_back x.width sheet.plane.shape.width (part_of sheet.plane choice.threshold e.place) (rep_in tree.rows e.node)) l.whole
        ∙ ap (taken_back r.shape.width sheet.plane.shape.width (part_of sheet.plane choice.threshold e.place))
        (rep_is_top sheet.plane connect tree e.node is (nodes_at i e got).node)

pub rows_of_catalogue : (r : Raster) (connect : Connect) (choice : Choice) (sheet : Sheet) → IsLaidOut r connect choice sheet → SheetLaws → (nodes : List ℕ)
    (found : List PickedSource) → AreListedWithTops r connect choice sheet nodes found
    → map (λ (e : PickedSource). e.row) found ≡ catalogue r connect choice
rows_of_catalogue r connect choice sheet l laws nodes found k =
    k.rows_are
    ∙ sym (laws.catalogue r sheet.plane connect choice (parts_of sheet.plane choice.threshold sheet.places.items)
    (found_of sheet.plane choice.threshold k.listed.taken) l.one_each l.one_each_there (is_sheet_of r connect choice sheet l laws) k.listed.back)

pub tops_of_sources : (r : Raster) (connect : Connect) (choice : Choice) (sheet : Sheet) → IsLaidOut r connect choice sheet → SheetLaws → (nodes : List ℕ)
    (found : List PickedSource) → AreListedWithTops r connect choice sheet nodes found
    → map (λ (e : PickedSource). e.rep) found ≡ map (top_of r connect) (sources r connect choice)
tops_of_sources r connect choice sheet l laws nodes found k =
    k.tops_are
    ∙ sym (laws.tops r sheet.plane connect choice (parts_of sheet.plane choice.threshold sheet.places.items)
    (found_of sheet.plane choice.threshold k.listed.taken) l.one_each l.one_each_there (is_sheet_of r connect choice sheet l laws) k.listed.back)
