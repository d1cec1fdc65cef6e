use Rattle.std.proofs.Common.{◌≡◌, Bool, List, sym, ◌∙◌, ap}
use Rattle.std.specs.List.{list_all}
use Rattle.std.proofs.lemmas.List.{with_items_is}
use Rattle.comp_tree.specs.declared.shape.Shape.{Shape}
use Rattle.mesh_background.specs.Mesh.{cell_count}
use Rattle.tile_make.specs.TileOf.{has_full_mesh}
use Rattle.tile_make.proofs.Marked.{full_mesh_says, marked_told}
use Rattle.tile_make.proofs.cells.has_full_mesh.Goals as goal

-- the answer is that of the definition
told : (c : goal.After-drop-found) → c.are_all_marked.result ≡ has_full_mesh c.args.image.now c.args.mesh
told c =
    let long =
    c.mark_cells.ensures.one_each ∙ ap (λ (s : Shape). cell_count c.args.mesh s) (sym c.shape.ensures.same) ∙ sym c.cells_of-cells.ensures
    ∙ sym c.in_ok-found.ensures.len in
    c.are_all_marked.ensures
    ∙ ap (λ (xs : List Bool). list_all (λ b. b) xs) (c.deref.ensures.value ∙ with_items_is c.in_ok-found.found c.mark_cells.new.found long)
    ∙ marked_told c.args.image.now c.args.mesh c.mark_cells.new.found c.mark_cells.ensures.one_each c.mark_cells.ensures.marked

pub returns-clause-exact : goal.returns-clause-exact
returns-clause-exact c = told c

pub returns-clause-full : goal.returns-clause-full
returns-clause-full c = λ full. (full_mesh_says c.args.image.now c.args.mesh).0 (sym (told c) ∙ full)
