-- Bookkeeping: a group of strips before and after it is joined, half by half.
use Rattle.std.specs.Prelude.{◌≡◌, ℕ, ◌+◌, ◌*◌, ◌≤◌, List, length}
use Rattle.comp_tree.specs.declared.shape.Connect.{Connect}
use Rattle.comp_tree.specs.Raster.{Raster}
use Rattle.comp_tree.specs.Joined.{Or}
use Rattle.comp_tree.specs.Forest.{no_node, IsLink, IsForest, JoinSame}
use Rattle.tree_join.specs.Skips.{AreTrueSkips}
use Rattle.strip_crew.specs.Boundaries.{AreRows, AreApart, IsRowsPair}
use Rattle.strip_crew.specs.declared.group.Group.{Group}

-- links of a group whose strips are still apart
pub record IsGroup (plane : Raster) (first_row : ℕ) (links rows : List ℕ) : Type 0 where
  pub fits : first_row * plane.shape.width + length links ≤ length plane.values
  pub small : length plane.values ≤ no_node
  pub cut : AreRows plane.shape.width first_row (length links) rows
  pub forest : IsForest plane.values (first_row * plane.shape.width) links
  pub apart : AreApart plane.shape.width (first_row * plane.shape.width) links rows

-- they were joined at these rows
pub record IsGroupJoined (plane : Raster) (connect : Connect) (first_row : ℕ) (rows old new : List ℕ) : Type 0 where
  pub same_length : length new ≡ length old
  pub forest : IsForest plane.values (first_row * plane.shape.width) new
  pub joins : JoinSame plane.values (first_row * plane.shape.width) (length old)
      (IsLink (first_row * plane.shape.width) new)
      (Or (IsLink (first_row * plane.shape.width) old) (IsRowsPair plane.values plane.shape.width connect rows))

-- the skips that a group has places for are true of its links
abbrev pub AreGroupSkips : Raster → ℕ → List ℕ → List ℕ → Type 0
AreGroupSkips plane first_row links skips =
    AreTrueSkips plane.values (first_row * plane.shape.width) (length links) (IsLink (first_row * plane.shape.width) links) skips

-- the same of a group as the program holds it
abbrev pub IsGroupOf : Group → List ℕ → Type 0
IsGroupOf group links = IsGroup group.plane.now group.first_row links group.rows.now

abbrev pub IsJoinedGroupOf : Group → List ℕ → List ℕ → Type 0
IsJoinedGroupOf group old new = IsGroupJoined group.plane.now group.connect group.first_row group.rows.now old new

abbrev pub AreSkipsOfGroup : Group → List ℕ → List ℕ → Type 0
AreSkipsOfGroup group links skips = AreGroupSkips group.plane.now group.first_row links skips
