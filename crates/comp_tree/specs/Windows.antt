-- Model: a window of a plane, and the law of its components. A window's pixels have numbers of their own, from its corner on.
use Rattle.std.specs.Prelude.{◌≡◌, ℕ, ◌+◌, ◌*◌, ◌/◌, ◌%◌, ◌<◌, ◌≤◌, ◌↔◌, ◌⊎◌, ◌&&◌, nat_le, nat_lt, Bool, IsTrue, ℤ, length, map}
use Rattle.std.specs.List.{range_with_len}
use Rattle.comp_tree.specs.declared.shape.Connect.{Connect}
use Rattle.comp_tree.specs.declared.shape.Shape.{Shape}
use Rattle.comp_tree.specs.Raster.{Raster, IsPlane, value_at}
use Rattle.comp_tree.specs.Grid.{are_neighbours}
use Rattle.comp_tree.specs.Components.{IsReached}

-- the columns from `left` on and the rows from `top` on, as many as the shape has
pub record Window : Type 0 where
  pub left : ℕ
  pub top : ℕ
  pub shape : Shape

-- it lies in an image of this shape
pub record IsInside (whole : Shape) (w : Window) : Type 0 where
  pub columns : w.left + w.shape.width ≤ whole.width
  pub rows : w.top + w.shape.height ≤ whole.height

-- the number that the window's pixel q has in an image with so many columns
unfoldable pub in_whole : ℕ → Window → ℕ → ℕ
in_whole width w q = (q / w.shape.width + w.top) * width + (q % w.shape.width + w.left)

-- the plane that is seen through the window
unfoldable pub seen_through : Window → Raster → Raster
seen_through w r = record {
  shape = w.shape;
  values = map (λ q. value_at r.values (in_whole r.shape.width w q)) (range_with_len 0 (w.shape.width * w.shape.height));
}

-- pixel p of r, which stands in the window's plane s with the same value
pub record IsShown (r s : Raster) (w : Window) (p : ℕ) : Type 0 where
  pub it : ℕ
  pub below : it < length s.values
  pub place : in_whole r.shape.width w it ≡ p
  pub same : value_at r.values p ≡ value_at s.values it

-- s has the window's shape, and shows each pixel of r that is sure
pub record Shows (r s : Raster) (w : Window) (sure : ℕ → Bool) : Type 0 where
  pub shape_is : s.shape ≡ w.shape
  pub inside : IsInside r.shape w
  pub shown : (p : ℕ) → p < length r.values → IsTrue (sure p) → IsShown r s w p

-- pixel p and its neighbours in r are sure
abbrev pub IsSureAround : Raster → Connect → (ℕ → Bool) → ℕ → Type 0
IsSureAround r connect sure p = (a : ℕ) → a < length r.values → (p ≡ a) ⊎ IsTrue (are_neighbours connect r.shape.width p a) → IsTrue (sure a)

-- the component of p at level h lies with its neighbours among the sure pixels: in the whole, and as the window sees it
abbrev pub LiesSure : Raster → Connect → ℤ → (ℕ → Bool) → ℕ → Type 0
LiesSure r connect h sure p = (a : ℕ) → IsReached r connect h p a → IsSureAround r connect sure a

abbrev pub LiesSureIn : Raster → Raster → Window → Connect → ℤ → (ℕ → Bool) → ℕ → Type 0
LiesSureIn r s w connect h sure q = (b : ℕ) → IsReached s connect h q b → IsSureAround r connect sure (in_whole r.shape.width w b)

-- what is reached from a pixel and from its like in the window is the same
abbrev pub ReachesTheSame : Raster → Raster → Window → Connect → ℤ → ℕ → Type 0
ReachesTheSame r s w connect h q = (b : ℕ) → IsReached s connect h q b ↔ IsReached r connect h (in_whole r.shape.width w q) (in_whole r.shape.width w b)

-- ---- boxes

-- the columns from left up to right and the rows from top up to bottom
pub record Box : Type 0 where
  pub left : ℕ
  pub right : ℕ
  pub top : ℕ
  pub bottom : ℕ

-- pixel p of an image with so many columns lies in the box
unfoldable pub is_in_box : ℕ → Box → ℕ → Bool
is_in_box width box p =
    nat_le box.left (p % width) && nat_lt (p % width) box.right && (nat_le box.top (p / width) && nat_lt (p / width) box.bottom)

-- a column, or a row, lies so far within two bounds that its neighbours do too, where there are so many
pub record IsDeep (low high side x : ℕ) : Type 0 where
  pub from : (low < x) ⊎ (low ≡ 0)
  pub to : (x + 1 < high) ⊎ (high ≡ side)
  pub low_at : low ≤ x
  pub high_at : x < high

-- pixel p does in a box
pub record IsDeepIn (whole : Shape) (box : Box) (p : ℕ) : Type 0 where
  pub across : IsDeep box.left box.right whole.width (p % whole.width)
  pub along : IsDeep box.top box.bottom whole.height (p / whole.width)

-- ---- laws

-- where each pixel of a component lies deep in a box, and the box is sure, the component lies with its neighbours among the sure pixels
abbrev pub DeepComponentsLieSure : Type 0
DeepComponentsLieSure = (r s : Raster) (w : Window) (connect : Connect) (h : ℤ) (box : Box) (sure : ℕ → Bool) (q : ℕ) → IsPlane r
    → ((p : ℕ) → IsTrue (is_in_box r.shape.width box p) → IsTrue (sure p))
    → ((b : ℕ) → IsReached s connect h q b → IsDeepIn r.shape box (in_whole r.shape.width w b))
    → LiesSureIn r s w connect h sure q

-- a window of a plane shows each of its pixels
abbrev pub WindowShowsItsPixels : Type 0
WindowShowsItsPixels = (r : Raster) (w : Window) → IsPlane r → IsInside r.shape w
    → (sure : ℕ → Bool) → ((p : ℕ) → IsTrue (sure p) → (q : ℕ) × (q < w.shape.width * w.shape.height) × (in_whole r.shape.width w q ≡ p))
    → IsPlane (seen_through w r) × Shows r (seen_through w r) w sure

-- whether a component lies so is told from the window as well as from the whole
abbrev pub SureComponentsAreSeen : Type 0
SureComponentsAreSeen = (r s : Raster) (w : Window) (connect : Connect) (h : ℤ) (sure : ℕ → Bool) (q : ℕ) → IsPlane r → IsPlane s → Shows r s w sure
    → q < length s.values → IsTrue (sure (in_whole r.shape.width w q))
    → LiesSure r connect h sure (in_whole r.shape.width w q) ↔ LiesSureIn r s w connect h sure q

-- and it is the same component in both
abbrev pub SureComponentsAreTheSame : Type 0
SureComponentsAreTheSame = (r s : Raster) (w : Window) (connect : Connect) (h : ℤ) (sure : ℕ → Bool) (q : ℕ) → IsPlane r → IsPlane s → Shows r s w sure
    → q < length s.values → IsTrue (sure (in_whole r.shape.width w q)) → LiesSureIn r s w connect h sure q
    → ReachesTheSame r s w connect h q
    × ((a : ℕ) → IsReached r connect h (in_whole r.shape.width w q) a → IsShown r s w a)
