-- Bookkeeping: what is known of an order of a tile that was read.
use Rattle.std.specs.Prelude.{◌≡◌, ◌≤◌, ◌^◌, true, IfSome}
use Rattle.comp_tree.specs.Limits.{IsWithin}
use Rattle.orders.specs.Words.{HasLimits}
use Rattle.tile_make.specs.Placed.{is_tile_place}
use Rattle.tile_words.specs.declared.words.TileOrder.{TileOrder}

-- the order is one of a tile, within the limits of what is read
pub record IsTileOrder (t : TileOrder) : Type 0 where
  pub limits : HasLimits t.order
  pub number : IfSome t.empty (λ v. IsWithin (2 ^ 29) v)
  pub contrast : t.choice.contrast ≤ 1000
  pub placed : is_tile_place t.place t.window t.order.mesh ≡ true
