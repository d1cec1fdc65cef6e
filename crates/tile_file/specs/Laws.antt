-- Model: tiles are known by their bytes.
use Rattle.std.specs.Prelude.{◌≡◌, ℕ, List, [], ◌∷◌, ◌++◌}
use Rattle.std.specs.List.{All}
use Rattle.tile_join.specs.declared.tiles.TileCatalogue.{TileCatalogue}
use Rattle.tile_file.specs.TileFiles.{tile_bytes, bytes_of_tiles, IsTileFile}

-- two tiles tell the same
pub record AreSameTile (t u : TileCatalogue) : Type 0 where
  pub whole : t.whole ≡ u.whole
  pub window : t.window ≡ u.window
  pub core : t.core ≡ u.core
  pub boxes : t.open.items ≡ u.open.items
  pub rows : t.rows.items ≡ u.rows.items
  pub numbers : t.map.items ≡ u.map.items

-- so do tiles one by one
abbrev pub AreSameTiles : List TileCatalogue → List TileCatalogue → Type 0
AreSameTiles [] [] = Unit {0}
AreSameTiles [] (u ∷ us) = ⊥
AreSameTiles (t ∷ ts) [] = ⊥
AreSameTiles (t ∷ ts) (u ∷ us) = AreSameTile t u × AreSameTiles ts us

-- Tiles whose bytes, with what stands behind them, are the same tell the same, and the same stands behind them.
abbrev pub TilesAreToldApart : Type 0
TilesAreToldApart =
    (t u : TileCatalogue) (a b : List ℕ) → IsTileFile t → IsTileFile u → tile_bytes t ++ a ≡ tile_bytes u ++ b → AreSameTile t u × (a ≡ b)

-- So do all tiles of files with the same bytes.
abbrev pub TileFilesAreToldApart : Type 0
TileFilesAreToldApart =
    (ts us : List TileCatalogue) → All IsTileFile ts → All IsTileFile us → bytes_of_tiles ts ≡ bytes_of_tiles us → AreSameTiles ts us
