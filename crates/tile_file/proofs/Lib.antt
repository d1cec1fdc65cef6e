mod InTurn
mod Extents
mod CatalogueCells
mod Puts
mod Apart
