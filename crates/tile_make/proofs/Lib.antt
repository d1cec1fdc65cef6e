mod Meshing
mod Marked
mod Storing
mod Exactly
mod Moving
mod Made
mod Places
