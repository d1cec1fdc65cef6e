mod Stripping
mod Headers
mod Bytes
mod Numbers
mod Cells
mod Announcing
mod Apart
