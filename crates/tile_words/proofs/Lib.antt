mod Faults
mod Orders
mod WideShapes
