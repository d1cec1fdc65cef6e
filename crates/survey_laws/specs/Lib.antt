pub mod WrittenTables
pub mod Laws
