-- The lemmas of this crate that crates above use. Its other modules of lemmas are its own.

-- members of a list of tables, and their names; names that are the same
pub use Rattle.survey_core.proofs.TableLemmas.{Among, all_among, all_from, name_itself, same_name}
-- what `put` makes: it keeps the order and the other tables, and has the new one; what holds of all tables holds of all of it
pub use Rattle.survey_core.proofs.TableLemmas.{all_put, order_put, put_from, put_keeps, put_there}
-- what `without_field` leaves: the other tables, in their order
pub use Rattle.survey_core.proofs.TableLemmas.{order_without, without_from, without_keeps}
-- the cells of a field are there exactly where it is a member; tables in order with the same members are the same
pub use Rattle.survey_core.proofs.TableLemmas.{cells_found, cells_missing, same_tables}
-- the catalogue's columns have so many cells and bytes
pub use Rattle.survey_core.proofs.CatalogueLemmas.{many_columns, columns_size}
-- the test of an order of numbers
pub use Rattle.survey_core.proofs.CatalogueLemmas.{lt_false, lt_true}
