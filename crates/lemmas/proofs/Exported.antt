-- The lemmas that crates above use. All other modules are this crate's own.

-- sums, and the least and the greatest of some numbers, in any order; the order of whole numbers
pub use Rattle.lemmas.proofs.Arithmetic.{plus_assoc, plus_comm, min_assoc, min_comm, max_assoc, max_comm}
pub use Rattle.lemmas.proofs.Arithmetic.{plus_z_assoc, plus_z_comm, int_min_assoc, int_min_comm, int_max_assoc, int_max_comm, less_trans, le_trans}
-- `int_le`, `int_lt` and `int_eq` pass exactly where numbers are in order or the same
pub use Rattle.lemmas.proofs.Orders.{int_le-true, int_le-from, int_le-false, int_lt-true, int_lt-from, int_lt-false, int_lt-from_not_le}
pub use Rattle.lemmas.proofs.Orders.{int_eq-true, int_eq-from, int_eq_refl, cases_int}
-- the tests as orders
pub use Rattle.lemmas.proofs.Orders.{int_le_refl, int_le_trans, int_le_antisym, int_le_from_lt, int_lt_irrefl, int_lt_le, int_lt_le_trans, int_le_lt_trans}
-- a natural number times a whole one: by cases, and of sums and products; it keeps the order
pub use Rattle.lemmas.proofs.Floors.{times-zero, times-suc, times-le, times-plus, times-sum, times-times, times_suc}
-- a quotient that is rounded down is the one number with these bounds, lies where its dividend lies, and moves with it
pub use Rattle.lemmas.proofs.Floors.{IsFloor, floor-is, floor-below, floor-one, floor-from, floor-up_to, floor-moved}
-- tests into `Bool`
pub use Rattle.lemmas.proofs.Tests.{same_bool, both_true}
-- members of a list, by recursion: of what `++`, `map`, `flat_map`, `filter` and ranges make
pub use Rattle.lemmas.proofs.Members.{IsAmong, among-append_left, among-append_right, among-map, among-flat_map, among-filter, among-range}
pub use Rattle.lemmas.proofs.Members.{among_from_filter, among_from_range, all_from_among}
-- a member that passes a test, by `list_any` and by `find`; the first number of a range that passes two
pub use Rattle.lemmas.proofs.Members.{IsWitness, any_from_among, witness_from_any, find_some, find_none}
pub use Rattle.lemmas.proofs.Members.{find_filter_some, find_filter_none, find_filter_first}
-- members by recursion and by their places
pub use Rattle.lemmas.proofs.Lists.{contains_from_among, among_at_place, among_of, among_get, not_empty, or_same}
-- tests that agree on the members filter alike
pub use Rattle.lemmas.proofs.Lists.{filter_same_among}
-- lists that are written one behind the other: those before a place, the one there, and the rest
pub use Rattle.lemmas.proofs.Lists.{concat-more, concat-split}
-- the first number that passes a test: it is this one, or a later one
pub use Rattle.lemmas.proofs.Searches.{found_here, found_later}
-- the first number of a range that passes a test, and of a range that is longer by one
pub use Rattle.lemmas.proofs.Searches.{find_first, find_nothing, find_in_range, last_tried, find_more}
-- lists whose members stand in pairs, one after the other: so are what `++` and `filter` make of them, and `map`, `flat_map`, enumerations and
-- places make the same of both
pub use Rattle.lemmas.proofs.Paired.{ArePaired, at_end, at_more, paired_append, paired_map, paired_filter, paired_flat_map, paired_position}
pub use Rattle.lemmas.proofs.Paired.{paired_enumerated}
-- lists that rise by a number of each member; two of them whose members have partners in the other are paired
pub use Rattle.lemmas.proofs.Paired.{IsRisingBy, IsRising, rising-range, rising-filter, rising-pixels, HasPartnerIn, paired_from_rising}
-- counts of what passes a test, one member more
pub use Rattle.lemmas.proofs.Counts.{one_if, count-cons}
-- decimal digits: lists of digits are numerals, and how two digits are written
pub use Rattle.lemmas.proofs.Digits.{numerals, two_digits}
