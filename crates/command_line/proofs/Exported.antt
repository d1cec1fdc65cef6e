-- The lemmas of this crate that crates above use. Its other modules of lemmas are its own.

-- a text that is lent, and the line of an item: it stands at its place in the list of all texts, or of all lines
pub use Rattle.command_line.proofs.LineLemmas.{text_at, text_in, line_is, line_in}
-- pieces one behind the other, the first of which stand in the sink or wait: one more, or one that was cut short; all of them
pub use Rattle.command_line.proofs.LineLemmas.{waiting, waiting_cut, all_lines}
-- what waited was put, and nothing waited before
pub use Rattle.command_line.proofs.LineLemmas.{line_flushed}
-- what the notes got of a line: a front of it, where it was cut short, or all of it, with the call that hands it on
pub use Rattle.command_line.proofs.Telling.{noted_front, noted_line}
