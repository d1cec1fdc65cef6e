use Rattle.std.proofs.Common.{sym}
use Rattle.tile_words.proofs.Orders.{join_at_fault, more_at_fault, join_read}
use Rattle.tile_words.proofs.words.read_join.Goals as goal

pub returns-then-not-is_word : goal.returns-then-not-is_word
returns-then-not-is_word c = sym (join_at_fault c.args.words.now (sym c.if-not-is_word.ensures))

pub returns-then-not-is_alone : goal.returns-then-not-is_alone
returns-then-not-is_alone c = sym (more_at_fault c.args.words.now (sym c.if-not-is_word.ensures) (sym c.if-not-is_alone.ensures))

pub returns : goal.returns
returns c = sym (join_read c.args.words.now (sym c.if-not-is_word.ensures) (sym c.if-not-is_alone.ensures))
