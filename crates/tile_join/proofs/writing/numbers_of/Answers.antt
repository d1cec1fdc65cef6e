use Rattle.std.proofs.Common.{◌∙◌, ap, sym, arith}
use Rattle.std.specs.Prelude.{slice_get}
use Rattle.tile_join.proofs.writing.numbers_of.Goals as goal

pub greatest_number-greatest-requires : goal.greatest_number-greatest-requires
greatest_number-greatest-requires c = λ i row g. c.requires.numbers i row (ap (λ xs. slice_get xs i) (sym c.deref.ensures.value) ∙ g)

pub fill_table-requires-clause-firsts : goal.fill_table-requires-clause-firsts
fill_table-requires-clause-firsts c = λ i row g. c.requires.firsts i row (ap (λ xs. slice_get xs i) (sym c.deref-2.ensures.value) ∙ g)

pub fill_table-requires-clause-numbers : goal.fill_table-requires-clause-numbers
fill_table-requires-clause-numbers c = (
  c.greatest_number-greatest.result,
  omega (arith, c.deref_mut.ensures.len, c.in_ok-table.ensures.len),
  c.greatest_number-greatest.ensures.few,
  λ i row g. c.greatest_number-greatest.ensures.all i row (ap (λ xs. slice_get xs i) (c.deref.ensures.value ∙ sym c.deref-2.ensures.value) ∙ g),
)
