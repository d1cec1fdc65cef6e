use Rattle.source_sheet.specs.Laid.{windows_of}
use Rattle.std.proofs.Common.{arith}
use Rattle.source_sheet.proofs.Around.{around_beside}
use Rattle.source_sheet.proofs.Copies.{inside_stays}
use Rattle.source_sheet.proofs.checking.is_run_copied.Goals as goal

pub returns-then-is_inner : goal.returns-then-is_inner
returns-then-is_inner c = λ _ x low high. record {
  same = (c.are_same_around.ensures c.if-not-are_same_around.false x low high).own c.requires.row;
  beside = λ b.
      around_beside c.args.plane.now c.args.sheet.now c.args.connect (windows_of c.args.place.now) x c.args.row b
      (omega (arith, high, c.requires.end)) (c.are_same_around.ensures c.if-not-are_same_around.false x low high);
  beyond =
      inside_stays c.args.plane.now c.args.connect (windows_of c.args.place.now).from x c.args.row c.requires.placed.from
      (c.is_inner.ensures c.if-is_inner.true x low high);
  beyond_sheet =
      inside_stays c.args.sheet.now c.args.connect (windows_of c.args.place.now).to x c.args.row c.requires.placed.to
      (c.is_inner.ensures c.if-is_inner.true x low high);
}

pub returns : goal.returns
returns c = λ k x low high. record {
  same = (c.are_same_around.ensures c.if-not-are_same_around.false x low high).own c.requires.row;
  beside = λ b.
      around_beside c.args.plane.now c.args.sheet.now c.args.connect (windows_of c.args.place.now) x c.args.row b
      (omega (arith, high, c.requires.end)) (c.are_same_around.ensures c.if-not-are_same_around.false x low high);
  beyond = (c.stay_within.ensures k).beyond x low high;
  beyond_sheet = (c.stay_within.ensures k).beyond_sheet x low high;
}
