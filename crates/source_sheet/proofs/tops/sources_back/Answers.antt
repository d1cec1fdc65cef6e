use Rattle.std.proofs.Common.{refl, length, ◌≡◌}
use Rattle.std.specs.Prelude.{Some, slice_get}
use Rattle.std.proofs.lemmas.Option.{slice_get_read}
use Rattle.source_sheet.proofs.WithTops.{back_more, all_rows}
use Rattle.source_sheet.proofs.tops.sources_back.Goals as goal

pub source_back-entry-requires-clause-placed : goal.source_back-entry-requires-clause-placed
source_back-entry-requires-clause-placed c =
    (c.requires.lie c.loop-place.place c.index-taken-place.result
    (slice_get_read c.args.taken.now (length c.args.taken.now) c.loop-place.place c.index-taken-place.result refl c.loop-place-test.true
    c.index-taken-place.is)).placed

pub source_back-entry-requires-clause-lies : goal.source_back-entry-requires-clause-lies
source_back-entry-requires-clause-lies c =
    (c.requires.lie c.loop-place.place c.index-taken-place.result
    (slice_get_read c.args.taken.now (length c.args.taken.now) c.loop-place.place c.index-taken-place.result refl c.loop-place-test.true
    c.index-taken-place.is)).top

pub loop-place-preserved : goal.loop-place-preserved
loop-place-preserved c =
    let there : slice_get c.args.taken.now c.loop-place.place ≡ Some c.index-taken-place.result =
    slice_get_read c.args.taken.now (length c.args.taken.now) c.loop-place.place c.index-taken-place.result refl c.loop-place-test.true
    c.index-taken-place.is in
    back_more c.args.whole.width c.args.onto.width c.args.tree.now c.args.taken.now c.loop-place.place c.loop-place.sources.items c.push.new.self.items
    c.index-taken-place.result c.source_back-entry.result c.loop-place.invariant there c.in_ok-push.ensures.items c.source_back-entry.ensures.columns
    (λ s connect is have. c.source_back-entry.ensures.row s connect is (have c.loop-place.place c.index-taken-place.result there))
    c.source_back-entry.ensures.top

pub returns-clause-rows : goal.returns-clause-rows
returns-clause-rows c =
    all_rows c.args.whole.width c.args.onto.width c.args.tree.now c.args.taken.now c.loop-place.place c.loop-place.sources.items c.loop-place.invariant
    c.loop-place-test.false
