use Rattle.std.proofs.Common.{◌≡◌, ◌-◌, ◌*◌, ◌^◌, ◌≤◌, length, sym, subst, subst₂, ap, ◌∙◌, refl, arith}
use Rattle.std.proofs.lemmas.List.{length-map}
use Rattle.comp_tree.specs.declared.shape.Shape.{Shape}
use Rattle.strip_flood.specs.Strips.{IsFresh}
use Rattle.strip_flood.proofs.Working.{rows_times, ranks_fit, strip_known}
use Rattle.std.proofs.lemmas.Result.{IfOk-from_err}
use Rattle.strip_flood.proofs.Fitting.{count_fits, rows_few, rows_order, rows_within, strip_short}
use Rattle.strip_flood.proofs.job.StripJob.prepare.Goals as goal

pub invariant_of-result : goal.invariant_of-result
invariant_of-result c =
    let height : c.shape-shape.result.height ≡ c.args.plane.now.shape.height = ap (λ (s : Shape). s.height) c.shape-shape.ensures.same in
    let count : length c.in_ok-ranking.ranking.ranks.items ≡ (c.args.end_row - c.args.first_row) * c.shape-shape.result.width =
    c.in_ok-ranking.ensures.length ∙ rows_times c.shape-shape.result.width c.args.first_row c.args.end_row c.requires.rows in
    let inside : c.args.end_row ≤ c.shape-shape.result.height = omega (arith, c.requires.inside) in
    let fresh : IsFresh (length c.in_ok-ranking.ranking.ranks.items) (length c.in_ok-ranking.ranking.levels.items) c.in_ok-flood.flood
    = subst₂ (λ n m. IsFresh n m c.in_ok-flood.flood) (c.len.ensures ∙ c.in_ok-ranking.ranking.ranks.ok.0)
    (c.len-2.ensures ∙ c.in_ok-ranking.ranking.levels.ok.0) c.in_ok-flood.ensures.fresh in
    record {
      known = strip_known c.args.connect c.shape-shape.result.width c.shape-shape.result.height c.args.first_row c.args.end_row c.in_ok-ranking.ranking.ranks
          c.in_ok-ranking.ranking.levels c.offsets.result c.shape-shape.result.within_limits c.requires.rows inside count
          c.in_ok-ranking.ensures.rising c.offsets.ensures;
      sides = refl;
      start = refl;
      links_length = fresh.links_length;
      fresh = λ e. fresh;
      standing = record { standing = λ e. cc };
    }

pub returns-clause-fit : goal.returns-clause-fit
returns-clause-fit c = record {
  width = ap (λ (s : Shape). s.width) (sym c.shape-shape.ensures.same);
  height = ap (λ (s : Shape). s.height) (sym c.shape-shape.ensures.same);
  count = length-map _ _ ∙ (c.in_ok-ranking.ensures.length ∙ rows_times c.shape-shape.result.width c.args.first_row c.args.end_row c.requires.rows);
  same = ranks_fit c.args.plane.now.values
      (c.args.first_row * c.shape-shape.result.width) c.in_ok-ranking.ranking.levels.items c.in_ok-ranking.ranking.ranks.items
      c.in_ok-ranking.ensures.ranks;
}

pub returns-in_err-ranking-clause-fit : goal.returns-in_err-ranking-clause-fit
returns-in_err-ranking-clause-fit c = IfOk-from_err _ _ c.from_residual.ensures.0

pub returns-in_err-ranking-clause-connect : goal.returns-in_err-ranking-clause-connect
returns-in_err-ranking-clause-connect c = IfOk-from_err _ _ c.from_residual.ensures.0

pub returns-in_err-ranking-clause-first_row : goal.returns-in_err-ranking-clause-first_row
returns-in_err-ranking-clause-first_row c = IfOk-from_err _ _ c.from_residual.ensures.0

pub returns-in_err-ranking-clause-end_row : goal.returns-in_err-ranking-clause-end_row
returns-in_err-ranking-clause-end_row c = IfOk-from_err _ _ c.from_residual.ensures.0

pub returns-in_err-ranking-clause-unflooded : goal.returns-in_err-ranking-clause-unflooded
returns-in_err-ranking-clause-unflooded c = IfOk-from_err _ _ c.from_residual.ensures.0

pub returns-in_err-ranking-clause-links : goal.returns-in_err-ranking-clause-links
returns-in_err-ranking-clause-links c = IfOk-from_err _ _ c.from_residual.ensures.0

pub returns-in_err-ranking-clause-unlinked : goal.returns-in_err-ranking-clause-unlinked
returns-in_err-ranking-clause-unlinked c = IfOk-from_err _ _ c.from_residual.ensures.0

pub returns-in_err-flood-clause-fit : goal.returns-in_err-flood-clause-fit
returns-in_err-flood-clause-fit c = IfOk-from_err _ _ c.from_residual-in_err-flood.ensures.0

pub returns-in_err-flood-clause-connect : goal.returns-in_err-flood-clause-connect
returns-in_err-flood-clause-connect c = IfOk-from_err _ _ c.from_residual-in_err-flood.ensures.0

pub returns-in_err-flood-clause-first_row : goal.returns-in_err-flood-clause-first_row
returns-in_err-flood-clause-first_row c = IfOk-from_err _ _ c.from_residual-in_err-flood.ensures.0

pub returns-in_err-flood-clause-end_row : goal.returns-in_err-flood-clause-end_row
returns-in_err-flood-clause-end_row c = IfOk-from_err _ _ c.from_residual-in_err-flood.ensures.0

pub returns-in_err-flood-clause-unflooded : goal.returns-in_err-flood-clause-unflooded
returns-in_err-flood-clause-unflooded c = IfOk-from_err _ _ c.from_residual-in_err-flood.ensures.0

pub returns-in_err-flood-clause-links : goal.returns-in_err-flood-clause-links
returns-in_err-flood-clause-links c = IfOk-from_err _ _ c.from_residual-in_err-flood.ensures.0

pub returns-in_err-flood-clause-unlinked : goal.returns-in_err-flood-clause-unlinked
returns-in_err-flood-clause-unlinked c = IfOk-from_err _ _ c.from_residual-in_err-flood.ensures.0

pub offsets-requires : goal.offsets-requires
offsets-requires c = c.shape-shape.result.within_limits.few_columns

pub returns-clause-connect : goal.returns-clause-connect
returns-clause-connect c = refl

pub returns-clause-first_row : goal.returns-clause-first_row
returns-clause-first_row c = refl

pub returns-clause-end_row : goal.returns-clause-end_row
returns-clause-end_row c = refl

pub returns-clause-unflooded : goal.returns-clause-unflooded
returns-clause-unflooded c = refl

pub overflow_mul-first : goal.overflow_mul-first
overflow_mul-first c = count_fits (c.args.first_row * c.shape-shape.result.width) (rows_few c.shape-shape.result.width c.shape-shape.result.height
    c.args.first_row c.shape-shape.result.within_limits (omega (
      arith,
      (subst (λ n. c.args.end_row ≤ n) (sym (ap (λ (s : Shape). s.height)
          c.shape-shape.ensures.same)) c.requires.inside),
      c.requires.rows,
    )))

pub overflow_mul-end : goal.overflow_mul-end
overflow_mul-end c = count_fits (c.args.end_row * c.shape-shape.result.width) (rows_few c.shape-shape.result.width c.shape-shape.result.height
    c.args.end_row c.shape-shape.result.within_limits (subst (λ n. c.args.end_row ≤ n) (sym (ap (λ (s : Shape). s.height) c.shape-shape.ensures.same))
    c.requires.inside))

pub rank_pixels-requires-clause-order : goal.rank_pixels-requires-clause-order
rank_pixels-requires-clause-order c = rows_order c.shape-shape.result.width c.args.first_row c.args.end_row c.requires.rows

pub rank_pixels-requires-clause-inside : goal.rank_pixels-requires-clause-inside
rank_pixels-requires-clause-inside c = rows_within c.shape-shape.result.width c.shape-shape.result.height c.args.end_row (length
    c.args.plane.now.values) c.shape-shape.ensures.pixels (subst (λ n. c.args.end_row ≤ n) (sym (ap (λ (s : Shape). s.height)
    c.shape-shape.ensures.same)) c.requires.inside)

pub rank_pixels-requires-clause-few : goal.rank_pixels-requires-clause-few
rank_pixels-requires-clause-few c =
    let e = rows_times c.shape-shape.result.width c.args.first_row c.args.end_row c.requires.rows in
    let short : (c.args.end_row - c.args.first_row) * c.shape-shape.result.width ≤ 2 ^ 24 =
    subst (λ (s : Shape). (c.args.end_row - c.args.first_row) * s.width ≤ 2 ^ 24) (sym c.shape-shape.ensures.same)
    (strip_short c.args.plane.now.shape.width c.args.plane.now.shape.height c.args.first_row c.args.end_row c.requires.inside c.requires.short) in
    omega (arith, e, short)

pub new-requires-clause-count : goal.new-requires-clause-count
new-requires-clause-count c =
    let e = rows_times c.shape-shape.result.width c.args.first_row c.args.end_row c.requires.rows in
    let short : (c.args.end_row - c.args.first_row) * c.shape-shape.result.width ≤ 2 ^ 24 =
    subst (λ (s : Shape). (c.args.end_row - c.args.first_row) * s.width ≤ 2 ^ 24) (sym c.shape-shape.ensures.same)
    (strip_short c.args.plane.now.shape.width c.args.plane.now.shape.height c.args.first_row c.args.end_row c.requires.inside c.requires.short) in
    let same = c.len.ensures ∙ c.in_ok-ranking.ranking.ranks.ok.0 in
    omega (arith, e, short, same, c.in_ok-ranking.ensures.length)

pub new-requires-clause-ranks : goal.new-requires-clause-ranks
new-requires-clause-ranks c =
    let e = rows_times c.shape-shape.result.width c.args.first_row c.args.end_row c.requires.rows in
    let short : (c.args.end_row - c.args.first_row) * c.shape-shape.result.width ≤ 2 ^ 24 =
    subst (λ (s : Shape). (c.args.end_row - c.args.first_row) * s.width ≤ 2 ^ 24) (sym c.shape-shape.ensures.same)
    (strip_short c.args.plane.now.shape.width c.args.plane.now.shape.height c.args.first_row c.args.end_row c.requires.inside c.requires.short) in
    let same = c.len-2.ensures ∙ c.in_ok-ranking.ranking.levels.ok.0 in
    omega (arith, e, short, same, c.in_ok-ranking.ensures.few)

pub returns-clause-unlinked : goal.returns-clause-unlinked
returns-clause-unlinked c = c.in_ok-flood.ensures.fresh.unlinked

pub returns-clause-links : goal.returns-clause-links
returns-clause-links c = c.in_ok-flood.ensures.fresh.links_length ∙ (c.len.ensures ∙ (c.in_ok-ranking.ranking.ranks.ok.0 ∙ sym (length-map _ _)))
