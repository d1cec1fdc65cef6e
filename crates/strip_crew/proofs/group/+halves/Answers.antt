use Rattle.std.proofs.Common.{◌≡◌, ℕ, ◌+◌, ◌*◌, ◌/◌, ◌<◌, List, length, get_or, ◌⊎◌, sym, ap, ◌∙◌, subst, rules, arith}
use Rattle.std.proofs.lemmas.List.{take_rest}
use Rattle.comp_tree.specs.Forest.{IsLink}
use Rattle.strip_crew.specs.Halves.{IsGroup, IsGroupJoined}
use Rattle.strip_crew.proofs.Halving.{group_none, half_inside, row_below, row_inside, front_group, back_group, halves_forest, halves_fit, halves_reach, all_joined}
use Rattle.strip_crew.proofs.Skipping.{cleared_are_true, halves_have_places, group_skips}
use Rattle.strip_crew.proofs.group.+halves.Goals as goal

pub join_strips-returns-then-is_empty-clause-joined : goal.join_strips-returns-then-is_empty-clause-joined
join_strips-returns-then-is_empty-clause-joined g t c =
    group_none c.args.group.now.plane.now c.args.group.now.connect c.args.group.now.first_row c.args.parents.now c.args.group.now.rows.now c.requires
    (search rules)

pub join_strips-returns-then-is_empty-clause-skips : goal.join_strips-returns-then-is_empty-clause-skips
join_strips-returns-then-is_empty-clause-skips g t c =
    let plane = c.args.group.now.plane.now in let first = c.args.group.now.first_row * plane.shape.width in
    cleared_are_true plane.values first (length c.args.parents.now) (IsLink first c.args.parents.now) c.fill.new.self (length c.args.skips.now)
    (c.fill.ensures.after (λ y e. e))

pub join_strips-join_halves-requires-clause-above : goal.join_strips-join_halves-requires-clause-above
join_strips-join_halves-requires-clause-above g t c κs within =
    let rows = c.args.group.now.rows.now in let k = length rows / 2 in
    let near : k < length rows = half_inside (length rows) c.is_empty.result c.is_empty.ensures c.if-is_empty.false in
    let cut = c.split_at_mut-above in
    let at : c.args.group.now.first_row * c.args.group.now.plane.now.shape.width + length cut.result.0.now ≡ get_or rows k 0 *
    c.args.group.now.plane.now.shape.width =
    ap (λ (n : ℕ). c.args.group.now.first_row * c.args.group.now.plane.now.shape.width + n) cut.ensures.front_len ∙ c.pixels_between-pixels.ensures in
    front_group c.args.group.now.plane.now c.args.group.now.connect c.args.group.now.first_row c.args.parents.now rows c.requires k near
    cut.result.0.now
    cut.result.1.now cut.ensures.value at

pub join_strips-join_halves-requires-clause-below : goal.join_strips-join_halves-requires-clause-below
join_strips-join_halves-requires-clause-below g t c κs within =
    let rows = c.args.group.now.rows.now in let k = length rows / 2 in
    let near : k < length rows = half_inside (length rows) c.is_empty.result c.is_empty.ensures c.if-is_empty.false in
    let cut = c.split_at_mut-above in
    let at : c.args.group.now.first_row * c.args.group.now.plane.now.shape.width + length cut.result.0.now ≡ get_or rows k 0 *
    c.args.group.now.plane.now.shape.width =
    ap (λ (n : ℕ). c.args.group.now.first_row * c.args.group.now.plane.now.shape.width + n) cut.ensures.front_len ∙ c.pixels_between-pixels.ensures in
    subst (λ (l : List ℕ). IsGroup c.args.group.now.plane.now (get_or rows k 0) cut.result.1.now l) (sym (take_rest rows (k + 1)))
    (back_group c.args.group.now.plane.now c.args.group.now.connect c.args.group.now.first_row c.args.parents.now rows c.requires k near
    cut.result.0.now
    cut.result.1.now cut.ensures.value at)

pub join_strips-join_boundary-requires-clause-forest : goal.join_strips-join_boundary-requires-clause-forest
join_strips-join_boundary-requires-clause-forest g t c =
    let plane = c.args.group.now.plane.now in let rows = c.args.group.now.rows.now in let k = length rows / 2 in
    let near : k < length rows = half_inside (length rows) c.is_empty.result c.is_empty.ensures c.if-is_empty.false in let cut =
    c.split_at_mut-above in
    let at : c.args.group.now.first_row * plane.shape.width + length cut.result.0.now ≡ get_or rows k 0 * plane.shape.width =
    ap (λ (n : ℕ). c.args.group.now.first_row * c.args.group.now.plane.now.shape.width + n) cut.ensures.front_len ∙ c.pixels_between-pixels.ensures in
    halves_forest plane c.args.group.now.connect c.args.group.now.first_row c.args.parents.now rows c.requires k near cut.result.0.now
    cut.result.1.now cut.ensures.value
    at c.join_halves.new.above c.join_halves.new.below
    c.join_halves.ensures.above (subst (λ (l : List ℕ). IsGroupJoined plane c.args.group.now.connect (get_or rows k 0) l cut.result.1.now
    c.join_halves.new.below)
    (take_rest rows (k + 1)) c.join_halves.ensures.below)

pub join_strips-join_boundary-requires-clause-skips : goal.join_strips-join_boundary-requires-clause-skips
join_strips-join_boundary-requires-clause-skips g t c =
    let plane = c.args.group.now.plane.now in let first_row = c.args.group.now.first_row in let rows = c.args.group.now.rows.now in let row =
    get_or rows (length rows / 2) 0 in
    let cut = c.split_at_mut-above in let places = c.split_at_mut-skips_above in
    let above = c.join_halves.new.above in let front = c.join_halves.new.skips_above in let back = c.join_halves.new.skips_below in
    let joined : length above ≡ length cut.result.0.now = c.join_halves.ensures.above.same_length in
    let pixels : length above ≡ c.pixels_between-pixels.result = joined ∙ cut.ensures.front_len in
    let at : first_row * plane.shape.width + length above ≡ row * plane.shape.width =
    ap (λ (n : ℕ). first_row * plane.shape.width + n) pixels ∙ c.pixels_between-pixels.ensures in
    let fits : (length front ≡ length above) ⊎ (length back ≡ 0) =
    halves_have_places c.pixels_between-pixels.result (length c.args.skips.now) above front back pixels
    (c.join_halves.ensures.same_places.0 ∙ places.ensures.front_len ∙ c.min-places.ensures)
    (omega (arith, c.join_halves.ensures.same_places.1, places.ensures.back_len, c.min-places.ensures)) in
    group_skips plane first_row row above c.join_halves.new.below front back at fits c.join_halves.ensures.skips_above c.join_halves.ensures.skips_below

pub join_strips-returns-clause-joined : goal.join_strips-returns-clause-joined
join_strips-returns-clause-joined g t c =
    let plane = c.args.group.now.plane.now in let rows = c.args.group.now.rows.now in let k = length rows / 2 in
    let near : k < length rows = half_inside (length rows) c.is_empty.result c.is_empty.ensures c.if-is_empty.false in let cut =
    c.split_at_mut-above in
    let at : c.args.group.now.first_row * plane.shape.width + length cut.result.0.now ≡ get_or rows k 0 * plane.shape.width =
    ap (λ (n : ℕ). c.args.group.now.first_row * c.args.group.now.plane.now.shape.width + n) cut.ensures.front_len ∙ c.pixels_between-pixels.ensures in
    all_joined plane c.args.group.now.connect c.args.group.now.first_row c.args.parents.now rows c.requires k near cut.result.0.now cut.result.1.now
    cut.ensures.value
    at c.join_halves.new.above c.join_halves.new.below
    c.join_halves.ensures.above (subst (λ (l : List ℕ). IsGroupJoined plane c.args.group.now.connect (get_or rows k 0) l cut.result.1.now
    c.join_halves.new.below)
    (take_rest rows (k + 1)) c.join_halves.ensures.below)
    c.join_boundary.new.parents c.join_boundary.auto.parents c.join_boundary.ensures.forest c.join_boundary.ensures.joined

pub join_strips-pixels_between-pixels-requires-clause-rows : goal.join_strips-pixels_between-pixels-requires-clause-rows
join_strips-pixels_between-pixels-requires-clause-rows g t c =
    let rows = c.args.group.now.rows.now in let k = length rows / 2 in
    let near : k < length rows = half_inside (length rows) c.is_empty.result c.is_empty.ensures c.if-is_empty.false in
    omega (arith, row_below c.args.group.now.plane.now c.args.group.now.first_row c.args.parents.now rows c.requires k near)

pub join_strips-pixels_between-pixels-requires-clause-inside : goal.join_strips-pixels_between-pixels-requires-clause-inside
join_strips-pixels_between-pixels-requires-clause-inside g t c =
    let rows = c.args.group.now.rows.now in let k = length rows / 2 in
    let near : k < length rows = half_inside (length rows) c.is_empty.result c.is_empty.ensures c.if-is_empty.false in
    row_inside c.args.group.now.plane.now c.args.group.now.first_row c.args.parents.now rows c.requires k near

pub join_strips-join_boundary-requires-clause-rows : goal.join_strips-join_boundary-requires-clause-rows
join_strips-join_boundary-requires-clause-rows g t c =
    let plane = c.args.group.now.plane.now in let rows = c.args.group.now.rows.now in let k = length rows / 2 in
    let near : k < length rows = half_inside (length rows) c.is_empty.result c.is_empty.ensures c.if-is_empty.false in let cut =
    c.split_at_mut-above in
    let at : c.args.group.now.first_row * plane.shape.width + length cut.result.0.now ≡ get_or rows k 0 * plane.shape.width =
    ap (λ (n : ℕ). c.args.group.now.first_row * c.args.group.now.plane.now.shape.width + n) cut.ensures.front_len ∙ c.pixels_between-pixels.ensures in
    halves_fit plane c.args.group.now.connect c.args.group.now.first_row c.args.parents.now rows c.requires k near cut.result.0.now cut.result.1.now
    cut.ensures.value
    at c.join_halves.new.above c.join_halves.new.below
    c.join_halves.ensures.above (subst (λ (l : List ℕ). IsGroupJoined plane c.args.group.now.connect (get_or rows k 0) l cut.result.1.now
    c.join_halves.new.below)
    (take_rest rows (k + 1)) c.join_halves.ensures.below)

pub join_strips-join_boundary-requires-clause-below : goal.join_strips-join_boundary-requires-clause-below
join_strips-join_boundary-requires-clause-below g t c =
    let rows = c.args.group.now.rows.now in let k = length rows / 2 in
    let near : k < length rows = half_inside (length rows) c.is_empty.result c.is_empty.ensures c.if-is_empty.false in
    row_below c.args.group.now.plane.now c.args.group.now.first_row c.args.parents.now rows c.requires k near

pub join_strips-join_boundary-requires-clause-inside : goal.join_strips-join_boundary-requires-clause-inside
join_strips-join_boundary-requires-clause-inside g t c =
    let plane = c.args.group.now.plane.now in let rows = c.args.group.now.rows.now in let k = length rows / 2 in
    let near : k < length rows = half_inside (length rows) c.is_empty.result c.is_empty.ensures c.if-is_empty.false in let cut =
    c.split_at_mut-above in
    let at : c.args.group.now.first_row * plane.shape.width + length cut.result.0.now ≡ get_or rows k 0 * plane.shape.width =
    ap (λ (n : ℕ). c.args.group.now.first_row * c.args.group.now.plane.now.shape.width + n) cut.ensures.front_len ∙ c.pixels_between-pixels.ensures in
    halves_reach plane c.args.group.now.connect c.args.group.now.first_row c.args.parents.now rows c.requires k near cut.result.0.now
    cut.result.1.now cut.ensures.value
    at c.join_halves.new.above c.join_halves.new.below
    c.join_halves.ensures.above (subst (λ (l : List ℕ). IsGroupJoined plane c.args.group.now.connect (get_or rows k 0) l cut.result.1.now
    c.join_halves.new.below)
    (take_rest rows (k + 1)) c.join_halves.ensures.below)

pub join_halves-join_mut-requires-after_bounds : goal.join_halves-join_mut-requires-after_bounds
join_halves-join_mut-requires-after_bounds g t c κs within = (
  (search rules, ((λ a x. x), ((λ a x. x), ((search rules, search rules, c.requires.above), (search rules, search rules))))),
  (search rules, ((λ a x. x), ((λ a x. x), ((search rules, search rules, c.requires.below), (search rules, search rules))))),
)
