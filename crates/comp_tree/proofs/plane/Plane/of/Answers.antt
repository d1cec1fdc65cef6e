use Rattle.std.proofs.Common.{◌≡◌, ◌∙◌, ◌*◌, true, false, length, Some, ap, sym, subst, arith}
use Rattle.std.specs.List.{list_all}
use Rattle.comp_tree.specs.Raster.{is_pixel_value as may_stand}
use Rattle.comp_tree.specs.Limits.{value_bound}
use Rattle.comp_tree.specs.Raster.{HasValuesWithin}
use Rattle.comp_tree.proofs.Values.{of_other_count, of_other_values, of_values, within-of_test}
use Rattle.comp_tree.proofs.plane.Plane.of.Goals as goal

pub returns-then-values-pixels : goal.returns-then-values-pixels
returns-then-values-pixels c = sym (of_other_count c.args.shape c.args.values.now (λ e. c.if-values-pixels.true (e ∙ sym c.pixels.ensures.product)))

pub of_pixels-requires-clause-one_each : goal.of_pixels-requires-clause-one_each
of_pixels-requires-clause-one_each c =
    let same : c.in-Some.pixels.items ≡ c.args.values.now = rw c.in-Some.is at c.in_ok-pixels.ensures.same in
    ap length same ∙ c.if-values-pixels.false ∙ c.pixels.ensures.product

pub of_pixels-requires-clause-within : goal.of_pixels-requires-clause-within
of_pixels-requires-clause-within c =
    let same : c.in-Some.pixels.items ≡ c.args.values.now = rw c.in-Some.is at c.in_ok-pixels.ensures.same in
    let there : true ≡ list_all (may_stand (value_bound (length c.args.values.now))) c.args.values.now = rw c.in-Some.is at c.in_ok-pixels.ensures.there in
    subst (λ n. HasValuesWithin n c.in-Some.pixels.items) (sym c.bound_of.ensures.is)
    (subst (HasValuesWithin (value_bound (length c.args.values.now))) (sym same)
    (within-of_test (value_bound (length c.args.values.now)) c.args.values.now (sym there)))

pub of_pixels-requires-clause-bounded : goal.of_pixels-requires-clause-bounded
of_pixels-requires-clause-bounded c =
    let same : c.in-Some.pixels.items ≡ c.args.values.now = rw c.in-Some.is at c.in_ok-pixels.ensures.same in
    let is : c.bound_of.result ≡ value_bound (length c.in-Some.pixels.items) = c.bound_of.ensures.is ∙ ap (λ l. value_bound (length l)) (sym same) in
    omega (arith, is)

pub returns-in-Some : goal.returns-in-Some
returns-in-Some c =
    let same : c.in-Some.pixels.items ≡ c.args.values.now = rw c.in-Some.is at c.in_ok-pixels.ensures.same in
    let there : true ≡ list_all (may_stand (value_bound (length c.args.values.now))) c.args.values.now = rw c.in-Some.is at c.in_ok-pixels.ensures.there in
    let count : length c.args.values.now ≡ c.args.shape.width * c.args.shape.height = c.if-values-pixels.false ∙ c.pixels.ensures.product in
    ap Some c.of_pixels.ensures ∙ ap (λ l. Some (record { shape = c.args.shape; values = l })) same
    ∙ sym (of_values c.args.shape c.args.values.now count (sym there))

pub returns-in-None : goal.returns-in-None
returns-in-None c =
    let there : false ≡ list_all (may_stand (value_bound (length c.args.values.now))) c.args.values.now = rw c.in-None.is at c.in_ok-pixels.ensures.there in
    sym (of_other_values c.args.shape c.args.values.now (sym there))
