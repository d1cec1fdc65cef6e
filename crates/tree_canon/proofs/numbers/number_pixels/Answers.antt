use Rattle.std.proofs.Common.{rules, ◌≡◌, ℕ, length, replicate, sym, ap, subst, ◌∙◌}
use Rattle.std.specs.Vec.{with_items}
use Rattle.std.proofs.lemmas.List.{with_items_is, length-replicate}
use Rattle.comp_tree.specs.Forest.{no_node}
use Rattle.tree_canon.specs.Canonical.{IsNumbering}
use Rattle.tree_canon.specs.Numbers.{LeadBack, HasLinkNumbers}
use Rattle.tree_canon.proofs.Numbering.{rows_few, rows_own, rows_within, rows_lead_back, is_numbering}
use Rattle.tree_canon.proofs.numbers.number_pixels.Goals as goal

pub number_rows-requires-clause-few : goal.number_rows-requires-clause-few
number_rows-requires-clause-few c =
    rows_few c.args.plane.now c.args.links.now c.requires.one_each c.requires.forest c.requires.few c.args.rows.now c.requires.canonical

pub number_rows-requires-clause-within : goal.number_rows-requires-clause-within
number_rows-requires-clause-within c =
    let made : c.in_ok-numbers.numbers.items ≡ replicate (length c.args.links.now) no_node = search rules in
    rows_within c.args.plane.now c.args.links.now c.requires.one_each c.requires.forest c.requires.few c.args.rows.now
    c.requires.canonical c.deref_mut.result.now
    (ap length (c.deref_mut.ensures.value ∙ made) ∙ length-replicate {A = ℕ} (length c.args.links.now) no_node)

pub number_rows-requires-clause-apart : goal.number_rows-requires-clause-apart
number_rows-requires-clause-apart c =
    rows_own c.args.plane.now c.args.links.now c.requires.one_each c.requires.forest c.requires.few c.args.rows.now c.requires.canonical

pub number_others-requires-clause-back : goal.number_others-requires-clause-back
number_others-requires-clause-back c =
    let first = c.number_rows.new.numbers in
    let made : c.in_ok-numbers.numbers.items ≡ replicate (length c.args.links.now) no_node = search rules in
    let same : c.deref_mut-2.result.now ≡ first =
    c.deref_mut-2.ensures.value ∙ with_items_is c.in_ok-numbers.numbers first (c.number_rows.ensures.one_each ∙ c.deref_mut.ensures.len) in
    subst (LeadBack c.args.links.now) (sym same)
    (rows_lead_back c.args.plane.now c.args.links.now c.requires.one_each c.requires.forest c.requires.few c.args.rows.now c.requires.canonical
    c.deref_mut.result.now first (c.deref_mut.ensures.value ∙ made) c.number_rows.ensures)

pub returns : goal.returns
returns c =
    let first = c.number_rows.new.numbers in let all = c.number_others.new.numbers in
    let made : c.in_ok-numbers.numbers.items ≡ replicate (length c.args.links.now) no_node = search rules in
    let bare : c.deref_mut.result.now ≡ replicate (length c.args.links.now) no_node = c.deref_mut.ensures.value ∙ made in
    let same : c.deref_mut-2.result.now ≡ first =
    c.deref_mut-2.ensures.value ∙ with_items_is c.in_ok-numbers.numbers first (c.number_rows.ensures.one_each ∙ c.deref_mut.ensures.len) in
    let linked : HasLinkNumbers c.args.links.now first all = subst (λ xs. HasLinkNumbers c.args.links.now xs all) same c.number_others.ensures in
    subst (IsNumbering c.args.plane.now c.args.links.now)
    (sym (with_items_is (with_items c.in_ok-numbers.numbers first) all (linked.one_each ∙ c.number_rows.ensures.one_each ∙ c.deref_mut.ensures.len)))
    (is_numbering c.args.plane.now c.args.links.now c.requires.one_each c.requires.forest c.requires.few c.args.rows.now c.requires.canonical
    c.deref_mut.result.now first bare c.number_rows.ensures all (ap length bare ∙ length-replicate {A = ℕ} (length c.args.links.now) no_node) linked)
