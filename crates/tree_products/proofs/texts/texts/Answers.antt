use Rattle.std.proofs.Common.{◌≡◌, ◌∙◌, ℕ, ◌+◌, ◌-◌, ◌*◌, ◌/◌, ◌%◌, ◌<◌, ◌≤◌, ◌++◌, [], ◌∷◌, min, length, length-append, map, sym, ap, subst, arith, vec_items, IfOk}
use Rattle.std.specs.List.{concat}
use Rattle.std.specs.Vec.Iter.{into_iter_items}
use Rattle.std.proofs.lemmas.Grind.{div_ceil_times}
use Rattle.tree_products.specs.LineStretches.{lines_between, lines_of_stretch}
use Rattle.tree_products.proofs.StretchTexts.{AreTextsFrom, stretch_begins, texts_all, texts_none, texts_join, texts_end}
use Rattle.tree_products.proofs.texts.texts.Goals as goal

pub loop-text-init : goal.loop-text-init
loop-text-init g c =
    let rows = c.args.rows.now in let areas = c.args.areas.now in let size : ℕ = c.args.size in let first : ℕ = c.args.first in let end : ℕ = c.args.end in
    let n : ℕ = end - first in
    let same = c.into_iter-text-iterator.ensures.into_iter_gives.0 in
    let long : length c.in_ok-made.made.items ≡ c.div_ceil.result = sym c.in_ok-made.made.ok.0 ∙ c.in_ok-made.ensures.len in record {
      left = subst (λ l. AreTextsFrom vec_items (λ k. lines_of_stretch rows areas first end size k) 0 l) (sym same)
          (texts_all vec_items (λ k. lines_of_stretch rows areas first end size k) c.in_ok-made.made.items
          (λ i d h. (c.in_ok-made.ensures.each i d (subst (λ x. i < x) long h)).1.met));
      number = (let l : length (into_iter_items c.into_iter-text-iterator.result) ≡ c.div_ceil.result = ap length same ∙ long in
          let e : c.div_ceil.result ≡ n / size + min 1 (n % size) = c.div_ceil.ensures in omega (l, e, arith));
      joined = texts_none vec_items rows areas first end size c.new-texts.result.items c.requires.order c.new-texts.ensures.items;
    }

pub loop-text-preserved : goal.loop-text-preserved
loop-text-preserved g c =
    let rows = c.args.rows.now in let areas = c.args.areas.now in let size : ℕ = c.args.size in let first : ℕ = c.args.first in let end : ℕ = c.args.end in
    let n : ℕ = end - first in let inv = c.loop-text.invariant in let y : ℕ = length c.loop-text.yielded in
    let step = c.in-Some.ensures.steps in
    let more : length (c.loop-text.yielded ++ c.in-Some.text ∷ []) ≡ y + 1 = omega (arith, length-append c.loop-text.yielded (c.in-Some.text ∷ [])) in
    let left = subst (λ l. AreTextsFrom vec_items (λ k. lines_of_stretch rows areas first end size k) y l) step.0 inv.left in
    let part = subst (λ x. IfOk x (λ v. vec_items v ≡ lines_of_stretch rows areas first end size y)) c.in_ok-text.was left.0 in
    let stretches : ℕ = n / size + min 1 (n % size) in
    let number : y + (length (into_iter_items c.next.new.self) + 1) ≡ stretches = (let q = ap length step.0 in let z = inv.number in omega arith) in
    let near : first + y * size < end = stretch_begins first end size stretches y c.requires.order (div_ceil_times n size c.requires.some).1
    (let q = number in omega arith) in record {
      left = subst (λ (x : ℕ). AreTextsFrom vec_items (λ k. lines_of_stretch rows areas first end size k) x (into_iter_items c.next.new.self)) (sym more) left.1;
      number = omega (arith, more, number);
      joined = subst (λ (x : ℕ). concat (map vec_items c.push.new.self.items) ≡ lines_between rows areas first (min (first + x * size) end)) (sym more)
          (texts_join vec_items rows areas first end size y c.loop-text.texts.items c.push.new.self.items _ near inv.joined part c.in_ok-push.ensures.items);
    }

pub returns : goal.returns
returns g c =
    let rows = c.args.rows.now in let areas = c.args.areas.now in let size : ℕ = c.args.size in let first : ℕ = c.args.first in let end : ℕ = c.args.end in
    let n : ℕ = end - first in let inv = c.loop-text.invariant in let y : ℕ = length c.loop-text.yielded in
    let stretches : ℕ = n / size + min 1 (n % size) in
    let count : y ≡ stretches = (let q = c.in-None.ensures.steps.0 in let z = inv.number in omega arith) in
    let reach : n ≤ y * size = subst (λ (x : ℕ). n ≤ x * size) (sym count) (div_ceil_times n size c.requires.some).0 in
    texts_end rows areas first end size y _ c.requires.order reach inv.joined
