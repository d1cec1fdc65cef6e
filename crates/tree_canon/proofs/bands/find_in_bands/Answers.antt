use Rattle.std.proofs.Common.{◌≡◌, ℕ, ◌+◌, ◌*◌, ◌/◌, ◌%◌, ◌<◌, ◌≤◌, ◌++◌, [], ◌∷◌, min, length, length-append, sym, ap, subst, ◌∙◌, arith, vec_items, IfOk}
use Rattle.std.specs.Vec.Iter.{into_iter_items}
use Rattle.std.proofs.lemmas.Grind.{div_ceil_times}
use Rattle.tree_canon.specs.Canonical.{canonical_between, canonical_in_band}
use Rattle.tree_canon.proofs.Finding.{between-all}
use Rattle.tree_canon.proofs.Joining.{AreBands, bands_all, bands_none, band_inside, band_joins}
use Rattle.tree_canon.proofs.bands.find_in_bands.Goals as goal

pub loop-band-init : goal.loop-band-init
loop-band-init g c =
    let r = c.args.plane.now in let links = c.args.links.now in let size : ℕ = c.args.size in let n : ℕ = c.pixels-count.result in
    let same = c.into_iter-band-iterator.ensures.into_iter_gives.0 in
    let long : length c.in_ok-bands.bands.items ≡ c.div_ceil.result = sym c.in_ok-bands.bands.ok.0 ∙ c.in_ok-bands.ensures.len in record {
      left = subst (λ l. AreBands vec_items r links size 0 l) (sym same)
          (bands_all vec_items r links size c.in_ok-bands.bands.items (λ i d h. (c.in_ok-bands.ensures.each i d (subst (λ x. i < x) long h)).1.met));
      number = (let l : length (into_iter_items c.into_iter-band-iterator.result) ≡ c.div_ceil.result = ap length same ∙ long in
          let e : c.div_ceil.result ≡ n / size + min 1 (n % size) = c.div_ceil.ensures in omega (l, e, arith));
      found = bands_none r links size n c.new-found.result.items c.new-found.ensures.items;
    }

pub loop-band-preserved : goal.loop-band-preserved
loop-band-preserved g c =
    let r = c.args.plane.now in let links = c.args.links.now in let size : ℕ = c.args.size in let n : ℕ = c.pixels-count.result in
    let inv = c.loop-band.invariant in let y : ℕ = length c.loop-band.yielded in
    let step = c.in-Some.ensures.steps in
    let more : length (c.loop-band.yielded ++ c.in-Some.band ∷ []) ≡ y + 1 = omega (arith, length-append c.loop-band.yielded (c.in-Some.band ∷ [])) in
    let left = subst (λ l. AreBands vec_items r links size y l) step.0 inv.left in
    let part = subst (λ x. IfOk x (λ v. vec_items v ≡ canonical_in_band r links size y)) c.in_ok-band.was left.0 in
    let bands : ℕ = n / size + min 1 (n % size) in
    let number : y + (length (into_iter_items c.next.new.self) + 1) ≡ bands = (let q = ap length step.0 in let z = inv.number in omega arith) in
    let near : y * size < n = band_inside n size bands y (div_ceil_times n size c.requires.some).1 (let q = number in omega arith) in
    let all : n ≡ length r.values = omega (arith, c.shape.ensures.pixels, c.pixels-count.ensures.product) in record {
      left = subst (λ (x : ℕ). AreBands vec_items r links size x (into_iter_items c.next.new.self)) (sym more) left.1;
      number = omega (arith, more, number);
      found = subst (λ (x : ℕ). c.append.new.self.items ≡ canonical_between r links 0 (min (x * size) n)) (sym more)
          (band_joins r links size y n c.loop-band.found.items c.in_ok-band.band.items c.append.new.self.items all near inv.found part c.in_ok-append.ensures.items);
    }

pub returns : goal.returns
returns g c =
    let r = c.args.plane.now in let links = c.args.links.now in let size : ℕ = c.args.size in let n : ℕ = c.pixels-count.result in
    let inv = c.loop-band.invariant in let y : ℕ = length c.loop-band.yielded in
    let all : n ≡ length r.values = omega (arith, c.shape.ensures.pixels, c.pixels-count.ensures.product) in
    let bands : ℕ = n / size + min 1 (n % size) in
    let count : y ≡ bands = (let q = c.in-None.ensures.steps.0 in let z = inv.number in omega arith) in
    let reach : n ≤ y * size = subst (λ (x : ℕ). n ≤ x * size) (sym count) (div_ceil_times n size c.requires.some).0 in
    let end : min (y * size) n ≡ n = (let p : ℕ = y * size in omega (arith, reach)) in
    between-all r links n c.loop-band.found.items all
    (subst (λ (k : ℕ). c.loop-band.found.items ≡ canonical_between r links 0 k) end inv.found)
