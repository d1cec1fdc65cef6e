-- Sums over paired pixels whose columns and rows differ by a constant, and the catalogue rows that are made of them.
use Rattle.std.proofs.Common.{◌≡◌, ℕ, ◌+◌, ◌-◌, ◌*◌, ◌^◌, ◌<◌, ◌≤◌, zero, suc, min, max, Bool, true, false, cond, List, [], ◌∷◌, length, refl, sym, ◌∙◌, ap}
use Rattle.std.proofs.Common.{arith}
use Rattle.std.specs.Prelude.{ℤ, pos, negsuc, ◌+ℤ◌, ◌-ℤ◌, ◌*ℤ◌, ◌≤ℤ◌, sum_by}
use Rattle.std.specs.Ordering.{int_eq}
use Rattle.std.proofs.lemmas.Int.{ints}
use Rattle.std.proofs.lemmas.Bool.{true≢false}
use Rattle.std.proofs.lemmas.List.Sums.{sum_by-cons}
use Rattle.std.proofs.Math.IntN.{*ℤ-zero, pos-*ℤ-pos}
use Rattle.lemmas.proofs.Exported.{ArePaired, at_end, at_more, floor-moved, int_eq-from, times-sum, times_suc}
use Rattle.node_sums.specs.Sums.{total, least, greatest}
use Rattle.source_pick.specs.Catalogue.{floor_of, centre_of, spread_of}
use Rattle.source_pick.proofs.CellsMeans.{plus_times, minus_times, times_plus}
use Rattle.source_pick.proofs.LocalityAlongSums.{length_paired}
use Rattle.node_sums.specs.declared.entry.Sums.{Sums}

-- ---- sums

-- a sum of numbers that are all moved by c
pub sum_moved : (R : ℕ → ℕ → Type 0) (f g : ℕ → ℕ) (c : ℕ) (ps qs : List ℕ) → ((p q : ℕ) → R p q → f p ≡ g q + c) → ArePaired R ps qs
    → sum_by f ps ≡ sum_by g qs + c * length qs
sum_moved R f g c _ _ e at_end = omega arith
sum_moved R f g c _ _ e (at_more {x} {y} {xs} {ys} k rest) =
    let a : sum_by f (x ∷ xs) ≡ f x + sum_by f xs = sum_by-cons f x xs in
    let b : sum_by g (y ∷ ys) ≡ g y + sum_by g ys = sum_by-cons g y ys in
    let d : f x ≡ g y + c = e x y k in
    let ih : sum_by f xs ≡ sum_by g ys + c * length ys = sum_moved R f g c xs ys e rest in
    let l : c * suc (length ys) ≡ c * length ys + c = omega arith in
    omega (arith, a, b, d, ih, l)

-- a product of two sums
times_out : (a b c d : ℕ) → (a + c) * (b + d) ≡ a * b + d * a + c * b + c * d
times_out a b c d = omega arith

-- a sum of products of numbers that are moved by c and by d
pub products_moved : (R : ℕ → ℕ → Type 0) (f g u v : ℕ → ℕ) (c d : ℕ) (ps qs : List ℕ) → ((p q : ℕ) → R p q → f p ≡ g q + c)
    → ((p q : ℕ) → R p q → u p ≡ v q + d) → ArePaired R ps qs
    → sum_by (λ p. f p * u p) ps ≡ sum_by (λ q. g q * v q) qs + d * sum_by g qs + c * sum_by v qs + c * d * length qs
products_moved R f g u v c d _ _ e h at_end = omega arith
products_moved R f g u v c d _ _ e h (at_more {x} {y} {xs} {ys} k rest) =
    let a : sum_by (λ p. f p * u p) (x ∷ xs) ≡ f x * u x + sum_by (λ p. f p * u p) xs = sum_by-cons (λ p. f p * u p) x xs in
    let b : sum_by (λ q. g q * v q) (y ∷ ys) ≡ g y * v y + sum_by (λ q. g q * v q) ys = sum_by-cons (λ q. g q * v q) y ys in
    let bg : sum_by g (y ∷ ys) ≡ g y + sum_by g ys = sum_by-cons g y ys in
    let bv : sum_by v (y ∷ ys) ≡ v y + sum_by v ys = sum_by-cons v y ys in
    let both : f x * u x ≡ (g y + c) * (v y + d) = ap (λ (n : ℕ). n * u x) (e x y k) ∙ ap (λ (n : ℕ). (g y + c) * n) (h x y k) in
    let out : (g y + c) * (v y + d) ≡ g y * v y + d * g y + c * v y + c * d = times_out (g y) (v y) c d in
    let ih : sum_by (λ p. f p * u p) xs ≡ sum_by (λ q. g q * v q) ys + d * sum_by g ys + c * sum_by v ys + c * d * length ys =
    products_moved R f g u v c d xs ys e h rest in
    let dg : d * sum_by g (y ∷ ys) ≡ d * g y + d * sum_by g ys = ap (λ (n : ℕ). d * n) bg ∙ omega arith in
    let cv : c * sum_by v (y ∷ ys) ≡ c * v y + c * sum_by v ys = ap (λ (n : ℕ). c * n) bv ∙ omega arith in
    let l : c * d * suc (length ys) ≡ c * d * length ys + c * d = omega arith in
    omega (arith, a, b, both, out, ih, dg, cv, l)

-- the least of a list that has one member more
least_step : (f g : ℕ → ℕ) (c a b : ℕ) (xs ys : List ℕ) → length xs ≡ length ys → a ≡ b + c → a ≤ 2 ^ 32 - 1 → (0 < length ys → least f xs ≡ least g ys + c)
    → min a (least f xs) ≡ min b (least g ys) + c
least_step f g c a b [] [] l e u ih = omega arith
least_step f g c a b [] (y ∷ ys) l e u ih = absurd (omega arith)
least_step f g c a b (x ∷ xs) [] l e u ih = absurd (omega arith)
least_step f g c a b (x ∷ xs) (y ∷ ys) l e u ih = let k : least f (x ∷ xs) ≡ least g (y ∷ ys) + c = ih (omega arith) in omega (arith, e, k)

-- so the least number moves by c
pub least_moved : (R : ℕ → ℕ → Type 0) (f g : ℕ → ℕ) (c : ℕ) (ps qs : List ℕ) → ((p q : ℕ) → R p q → f p ≡ g q + c) → ((p q : ℕ) → R p q → f p ≤ 2 ^ 32 - 1)
    → ArePaired R ps qs
    → 0 < length qs → least f ps ≡ least g qs + c
least_moved R f g c _ _ e u at_end some = absurd (omega arith)
least_moved R f g c _ _ e u (at_more {x} {y} {xs} {ys} k rest) some =
    least_step f g c (f x) (g y) xs ys (length_paired R xs ys rest) (e x y k) (u x y k) (least_moved R f g c xs ys e u rest)

-- the greatest of a list that has one member more
greatest_step : (f g : ℕ → ℕ) (c a b : ℕ) (xs ys : List ℕ) → length xs ≡ length ys → a ≡ b + c → (0 < length ys → greatest f xs ≡ greatest g ys + c)
    → max a (greatest f xs) ≡ max b (greatest g ys) + c
greatest_step f g c a b [] [] l e ih = omega arith
greatest_step f g c a b [] (y ∷ ys) l e ih = absurd (omega arith)
greatest_step f g c a b (x ∷ xs) [] l e ih = absurd (omega arith)
greatest_step f g c a b (x ∷ xs) (y ∷ ys) l e ih = let k : greatest f (x ∷ xs) ≡ greatest g (y ∷ ys) + c = ih (omega arith) in omega (arith, e, k)

-- and so does the greatest
pub greatest_moved : (R : ℕ → ℕ → Type 0) (f g : ℕ → ℕ) (c : ℕ) (ps qs : List ℕ) → ((p q : ℕ) → R p q → f p ≡ g q + c) → ArePaired R ps qs
    → 0 < length qs → greatest f ps ≡ greatest g qs + c
greatest_moved R f g c _ _ e at_end some = absurd (omega arith)
greatest_moved R f g c _ _ e (at_more {x} {y} {xs} {ys} k rest) some =
    greatest_step f g c (f x) (g y) xs ys (length_paired R xs ys rest) (e x y k) (greatest_moved R f g c xs ys e rest)

-- a sum of values times places: it moves by the sum of the values times c
pub total_moved : (R : ℕ → ℕ → Type 0) (i j : ℕ → ℤ) (f g : ℕ → ℕ) (c : ℕ) (ps qs : List ℕ) → ((p q : ℕ) → R p q → i p ≡ j q)
    → ((p q : ℕ) → R p q → f p ≡ g q + c) → ArePaired R ps qs
    → total (λ p. i p *ℤ pos (f p)) ps ≡ total (λ q. j q *ℤ pos (g q)) qs +ℤ total j qs *ℤ pos c
total_moved R i j f g c _ _ e h at_end = let z : pos 0 *ℤ pos c ≡ pos (0 * c) = pos-*ℤ-pos 0 c in omega (arith, ints, z)
total_moved R i j f g c _ _ e h (at_more {x} {y} {xs} {ys} k rest) =
    let a : i x *ℤ pos (f x) ≡ j y *ℤ pos (g y + c) = ap (λ (z : ℤ). z *ℤ pos (f x)) (e x y k) ∙ ap (λ (n : ℕ). j y *ℤ pos n) (h x y k) in
    let b : j y *ℤ pos (g y + c) ≡ j y *ℤ pos (g y) +ℤ j y *ℤ pos c = times_plus (j y) (g y) c in
    let d : (j y +ℤ total j ys) *ℤ pos c ≡ j y *ℤ pos c +ℤ total j ys *ℤ pos c = plus_times (j y) (total j ys) c in
    let ih : total (λ p. i p *ℤ pos (f p)) xs ≡ total (λ q. j q *ℤ pos (g q)) ys +ℤ total j ys *ℤ pos c = total_moved R i j f g c xs ys e h rest in
    omega (arith, ints, a, b, d, ih)

-- ---- spreads

-- what a variance or a covariance is a quotient of stays
spread_difference : (area products first second c d : ℕ)
    → pos (area * (products + d * first + c * second + c * d * area)) -ℤ pos ((first + c * area) * (second + d * area))
    ≡ pos (area * products) -ℤ pos (first * second)
spread_difference area products first second c d =
    let a : area * (products + d * first + c * second + c * d * area) + first * second ≡ area * products + (first + c * area) * (second + d * area) =
    omega arith in
    omega (arith, ints, a)

-- so variances and covariances stay
pub spread_moved : (area products first second c d : ℕ)
    → spread_of area (products + d * first + c * second + c * d * area) (first + c * area) (second + d * area) ≡ spread_of area products first second
unfolding spread_of
spread_moved area products first second c d = ap (λ (z : ℤ). floor_of (pos 1000 *ℤ z) (pos (area * area))) (spread_difference area products first second c d)

-- ---- centres

-- a number that isn't 0 is above it
positive : (f : ℕ) → (pos f ≡ pos 0 → ⊥) → 0 < f
positive zero k = absurd (k refl)
positive (suc n) k = omega arith

-- a centre moves by c, which is 1000 * c in thousandths, with a flux and without one
pub centre_moved : (moment : ℤ) (sum : ℕ) (flux : ℤ) (area c : ℕ) → pos 0 ≤ℤ flux → 0 < area
    → centre_of (moment +ℤ flux *ℤ pos c) (sum + c * area) flux area ≡ centre_of moment sum flux area +ℤ pos (1000 * c)
unfolding centre_of
centre_moved moment sum flux area c low some = go (int_eq flux (pos 0)) refl
  where
    without : floor_of (pos (1000 * (sum + c * area))) (pos area) ≡ floor_of (pos (1000 * sum)) (pos area) +ℤ pos (1000 * c)
    without =
        let e : 1000 * (sum + c * area) ≡ 1000 * sum + area * (1000 * c) = omega arith in
        ap (λ (n : ℕ). floor_of (pos n) (pos area)) e ∙ floor-moved (pos (1000 * sum)) area (1000 * c) some

    by_flux : (f : ℤ) → pos 0 ≤ℤ f → (f ≡ pos 0 → ⊥) → floor_of (pos 1000 *ℤ (moment +ℤ f *ℤ pos c)) f ≡ floor_of (pos 1000 *ℤ moment) f +ℤ pos (1000 * c)
    by_flux (negsuc f) l k = absurd (omega (arith, ints))
    by_flux (pos f) l k =
        let a : pos f *ℤ pos c ≡ pos (f * c) = pos-*ℤ-pos f c in
        let b : pos 1000 *ℤ (moment +ℤ pos f *ℤ pos c) ≡ pos 1000 *ℤ moment +ℤ pos 1000 *ℤ (pos f *ℤ pos c) = times-sum 1000 moment (pos f *ℤ pos c) in
        let d : pos 1000 *ℤ (pos f *ℤ pos c) ≡ pos (1000 * (f * c)) = ap (λ (z : ℤ). pos 1000 *ℤ z) a ∙ pos-*ℤ-pos 1000 (f * c) in
        let e : 1000 * (f * c) ≡ f * (1000 * c) = omega arith in
        ap (λ (z : ℤ). floor_of z (pos f)) (b ∙ ap (λ (z : ℤ). pos 1000 *ℤ moment +ℤ z) (d ∙ ap pos e))
        ∙ floor-moved (pos 1000 *ℤ moment) f (1000 * c) (positive f k)

    go : (b : Bool) → int_eq flux (pos 0) ≡ b
        → cond b (floor_of (pos (1000 * (sum + c * area))) (pos area)) (floor_of (pos 1000 *ℤ (moment +ℤ flux *ℤ pos c)) flux)
        ≡ cond b (floor_of (pos (1000 * sum)) (pos area)) (floor_of (pos 1000 *ℤ moment) flux) +ℤ pos (1000 * c)
    go true u = without
    go false u = by_flux flux low (λ e. true≢false (sym (int_eq-from flux (pos 0) e) ∙ u))

-- b times a product of natural numbers
times_times : (b : ℤ) (m n : ℕ) → b *ℤ pos (n * m) ≡ (b *ℤ pos m) *ℤ pos n
times_times b m zero =
    let e : b *ℤ pos (0 * m) ≡ b *ℤ pos 0 = ap (λ (k : ℕ). b *ℤ pos k) (omega arith) in
    let f : b *ℤ pos 0 ≡ pos 0 = *ℤ-zero b in
    let g : (b *ℤ pos m) *ℤ pos 0 ≡ pos 0 = *ℤ-zero (b *ℤ pos m) in
    omega (arith, ints, e, f, g)
times_times b m (suc n) =
    let e : b *ℤ pos (suc n * m) ≡ b *ℤ pos (n * m + m) = ap (λ (k : ℕ). b *ℤ pos k) (omega arith) in
    let f : b *ℤ pos (n * m + m) ≡ b *ℤ pos (n * m) +ℤ b *ℤ pos m = times_plus b (n * m) m in
    let i : (b *ℤ pos m) *ℤ pos (suc n) ≡ b *ℤ pos m +ℤ (b *ℤ pos m) *ℤ pos n = times_suc (b *ℤ pos m) n in
    let ih : b *ℤ pos (n * m) ≡ (b *ℤ pos m) *ℤ pos n = times_times b m n in
    omega (arith, ints, e, f, i, ih)

-- a moment above the base moves by the flux
pub moment_moved : (rx base total flux : ℤ) (sum area c : ℕ) → flux ≡ total -ℤ base *ℤ pos area
    → rx +ℤ total *ℤ pos c -ℤ base *ℤ pos (sum + c * area) ≡ rx -ℤ base *ℤ pos sum +ℤ flux *ℤ pos c
moment_moved rx base total flux sum area c e =
    let a : base *ℤ pos (sum + c * area) ≡ base *ℤ pos sum +ℤ base *ℤ pos (c * area) = times_plus base sum (c * area) in
    let b : base *ℤ pos (c * area) ≡ (base *ℤ pos area) *ℤ pos c = times_times base area c in
    let d : flux *ℤ pos c ≡ total *ℤ pos c -ℤ (base *ℤ pos area) *ℤ pos c = ap (λ (z : ℤ). z *ℤ pos c) e ∙ minus_times total (base *ℤ pos area) c in
    omega (arith, ints, a, b, d)

-- ---- all sums of some pixels

-- the sums of pixels that stand so many columns and rows on
pub record AreMovedSums (left top : ℕ) (s t : Sums) : Type 0 where
  pub area : s.area ≡ t.area
  pub r : s.r ≡ t.r
  pub x : s.x ≡ t.x + left * t.area
  pub y : s.y ≡ t.y + top * t.area
  pub xx : s.xx ≡ t.xx + left * t.x + left * t.x + left * left * t.area
  pub xy : s.xy ≡ t.xy + top * t.x + left * t.y + left * top * t.area
  pub yy : s.yy ≡ t.yy + top * t.y + top * t.y + top * top * t.area
  pub rx : s.rx ≡ t.rx +ℤ t.r *ℤ pos left
  pub ry : s.ry ≡ t.ry +ℤ t.r *ℤ pos top
  pub xmin : s.xmin ≡ t.xmin + left
  pub xmax : s.xmax ≡ t.xmax + left
  pub ymin : s.ymin ≡ t.ymin + top
  pub ymax : s.ymax ≡ t.ymax + top
  pub peak : s.peak ≡ t.peak

-- a centre, from sums that are moved
pub centre_from : (rx base total flux there : ℤ) (sum moved area same c : ℕ) → there ≡ rx +ℤ total *ℤ pos c → moved ≡ sum + c * area → same ≡ area
    → flux ≡ total -ℤ base *ℤ pos area
    → pos 0 ≤ℤ flux → 0 < area → centre_of (there -ℤ base *ℤ pos moved) moved flux same ≡ centre_of (rx -ℤ base *ℤ pos sum) sum flux area +ℤ pos (1000 * c)
centre_from rx base total flux there sum moved area same c e f g h low some =
    ap (λ (z : ℤ). centre_of (z -ℤ base *ℤ pos moved) moved flux same) e
    ∙ ap (λ (n : ℕ). centre_of (rx +ℤ total *ℤ pos c -ℤ base *ℤ pos n) n flux same) f
    ∙ ap (λ (n : ℕ). centre_of (rx +ℤ total *ℤ pos c -ℤ base *ℤ pos (sum + c * area)) (sum + c * area) flux n) g
    ∙ ap (λ (z : ℤ). centre_of z (sum + c * area) flux area) (moment_moved rx base total flux sum area c h)
    ∙ centre_moved (rx -ℤ base *ℤ pos sum) sum flux area c low some

-- and a variance or covariance
pub spread_from : (area same products there first one second other c d : ℕ) → same ≡ area → there ≡ products + d * first + c * second + c * d * area
    → one ≡ first + c * area → other ≡ second + d * area
    → spread_of same there one other ≡ spread_of area products first second
spread_from area same products there first one second other c d e f g h =
    ap (λ (n : ℕ). spread_of n there one other) e
    ∙ ap (λ (n : ℕ). spread_of area n one other) f
    ∙ ap (λ (n : ℕ). spread_of area (products + d * first + c * second + c * d * area) n other) g
    ∙ ap (λ (n : ℕ). spread_of area (products + d * first + c * second + c * d * area) (first + c * area) n) h
    ∙ spread_moved area products first second c d
