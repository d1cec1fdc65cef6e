-- Signed numbers as the code computes them, and entries of lists that are read and written.
use Rattle.std.proofs.Common.{◌≡◌, ℕ, ◌^◌, ◌<◌, zero, suc, List, [], ◌∷◌, refl, ◌∙◌, ap, arith, ◌⊎◌, inl, inr, set}
use Rattle.std.specs.Prelude.{ℤ, pos, ◌+ℤ◌, ◌*ℤ◌, Some, slice_get}
use Rattle.std.proofs.lemmas.Int.{to_z-of_z, to_z_pos, fits_signed_from_abs}
use Rattle.std.specs.Int.{int_max}
use mir.Syntax.{Width, w64, w128}
use mir.Val.{SFits, of_z, to_z, hbits}
use Rattle.comp_tree.specs.ComponentTree.{no_node}
use Rattle.node_sums.specs.declared.entry.Sums.{Sums}
use Rattle.node_sums.specs.Sizes.{IsUpTo}
use Rattle.node_sums.proofs.Sizes.{abs_up_to}

pub fits : (w : Width) (m : ℕ) (z : ℤ) → IsUpTo m z → m < 2 ^ hbits w → SFits w z
fits w m z h l = fits_signed_from_abs w z (omega (arith, abs_up_to m z h))

pub plus-read : (w : Width) (a b : ℤ) → SFits w a → SFits w b → SFits w (a +ℤ b) → to_z w (of_z w (to_z w (of_z w a) +ℤ to_z w (of_z w b))) ≡ a +ℤ b
plus-read w a b f g h = rw (to_z-of_z w a f, to_z-of_z w b g) (to_z-of_z w (a +ℤ b) h)

-- a parent's number, which is smaller
pub some_parent_smaller : (p n : ℕ) → (p ≡ no_node) ⊎ (p < n) → (p ≡ no_node → ⊥) → p < n
some_parent_smaller p n (inl e) some = absurd (some e)
some_parent_smaller p n (inr l) some = l

-- an entry of a list in which one was written
pub get-written : {X : Type 0} (xs : List X) (i : ℕ) (v : X) (m : ℕ) (s : X) → slice_get (set xs i v) m ≡ Some s
    → ((m ≡ i) × (v ≡ s)) ⊎ ((m ≡ i → ⊥) × (slice_get xs m ≡ Some s))
get-written [] i v m s e = absurd (cc)
get-written (x ∷ xs) zero v zero s e = inl (refl, cc)
get-written (x ∷ xs) zero v (suc m) s e = inr (λ f. absurd (omega arith), e)
get-written (x ∷ xs) (suc i) v zero s e = inr (λ f. absurd (omega arith), e)
get-written (x ∷ xs) (suc i) v (suc m) s e = go (get-written xs i v m s e)
  where
    go : ((m ≡ i) × (v ≡ s)) ⊎ ((m ≡ i → ⊥) × (slice_get xs m ≡ Some s)) → ((suc m ≡ suc i) × (v ≡ s)) ⊎ ((suc m ≡ suc i → ⊥) × (slice_get xs m ≡ Some s))
    go (inl k) = inl (ap suc k.0, k.1)
    go (inr k) = inr ((λ f. k.0 (omega arith)), k.1)

pub same_sums : (s t : Sums) → s.area ≡ t.area → s.r ≡ t.r → s.x ≡ t.x → s.y ≡ t.y → s.xx ≡ t.xx → s.xy ≡ t.xy → s.yy ≡ t.yy → s.rx ≡ t.rx → s.ry ≡ t.ry
    → s.xmin ≡ t.xmin → s.xmax ≡ t.xmax → s.ymin ≡ t.ymin → s.ymax ≡ t.ymax → s.first ≡ t.first → s.peak ≡ t.peak → s ≡ t
same_sums s t area r x y xx xy yy rx ry xmin xmax ymin ymax first peak = λ i. record {
  area = area i;
  r = r i;
  x = x i;
  y = y i;
  xx = xx i;
  xy = xy i;
  yy = yy i;
  rx = rx i;
  ry = ry i;
  xmin = xmin i;
  xmax = xmax i;
  ymin = ymin i;
  ymax = ymax i;
  first = first i;
  peak = peak i;
}

-- a value times a coordinate
pub moment-read : (z : ℤ) (x : ℕ) → SFits w64 z → x < 2 ^ 64 → SFits w128 (z *ℤ pos x)
    → to_z w128 (of_z w128 (to_z w128 (of_z w128 (to_z w64 (of_z w64 z))) *ℤ to_z w128 x)) ≡ z *ℤ pos x
moment-read z x f l g =
    rw (to_z-of_z w64 z f, to_z-of_z w128 z (record { sfits = omega (arith, f.sfits) }), to_z_pos w128 x (omega arith)) (to_z-of_z w128 (z *ℤ pos x) g)

pub peak-read : (a b m : ℤ) → SFits w64 a → SFits w64 b → m ≡ int_max (to_z w64 (of_z w64 a)) (to_z w64 (of_z w64 b)) → m ≡ int_max a b
peak-read a b m f g e = e ∙ ap (λ (x : ℤ). int_max x (to_z w64 (of_z w64 b))) (to_z-of_z w64 a f) ∙ ap (int_max a) (to_z-of_z w64 b g)
