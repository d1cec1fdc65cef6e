-- Sums over lists of pixels: one pixel more, two lists in a row, two sets of pixels that share none.
use Rattle.std.proofs.Common.{◌≡◌, ℕ, ◌+◌, ◌*◌, suc, Bool, true, false, List, [], ◌∷◌, ◌++◌, length, refl, sym, ◌∙◌, ap, arith}
use Rattle.std.specs.Prelude.{filter}
use Rattle.std.proofs.lemmas.List.Sums.{sum_by-cons}
use Rattle.lemmas.proofs.Exported.{int_max_assoc, int_max_comm, max_assoc, max_comm, min_assoc, min_comm, plus_assoc, plus_comm, plus_z_assoc, plus_z_comm}
use Rattle.comp_tree.specs.Raster.{Raster, level}
use Rattle.node_sums.specs.declared.entry.Sums.{Sums}
use Rattle.node_sums.specs.Sums.{sums_over, x_of, y_of}
use Rattle.node_sums.specs.Merging.{together, sums_of_pixel}

-- ---- the laws of `together`

pub together_assoc : (a b c : Sums) → together (together a b) c ≡ together a (together b c)
together_assoc a b c =
    let e1 = plus_assoc a.area b.area c.area in
    let e2 = plus_z_assoc a.r b.r c.r in
    let e3 = plus_assoc a.x b.x c.x in
    let e4 = plus_assoc a.y b.y c.y in
    let e5 = plus_assoc a.xx b.xx c.xx in
    let e6 = plus_assoc a.xy b.xy c.xy in
    let e7 = plus_assoc a.yy b.yy c.yy in
    let e8 = plus_z_assoc a.rx b.rx c.rx in
    let e9 = plus_z_assoc a.ry b.ry c.ry in
    let e10 = min_assoc a.xmin b.xmin c.xmin in
    let e11 = max_assoc a.xmax b.xmax c.xmax in
    let e12 = min_assoc a.ymin b.ymin c.ymin in
    let e13 = max_assoc a.ymax b.ymax c.ymax in
    let e14 = min_assoc a.first b.first c.first in
    let e15 = int_max_assoc a.peak b.peak c.peak in
    cc

pub together_comm : (a b : Sums) → together a b ≡ together b a
together_comm a b =
    let e1 = plus_comm a.area b.area in
    let e2 = plus_z_comm a.r b.r in
    let e3 = plus_comm a.x b.x in
    let e4 = plus_comm a.y b.y in
    let e5 = plus_comm a.xx b.xx in
    let e6 = plus_comm a.xy b.xy in
    let e7 = plus_comm a.yy b.yy in
    let e8 = plus_z_comm a.rx b.rx in
    let e9 = plus_z_comm a.ry b.ry in
    let e10 = min_comm a.xmin b.xmin in
    let e11 = max_comm a.xmax b.xmax in
    let e12 = min_comm a.ymin b.ymin in
    let e13 = max_comm a.ymax b.ymax in
    let e14 = min_comm a.first b.first in
    let e15 = int_max_comm a.peak b.peak in
    cc

-- the middle one may be taken first
pub together_swap : (a b c : Sums) → together a (together b c) ≡ together b (together a c)
together_swap a b c =
    sym (together_assoc a b c) ∙ ap (λ (s : Sums). together s c) (together_comm a b) ∙ together_assoc b a c

-- ---- one pixel more

-- the sums over pixel p alone
abbrev pub sums_at : Raster → ℕ → Sums
sums_at r p = sums_of_pixel r.shape.width p (level r p)

suc-plus : (n : ℕ) → suc n ≡ 1 + n
suc-plus n = omega arith

pub sums_over-cons : (r : Raster) (p : ℕ) (ps : List ℕ) → sums_over r (p ∷ ps) ≡ together (sums_at r p) (sums_over r ps)
unfolding sums_over
sums_over-cons r p ps =
    let e1 = suc-plus (length ps) in
    let e3 = sum_by-cons (x_of r) p ps in
    let e4 = sum_by-cons (y_of r) p ps in
    let e5 = sum_by-cons (λ q. x_of r q * x_of r q) p ps in
    let e6 = sum_by-cons (λ q. x_of r q * y_of r q) p ps in
    let e7 = sum_by-cons (λ q. y_of r q * y_of r q) p ps in
    cc

-- ---- two sets of pixels that share none

none_twice : (r : Raster) → sums_over r [] ≡ together (sums_over r []) (sums_over r [])
unfolding sums_over
none_twice r = refl

pub sums_over-union : (r : Raster) (all some others : ℕ → Bool) (ps : List ℕ)
    → ((q : ℕ) → some q ≡ true → (all q ≡ true) × (others q ≡ false))
    → ((q : ℕ) → some q ≡ false → all q ≡ others q)
    → sums_over r (filter all ps) ≡ together (sums_over r (filter some ps)) (sums_over r (filter others ps))
sums_over-union r all some others [] h k = none_twice r
sums_over-union r all some others (p ∷ ps) h k = go (some p) (others p) refl refl (sums_over-union r all some others ps h k)
  where
    go : (s o : Bool) → some p ≡ s → others p ≡ o
        → sums_over r (filter all ps) ≡ together (sums_over r (filter some ps)) (sums_over r (filter others ps))
        → sums_over r (filter all (p ∷ ps)) ≡ together (sums_over r (filter some (p ∷ ps))) (sums_over r (filter others (p ∷ ps)))
    go true o u v ih =
        let in_all : all p ≡ true = (h p u).0 in
        let not_other : others p ≡ false = (h p u).1 in
        rw (in_all, u, not_other, sums_over-cons r p (filter all ps), sums_over-cons r p (filter some ps), ih)
        (sym (together_assoc (sums_at r p) (sums_over r (filter some ps)) (sums_over r (filter others ps))))
    go false true u v ih =
        let in_all : all p ≡ true = k p u ∙ v in
        rw (in_all, u, v, sums_over-cons r p (filter all ps), sums_over-cons r p (filter others ps), ih)
        (together_swap (sums_at r p) (sums_over r (filter some ps)) (sums_over r (filter others ps)))
    go false false u v ih =
        let in_all : all p ≡ false = k p u ∙ v in
        rw (in_all, u, v) ih

-- ---- one pixel more at the end

pub sums_over-push : (r : Raster) (p : ℕ) (ps : List ℕ) → sums_over r (ps ++ p ∷ []) ≡ together (sums_over r ps) (sums_at r p)
sums_over-push r p [] = sums_over-cons r p [] ∙ together_comm (sums_at r p) (sums_over r [])
sums_over-push r p (q ∷ ps) =
    sums_over-cons r q (ps ++ p ∷ []) ∙ ap (together (sums_at r q)) (sums_over-push r p ps)
    ∙ sym (together_assoc (sums_at r q) (sums_over r ps) (sums_at r p)) ∙ ap (λ (s : Sums). together s (sums_at r p)) (sym (sums_over-cons r q ps))
