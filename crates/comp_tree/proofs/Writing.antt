-- Planes that are written pixel by pixel: at the end each pixel is the one that was asked for.
use Rattle.std.proofs.Common.{◌≡◌, ℕ, ◌+◌, ◌<◌, ◌≤◌, List, length, map, get_or, set, refl, sym, ap, ◌∙◌, arith, ◌⊎◌, inl, inr, get_or-set_other}
use Rattle.std.proofs.Common.{get_or-set_same}
use Rattle.std.specs.Prelude.{ℤ, Option, None}
use Rattle.std.specs.List.{range_with_len}
use Rattle.std.proofs.lemmas.Bool.{cases_lt}
use Rattle.std.proofs.Math.ListN.{length-set}
use Rattle.std.proofs.lemmas.List.FromFn.{fill_by_all}
use Rattle.comp_tree.specs.Raster.{Raster, pixels, value_at}
use Rattle.comp_tree.specs.Writing.{IsWritten}

pub written_none : (r new : Raster) (f : ℕ → Option ℤ) → new.shape ≡ r.shape → length new.values ≡ length r.values → IsWritten r f 0 new
written_none r new f s l = record { shape_is = s; one_each = l; written = λ p lt. absurd (omega arith) }

pub written_next : (r old new : Raster) (f : ℕ → Option ℤ) (n m : ℕ) (v : Option ℤ) → IsWritten r f n old → n < length r.values → v ≡ f n
    → new ≡ record { shape = old.shape; values = set old.values n v } → m ≡ n + 1 → IsWritten r f m new
written_next r old new f n m v h lt e is next = record {
  shape_is = ap (λ (q : Raster). q.shape) is ∙ h.shape_is;
  one_each = ap (λ (q : Raster). length q.values) is ∙ length-set old.values n v ∙ h.one_each;
  written = λ p low. ap (λ (q : Raster). value_at q.values p) is ∙ go p (cases_lt p n) (omega arith);
}
  where
    long : length old.values ≡ length r.values
    long = h.one_each

    go : (p : ℕ) → (p < n) ⊎ (n ≤ p) → p ≤ n → get_or (set old.values n v) p None ≡ f p
    go p (inl below) le = get_or-set_other old.values n p v None (omega arith) ∙ h.written p below
    go p (inr here) le =
        let same : p ≡ n = omega arith in
        ap (λ (q : ℕ). get_or (set old.values n v) q None) same ∙ get_or-set_same old.values n v None (omega arith) ∙ e ∙ ap f (sym same)

pub written_all : (r new : Raster) (f : ℕ → Option ℤ) (n : ℕ) → IsWritten r f n new → length r.values ≤ n
    → new ≡ record { shape = r.shape; values = map f (pixels r) }
unfolding pixels
written_all r new f n h le =
    let vs : new.values ≡ map f (range_with_len 0 (length r.values)) =
    fill_by_all f new.values (length r.values) None h.one_each (λ k lt. h.written k (omega arith)) in
    λ i. record { shape = h.shape_is i; values = vs i }

pub written_itself : (r new : Raster) (n : ℕ) → IsWritten r (value_at r.values) n new → length r.values ≤ n → new ≡ r
unfolding pixels
written_itself r new n h le = written_all r new (value_at r.values) n h le
    ∙ ap (λ (vs : List (Option ℤ)). let s : Raster = record { shape = r.shape; values = vs } in s)
    (sym (fill_by_all (value_at r.values) r.values (length r.values) None refl (λ k lt. refl)))
