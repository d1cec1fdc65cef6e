-- Strips of one pixel each, which have no links yet.
use Rattle.std.proofs.Common.{◌≡◌, ℕ, ◌+◌, ◌*◌, ◌<◌, ◌≤◌, List, length, get_or, sym, ap, ◌∙◌, subst, arith, mul-one}
use Rattle.std.specs.List.{range_with_len}
use Rattle.std.proofs.lemmas.List.FromFn.{get_or-range_with_len}
use Rattle.strip_crew.specs.Boundaries.{AreRows}

pub all_rows : (width count : ℕ) (rows : List ℕ) → width ≡ 1 → rows ≡ range_with_len 1 (length rows) → count ≡ length rows + 1 → AreRows width 0 count rows
all_rows width count rows one is long = record {
  rises = λ i j h l. (let a = at i (omega arith) in let b = at j l in omega arith);
  low = λ i l. (let a = at i l in omega arith);
  inside = λ i l. subst (λ (w : ℕ). (get_or rows i 0 + 1) * w ≤ 0 * w + count) (sym one) (let a = at i l in omega (arith, mul-one (get_or rows i 0 + 1)));
} where
  at : (i : ℕ) → i < length rows → get_or rows i 0 ≡ 1 + i
  at i l = ap (λ (r : List ℕ). get_or r i 0) is ∙ get_or-range_with_len 1 (length rows) i 0 l
