-- Cells as bytes, and back.
use Rattle.std.proofs.Common.{◌≡◌, ℕ, suc, ◌+◌, ◌-◌, ◌/◌, ◌<◌, ◌≤◌, ℤ, List, [], ◌∷◌, ◌++◌, length, take, drop, refl}
use Rattle.std.proofs.Common.{sym, ap, ap₂, ◌∙◌, arith, append-nil, FitsSigned, length-append, length-drop, get_or}
use Rattle.std.proofs.lemmas.List.{take_more}
use Rattle.sqlite_rules.proofs.ListLemmas.{all_more}
use Rattle.std.proofs.lemmas.Grind.{flat_map-append}
use Rattle.std.specs.Int.{w64, from_be_bytes, cast_unsigned, cast_signed}
use Rattle.std.specs.List.{AllByRecursion}
use Rattle.std.proofs.Math.Seq.{take-append_seam, drop-append_seam}
use Rattle.std.proofs.lemmas.Int.{to_z-of_z}
use Rattle.std.proofs.Math.Facts.{Fits-of_z, Fits-lt-pow}
use Rattle.std.proofs.lemmas.Nat.{from_be_bytes-to_be_bytes_8}
use Rattle.survey_sqlite.specs.Blobs.{blob_cell_bytes, blob_of, first_cells, blob_cells}

bytes_there : (x : ℤ) → length (blob_cell_bytes x) ≡ 8
bytes_there x = refl

one_back : (x : ℤ) → FitsSigned w64 x → cast_signed w64 (from_be_bytes w64 (blob_cell_bytes x)) ≡ x
one_back x f = ap (cast_signed w64) (from_be_bytes-to_be_bytes_8 (cast_unsigned w64 x) (Fits-lt-pow {w = w64} (Fits-of_z f))) ∙ to_z-of_z w64 x f

pub blob_more : (cells : List ℤ) (i : ℕ) (x : ℤ) → i < length cells → x ≡ get_or cells i x
    → blob_of (take (i + 1) cells) ≡ blob_of (take i cells) ++ blob_cell_bytes x
blob_more cells i x low at =
    ap blob_of (take_more cells i x low) ∙ flat_map-append blob_cell_bytes (take i cells) (get_or cells i x ∷ [])
    ∙ ap (λ y. blob_of (take i cells) ++ y) (append-nil (blob_cell_bytes (get_or cells i x)) ∙ ap blob_cell_bytes (sym at))

eights : (n : ℕ) → 8 ≤ n → n / 8 ≡ suc ((n - 8) / 8)
eights n h = omega arith

pub cells_first : (blob : List ℕ) → 8 ≤ length blob → blob_cells blob ≡ cast_signed w64 (from_be_bytes w64 (take 8 blob)) ∷ blob_cells (drop 8 blob)
cells_first blob h = ap (λ k. first_cells k blob) (eights (length blob) h ∙ ap (λ k. suc (k / 8)) (sym (length-drop 8 blob)))

pub cells_back : (cells : List ℤ) → AllByRecursion (FitsSigned w64) cells → blob_cells (blob_of cells) ≡ cells
cells_back [] f = refl
cells_back (x ∷ cells) f =
    let seam = blob_of cells in
    let long : 8 ≤ length (blob_cell_bytes x ++ seam) = omega (arith, length-append (blob_cell_bytes x) seam, bytes_there x) in
    cells_first (blob_cell_bytes x ++ seam) long ∙ ap₂ ◌∷◌
    (ap (λ b. cast_signed w64 (from_be_bytes w64 b)) (take-append_seam (blob_cell_bytes x) seam) ∙ one_back x f.0)
    (ap blob_cells (drop-append_seam (blob_cell_bytes x) seam) ∙ cells_back cells f.1)

pub fits_more : (cells : List ℤ) (i : ℕ) (x : ℤ) → i < length cells → x ≡ get_or cells i x → FitsSigned w64 x → AllByRecursion (FitsSigned w64) (take i cells)
    → AllByRecursion (FitsSigned w64) (take (i + 1) cells)
fits_more cells i x low at f all = all_more (FitsSigned w64) cells i x low at all f
