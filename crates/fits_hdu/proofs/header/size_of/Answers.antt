use Rattle.std.proofs.Common.{refl, ap, ◌∙◌, ◌/◌, ◌≡◌, w32, SFits, rules, ◌*◌, ◌+◌}
use Rattle.std.proofs.lemmas.Int.{to_z-of_z}
use Rattle.std.specs.Prelude.{unsigned_abs}
use Rattle.fits_hdu.specs.Kept.{held}
use Rattle.fits_hdu.specs.Sizes.{number_bytes}
use Rattle.fits_hdu.proofs.Judging.{size_none, size_primary, size_extension, not_first}
use Rattle.fits_hdu.proofs.header.size_of.Goals as goal

pub returns-then-cards-eq0 : goal.returns-then-cards-eq0
returns-then-cards-eq0 c = λ axes count is. size_none _ _ axes _ _ _ count c.if-cards-eq0.true

pub returns-then-hdu-eq0 : goal.returns-then-hdu-eq0
returns-then-hdu-eq0 c = λ axes count is.
    let fits : SFits w32 c.args.cards.now.bitpix = search rules in
    let bytes : c.from-number_bytes.result ≡ number_bytes c.args.cards.now.bitpix =
    c.from-number_bytes.ensures ∙ ap (λ n. n / 8) (c.unsigned_abs.ensures.value ∙ ap unsigned_abs (to_z-of_z w32 c.args.cards.now.bitpix fits)) in
    size_primary c.args.cards.now.bitpix axes _ _ _ _ _ _ _ count c.if-cards-eq0.false is (rw c.if-hdu-eq0.true refl) bytes c.saturating_mul.ensures

pub returns : goal.returns
returns c = λ axes count is.
    let fits : SFits w32 c.args.cards.now.bitpix = search rules in
    let bytes : c.from-number_bytes.result ≡ number_bytes c.args.cards.now.bitpix =
    c.from-number_bytes.ensures ∙ ap (λ n. n / 8) (c.unsigned_abs.ensures.value ∙ ap unsigned_abs (to_z-of_z w32 c.args.cards.now.bitpix fits)) in
    size_extension c.args.cards.now.bitpix axes _ _ _ _ _ _ _ _ _ count c.if-cards-eq0.false is (not_first _ c.if-hdu-eq0.false) bytes
    (c.saturating_add-group.ensures ∙ ap (λ n. held (c.args.cards.now.axes.product + n)) c.unwrap_or.ensures)
    (c.saturating_mul-2.ensures ∙ ap (λ n. held (c.saturating_add-group.result * n)) c.unwrap_or-2.ensures)
    c.saturating_mul-3.ensures
