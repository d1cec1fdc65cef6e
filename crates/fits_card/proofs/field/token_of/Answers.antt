use Rattle.std.proofs.Common.{◌∙◌, ap, sym, drop}
use Rattle.fits_card.specs.Tokens.{token_in}
use Rattle.fits_card.specs.Pieces.{closed}
use Rattle.fits_card.proofs.Fields.{content-empty, content-comment, content-string, content-token, no-token-in_string}
use Rattle.fits_card.proofs.field.token_of.Goals as goal

pub returns-in_default-clause-content : goal.returns-in_default-clause-content
returns-in_default-clause-content c = sym (ap token_in (content-empty c.args.field.now c.in_default.len_below))

pub returns-then-first-eq47-clause-content : goal.returns-then-first-eq47-clause-content
returns-then-first-eq47-clause-content c = sym (ap token_in (content-comment c.args.field.now c.in-len1-up.len_at_least c.if-first-eq47.true))

pub returns-then-first-eq39-clause-content : goal.returns-then-first-eq39-clause-content
returns-then-first-eq39-clause-content c =
    sym (ap token_in (content-string c.args.field.now c.in-len1-up.len_at_least c.if-first-eq39.true) ∙ no-token-in_string (closed (drop 1 c.args.field.now)))

pub returns-clause-content : goal.returns-clause-content
returns-clause-content c =
    c.plain_token.ensures.content ∙ sym (ap token_in (content-token c.args.field.now c.in-len1-up.len_at_least c.if-first-eq47.false c.if-first-eq39.false))
