-- Bookkeeping: the token in a value field.
use Rattle.std.specs.Prelude.{ℕ, List, Option, Some, None}
use Rattle.fits_card.specs.Values.{Content, Token}

-- the token, where the content is one
abbrev pub token_in : Content → Option (List ℕ)
token_in (Token bytes) = Some bytes
token_in _ = None
