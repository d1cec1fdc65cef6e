-- Model: pieces of text, and lines made of them.
use Rattle.std.specs.Prelude.{ℕ, List, map}
use Rattle.std.specs.List.{concat}
use denote.Ref.{Bor}

-- the texts that are lent, as bytes
abbrev pub texts : List (Bor (List ℕ)) → List (List ℕ)
texts pieces = map (λ piece. piece.now) pieces

-- pieces of text, one behind the other
abbrev pub joined_texts : List (Bor (List ℕ)) → List ℕ
joined_texts pieces = concat (texts pieces)
