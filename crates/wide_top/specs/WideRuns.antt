-- Model: what a run of `maxwide` does.
use Rattle.std.specs.Prelude.{ℕ, Bool, true, false, List, [], ◌∷◌, codes}
use Rattle.std.specs.Str.{bytes_eq}
use Rattle.pixel_plane.specs.declared.limits.Limits.{Limits}
use Rattle.run_relation.specs.Headline.{InputUse, OutputUse, IsRunOf}
use Rattle.detect_top.specs.WordAnswers.{asked_within}
use Rattle.tile_words.specs.TileWords.{join_order_of}
use Rattle.tile_top.specs.TileAnswers.{asked_of_tile}
use Rattle.join_top.specs.JoinHeadline.{IsJoinOf}

-- the first word is this one
abbrev pub begins_with : List ℕ → List (List ℕ) → Bool
begins_with name [] = false
begins_with name (word ∷ words) = bytes_eq word name

-- by whether the first word is `tile`, and whether it is `join`
abbrev pub IsRunByWord : (is_tile is_join : Bool) → Limits → List (List ℕ) → InputUse → OutputUse → OutputUse → ℕ → Type 0
IsRunByWord true is_join limits words i o n status = IsRunOf (asked_of_tile limits words) i o n status
IsRunByWord false true limits words i o n status = IsJoinOf (join_order_of words) i o n status
IsRunByWord false false limits words i o n status = IsRunOf (asked_within limits words) i o n status

-- what a run of any words does, where images have these limits
abbrev pub IsRunOfWide : Limits → List (List ℕ) → InputUse → OutputUse → OutputUse → ℕ → Type 0
IsRunOfWide limits words = IsRunByWord (begins_with (codes "tile") words) (begins_with (codes "join") words) limits words
