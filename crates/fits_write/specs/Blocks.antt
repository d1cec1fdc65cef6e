-- Model: bytes that are filled to whole blocks (FITS Standard 4.0, section 3.1), and how they get to a sink.
use Rattle.std.specs.Prelude.{ℕ, ◌-◌, ◌%◌, List, ◌++◌, length, replicate}

-- how many bytes a block that holds the last of n bytes still has room for
unfoldable pub room_after : ℕ → ℕ
room_after n = (2880 - n % 2880) % 2880

-- these bytes, and copies of one byte up to whole blocks
unfoldable pub filled : ℕ → List ℕ → List ℕ
filled byte bytes = bytes ++ replicate (room_after (length bytes)) byte
