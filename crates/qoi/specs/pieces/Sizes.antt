-- How many raw bytes a copy hands over at once, and how many may be decoded before a caller asks for them.
use Rattle.std.specs.Prelude.{ℕ}

-- the most raw bytes that a copy reads before it writes them
abbrev pub copied_at_once : ℕ
copied_at_once = 4096

-- the most raw bytes that are decoded ahead of those that are asked for
abbrev pub decoded_ahead : ℕ
decoded_ahead = 3072
