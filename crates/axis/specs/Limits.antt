-- The limits of documents 01 and 02.
use Rattle.std.specs.Prelude.{ℕ}

-- "each 1 to 128 steps"
abbrev pub largest_side : ℕ
largest_side = 128

-- "A map holds up to 60 splits"
abbrev pub most_splits : ℕ
most_splits = 60

-- "at most 32 × 32 = 1,024 live blends"
abbrev pub most_blends : ℕ
most_blends = 1024

-- document 02, L7: "the extra length it may add, 0 to 128 steps"
abbrev pub most_allowance : ℕ
most_allowance = 128
