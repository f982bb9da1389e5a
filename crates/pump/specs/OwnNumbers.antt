-- Document 01, "When a call says no", at the border to C: a call gives only the numbers whose
-- matter it has, and 12 only where the bytes lent to it may be too few.
use Rattle.std.specs.Prelude.{ℕ, ◌≤◌, List, [], ◌∷◌, length}
use Prim.{Unit}
use Rattle.files.specs.File.{largest_file}
use Rattle.files.specs.Listing.{largest_text}
use Rattle.pump.specs.Histories.{PumpCall, fresh, set, split, place, reads, weighs, along_row, along_column, same_as, same_to, checks, payloads, lists, Buffer}

-- The numbers of each call: 0, then its refusals in checking order, 11 before any other, as the
-- bytes are read first. 2 is never among them, for a record that is not good is no file.
abbrev pub numbers_at : PumpCall → List ℕ
numbers_at (fresh w h) = 0 ∷ 1 ∷ 12 ∷ []
numbers_at (set m n v) = 0 ∷ 11 ∷ 3 ∷ 9 ∷ 12 ∷ []
numbers_at (split s allowance) = 0 ∷ 11 ∷ 3 ∷ 4 ∷ 5 ∷ 6 ∷ 7 ∷ 8 ∷ 12 ∷ []
numbers_at (place i out) = 0 ∷ 11 ∷ 9 ∷ 12 ∷ []
numbers_at (reads u v) = 0 ∷ 11 ∷ 10 ∷ []
numbers_at (weighs u v out) = 0 ∷ 11 ∷ 10 ∷ 12 ∷ []
numbers_at (along_row v wanted) = 0 ∷ 11 ∷ 10 ∷ 13 ∷ []
numbers_at (along_column u wanted) = 0 ∷ 11 ∷ 10 ∷ 13 ∷ []
numbers_at (same_as other) = 0 ∷ 11 ∷ []
numbers_at (same_to other) = 0 ∷ 11 ∷ []
numbers_at checks = 0 ∷ 11 ∷ []
numbers_at (payloads at) = 0 ∷ 11 ∷ []
numbers_at (lists out) = 0 ∷ 11 ∷ 12 ∷ []

-- The bytes that are always enough: in the buffer for the largest file, and for an answer those of
-- a place's entry, of four weights, of the largest text.
abbrev pub HasRoom : Buffer → PumpCall → Type 0
HasRoom b (fresh w h) = largest_file ≤ length b.bytes
HasRoom b (set m n v) = largest_file ≤ length b.bytes
HasRoom b (split s allowance) = largest_file ≤ length b.bytes
HasRoom b (place i out) = 16 ≤ length out
HasRoom b (reads u v) = Unit
HasRoom b (weighs u v out) = 64 ≤ length out
HasRoom b (along_row v wanted) = Unit
HasRoom b (along_column u wanted) = Unit
HasRoom b (same_as other) = Unit
HasRoom b (same_to other) = Unit
HasRoom b checks = Unit
HasRoom b (payloads at) = Unit
HasRoom b (lists out) = largest_text ≤ length out
