-- Document 01: "If an answer is an enum, a definition states this paper's number and values for each of the enum's cases." What the code answers about bytes.
use Rattle.std.specs.Prelude.{ℕ, List, [], Result, Ok, Err}
use Rattle.std.specs.Borrow.{Bor}
use Rattle.mesh.specs.declared.refusal.Refusal.{Refusal}
use Rattle.mesh.specs.Refusals.{number_of}
use Rattle.files.specs.Calls.{Written}

-- the number of any answer: 0 where it is a yes
abbrev pub number_in : {A : Type 0} → Result A Refusal → ℕ
number_in (Ok _) = 0
number_in (Err e) = number_of e

-- how many bytes were written; 0 on a refusal
abbrev pub count_in : Result ℕ Refusal → ℕ
count_in (Ok n) = n
count_in (Err e) = 0

abbrev pub written_as : Result ℕ Refusal → Written
written_as r = record { number = number_in r; length = count_in r }

-- a part of bytes; an empty one on a refusal
abbrev pub part_in : Result (Bor (List ℕ)) Refusal → List ℕ
part_in (Ok part) = part.now
part_in (Err e) = []
