-- Document 02, L5, at the border to C: marks decide nothing but themselves.
use Rattle.std.specs.Prelude.{◌≡◌, List, [], ◌∷◌, ◌++◌, length, get_or, take, drop}
use Rattle.maps.specs.ByMarks.{without_marks}
use Rattle.files.specs.Listing.{marks_blanked}
use Rattle.pump.specs.Histories.{PumpCall, fresh, set, split, place, reads, weighs, along_row, along_column, same_as, same_to, checks, payloads, lists, PumpAnswer, says, Buffer, by_border, left}
use Rattle.pump.specs.Demand.{read_number}
use Rattle.pump.specs.ByLines.{in_buffer}

-- Two buffers of one length, with as many bytes in use, that hold files of maps that differ only
-- in marks.
pub record AlikeButMarks (one other : Buffer) : Type 0 where
  pub is_file : read_number one ≡ 0
  pub other_is_file : read_number other ≡ 0
  pub same_length : length one.bytes ≡ length other.bytes
  pub same_used : one.used ≡ other.used
  pub same_map : without_marks (in_buffer one) ≡ without_marks (in_buffer other)

-- What marks do not decide of an answer: all but the mark's two bytes in that of `pump_place`, and
-- the marks in the text of `pump_table`. `pump_payload` tells of the bytes as they stand, marks
-- among them, at whatever place, so its answer is left out.
abbrev pub but_mark : PumpCall → PumpAnswer → PumpAnswer
but_mark (place i out) a = says a.number a.numbers (take 14 a.out ++ drop 16 a.out)
but_mark (lists out) a =
    let count = get_or a.numbers 0 0 in
    says a.number a.numbers (marks_blanked 10 (take count a.out) ++ drop count a.out)
but_mark (payloads at) a = says 0 [] []
but_mark (fresh w h) a = a
but_mark (set m n v) a = a
but_mark (split s allowance) a = a
but_mark (reads u v) a = a
but_mark (weighs u v out) a = a
but_mark (along_row v wanted) a = a
but_mark (along_column u wanted) a = a
but_mark (same_as other) a = a
but_mark (same_to other) a = a
but_mark checks a = a

-- the answers to a list of calls, but for marks
abbrev pub answers_by : Buffer → List PumpCall → List PumpAnswer
answers_by b [] = []
answers_by b (c ∷ cs) = but_mark c (by_border b c).answer ∷ answers_by (by_border b c).next cs

-- Every list of calls gets the same answers, and leaves two such buffers again.
pub record ByMarks (one other : Buffer) (cs : List PumpCall) : Type 0 where
  pub same_answers : answers_by one cs ≡ answers_by other cs
  pub left_alike : AlikeButMarks (left by_border one cs) (left by_border other cs)
