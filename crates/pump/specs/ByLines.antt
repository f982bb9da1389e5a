-- Document 02, L3, at the border to C: two files that differ only in values take the same line or get the same number.
use Rattle.std.specs.Prelude.{◌≡◌}
use Rattle.maps.specs.declared.Map.{Map}
use Rattle.files.specs.Calls.{read_file}
use Rattle.pump.specs.Border.{lent}
use Rattle.pump.specs.Histories.{Buffer, PumpOutcome}

-- the map whose file is in a buffer
abbrev pub in_buffer : Buffer → Map
in_buffer b = (read_file (lent b.bytes b.used)).map

-- What a split call gives on two buffers: the answer, how many bytes are then in use, the lines of
-- the map that the buffer then holds and, where the two maps differ only in values, its marks. So
-- the whole outcome is the same but for the values. `border_by_lines` shows it of two buffers of
-- one length, with as many bytes in use, that hold maps with the same lines, and of every split and
-- allowance.
pub record SameInBuffer (b c : Buffer) (one other : PumpOutcome Buffer) : Type 0 where
  pub same_answer : one.answer ≡ other.answer
  pub same_used : one.next.used ≡ other.next.used
  pub same_lines : (in_buffer one.next).lines ≡ (in_buffer other.next).lines
  pub same_marks : (in_buffer b).marks ≡ (in_buffer c).marks → (in_buffer one.next).marks ≡ (in_buffer other.next).marks
