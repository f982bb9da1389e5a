-- The entries of a table, its blends with the values and marks of two arrays; a file put part by part.
use Prim.Native.Nat.{ℕ, ◌+◌, ◌*◌, ◌≤◌, ◌<◌}
use native.Mathlib.Omega.{arith}
use mathlib.Core.Path.{◌≡◌, refl, sym, ◌∙◌}
use mathlib.Core.Bool.{Bool, false}
use mathlib.Core.List.{List, ◌++◌}
use lib.ListN.{length, get_or, take, length-append}
use lib.Seq.{length-take-le, get_or-take}
use Rattle.mesh.specs.declared.Table.{Table}
use Rattle.mesh.specs.Sound.{none, blends_of, Proper}
use Rattle.axis.specs.Range.{joined}
use Rattle.mesh.specs.Weight.{Term}
use Rattle.maps.specs.declared.Map.{Map}
use Rattle.maps.specs.Values.{term, paired}
use Rattle.axis.proofs.Beside.{beside_length, beside_at}
use Rattle.axis.proofs.Members.{entry}
use Rattle.files.specs.Inner.{WellFormed, entry_of, no_entry, entries_in}
use Rattle.files.specs.File.{put, head, split_entry, TableEntry, marked_entry, value_entry, tail}
use Rattle.files.proofs.Words.{split_long, value_long, joined_length}
use Rattle.files.proofs.Putting.{put_then}

-- a table and two arrays with all their places
pub record InHand (t : Table) (values marks : List ℕ) : Type 0 where
  pub ok : WellFormed t
  pub places : length t.blends ≡ 1024
  pub full : length values ≡ 1024
  pub full_marks : length marks ≡ 1024

abbrev marking : Term → ℕ → TableEntry
marking t k = record { term = t; mark = k }

module _ {t : Table} {values marks : List ℕ} (h : InHand t values marks) where
  blends_length : length (blends_of t) ≡ t.count
  blends_length = length-take-le t.count t.blends (omega (arith, h.ok.few, h.places))

  values_length : length (take t.count values) ≡ t.count
  values_length = length-take-le t.count values (omega (arith, h.ok.few, h.full))

  marks_length : length (take t.count marks) ≡ t.count
  marks_length = length-take-le t.count marks (omega (arith, h.ok.few, h.full_marks))

  terms_length : length (paired (blends_of t) (take t.count values)) ≡ t.count
  terms_length = beside_length term (blends_of t) (take t.count values) (values_length ∙ sym blends_length) ∙ blends_length

  pub entries_length : length (entries_in t values marks) ≡ t.count
  entries_length =
      beside_length marking (paired (blends_of t) (take t.count values)) (take t.count marks) (marks_length ∙ sym terms_length) ∙ terms_length

  module _ (i : ℕ) (lt : i < t.count) where
    pub entries_at : get_or (entries_in t values marks) i no_entry ≡ entry_of (get_or t.blends i none) (get_or values i 0) (get_or marks i 0)
    entries_at =
        beside_at marking (paired (blends_of t) (take t.count values)) (take t.count marks) i no_entry no_entry.term 0 (rw terms_length lt)
        (rw marks_length lt) ∙
        rw (
          beside_at term (blends_of t) (take t.count values) i no_entry.term none 0 (rw blends_length lt) (rw values_length lt),
          get_or-take t.count t.blends i none lt,
          get_or-take t.count values i 0 lt,
          get_or-take t.count marks i 0 lt,
        )

    pub entries_rise : Proper (get_or t.blends i none)
    entries_rise =
        h.ok.rise (get_or t.blends i none)
        (rw (get_or-take t.count t.blends i none lt) at (entry (blends_of t) i none (rw blends_length lt)))

-- the file of a map's record, with its table in hand
abbrev pub filed : Bool → Map → Table → List ℕ
filed old m t =
    head m.lines.w m.lines.h ++ joined split_entry (take m.lines.count m.lines.splits) ++
    joined (value_entry old) (entries_in t m.values m.marks) ++ tail

-- A file, put part by part: its head, the splits, the values and the end.
module _ (m : Map) (t : Table) (h : InHand t m.values m.marks)
    (used : length (take m.lines.count m.lines.splits) ≡ m.lines.count) where
  abbrev splits : List ℕ
  splits = joined split_entry (take m.lines.count m.lines.splits)

  abbrev values : List ℕ
  values = joined marked_entry (entries_in t m.values m.marks)

  splits_long : length splits ≡ 12 * m.lines.count
  splits_long = joined_length split_entry 12 split_long (take m.lines.count m.lines.splits) ∙ rw used

  values_long : length values ≡ 12 * t.count
  values_long = joined_length marked_entry 12 (value_long false) (entries_in t m.values m.marks) ∙ rw (entries_length h)

  pub filed_put : (before : List ℕ) → 12 + 12 * m.lines.count + 12 * t.count ≤ length before →
      {headed drawn valued after : List ℕ} → headed ≡ put before 0 (head m.lines.w m.lines.h) → drawn ≡ put headed 8 splits →
      valued ≡ put drawn (8 + 12 * m.lines.count) values → after ≡ put valued (8 + 12 * m.lines.count + 12 * t.count) tail →
      after ≡ put before 0 (filed false m t)
  filed_put before room q r s u =
      let first = head m.lines.w m.lines.h in
      let at = 8 + 12 * m.lines.count in
      let lined = put_then before 0 first splits 8 q r refl (omega arith) in
      let most = put_then before 0 (first ++ splits) values at lined s (rw (length-append, splits_long) (omega arith)) (omega arith) in
      put_then before 0 (first ++ splits ++ values) tail (at + 12 * t.count) most u
      (simp (length-append, splits_long, values_long) (omega arith)) (omega arith)
