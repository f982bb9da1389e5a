-- What the functions that put and take a file work on. Only contracts of functions that the crate keeps to itself cite this file.
use Rattle.std.specs.Prelude.{ℕ, ◌+◌, ◌-◌, ◌*◌, ◌/◌, ◌≤◌, ◌≡◌, Bool, true, false, ◌&&◌, eqb, List, [], ◌∷◌, ◌++◌, length, take}
use Rattle.axis.specs.Limits.{most_splits, most_blends}
use Rattle.mesh.specs.declared.Blend.{Blend}
use Rattle.mesh.specs.declared.Table.{Table}
use Rattle.axis.specs.Range.{joined}
use Rattle.mesh.specs.Sound.{none, blends_of, AllProper}
use Rattle.maps.specs.declared.opened.Opened.{Opened}
use Rattle.maps.specs.Values.{term, paired}
use Rattle.files.specs.declared.entries.Entry.{Entry}
use Rattle.files.specs.declared.listing.Text.{Text}
use Rattle.files.specs.File.{head_size, split_size, value_size, ends_size, split_count, is_old, TableEntry, entries_of, put}
use Rattle.files.specs.Listing.{number_line, line}

-- whether bytes begin with others
abbrev pub begins : List ℕ → List ℕ → Bool
begins zs [] = true
begins [] (x ∷ xs) = false
begins (z ∷ zs) (x ∷ xs) = eqb z x && begins zs xs

-- where the numbers of a file stand, if bytes are one: so many splits, then so many values of one form
pub record Stand (bytes : List ℕ) (splits : ℕ) (old : Bool) (values : ℕ) : Type 0 where
  pub are_splits : splits ≡ split_count bytes head_size most_splits
  pub is_form : old ≡ is_old bytes
  pub are_values : values ≡ (length bytes - ends_size - split_size * splits) / value_size old
  pub few : values ≤ most_blends
  pub room : ends_size + split_size * splits ≤ length bytes

-- a table holds as many blends as it says, and their knots rise
pub record WellFormed (t : Table) : Type 0 where
  pub few : t.count ≤ most_blends
  pub rise : AllProper (blends_of t)

-- the table entry of a blend, a value and a mark
abbrev pub entry_of : Blend → ℕ → ℕ → TableEntry
entry_of B value mark = record { term = term B value; mark = mark }

abbrev pub told : Entry → TableEntry
told e = entry_of e.blend e.value e.mark

abbrev pub no_entry : TableEntry
no_entry = entry_of none 0 0

-- a table's blends with the values and marks that two arrays begin with
abbrev pub entries_in : Table → List ℕ → List ℕ → List TableEntry
entries_in t values marks = entries_of (paired (blends_of t) (take t.count values)) (take t.count marks)

abbrev pub entries : Opened → List TableEntry
entries o = entries_in o.table o.map.values o.map.marks

-- the text of a table with the values and marks that two arrays begin with
abbrev pub text_from : Table → List ℕ → List ℕ → List ℕ
text_from t values marks = number_line t.count ++ joined line (entries_in t values marks)

abbrev pub text_in : Opened → List ℕ
text_in o = text_from o.table o.map.values o.map.marks

-- a text is put over bytes from a place on, and `next` is the place after it
pub record Puts (before : List ℕ) (at : ℕ) (text after : List ℕ) (next : ℕ) : Type 0 where
  pub is : after ≡ put before at text
  pub ends : next ≡ at + length text

-- lent bytes have room for a text; it is put into them
abbrev pub Room : Text → List ℕ → Type 0
Room t text = t.at + length text ≤ length t.out.now

pub record Writes (before : Text) (text : List ℕ) (after : Text) : Type 0 where
  pub puts : Puts before.out.now before.at text after.out.now after.at
  pub same : after.out.ghost_name ≡ before.out.ghost_name
