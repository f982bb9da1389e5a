-- What listing a file's table answers and leaves.
use Prim.Native.Nat.{ℕ, ◌≤◌}
use native.Mathlib.Omega.{arith}
use native.Mathlib.Nat.{zero-add}
use mathlib.Core.Path.{◌≡◌, refl}
use mathlib.Core.Logic.{⊎_elim}
use mathlib.Core.Bool.{true, false}
use mathlib.Core.List.{List}
use borrow.Author.Tests.{lt-ltb, le-ltb, leb-true, leb-false, le-leb}
use lib.Dec.{leb}
use lib.ListN.{length, get_or, drop, length-append}
use Rattle.mesh.specs.declared.Table.{Table}
use Rattle.axis.proofs.Tests.{either}
use Rattle.maps.specs.declared.Map.{Map}
use Rattle.maps.specs.declared.opened.Opened.{Opened}
use Rattle.maps.specs.Record.{is_mark, Held, plain}
use Rattle.mesh.proofs.BlendTables.{table_blends, table_count}
use Rattle.maps.proofs.Changing.{GoodMap, opened_map, live_table}
use Rattle.files.proofs.Filing.{ready}
use Rattle.maps.proofs.Opening.{good_passes}
use Rattle.files.proofs.Words as Words
use Rattle.files.proofs.ReadMaps.{map_held, read_map}
use Rattle.files.proofs.TableLines.{text_from_most}
use Rattle.files.specs.Calls.{Written}
use Rattle.files.specs.Calls.{read_file, short_of, counted, answered}
use Rattle.files.specs.Inner.{text_from, text_in, Puts}
use Rattle.files.specs.Listing.{table_text, largest_text, text_of, text_number, text_written, text_after}

-- an opened map's table has the map's text
pub opened_text : {m : Map} {t : Table} → GoodMap m t → text_from t m.values m.marks ≡ table_text (plain m)
unfolding plain
opened_text g = rw (live_table g, table_blends, table_count)

-- what putting it answers and leaves
module _ {m : Map} {t : Table} (g : GoodMap m t) (out : List ℕ) where
  abbrev outcome : ℕ → ℕ → List ℕ → Type 0
  outcome number long left =
      let text = table_text (plain m) in
      let n = short_of (length text) out in
      (◌≡◌ {A = Written} (record { number = number; length = long }) (counted n text)) × (left ≡ answered n text out)

  abbrev text : List ℕ
  text = text_from t m.values m.marks

  pub text_short : leb (length text) (length out) ≡ false → outcome 12 0 out
  text_short f = let s = lt-ltb _ _ (rw (opened_text g) at (leb-false (length text) (length out) f)) in (rw s, rw s)

  pub text_put : leb (length text) (length out) ≡ true → {left : List ℕ} {long : ℕ} → Puts out 0 text left long → outcome 0 long left
  text_put room q =
      let s = le-ltb _ _ (rw (opened_text g) at (leb-true (length text) (length out) room)) in
      let p = rw (opened_text g) at q in
      (rw (s, p.ends, zero-add), rw (s, p.is, zero-add))

-- bytes that are no file, and a file's text
module _ (bytes out : List ℕ) where
  pub lists_refusal : ((read_file bytes).number ≡ 0 → ⊥) →
      (◌≡◌ {A = Written} (record { number = (read_file bytes).number; length = 0 }) (text_written bytes out)) × (out ≡ text_after bytes out)
  unfolding text_number
  lists_refusal ne = let s = le-leb 1 (read_file bytes).number (omega arith) in (rw (s, s), rw (s, s))

  pub lists_text : (read_file bytes).number ≡ 0 → short_of (length (text_of bytes)) out ≡ text_number bytes out
  unfolding text_number
  lists_text z = rw z

  -- the buffer holds as many bytes as the answer says
  pub list_fits : {w : Written} {left : List ℕ} → w ≡ text_written bytes out → left ≡ text_after bytes out → w.length ≤ length left
  list_fits p q =
      ⊎_elim (λ (t : leb 1 (text_number bytes out) ≡ true). rw (p, q, t) (omega arith))
      (λ (f : leb 1 (text_number bytes out) ≡ false). rw (p, q, f) (omega (arith, length-append (text_of bytes) (drop (length (text_of bytes)) out))))
      (either (leb 1 (text_number bytes out)))

-- 65,536 bytes hold every text
map_most : {m : Map} {t : Table} → GoodMap m t → Held m → length (text_from t m.values m.marks) ≤ largest_text
map_most {m} g h =
    let marks = (good_passes m g.is_good).are_marks in
    let low : (i : ℕ) → get_or m.marks i 0 ≤ 1 = λ i. leb-true _ 1 (Words.all_places is_mark refl m.marks marks i) in
    text_from_most (ready g).hand h.small (λ i. omega (arith, low i))

pub opened_most : (o : Opened) → Held o.map → length (text_in o) ≤ largest_text
opened_most o h = map_most (opened_map o.opens h.full) h

pub text_most : (bytes : List ℕ) → length (text_of bytes) ≤ largest_text
text_most bytes = let g = read_map bytes in rw (← opened_text g) (map_most g (map_held bytes))
