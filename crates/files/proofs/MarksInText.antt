-- Texts of one table with other marks differ in nothing else: a mark is one digit, 0 or 1.
use Prim.Native.Nat.{ℕ, suc, ◌+◌, ◌%◌, ◌≤◌}
use native.Mathlib.Omega.{arith}
use mathlib.Core.Path.{◌≡◌, refl, ap, ap₂}
use mathlib.Core.Bool.{Bool, false, cond, ◌&&◌}
use mathlib.Core.List.{List, [], ◌∷◌, ◌++◌, append_assoc}
use mathlib.Core.List.Memᴰ
use borrow.Author.Tests.{ne_eqb}
use lib.Dec.{eqb}
use lib.ListN.{length, get_or}
use Rattle.axis.specs.Range.{joined}
use Rattle.mesh.specs.Weight.{Term}
use Rattle.maps.specs.Plain.{Plain, blends}
use Rattle.maps.specs.Values.{paired}
use Rattle.maps.specs.Holds.{AreMarks}
use Rattle.maps.proofs.ByMarks.{marking}
use Rattle.files.specs.File.{entries_of}
use Rattle.files.specs.Listing.{digits, number_line, knots, value_line, line, table_text, marks_blanked}
use Rattle.files.proofs.Texts.{one_digit}

pub blanked_length : (before : ℕ) (text : List ℕ) → length (marks_blanked before text) ≡ length text
blanked_length before [] = refl
blanked_length before (x ∷ xs) = ap suc (blanked_length x xs)

-- Two texts that are the same but for marks, whatever stands before them,
record Alike (s t : List ℕ) : Type 0 where
  blanked : (before : ℕ) → marks_blanked before s ≡ marks_blanked before t
  begins : eqb (get_or s 0 0) 10 ≡ eqb (get_or t 0 0) 10

-- are so behind the same bytes,
behind : (front : List ℕ) {s t : List ℕ} → Alike s t → Alike (front ++ s) (front ++ t)
behind [] a = a
behind (x ∷ front) a =
    let rest = behind front a in
    record {
      blanked = λ before.
          ap₂ (λ (ends : Bool) (l : List ℕ). cond (eqb before 32 && ends) 0 x ∷ l) rest.begins (rest.blanked x);
      begins = refl;
    }

-- and behind two marks at the end of a line.
no_digit : (k other : ℕ) → other ≤ 47 → eqb (48 + k % 10) other ≡ false
no_digit k other low = ne_eqb (48 + k % 10) other (λ e. omega arith)

behind_marks : (k j : ℕ) → k ≤ 1 → j ≤ 1 → {s t : List ℕ} → Alike s t →
    Alike (32 ∷ digits k ++ 10 ∷ s) (32 ∷ digits j ++ 10 ∷ t)
behind_marks k j p q a =
    let newline : (k : ℕ) → eqb (48 + k % 10) 10 ≡ false = λ k. no_digit k 10 (omega arith) in
    let blank : (k : ℕ) → eqb (48 + k % 10) 32 ≡ false = λ k. no_digit k 32 (omega arith) in
    rw (one_digit k (omega arith), one_digit j (omega arith))
    (record {
      blanked = λ before. rw (newline k, newline j, blank k, blank j, a.blanked 10);
      begins = refl;
    })

-- So are the lines of a table, and its text.
lines_alike : (ts : List Term) (ks js : List ℕ) → length ks ≡ length js → AreMarks ks → AreMarks js →
    Alike (joined line (entries_of ts ks)) (joined line (entries_of ts js))
unfolding line value_line
lines_alike [] ks js e a b = record { blanked = λ before. refl; begins = refl }
lines_alike (t ∷ ts) [] [] e a b = record { blanked = λ before. refl; begins = refl }
lines_alike (t ∷ ts) [] (j ∷ js) e a b = absurd (omega arith)
lines_alike (t ∷ ts) (k ∷ ks) [] e a b = absurd (omega arith)
lines_alike (t ∷ ts) (k ∷ ks) (j ∷ js) e a b =
    let rest = lines_alike ts ks js (omega arith) (λ x m. a x (Memᴰ.tail m)) (λ x m. b x (Memᴰ.tail m)) in
    let ends = behind_marks k j (a k (Memᴰ.head refl)) (b j (Memᴰ.head refl)) rest in
    simp append_assoc (behind (knots t.of.across) (behind (knots t.of.up) (behind (digits t.multiple) ends)))

pub text_by_marks : (P : Plain) (marks : List ℕ) → length marks ≡ length P.marks → AreMarks marks →
    AreMarks P.marks → marks_blanked 10 (table_text (marking P marks)) ≡ marks_blanked 10 (table_text P)
text_by_marks P marks e a b =
    let lines = lines_alike (paired (blends P) P.values) marks P.marks e a b in
    (behind (number_line (length (blends P))) lines).blanked 10
