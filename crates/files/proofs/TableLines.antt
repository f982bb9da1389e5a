-- A table's text: lines put in a row one by one, of at most 46 bytes each.
use Prim.Native.Nat.{ℕ, ◌+◌, ◌*◌, ◌-◌, ◌/◌, ◌≤◌, ◌<◌}
use native.Mathlib.Omega.{arith}
use mathlib.Core.Path.{◌≡◌, refl, ap, ◌∙◌}
use mathlib.Core.Bool.{true, false}
use mathlib.Core.Logic.{⊎_elim}
use mathlib.Core.List.{List, [], ◌∷◌, ◌++◌, Memᴰ}
use borrow.Author.Tests.{ltb-true, ltb-false, eqb-true, eqb-false}
use lib.Dec.{ltb, eqb}
use lib.ListN.{length, take, get_or, length-append, take-append-drop}
use lib.Seq.{take_all}
use Rattle.axis.specs.declared.Triple.{Triple}
use Rattle.axis.specs.Range.{joined}
use Rattle.axis.specs.Triple.{Rises}
use Rattle.mesh.specs.declared.Table.{Table}
use Rattle.mesh.specs.Sound.{Proper}
use Rattle.axis.proofs.Tests.{either}
use Rattle.files.specs.File.{TableEntry}
use Rattle.files.specs.declared.listing.Text.{Text}
use Rattle.files.specs.Inner.{no_entry, entries_in, text_from, Puts, Room, Writes}
use Rattle.files.specs.Listing.{digits, spaced, number_line, knots, value_line, line}
use Rattle.files.proofs.Putting.{put_none, put_length}
use Rattle.files.proofs.Terms.{InHand, entries_length, entries_at, entries_rise}
use Rattle.axis.proofs.Members.{placed, joined_append, joined_more}
use Rattle.files.proofs.Texts.{next_room, puts_then, one_digit, more_digits, outer_coordinate, inner_coordinate}

-- a number that is less than ten times another has at most one digit more
tenth : (k most : ℕ) → ((m : ℕ) → m < most → length (digits m) ≤ k) → (n : ℕ) → n < 10 * most → length (digits n) ≤ k + 1
tenth k most short n lt =
    ⊎_elim (λ (t : ltb n 10 ≡ true). rw (one_digit n (ltb-true n 10 t)) (omega arith))
    (λ (e : ltb n 10 ≡ false).
    let s = short (n / 10) (omega arith) in
    rw (more_digits n (ltb-false n 10 e), length-append) (omega (arith, s)))
    (either (ltb n 10))

mark_digits : (n : ℕ) → n < 1000 → length (digits n) ≤ 3
mark_digits = tenth 2 100 (tenth 1 10 (λ n lt. rw (one_digit n lt) (omega arith)))

pub digits_short : (n : ℕ) → n < 100000 → length (digits n) ≤ 5
digits_short = tenth 4 10000 (tenth 3 1000 mark_digits)

spaced_short : (k : ℕ) → k ≤ 130 → length (spaced k) ≤ 6
spaced_short k le =
    ⊎_elim (λ (t : eqb k 0 ≡ true). rw (outer_coordinate k (eqb-true k 0 t)) (omega arith))
    (λ (e : eqb k 0 ≡ false).
    let s = digits_short (k - 1) (omega arith) in
    rw (length-append, inner_coordinate k (eqb-false k 0 e)) (omega (arith, s)))
    (either (eqb k 0))

pub number_line_short : (n : ℕ) → n < 100000 → length (number_line n) ≤ 6
number_line_short n lt = let s = digits_short n lt in rw length-append (omega (arith, s))

knots_short : (t : Triple) → Rises t → length (knots t) ≤ 18
unfolding knots
knots_short t p =
    let l = spaced_short t.l (omega (arith, p.low, p.high, p.most)) in
    let m = spaced_short t.m (omega (arith, p.high, p.most)) in
    let r = spaced_short t.r p.most in
    rw (length-append (spaced t.l ++ spaced t.m) (spaced t.r), length-append (spaced t.l) (spaced t.m)) (omega (arith, l, m, r))

value_line_short : (value mark : ℕ) → value < 65536 → mark < 256 → length (value_line value mark) ≤ 10
unfolding value_line
value_line_short value mark lt small =
    let v = digits_short value (omega arith) in
    let m = mark_digits mark (omega arith) in
    simp length-append (omega (arith, v, m))

pub line_short : (e : TableEntry) → Proper e.term.of → e.term.multiple < 65536 → e.mark < 256 → length (line e) ≤ 46
unfolding line
line_short e p lt small =
    let across = knots e.term.of.across in
    let up = knots e.term.of.up in
    let a = knots_short e.term.of.across p.across in
    let u = knots_short e.term.of.up p.up in
    let v = value_line_short e.term.multiple e.mark lt small in
    rw (length-append (across ++ up) (value_line e.term.multiple e.mark), length-append across up) (omega (arith, a, u, v))

-- Entries in a row, measured one by one, and put one by one where there is room for all of them:
module _ {A : Type 0} (entry : A → List ℕ) (xs : List A) where
  part_long : (i : ℕ) → length (joined entry (take i xs)) ≤ length (joined entry xs)
  part_long i = omega (arith, simp (joined_append, length-append) at (ap (λ (l : List A). length (joined entry l)) (take-append-drop i xs)))

  -- after `first` bytes, the first i of them end at `size`
  pub record Sized (first i size : ℕ) : Type 0 where
    pub is : size ≡ first + length (joined entry (take i xs))

  pub sized_more : (d : A) {first i size : ℕ} → i < length xs → Sized first i size → Sized first (i + 1) (size + length (entry (get_or xs i d)))
  sized_more d {first} {i} lt s = record { is = rw (joined_more entry xs i d lt, length-append, s.is) (omega arith) }

  pub sized_most : {first i size : ℕ} → Sized first i size → size ≤ first + length (joined entry xs)
  sized_most {first} {i} s = omega (arith, s.is, part_long i)

  pub sized_done : {first i size : ℕ} → Sized first i size → length xs ≤ i → size ≡ first + length (joined entry xs)
  sized_done {first} {i} s le = rw (take_all i xs le) at s.is

  module _ (before : List ℕ) (at : ℕ) where
    -- the first i of them are put
    pub record Rows (i : ℕ) (bytes : List ℕ) (next : ℕ) : Type 0 where
      pub puts : Puts before at (joined entry (take i xs)) bytes next

    pub rows_none : Rows 0 before at
    rows_none = record { puts = record { is = put_none before at; ends = omega arith } }

    module _ (room : at + length (joined entry xs) ≤ length before) {i : ℕ} {bytes : List ℕ} {next : ℕ} (s : Rows i bytes next) where
      pub rows_length : length bytes ≡ length before
      rows_length = ap length s.puts.is ∙ put_length before at _ (omega (arith, part_long i))

      module _ (d : A) (lt : i < length xs) where
        next_fits : at + length (joined entry (take i xs) ++ entry (get_or xs i d)) ≤ length before
        next_fits = rw (← joined_more entry xs i d lt) (omega (arith, part_long (i + 1)))

        pub rows_room : next + length (entry (get_or xs i d)) ≤ length bytes
        rows_room = next_room before at (joined entry (take i xs)) (entry (get_or xs i d)) next_fits s.puts

        pub rows_more : {after : List ℕ} {end : ℕ} → Puts bytes next (entry (get_or xs i d)) after end → Rows (i + 1) after end
        rows_more p =
            let both = puts_then before at (joined entry (take i xs)) (entry (get_or xs i d)) next_fits s.puts p in
            record { puts = rw (joined_more entry xs i d lt) both }

    pub rows_done : {i : ℕ} {bytes : List ℕ} {next : ℕ} → Rows i bytes next → length xs ≤ i → Puts before at (joined entry xs) bytes next
    rows_done {i} s le = rw (take_all i xs le) at s.puts

  -- The same of texts that are put into lent bytes.
  module _ (before : Text) where
    pub record TextRows (i : ℕ) (now : Text) : Type 0 where
      pub rows : Rows before.out.now before.at i now.out.now now.at
      pub same : now.out.ghost_name ≡ before.out.ghost_name

    pub text_rows_none : TextRows 0 before
    text_rows_none = record { rows = rows_none before.out.now before.at; same = refl }

    module _ (room : Room before (joined entry xs)) {i : ℕ} {now : Text} (s : TextRows i now) (d : A) (lt : i < length xs) where
      pub text_rows_room : Room now (entry (get_or xs i d))
      text_rows_room = rows_room before.out.now before.at room s.rows d lt

      pub text_rows_more : {after : Text} → Writes now (entry (get_or xs i d)) after → TextRows (i + 1) after
      text_rows_more p = record { rows = rows_more before.out.now before.at room s.rows d lt p.puts; same = p.same ∙ s.same }

    pub text_rows_done : {i : ℕ} {now : Text} → TextRows i now → length xs ≤ i → Writes before (joined entry xs) now
    text_rows_done s le = record { puts = rows_done before.out.now before.at s.rows le; same = s.same }

-- a row of entries of at most some length
row_most : {A : Type 0} (entry : A → List ℕ) (most : ℕ) (xs : List A) → ((x : A) → Memᴰ x xs → length (entry x) ≤ most) →
    length (joined entry xs) ≤ most * length xs
row_most entry most [] short = omega arith
row_most entry most (x ∷ xs) short =
    rw length-append
    (omega (arith, short x (Memᴰ.head refl), row_most entry most xs (λ y m. short y (Memᴰ.tail m))))

-- so a table's text has at most 6 + 46 × 1,024 bytes
module _ {t : Table} {values marks : List ℕ} (h : InHand t values marks) (words : (i : ℕ) → get_or values i 0 < 65536)
    (bytes : (i : ℕ) → get_or marks i 0 < 256) where
  pub text_from_most : length (text_from t values marks) ≤ 65536
  text_from_most =
      let few = h.ok.few in
      let first = number_line_short t.count (omega (arith, few)) in
      let rows = row_most line 46 (entries_in t values marks) each_short in
      rw length-append (omega (arith, first, rows, entries_length h, few))
    where
      each_short : (x : TableEntry) → Memᴰ x (entries_in t values marks) → length (line x) ≤ 46
      each_short x m =
          let p = placed (entries_in t values marks) x no_entry m in
          let lt = rw (entries_length h) at p.1 in
          rw (← p.2, entries_at h p.0 lt) (line_short _ (entries_rise h p.0 lt) (words p.0) (bytes p.0))
