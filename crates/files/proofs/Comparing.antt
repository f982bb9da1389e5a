-- Bytes compared with a file entry by entry: as long as entries agree, what is left decides.
use Prim.Native.Nat.{ℕ, suc, ◌+◌, ◌*◌, ◌/◌, ◌%◌, ◌≤◌, ◌<◌}
use native.Mathlib.Omega.{arith}
use native.Mathlib.Numerals.{add-one}
use mathlib.Core.Path.{◌≡◌, refl, sym, ap, ◌∙◌}
use mathlib.Core.Bool.{Bool, true, false, ◌&&◌}
use mathlib.Core.List.{List, [], ◌∷◌, ◌++◌, append_assoc}
use borrow.Author.Tests.{eqb-true, eq-eqb}
use lib.Dec.{eqb}
use lib.ListN.{length, get_or, drop, length-drop, drop_of_length-le}
use lib.Seq.{drop-cons, drop-drop}
use Rattle.axis.specs.Range.{joined, agree}
use Rattle.axis.proofs.Tests.{true_not_false, and_both, and_of, same_test, false_of}
use Rattle.files.specs.File.{word, entry}
use Rattle.files.specs.Inner.{begins}
use Rattle.files.proofs.Words.{joined_length}

and_assoc : (a b c : Bool) → (a && (b && c)) ≡ (a && b && c)
and_assoc true b c = refl
and_assoc false b c = refl

-- bytes that begin with two parts, and that are two parts
begins_append : (zs xs ys : List ℕ) → begins zs (xs ++ ys) ≡ (begins zs xs && begins (drop (length xs) zs) ys)
begins_append zs [] ys = refl
begins_append [] (x ∷ xs) ys = refl
begins_append (z ∷ zs) (x ∷ xs) ys = ap (λ (b : Bool). eqb z x && b) (begins_append zs xs ys) ∙ and_assoc (eqb z x) _ _

agree_append : (zs xs ys : List ℕ) → agree eqb zs (xs ++ ys) ≡ (begins zs xs && agree eqb (drop (length xs) zs) ys)
agree_append zs [] ys = refl
agree_append [] (x ∷ xs) ys = refl
agree_append (z ∷ zs) (x ∷ xs) ys = ap (λ (b : Bool). eqb z x && b) (agree_append zs xs ys) ∙ and_assoc (eqb z x) _ _

begins_long : (zs xs : List ℕ) → begins zs xs ≡ true → length xs ≤ length zs
begins_long zs [] e = omega arith
begins_long [] (x ∷ xs) e = absurd (true_not_false false e refl)
begins_long (z ∷ zs) (x ∷ xs) e = let l = begins_long zs xs (and_both (eqb z x) (begins zs xs) e).1 in omega arith

-- what stands at a byte place
pub two_bytes : (bytes : List ℕ) (at : ℕ) → at + 2 ≤ length bytes → drop at bytes ≡ get_or bytes at 0 ∷ get_or bytes (at + 1) 0 ∷ drop (at + 2) bytes
two_bytes bytes at le =
    let first = drop-cons bytes at 0 (omega arith) in
    let second = drop-cons bytes (at + 1) 0 (omega arith) in
    let next : suc (at + 1) ≡ at + 2 = omega arith in
    let one : suc at ≡ at + 1 = omega arith in
    first ∙ rw (one, second, next)

-- a number stands there just where it is read there
pub word_stands : (bytes : List ℕ) (at n m : ℕ) → at + 2 ≤ length bytes → get_or bytes at 0 < 256 → get_or bytes (at + 1) 0 < 256 →
    m ≡ get_or bytes at 0 + 256 * get_or bytes (at + 1) 0 → eqb m (n % 65536) ≡ begins (drop at bytes) (word n)
word_stands bytes at n m le low high is =
    let a = get_or bytes at 0 in
    let b = get_or bytes (at + 1) 0 in
    rw (two_bytes bytes at le)
    (same_test (eqb m (n % 65536)) (eqb a (n % 256) && (eqb b (n / 256 % 256) && true))
    (λ t.
    let e = eqb-true m (n % 65536) t in
    and_of _ _ (eq-eqb a (n % 256) (omega arith)) (and_of _ true (eq-eqb b (n / 256 % 256) (omega arith)) refl))
    (λ t.
    let p = and_both (eqb a (n % 256)) _ t in
    let q = and_both (eqb b (n / 256 % 256)) true p.1 in
    eq-eqb m (n % 65536) (omega (arith, is, eqb-true a _ p.0, eqb-true b _ q.0))))

-- numbers in a row: there are too few bytes for them, or the first of them and the others decide
module _ (bytes : List ℕ) (at : ℕ) (words : List ℕ) where
  pub words_short : at ≤ length bytes → length bytes < at + 2 * length words → begins (drop at bytes) (joined word words) ≡ false
  words_short le lt =
      false_of _ (λ t.
      let l = begins_long (drop at bytes) (joined word words) t in
      omega (arith, l, length-drop at bytes, joined_length word 2 (λ n. refl) words))

  words_turn : (i : ℕ) → i < length words → begins (drop (at + 2 * i) bytes) (joined word (drop i words)) ≡
      (begins (drop (at + 2 * i) bytes) (word (get_or words i 0)) && begins (drop (at + 2 * (i + 1)) bytes) (joined word (drop (i + 1) words)))
  words_turn i lt =
      let here = drop (at + 2 * i) bytes in
      let first = word (get_or words i 0) in
      let others = joined word (drop (i + 1) words) in
      let next : at + 2 * i + 2 ≡ at + 2 * (i + 1) = omega arith in
      let turn : drop i words ≡ get_or words i 0 ∷ drop (i + 1) words = drop-cons words i 0 lt ∙ rw add-one in
      ap (λ (ws : List ℕ). begins here (joined word ws)) turn ∙ begins_append here first others ∙
      ap (λ (zs : List ℕ). begins here first && begins zs others) (drop-drop 2 (at + 2 * i) bytes ∙ ap (λ (k : ℕ). drop k bytes) next)

  module _ (i : ℕ) (lt : i < length words) where
    abbrev others : Bool
    others = begins (drop (at + 2 * (i + 1)) bytes) (joined word (drop (i + 1) words))

    pub words_not : begins (drop (at + 2 * i) bytes) (word (get_or words i 0)) ≡ false → begins (drop (at + 2 * i) bytes) (joined word (drop i words)) ≡ false
    words_not f = words_turn i lt ∙ ap (λ (b : Bool). b && others) f

    pub words_more : begins (drop (at + 2 * i) bytes) (word (get_or words i 0)) ≡ true → begins (drop (at + 2 * i) bytes) (joined word (drop i words)) ≡ others
    words_more t = words_turn i lt ∙ ap (λ (b : Bool). b && others) t

-- a record: its length and kind stand there, and its payload decides
module _ (bytes : List ℕ) (at kind : ℕ) (payload : List ℕ) where
  abbrev front : List ℕ
  front = word (2 + 2 * length payload) ++ word kind

  pub front_room : at ≤ length bytes → begins (drop at bytes) front ≡ true → at + 4 ≤ length bytes
  front_room le t = omega (arith, begins_long (drop at bytes) front t, length-drop at bytes)

  pub front_stands : begins (drop at bytes) front ≡ true → begins (drop (at + 4) bytes) (joined word payload) ≡ begins (drop at bytes) (entry kind payload)
  front_stands t =
      let apart = begins_append (drop at bytes) front (joined word payload) in
      sym (apart ∙ rw (t, drop-drop 4 at bytes))

-- From a place on the bytes are to be a part of a file. They agree with it as far as `at`, and what is left of both decides.
pub record Left (bytes : List ℕ) (from : ℕ) (part : List ℕ) (at : ℕ) (rest : List ℕ) : Type 0 where
  pub decides : agree eqb (drop from bytes) part ≡ agree eqb (drop at bytes) rest
  pub within : at ≤ length bytes

pub left_all : (bytes : List ℕ) (from : ℕ) (part : List ℕ) → from ≤ length bytes → Left bytes from part from part
left_all bytes from part le = record { decides = refl; within = le }

module _ {bytes part : List ℕ} {from at : ℕ} where
  module _ (xs ys : List ℕ) {rest : List ℕ} (l : Left bytes from part at rest) (is : rest ≡ xs ++ ys) where
    apart : agree eqb (drop from bytes) part ≡ (begins (drop at bytes) xs && agree eqb (drop (length xs) (drop at bytes)) ys)
    apart = l.decides ∙ ap (agree eqb (drop at bytes)) is ∙ agree_append (drop at bytes) xs ys

    pub left_more : begins (drop at bytes) xs ≡ true → {n : ℕ} → length xs ≡ n → Left bytes from part (at + n) ys
    left_more e {n} long =
        let room = begins_long (drop at bytes) xs e in
        record {
          decides = apart ∙ rw (e, long) (ap (λ (zs : List ℕ). agree eqb zs ys) (drop-drop n at bytes));
          within = omega (arith, room, length-drop at bytes, l.within, long);
        }

    pub left_not : begins (drop at bytes) xs ≡ false → agree eqb (drop from bytes) part ≡ false
    left_not f = apart ∙ rw f

  -- nothing is left of the file, so nothing may be left of the bytes
  pub left_none : Left bytes from part at [] → eqb (length bytes) at ≡ agree eqb (drop from bytes) part
  left_none l =
      same_test (eqb (length bytes) at) (agree eqb (drop from bytes) part)
      (λ t. l.decides ∙ rw (drop_of_length-le bytes {i = at} (omega (arith, eqb-true (length bytes) at t))))
      (λ t. let n = no_more (drop at bytes) (sym l.decides ∙ t) in eq-eqb (length bytes) at (omega (arith, n, length-drop at bytes, l.within)))
    where
      no_more : (zs : List ℕ) → agree eqb zs [] ≡ true → length zs ≡ 0
      no_more [] e = refl
      no_more (z ∷ zs) e = absurd (true_not_false false e refl)

-- a row of entries from a place on, and what stands behind it
module _ {A : Type 0} (entry : A → List ℕ) (xs : List A) (i : ℕ) (ys : List ℕ) where
  pub row_next : (d : A) {x : A} → i < length xs → get_or xs i d ≡ x →
      joined entry (drop i xs) ++ ys ≡ entry x ++ (joined entry (drop (i + 1) xs) ++ ys)
  row_next d {x} lt e = rw (drop-cons xs i d lt, add-one, e) (append_assoc (entry x) (joined entry (drop (suc i) xs)) ys)

  pub row_end : length xs ≤ i → joined entry (drop i xs) ++ ys ≡ ys
  row_end le = rw (drop_of_length-le xs le)
