-- Texts put one after the other, and the digits of a number.
use Prim.Native.Nat.{ℕ, zero, suc, ◌+◌, ◌-◌, ◌/◌, ◌%◌, ◌≤◌, ◌<◌}
use native.Mathlib.Omega.{arith}
use mathlib.Core.Path.{◌≡◌, refl, sym, ◌∙◌}
use mathlib.Core.Logic.{⊎_elim}
use mathlib.Core.Bool.{true, false, cond}
use mathlib.Core.List.{List, [], ◌∷◌, ◌++◌}
use borrow.Author.Tests.{ltb-false, lt-ltb, le-ltb, eqb-true, eq-eqb}
use lib.Dec.{ltb, eqb}
use lib.ListN.{length, length-append}
use Rattle.axis.proofs.Tests.{either, false_of}
use Rattle.files.specs.declared.listing.Text.{Text}
use Rattle.files.specs.Inner.{Puts, Room, Writes}
use Rattle.files.specs.Listing.{digits_by, digits, coordinate}
use Rattle.files.proofs.Putting.{put_then, put_length}

-- Where two texts have room, the first has, the second has after it, and both are put one by one.
module _ (before : List ℕ) (at : ℕ) (xs ys : List ℕ) (room : at + length (xs ++ ys) ≤ length before) where
  both_fit : at + length xs + length ys ≤ length before
  both_fit = omega (arith, rw (length-append xs ys) at room)

  pub first_room : at + length xs ≤ length before
  first_room = omega (arith, both_fit)

  module _ {between : List ℕ} {next : ℕ} (p : Puts before at xs between next) where
    pub next_room : next + length ys ≤ length between
    next_room = rw (p.is, put_length before at xs first_room, p.ends) both_fit

    pub puts_then : {after : List ℕ} {end : ℕ} → Puts between next ys after end → Puts before at (xs ++ ys) after end
    puts_then q =
        record {
          is = put_then before at xs ys next p.is q.is (sym p.ends) (rw p.ends first_room);
          ends = rw (q.ends, p.ends, length-append) (omega arith);
        }

-- The same of three texts.
module _ (before : List ℕ) (at : ℕ) (xs ys zs : List ℕ) (room : at + length (xs ++ ys ++ zs) ≤ length before) where
  pub two_room : at + length (xs ++ ys) ≤ length before
  two_room = first_room before at (xs ++ ys) zs room

  module _ {first second : List ℕ} {n o : ℕ} (p : Puts before at xs first n) (q : Puts first n ys second o) where
    two : Puts before at (xs ++ ys) second o
    two = puts_then before at xs ys two_room p q

    pub third_room : o + length zs ≤ length second
    third_room = next_room before at (xs ++ ys) zs room two

    pub puts_three : {third : List ℕ} {end : ℕ} → Puts second o zs third end → Puts before at (xs ++ ys ++ zs) third end
    puts_three = puts_then before at (xs ++ ys) zs room two

-- The same of texts that are put into lent bytes.
module _ (before : Text) (xs ys : List ℕ) (room : Room before (xs ++ ys)) where
  pub text_first : Room before xs
  text_first = first_room before.out.now before.at xs ys room

  module _ {between : Text} (p : Writes before xs between) where
    pub text_next : Room between ys
    text_next = next_room before.out.now before.at xs ys room p.puts

    pub text_then : {after : Text} → Writes between ys after → Writes before (xs ++ ys) after
    text_then q = record { puts = puts_then before.out.now before.at xs ys room p.puts q.puts; same = q.same ∙ p.same }

-- Three of them.
pub writes_three : (before : Text) (xs ys zs : List ℕ) → Room before (xs ++ ys ++ zs) → {first second third : Text} → Writes before xs first →
    Writes first ys second → Writes second zs third → Writes before (xs ++ ys ++ zs) third
writes_three before xs ys zs room p q r =
    let front = text_first before (xs ++ ys) zs room in text_then before (xs ++ ys) zs room (text_then before xs ys front p q) r

-- more of a bound than a number needs gives no more digits
enough : (f g n : ℕ) → n ≤ f → n ≤ g → digits_by f n ≡ digits_by g n
unfolding digits_by
enough zero zero n p q = refl
enough zero (suc g) n p q = rw (lt-ltb n 10 (omega arith))
enough (suc f) zero n p q = rw (lt-ltb n 10 (omega arith))
enough (suc f) (suc g) n p q =
    ⊎_elim (λ (t : ltb n 10 ≡ true). rw t)
    (λ (e : ltb n 10 ≡ false). let le = ltb-false n 10 e in rw (enough f g (n / 10) (omega (arith, le)) (omega (arith, le))))
    (either (ltb n 10))

digits_step : (n : ℕ) → digits n ≡ cond (ltb n 10) [] (digits (n / 10)) ++ ((48 + n % 10) ∷ [])
unfolding digits digits_by
digits_step n =
    enough n (suc n) n (omega arith) (omega arith) ∙
    ⊎_elim (λ (t : ltb n 10 ≡ true). rw t)
    (λ (e : ltb n 10 ≡ false). let le = ltb-false n 10 e in rw (enough n (n / 10) (n / 10) (omega (arith, le)) (omega (arith, le))))
    (either (ltb n 10))

pub one_digit : (n : ℕ) → n < 10 → digits n ≡ (48 + n % 10) ∷ []
one_digit n lt = digits_step n ∙ rw (lt-ltb n 10 lt)

pub more_digits : (n : ℕ) → 10 ≤ n → digits n ≡ digits (n / 10) ++ ((48 + n % 10) ∷ [])
more_digits n le = digits_step n ∙ rw (le-ltb n 10 le)

pub outer_coordinate : (k : ℕ) → k ≡ 0 → coordinate k ≡ 45 ∷ 49 ∷ []
unfolding coordinate
outer_coordinate k e = rw (eq-eqb k 0 e)

pub inner_coordinate : (k : ℕ) → (k ≡ 0 → ⊥) → coordinate k ≡ digits (k - 1)
unfolding coordinate
inner_coordinate k ne = rw (false_of (eqb k 0) (λ t. ne (eqb-true k 0 t)))
