-- The old map of a split, as a table and an array of values; and an array of numbers for the new blends as it is filled.
use Prim.Native.Nat.{ℕ, suc, ◌+◌, ◌-◌, ◌≤◌, ◌<◌}
use native.Mathlib.Omega.{arith}
use native.Mathlib.Numerals.{add-one}
use mathlib.Core.Path.{◌≡◌, sym, ap, ap₂, ◌∙◌}
use mathlib.Core.Bool.{true}
use mathlib.Core.List.{List, [], ◌∷◌, ◌++◌, map, map-append, append_assoc}
use lib.ListN.{length, get_or, set, take, drop, replicate, drop_of_length-le, length-map, length-append, length-replicate}
use lib.Seq.{drop-cons, get_or-take, take-length, take-suc, length-take-le, set_at}
use Rattle.mesh.specs.declared.Blend.{Blend}
use Rattle.mesh.specs.declared.Table.{Table}
use Rattle.axis.specs.Range.{all}
use Rattle.mesh.specs.Sound.{none, proper, sound, table, blends_of, AllProperIn}
use Rattle.axis.proofs.Tests.{all_of}
use Rattle.mesh.proofs.SoundMaps.{live_proper}
use Rattle.maps.specs.Plain.{Plain, blends}
use Rattle.mesh.specs.Lines.{mesh_of}
use Rattle.maps.specs.Inner.{InTable, AtPoint}
use Rattle.maps.specs.Holds.{Valued}
use Rattle.maps.proofs.OverSquare.{four_at}
use Rattle.axis.proofs.Members.{placed}
use Rattle.mesh.proofs.BlendTables.{table_blends, table_count}

of_proper : (P : Plain) (w h : ℕ) → P.lines.w ≡ w → P.lines.h ≡ h → 1 ≤ w → 1 ≤ h → AllProperIn w h (blends P)
of_proper P w h e f hw hh = rw (← e, ← f) (live_proper P.lines.w P.lines.h (omega arith) (omega arith) (mesh_of P.lines))

-- The old map of a split, as a table and an array of values.
module _ {w h : ℕ} {t : Table} {values : List ℕ} (old : InTable w h t values) where
  count_of : t.count ≡ length (blends old.of)
  count_of = ap (λ (t : Table). t.count) old.is_table ∙ table_count (blends old.of)

  pub count_most : t.count ≤ 1024
  count_most = rw count_of old.is_short

  pub blends_of_lem : blends_of t ≡ blends old.of
  blends_of_lem = rw old.is_table (table_blends (blends old.of))

  pub count_blends : length (blends_of t) ≡ t.count
  count_blends = rw (blends_of_lem, count_of)

  pub few_blends : length (blends_of t) ≤ 1024
  few_blends = rw blends_of_lem old.is_short

  pub values_of : take t.count values ≡ old.of.values
  values_of = rw count_of (sym old.are_values)

  pub old_long : length t.blends ≡ 1024
  unfolding table
  old_long =
      let room = length-replicate (1024 - length (blends old.of)) none in
      rw (ap (λ (t : Table). t.blends) old.is_table)
      (omega (arith, length-append (blends old.of) (replicate (1024 - length (blends old.of)) none), room, old.is_short))

  old_proper : AllProperIn w h (blends old.of)
  old_proper = of_proper old.of w h old.across old.up old.sides.0 old.sides.2

  pub old_table : (all (proper w h) (blends_of t) ≡ true) × (sound w h (blends_of t) ≡ true)
  old_table = rw blends_of_lem (all_of (proper w h) (blends old.of) old_proper, old.is_sound)

  pub old_point : (u v : ℕ) → u ≤ w → v ≤ h → AtPoint w h t u v
  old_point u v uw vh = (
    count_most,
    old_table.0,
    four_at w h (blends_of t) old_table.1 u v old.sides.0 old.sides.2 uw vh,
    old.sides.0,
    old.sides.1,
    old.sides.2,
    old.sides.3,
    uw,
    vh,
  )

  sound_here : sound old.of.lines.w old.of.lines.h (blends old.of) ≡ true
  sound_here = ap₂ (λ (a b : ℕ). sound a b (blends old.of)) old.across old.up ∙ old.is_sound

  pub old_valued : length values ≡ 1024 → ((i : ℕ) → get_or values i 0 < 65536) → Valued old.of
  old_valued full small = record {
    wide = rw old.across (old.sides.0, old.sides.1);
    tall = rw old.up (old.sides.2, old.sides.3);
    is_sound = sound_here;
    counted = counted;
    small = λ v m.
        let r = placed old.of.values v 0 m in
        let e = get_or-take (length (blends old.of)) values r.0 0 (rw counted at r.1) in
        let there = ap (λ (xs : List ℕ). get_or xs r.0 0) old.are_values in
        omega (arith, small r.0, r.2, e, there);
  }
    where
      counted : length old.of.values ≡ length (blends old.of)
      counted = ap length old.are_values ∙ length-take-le _ values (omega (arith, old.is_short))

-- blends from the i-th on, as a loop takes them
module _ (bs : List Blend) (i : ℕ) where
  pub rest_turns : i < length bs → drop i bs ≡ get_or bs i none ∷ drop (i + 1) bs
  rest_turns lt = rw add-one (drop-cons bs i none lt)

  pub rest_ends : length bs ≤ i → drop i bs ≡ []
  rest_ends le = drop_of_length-le bs le

-- An array of numbers, one for each of some things, filled from the front: the numbers of the first i, then zeros.
abbrev pub filled {ℓ} : {A : Type ℓ} → (A → ℕ) → List A → ℕ → List ℕ
filled f xs i = map f (take i xs) ++ replicate (1024 - i) 0

module _ {ℓ} {A : Type ℓ} (f : A → ℕ) (xs : List A) (i : ℕ) where
  pub fill_more : (d : A) → i < length xs → length xs ≤ 1024 → (v : ℕ) → v ≡ f (get_or xs i d) → set (filled f xs i) i v ≡ filled f xs (i + 1)
  fill_more d lt le v e =
      let next : 1024 - i ≡ suc (1024 - (i + 1)) = omega arith in
      let long : length (map f (take i xs)) ≡ i = length-map (take i xs) f ∙ length-take-le i xs (omega arith) in
      rw (next, add-one, take-suc xs i d lt, map-append f (take i xs) (get_or xs i d ∷ []), append_assoc, ← e)
      (set_at (map f (take i xs)) 0 (replicate (1024 - suc i) 0) v i long)

  -- where the next number is 0, it stands there already
  pub fill_zero : (d : A) → i < length xs → length xs ≤ 1024 → f (get_or xs i d) ≡ 0 → filled f xs i ≡ filled f xs (i + 1)
  fill_zero d lt le e =
      let next : 1024 - i ≡ suc (1024 - (i + 1)) = omega arith in
      rw (next, add-one, take-suc xs i d lt, map-append f (take i xs) (get_or xs i d ∷ []), append_assoc, e)

  pub fill_all : i ≡ length xs → filled f xs i ≡ map f xs ++ replicate (1024 - length xs) 0
  fill_all e = rw (e, take-length xs)
