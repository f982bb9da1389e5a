-- "A call gives only the numbers whose matter it has."
use Prim.Native.Nat.{ℕ, ◌+◌}
use mathlib.Core.Path.{◌≡◌, refl}
use mathlib.Core.Logic.{⊎_elim}
use mathlib.Core.Bool.{true, false, ◌&&◌, not}
use mathlib.Core.List.{List, [], ◌∷◌}
use lib.Dec.{leb, ltb, eqb}
use lib.ListN.{length}
use Rattle.axis.specs.Limits.{most_splits, most_allowance}
use Rattle.axis.specs.Range.{any, OneOf}
use Rattle.axis.proofs.Tests.{either, by_test, or_either, or_left, or_right}
use Rattle.mesh.specs.declared.Split.{Split}
use Rattle.mesh.specs.Lines.{Layout, mesh_of, allowed_side, in_range, shares, ended}
use Rattle.mesh.specs.Blends.{is_cut}
use Rattle.mesh.specs.Splits.{live_of, with_line, given, asked}
use Rattle.mesh.specs.Lengthening.{chosen}
use Rattle.maps.specs.declared.Map.{Map}
use Rattle.maps.specs.Outcomes.{Changed}
use Rattle.maps.specs.Outcomes.{Placed}
use Rattle.maps.specs.Outcomes.{Reading}
use Rattle.maps.specs.Outcomes.{Weights}
use Rattle.maps.specs.Outcomes.{Pairs}
use Rattle.maps.specs.Outcomes.{Same}
use Rattle.maps.specs.Plain.{Plain, blends}
use Rattle.maps.specs.Values.{in_domain, place_of}
use Rattle.maps.specs.Record.{plain, good}
use Rattle.maps.specs.Calls.{fresh_map, set_value, table_place, reading_on, reading, weights, drawn_first, split_within}
use Rattle.maps.specs.Pairs.{pairs, counted_pairs, pairs_along, row_pairs, column_pairs}
use Rattle.maps.specs.Sameness.{sameness}
use Rattle.maps.specs.Histories.{Call, set, split, place, reads, weighs, along_row, along_column, same_as, number_of, by_library}
use Rattle.maps.specs.Numbers.{refusals_of, OwnNumbers}

-- what a split is refused with, or 0
asked_among : (P : Layout) (s : Split) (a : ℕ) → OneOf (0 ∷ refusals_of (split s a)) (asked P s a)
unfolding asked given
asked_among P s a =
    let ok = OneOf (0 ∷ refusals_of (split s a)) in
    let number : ℕ → ℕ = λ n. n in
    by_test ok number (ltb most_allowance a) refl
    (by_test ok number (not (in_range P.w P.h s)) refl
    (by_test ok number (leb most_splits (length P.splits)) refl
    (by_test ok number (shares (mesh_of P) s) refl
    (by_test ok number (not (ended (mesh_of P) s)) refl
    (by_test ok number (not (any (is_cut (mesh_of (with_line P s))) (live_of P))) refl refl)))))

drawn_among : (old : Map) (P : Plain) (s : Split) (a : ℕ) (cs : List Split) →
    OneOf (0 ∷ refusals_of (split s a)) (drawn_first old P cs).number
drawn_among old P s a [] = refl
drawn_among old P s a (c ∷ cs) = refl

pairs_among : (side : ℕ) (readings : ℕ → Reading) (wanted : ℕ) →
    OneOf (0 ∷ 10 ∷ 13 ∷ []) (pairs_along side readings wanted).number
pairs_among side readings wanted =
    by_test (OneOf (0 ∷ 10 ∷ 13 ∷ [])) (λ (p : Pairs). p.number) (leb 1 wanted && leb wanted 65535)
    (counted (pairs side readings wanted)) refl
  where
    counted : (us : List ℕ) → OneOf (0 ∷ 10 ∷ 13 ∷ []) (counted_pairs us).number
    counted [] = refl
    counted (u ∷ us) = refl

-- each call on a good record
good_among : (m : Map) (c : Call) → good m ≡ true → OneOf (0 ∷ refusals_of c) (number_of (by_library m c).answer)
unfolding set_value split_within table_place reading weights row_pairs column_pairs sameness
good_among m (set i j v) g =
    let P = plain m in
    rw g (by_test (OneOf (0 ∷ 9 ∷ [])) (λ (r : Changed). r.number)
    (ltb (place_of (blends P) (i + 1) (j + 1)) (length (blends P))) refl refl)
good_among m (split s a) g =
    let P = plain m in
    rw g
    (by_test (OneOf (0 ∷ refusals_of (split s a))) (λ (r : Changed). r.number) (eqb (asked P.lines s a) 0)
    (drawn_among m P s a (chosen P.lines s a))
    (asked_among P.lines s a))
good_among m (place i) g =
    rw g (by_test (OneOf (0 ∷ 9 ∷ [])) (λ (r : Placed). r.number) (ltb i (length (blends (plain m)))) refl refl)
good_among m (reads u v) g =
    rw g (by_test (OneOf (0 ∷ 10 ∷ [])) (λ (r : Reading). r.number) (in_domain (plain m) u v) refl refl)
good_among m (weighs u v) g =
    rw g (by_test (OneOf (0 ∷ 10 ∷ [])) (λ (r : Weights). r.number) (in_domain (plain m) u v) refl refl)
good_among m (along_row v wanted) g =
    let P = plain m in
    rw g
    (by_test (OneOf (0 ∷ 10 ∷ 13 ∷ [])) (λ (r : Pairs). r.number) (leb v P.lines.h)
    (pairs_among P.lines.w (λ u. reading_on P u v) wanted) refl)
good_among m (along_column u wanted) g =
    let P = plain m in
    rw g
    (by_test (OneOf (0 ∷ 10 ∷ 13 ∷ [])) (λ (r : Pairs). r.number) (leb u P.lines.w)
    (pairs_among P.lines.h (λ v. reading_on P u v) wanted) refl)
good_among m (same_as other) g = by_test (OneOf (0 ∷ 2 ∷ [])) (λ (r : Same). r.number) (good m && good other) refl refl

-- and on one that is not
bad_says : (m : Map) (c : Call) → good m ≡ false → number_of (by_library m c).answer ≡ 2
unfolding set_value split_within table_place reading weights row_pairs column_pairs sameness
bad_says m (set i j v) b = rw b
bad_says m (split s a) b = rw b
bad_says m (place i) b = rw b
bad_says m (reads u v) b = rw b
bad_says m (weighs u v) b = rw b
bad_says m (along_row v wanted) b = rw b
bad_says m (along_column u wanted) b = rw b
bad_says m (same_as other) b = rw b

pub own_numbers : OwnNumbers
unfolding fresh_map
own_numbers =
    record {
      fresh = λ w h. by_test (OneOf (0 ∷ 1 ∷ [])) (λ (r : Changed). r.number)
          (allowed_side w && allowed_side h) refl refl;
      calls = λ m c. ⊎_elim (λ g. one_more (refusals_of c) (number_of (by_library m c).answer) (good_among m c g))
          (λ b. rw (bad_says m c b)) (either (good m));
      on_good = good_among;
    }
  where
    one_more : (rs : List ℕ) (n : ℕ) → OneOf (0 ∷ rs) n → OneOf (0 ∷ 2 ∷ rs) n
    one_more rs n is =
        ⊎_elim (or_left (eqb n 0) _) (λ r. or_right (eqb n 0) _ (or_right (eqb n 2) _ r))
        (or_either (eqb n 0) (any (eqb n) rs) is)
