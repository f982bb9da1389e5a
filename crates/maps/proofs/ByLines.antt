-- Only lines decide a split: two good records with the same lines take the same line, or get the same number.
use Prim.Native.Nat.{ℕ}
use mathlib.Core.Path.{◌≡◌, refl, ap}
use mathlib.Core.Bool.{Bool, true, false, cond}
use mathlib.Core.List.{List, [], ◌∷◌}
use lib.Dec.{eqb}
use Rattle.mesh.specs.declared.Split.{Split}
use Rattle.mesh.specs.Lines.{Layout}
use Rattle.mesh.specs.Splits.{asked}
use Rattle.mesh.specs.Lengthening.{chosen}
use Rattle.maps.specs.declared.Map.{Map}
use Rattle.maps.specs.Outcomes.{Changed}
use Rattle.maps.specs.Values.{drawn}
use Rattle.maps.specs.Record.{record_of, plain, good}
use Rattle.maps.specs.Calls.{changed, drawn_first, split_within}
use Rattle.maps.specs.ByLines.{SameButValues}

module _ (m n : Map) (gm : good m ≡ true) (gn : good n ≡ true) (same : m.lines ≡ n.lines) where
  abbrev Alike : Changed → Changed → Type 0
  Alike one other = SameButValues m n one other

  -- one of two outcomes, by equal numbers
  by_number : {k l : ℕ} → k ≡ l → {x y u v : Changed} → Alike x u → Alike y v →
      Alike (cond (eqb k 0) x y) (cond (eqb l 0) u v)
  by_number {k} {l} e {x} {y} {u} {v} p q = rw e (by (eqb l 0))
    where
      by : (b : Bool) → Alike (cond b x y) (cond b u v)
      by true = p
      by false = q

  same_layout : (plain m).lines ≡ (plain n).lines
  unfolding plain
  same_layout = rw same

  same_kept : m.marks ≡ n.marks → (plain m).marks ≡ (plain n).marks
  unfolding plain
  same_kept e = rw (same, e)

  refused_alike : {k l : ℕ} → k ≡ l → Alike (changed k m) (changed l n)
  refused_alike e = record { same_number = e; same_lines = same; same_marks = λ e. e }

  drawn_alike : (s : Split) →
      Alike (changed 0 (record_of (drawn (plain m) s))) (changed 0 (record_of (drawn (plain n) s)))
  unfolding record_of drawn
  drawn_alike s = record {
    same_number = refl;
    same_lines = rw same_layout;
    same_marks =
        λ e. rw (same_layout, same_kept e);
  }

  first_alike : {cs ds : List Split} → cs ≡ ds → Alike (drawn_first m (plain m) cs) (drawn_first n (plain n) ds)
  first_alike {cs} {ds} e = rw e (by ds)
    where
      by : (ds : List Split) → Alike (drawn_first m (plain m) ds) (drawn_first n (plain n) ds)
      by [] = refused_alike refl
      by (c ∷ cs) = drawn_alike c

  pub by_lines : (s : Split) (a : ℕ) → SameButValues m n (split_within m s a) (split_within n s a)
  unfolding split_within
  by_lines s a =
      let first = ap (λ (P : Layout). asked P s a) same_layout in
      rw (gm, gn) (by_number first (first_alike (ap (λ (P : Layout). chosen P s a) same_layout)) (refused_alike first))
