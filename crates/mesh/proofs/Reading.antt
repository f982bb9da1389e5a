-- Walking the places in table order by links, and the blends that are read on the way.
use Prim.Native.Nat.{ℕ, suc, ◌+◌, ◌-◌, ◌≤◌, ◌<◌}
use native.Mathlib.Omega.{arith}
use mathlib.Core.Path.{◌≡◌, refl, sym, ap, ◌∙◌}
use mathlib.Core.List.{List, [], ◌∷◌, ◌++◌, append_assoc, append-nil}
use borrow.Author.Tests.{eq-eqb, ne_eqb, le-leb, lt-leb}
use lib.ListN.{length, get_or, set, replicate, length-append}
use lib.Seq.{set_at}
use Rattle.axis.specs.Range.{each}
use Rattle.mesh.specs.Sound.{none, table}
use Rattle.mesh.specs.Blends.{at}
use Rattle.mesh.specs.Bytes.{kept, unpacked, walk}
use Rattle.mesh.specs.Carried.{Walks, columns_left, places_left, kept_from}
use Rattle.mesh.specs.declared.Blend.{Blend}
use Rattle.axis.proofs.Tests.{each_none, each_run, each_nothing, each_past, cond_true, cond_false}
use Rattle.axis.proofs.Runs.{if_at_most}

-- Walking the places by links: what is left.
module _ (w h : ℕ) (places : List ℕ) where
  pub walk_columns : walk w h places ≡ columns_left w h places 1
  unfolding walk
  walk_columns =
      let a : w + 2 - 1 ≡ w + 1 = omega arith in
      let b : h + 2 - 1 ≡ h + 1 = omega arith in
      rw (a, b)

  pub column_begins : (m : ℕ) → m ≤ w + 1 → columns_left w h places m ≡ places_left w h places m 1
  column_begins m le = each_run m (w + 2) (λ i. each 1 (h + 2 - 1) (kept places i)) (omega arith)

  pub columns_end : (m : ℕ) → w + 1 < m → columns_left w h places m ≡ []
  columns_end m lt = each_none m (w + 2 - m) (λ i. each 1 (h + 2 - 1) (kept places i)) (omega arith)

  kept_here : (m n : ℕ) → m ≤ w + 1 → kept_from w h places m n ≡ places_left w h places m n
  unfolding kept_from
  kept_here m n le = cond_true _ _ _ (le-leb m (w + 1) le)

  pub kept_none : (m n : ℕ) → w + 1 < m → kept_from w h places m n ≡ []
  unfolding kept_from
  kept_none m n lt = cond_false _ _ _ (lt-leb m (w + 1) lt)

  kept_begins : (m : ℕ) → kept_from w h places m 1 ≡ columns_left w h places m
  kept_begins m =
      if_at_most m (w + 1) (λ le. kept_here m 1 le ∙ sym (column_begins m le)) (λ gt. kept_none m 1 gt ∙ sym (columns_end m gt))

  -- by links, past columns and rows in which nothing is kept
  module _ {columns rows : List ℕ} (walks : Walks w h columns rows places) where
    pub column_leads : (m : ℕ) → m ≤ w + 1 → m < get_or columns m 0
    column_leads m le = let x = walks.wide in walks.over_columns.on m (omega arith)

    pub row_leads : (n : ℕ) → n ≤ h + 1 → n < get_or rows n 0
    row_leads n le = let x = walks.high in walks.over_rows.on n (omega arith)

    pub column_ends : (m n : ℕ) → m ≤ w + 1 → h + 1 < n → places_left w h places m n ≡ columns_left w h places (get_or columns m 0)
    column_ends m n le lt =
        let x = walks.wide in
        let y = walks.high in
        let on = column_leads m le in
        rw (each_none n (h + 2 - n) (kept places m) (omega arith))
        (each_past (m + 1) (get_or columns m 0) (w + 2) (λ i. each 1 (h + 2 - 1) (kept places i)) (omega arith)
        (λ i lo hi in_side. each_nothing 1 (h + 2 - 1) (kept places i) (λ j a b. walks.over_columns.past m i (omega arith) (omega arith) (omega arith) hi j
        (omega arith))))

    place_turn : (m n : ℕ) → m ≤ w + 1 → n ≤ h + 1 → places_left w h places m n ≡ kept places m n ++ places_left w h places m (get_or rows n 0)
    place_turn m n lm ln =
        let x = walks.wide in
        let y = walks.high in
        let on = row_leads n ln in
        rw (
          each_run n (h + 2) (kept places m) (omega arith),
          each_past (n + 1) (get_or rows n 0) (h + 2) (kept places m) (omega arith)
              (λ j lo hi in_side. walks.over_rows.past n j (omega arith) (omega arith) (omega arith) hi m (omega arith)),
        )
        (append_assoc (kept places m n) _ _)

    pub place_empty : (m n : ℕ) → m ≤ w + 1 → n ≤ h + 1 → get_or places (at m n) 0 ≡ 0 → places_left w h places m n ≡ places_left w h places m (get_or rows n 0)
    place_empty m n lm ln e = place_turn m n lm ln ∙ rw (eq-eqb _ _ e)

    pub place_holds : (m n : ℕ) → m ≤ w + 1 → n ≤ h + 1 → (get_or places (at m n) 0 ≡ 0 → ⊥) →
        places_left w h places m n ≡ unpacked m n (get_or places (at m n) 0) ∷ places_left w h places m (get_or rows n 0)
    place_holds m n lm ln ne = place_turn m n lm ln ∙ rw (ne_eqb _ _ ne)

    pub kept_starts : kept_from w h places 1 1 ≡ walk w h places
    kept_starts = kept_begins 1 ∙ sym walk_columns

    -- the next column; and the next place of a column, past one that is empty or one that holds a blend
    pub kept_column : (m n : ℕ) → m ≤ w + 1 → h + 1 < n → kept_from w h places m n ≡ kept_from w h places (get_or columns m 0) 1
    kept_column m n le lt = kept_here m n le ∙ column_ends m n le lt ∙ sym (kept_begins (get_or columns m 0))

    pub kept_empty : (m n : ℕ) → m ≤ w + 1 → n ≤ h + 1 → get_or places (at m n) 0 ≡ 0 → kept_from w h places m n ≡ kept_from w h places m (get_or rows n 0)
    kept_empty m n lm ln e = kept_here m n lm ∙ place_empty m n lm ln e ∙ sym (kept_here m (get_or rows n 0) lm)

    pub kept_holds : (m n : ℕ) → m ≤ w + 1 → n ≤ h + 1 → (get_or places (at m n) 0 ≡ 0 → ⊥) →
        kept_from w h places m n ≡ unpacked m n (get_or places (at m n) 0) ∷ kept_from w h places m (get_or rows n 0)
    kept_holds m n lm ln ne =
        kept_here m n lm ∙ place_holds m n lm ln ne ∙
        ap (λ (bs : List Blend). unpacked m n (get_or places (at m n) 0) ∷ bs) (sym (kept_here m (get_or rows n 0) lm))

-- The blends read so far stand in front of an array, and with those that are left they are the whole list.
pub record Reading (whole left : List Blend) (count : ℕ) (blends : List Blend) : Type 0 where
  pub done : List Blend
  pub long : length done ≡ count
  pub fits : count ≤ 1024
  pub stored : blends ≡ done ++ replicate (1024 - count) none
  pub split : done ++ left ≡ whole

pub read_none : (whole : List Blend) → Reading whole whole 0 (replicate 1024 none)
read_none whole = record { done = []; long = refl; fits = omega arith; stored = refl; split = refl }

pub read_more : {whole left blends : List Blend} {count : ℕ} {B : Blend} → count < 1024 → Reading whole (B ∷ left) count blends → Reading whole left
    (count + 1) (set blends count B)
read_more {whole} {left} {blends} {count} {B} h r = let next : 1024 - count ≡ suc (1024 - (count + 1)) = omega arith in record {
  done = r.done ++ B ∷ [];
  long = length-append r.done (B ∷ []) ∙ ap (λ (n : ℕ). n + 1) r.long;
  fits = omega arith;
  stored =
      ap (λ (xs : List Blend). set xs count B) (r.stored ∙ ap (λ (n : ℕ). r.done ++ replicate n none) next) ∙
      set_at r.done none (replicate (1024 - (count + 1)) none) B count r.long ∙
      sym (append_assoc r.done (B ∷ []) (replicate (1024 - (count + 1)) none));
  split = append_assoc r.done (B ∷ []) left ∙ r.split;
}

-- all read
pub read_all : {whole blends : List Blend} {count : ℕ} → Reading whole [] count blends → record { count = count; blends = blends } ≡ table whole
unfolding table
read_all {whole} {blends} {count} r =
    let e : whole ≡ r.done = sym r.split ∙ append-nil r.done in
    let n : length whole ≡ count = ap length e ∙ r.long in
    let b : whole ++ replicate (1024 - length whole) none ≡ blends = rw (n, e) (sym r.stored) in
    sym (λ i. record { count = n i; blends = b i })

-- there is room for one more, where there is for all
pub read_room : {whole left blends : List Blend} {count : ℕ} {B : Blend} → length whole ≤ 1024 → Reading whole (B ∷ left) count blends → count < 1024
read_room {whole} {left} {blends} {count} {B} few r =
    let n : length whole ≡ length r.done + length (B ∷ left) = sym (ap length r.split) ∙ length-append r.done (B ∷ left) in
    let l = r.long in omega arith
