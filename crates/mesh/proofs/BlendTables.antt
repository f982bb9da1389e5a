-- Tables: their arrays are as long as their types say; their blends, one by one as a loop takes them; and that they are proper.
use Prim.Native.Nat.{ℕ, ◌+◌, ◌-◌, ◌≤◌, ◌<◌}
use mathlib.Core.Path.{◌≡◌, refl, ap, ◌∙◌}
use mathlib.Core.Bool.{true}
use native.Mathlib.Omega.{arith}
use mathlib.Core.List.{List, [], ◌∷◌, ◌++◌, Memᴰ}
use lib.ListN.{length, set, get_or, drop, replicate}
use lib.Seq.{take-append_seam}
use Rattle.std.proofs.lemmas.List.{drop-replicate}
use mir.Val.{Val}
use denote.Shadow.{shadow}
use denote.Struct.Declared.{row}
use Rattle.axis.specs.Limits.{largest_side, most_splits, most_blends}
use Rattle.axis.specs.Range.{all}
use Rattle.mesh.specs.Sound.{proper, Proper, none, table, blends_of}
use Rattle.mesh.specs.declared.Blend.{Blend}
use Rattle.mesh.specs.declared.Table.{Table}
use Rattle.mesh.specs.declared.Lines.{Lines}
use Rattle.axis.proofs.Tests.{all_at, all_of}
use Rattle.axis.proofs.Entries.{none_left, left_turn, left_mem}
use Rattle.mesh.specs.contracts.Table as tables
use Rattle.mesh.specs.contracts.Lines as lines
use Rattle.mesh.proofs.Cuts.{proper_facts, proper_wider, proper_of}

pub table_full : (t : Table) {vs : List Val} → shadow ((row tables.the_type).own_val t vs) → length t.blends ≡ most_blends
table_full t p = p.1.1.1.0.1.0.1

pub lines_full : (L : Lines) {vs : List Val} → shadow ((row lines.the_type).own_val L vs) → length L.splits ≡ most_splits
lines_full L p = p.1.1.1.1.1.0.1.0.1

-- a table's own blends and their number
pub table_blends : (bs : List Blend) → blends_of (table bs) ≡ bs
unfolding table
table_blends bs = take-append_seam bs (replicate (1024 - length bs) none)

pub table_count : (bs : List Blend) → (table bs).count ≡ length bs
unfolding table
table_count bs = refl

-- a blend that is proper for sides of at most 128 is so for sides of 128
pub proper_largest : (w h : ℕ) (B : Blend) → w ≤ 128 → h ≤ 128 → proper w h B ≡ true → Proper B
proper_largest w h B hw hh e = proper_wider hw hh (proper_facts w h B e)

pub proper_most : (w h : ℕ) (bs : List Blend) → w ≤ 128 → h ≤ 128 → all (proper w h) bs ≡ true → all (proper 128 128) bs ≡ true
proper_most w h bs hw hh e =
    all_of (proper 128 128) bs (λ B m. proper_of 128 128 B (proper_largest w h B hw hh (all_at (proper w h) bs e B m)))

-- the blends of a table from the i-th on, as a loop takes them
module _ (t : Table) (i : ℕ) where
  pub blends_turn : i < t.count → t.count ≤ length t.blends →
      drop i (blends_of t) ≡ get_or t.blends i none ∷ drop (i + 1) (blends_of t)
  blends_turn lt le = left_turn t.blends t.count i le none lt

  pub blends_end : t.count ≤ i → drop i (blends_of t) ≡ []
  blends_end = none_left t.blends t.count i

  -- the next one with those behind it, that it is one of them, and that it is proper, as all of them are
  pub record Next : Type 0 where
    pub turn : drop i (blends_of t) ≡ get_or t.blends i none ∷ drop (i + 1) (blends_of t)
    pub there : Memᴰ (get_or t.blends i none) (blends_of t)
    pub proper : Proper (get_or t.blends i none)

  pub next_blend : length t.blends ≡ most_blends → t.count ≤ most_blends → all (proper largest_side largest_side) (blends_of t) ≡ true →
      i < t.count → Next
  next_blend full few e lt =
      let le : t.count ≤ length t.blends = omega arith in
      let there = left_mem t.blends t.count i le none lt in
      record {
        turn = blends_turn lt le;
        there = there;
        proper = proper_facts _ _ _ (all_at (proper largest_side largest_side) (blends_of t) e _ there);
      }

-- blends at the front of unused places
pub listed : (bs front : List Blend) → front ≡ bs →
    ◌≡◌ {A = Table} (record { count = length bs; blends = front ++ drop (length bs) (replicate most_blends none) }) (table bs)
unfolding table
listed bs front e =
    ap (λ (l : List Blend). record { count = length bs; blends = l ++ drop (length bs) (replicate most_blends none) }) e ∙
    ap (λ (l : List Blend). record { count = length bs; blends = bs ++ l }) (drop-replicate (length bs) most_blends none)

-- four blends at the front of an empty table
pub four_set : (bs : List Blend) (A B C D : Blend) → bs ≡ (table []).blends →
    ◌≡◌ {A = Table} (record { count = 4; blends = set (set (set (set bs 0 A) 1 B) 2 C) 3 D }) (table (A ∷ B ∷ C ∷ D ∷ []))
unfolding table
four_set bs A B C D e = ap (λ (l : List Blend). record { count = 4; blends = set (set (set (set l 0 A) 1 B) 2 C) 3 D }) e
