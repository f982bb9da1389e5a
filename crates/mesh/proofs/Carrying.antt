-- Drawings: what one call leaves as the next one takes it, and what is known of one by which a map is carried.
use Prim.Native.Nat.{ℕ, ◌+◌, ◌≤◌}
use native.Mathlib.Omega.{arith}
use mathlib.Core.Path.{◌≡◌, ◌∙◌}
use mathlib.Core.Bool.{true}
use lib.ListN.{length}
use Rattle.mesh.specs.Lines.{Layout, mesh_of, in_range, direction, other, side}
use Rattle.mesh.specs.Splits.{with_line}
use Rattle.mesh.specs.Bytes.{walk}
use Rattle.mesh.specs.Carried.{Redrawn, LinesBy, LineAdded, CarriedBy, WalksBy, TallBy, RowAt, run_by}
use Rattle.mesh.specs.declared.Split.{Split}
use Rattle.mesh.specs.declared.carried.Drawing.{Drawing}
use Rattle.mesh.proofs.Ranges.{Small}
use Rattle.mesh.proofs.OneLineMore.{in_bytes_more}
use Rattle.mesh.proofs.Stepping.{carried_sides, carried_small, carried_run, carried_rows, carried_walks, carried_short}

pub redrawn_both : {n : ℕ} {t u v : Drawing n} → Redrawn t u → Redrawn u v → Redrawn t v
redrawn_both a b = record {
  is_w = b.is_w ∙ a.is_w;
  is_h = b.is_h ∙ a.is_h;
  is_places = b.is_places ∙ a.is_places;
  long = (b.long.0 ∙ a.long.0, b.long.1 ∙ a.long.1);
}

-- the lines of a layout, with one split more
pub line_more : {n : ℕ} (P : Layout) (s : Split) {t u : Drawing n} → t.w ≡ P.w → t.h ≡ P.h → LinesBy (mesh_of P) t → LineAdded s t u →
    LinesBy (mesh_of (with_line P s)) u
line_more P s is_w is_h was added = in_bytes_more P.w P.h P.splits s was (rw (is_w, is_h) at added.drawn) (rw (is_w, is_h) at added.linked)

module _ {n : ℕ} {P : Layout} {t : Drawing n} (now : CarriedBy P t) where
  pub by_sides : (t.w ≤ 128) × (t.h ≤ 128)
  by_sides = let a = carried_sides now.carried in rw (now.is_w, now.is_h) (a.1, a.3)

  pub by_tall : TallBy t
  by_tall = rw (now.is_w, now.is_h) (now.carried.tall.0, now.carried.tall.1)

  pub by_walks : WalksBy t
  by_walks = rw (now.is_w, now.is_h) (carried_walks now.carried)

  pub by_short : length (walk t.w t.h t.places) ≤ 1024
  by_short = rw (now.is_w, now.is_h) (carried_short now.carried)

  -- a split in range
  module _ (s : Split) (fits : in_range P.w P.h s ≡ true) where
    pub by_small : Small s
    by_small = carried_small now.carried s fits

    -- the rows of its position and of its end
    pub by_rows : RowAt (s.position + 1) t × RowAt (s.to + 1) t
    by_rows =
        let rows = carried_rows now.carried s fits in
        let small = by_small in
        ((omega arith, omega arith, omega arith), (omega arith, omega arith, omega arith))

    -- the side that it runs along
    pub by_along : run_by t (direction s.direction) ≡ side (other (direction s.direction)) P.w P.h
    by_along = rw (now.is_w, now.is_h)

    pub by_run : (s.to ≤ run_by t (direction s.direction)) × (run_by t (direction s.direction) ≤ 128)
    by_run = carried_run now.carried s fits by_along
