-- One exact split on what is carried: what is noted for it tells 7, and drawing it and cutting with it carries the map with it.
use Prim.Native.Nat.{ℕ, ◌+◌, ◌-◌, ◌≤◌}
use native.Mathlib.Omega.{arith}
use mathlib.Core.Path.{◌≡◌, sym, ap, ◌∙◌}
use mathlib.Core.Logic.{◌⊎◌, inl, inr, ⊎_elim}
use mathlib.Core.Bool.{true, ◌&&◌, ◌||◌}
use mathlib.Core.List.{List, [], ◌∷◌, ◌++◌, Memᴰ}
use borrow.Author.Tests.{leb-true}
use lib.Dec.{leb}
use lib.ListN.{length, get_or}
use Rattle.axis.specs.Range.{any, some}
use Rattle.axis.specs.Triple.{inside}
use Rattle.axis.specs.declared.Side.TheVariants.{Lower as lower, Upper as upper}
use Rattle.mesh.specs.Lines.{direction, other, side, Mesh, start, end, draws, in_range, mesh, layout}
use Rattle.mesh.specs.declared.Direction.{Direction}
use Rattle.mesh.specs.declared.Direction.TheVariants.{Upright as upright, Level as level}
use Rattle.mesh.specs.Blends.{along, crossed, is_cut, live, leaves_of}
use Rattle.mesh.specs.Order.{Uncut}
use Rattle.mesh.specs.Sound.{sound, AllProper}
use Rattle.mesh.specs.Splits.{exact_number}
use Rattle.mesh.specs.Bytes.{Rows, bytes_mesh, keep_all, walk}
use Rattle.mesh.specs.Carried.{Leads, Bare, Carried, Walks, RowsOf, Noted, note_all, blank, reached, all_reached, runs_from, runs_to}
use Rattle.mesh.specs.declared.Split.{Split}
use Rattle.mesh.specs.declared.Blend.{Blend}
use Rattle.axis.proofs.Tests.{either, and_both}
use Rattle.mesh.proofs.Cuts.{proper_facts}
use Rattle.mesh.proofs.Ranges.{Small, in_range_small, in_range_rows, side_most}
use Rattle.mesh.proofs.Passing.{ends_in}
use Rattle.mesh.proofs.BlendTables.{proper_largest}
use Rattle.mesh.proofs.SoundMaps.{live_proper}
use Rattle.mesh.proofs.OneLineMore.{more_finer, in_bytes_more}
use Rattle.mesh.proofs.Accepted.{replays_sides, replays_sound, replays_short, replays_more}
use Rattle.mesh.proofs.Holding.{held_next, held_walk, held_walks, keep_all_length}
use Rattle.mesh.proofs.Noting.{notes_long, reached_mem, some_reached}
use Rattle.mesh.proofs.Reaching.{reach_uncut, reach_some}

module _ {w h : ℕ} {ss : List Split} {ups lvs cols rows places : List ℕ} (now : Carried w h ss ups lvs cols rows places) where
  abbrev lives : List Blend
  lives = live w h (mesh w h ss)

  pub carried_sides : (1 ≤ w) × (w ≤ 128) × (1 ≤ h) × (h ≤ 128)
  carried_sides = replays_sides now.taken

  is_sound : sound w h lives ≡ true
  is_sound = replays_sound now.taken

  pub carried_walks : Walks w h cols rows places
  carried_walks =
      let a = carried_sides in
      held_walks w h a.0 a.1 a.2 a.3 ss cols rows places now.tall.2.0 now.held now.lines.over_columns now.lines.over_rows

  -- a split in range, and the side that it runs along
  module _ (s : Split) (fits : in_range w h s ≡ true) where
    pub carried_small : Small s
    carried_small = let a = carried_sides in in_range_small w h s fits a.1 a.3

    pub carried_run : {run : ℕ} → run ≡ side (other (direction s.direction)) w h → (s.to ≤ run) × (run ≤ 128)
    carried_run e =
        let a = carried_sides in
        rw e ((ends_in (layout w h ss) s fits).1, side_most (other (direction s.direction)) a.1 a.3)

  -- the rows of a split's position and ends
  pub carried_rows : (s : Split) → in_range w h s ≡ true → Rows (s.position + 2) ups × Rows (s.position + 2) lvs × Rows (s.to + 2) ups × Rows (s.to + 2) lvs
  carried_rows s fits =
      let u = in_range_rows w h s ups fits now.tall.0 in
      let l = in_range_rows w h s lvs fits now.tall.1 in
      (u.0, l.0, u.1, l.1)

  pub carried_walk : walk w h places ≡ lives
  carried_walk = let a = carried_sides in held_walk w h a.0 a.1 a.2 a.3 (mesh w h ss) is_sound places now.held

  pub carried_short : length (walk w h places) ≤ 1024
  carried_short = rw carried_walk (replays_short now.taken)

  -- What is noted in a walk over the places is noted of the live blends.
  module _ (s : Split) where
    abbrev d : Direction
    d = direction s.direction

    abbrev z : ℕ
    z = s.position + 1

    pub noted_there : {lows₀ highs₀ lows highs : List ℕ} → lows₀ ≡ blank → highs₀ ≡ blank →
        lows ≡ note_all upper d z lows₀ (walk w h places) → highs ≡ note_all lower d z highs₀ (walk w h places) → Noted w h ss s lows highs
    noted_there a b p q = record { is_low = p ∙ rw (a, carried_walk); is_high = q ∙ rw (b, carried_walk) }

    module _ {lows highs : List ℕ} (n : Noted w h ss s lows highs) where
      pub lows_long : length lows ≡ 131
      lows_long = let a = carried_sides in rw n.is_low (notes_long w h a.0 a.1 a.2 a.3 (mesh w h ss) is_sound d z upper)

      pub highs_long : length highs ≡ 131
      highs_long = let a = carried_sides in rw n.is_high (notes_long w h a.0 a.1 a.2 a.3 (mesh w h ss) is_sound d z lower)

      -- The knots from which and to which the split's line runs, by the bytes:
      module _ (fits : in_range w h s ≡ true) {run from to : ℕ} (along_side : run ≡ side (other d) w h)
          (first : from ≡ runs_from (bytes_mesh ups lvs d z) (start s)) (last : to ≡ runs_to (bytes_mesh ups lvs d z) (end run s) (131 - end run s)) where
        is_from : from ≡ runs_from (mesh w h ss d z) (start s)
        is_from = first ∙ rw now.lines.drawn

        is_to : to ≡ runs_to (mesh w h ss d z) (end (side (other d) w h) s) (131 - end (side (other d) w h) s)
        is_to = last ∙ rw (now.lines.drawn, along_side)

        -- whether the line cuts some live blend
        pub cuts_some : some from (to - from) (λ k. reached d from to (get_or lows k 0) || reached d from to (get_or highs k 0)) ≡
            any (is_cut (mesh w h (ss ++ s ∷ []))) lives
        cuts_some =
            let a = carried_sides in
            rw (n.is_low, n.is_high) (some_reached w h a.0 a.1 a.2 a.3 (mesh w h ss) is_sound d z from to ∙
            rw (is_from, is_to) (sym (reach_some w h a.0 a.1 a.2 a.3 ss s fits)))

        abbrev cut : List Blend
        cut = all_reached d from to lows highs

        cut_live : (B : Blend) → Memᴰ B cut →
            Memᴰ B lives × (inside z (crossed d B) ≡ true) × (from ≤ (along d B).l) × ((along d B).r ≤ to)
        cut_live B m =
            let a = carried_sides in
            (reached_mem w h a.0 a.1 a.2 a.3 (mesh w h ss) is_sound d z from to B).0
            (rw (n.is_low, n.is_high) at m)

        pub cut_proper : AllProper cut
        cut_proper B m =
            let a = carried_sides in
            proper_largest w h B a.1 a.3 (live_proper w h a.0 a.2 (mesh w h ss) B (cut_live B m).0)

        -- they are there also once the line is drawn
        pub cut_rows : (ups' lvs' : List ℕ) → length ups' ≡ length ups → length lvs' ≡ length lvs → (B : Blend) → Memᴰ B cut → RowsOf ups' lvs' places B
        cut_rows ups' lvs' eu el B m =
            let a = carried_sides in
            let p = proper_facts w h B (live_proper w h a.0 a.2 (mesh w h ss) B (cut_live B m).0) in
            let x = p.across.most in
            let y = p.up.most in
            let t = now.tall in
            (omega arith, omega arith, omega arith)

        cut_or_uncut : (B : Blend) → Memᴰ B lives → Memᴰ B cut ⊎ Uncut (mesh w h (ss ++ s ∷ [])) B
        cut_or_uncut B m =
            let a = carried_sides in
            ⊎_elim
            (λ e.
            let p = and_both (inside z (crossed d B) && leb from (along d B).l) (leb (along d B).r to) e in
            let q = and_both (inside z (crossed d B)) (leb from (along d B).l) p.0 in
            inl (rw (n.is_low, n.is_high) ((reached_mem w h a.0 a.1 a.2 a.3 (mesh w h ss) is_sound d z from to B).1
            (m, q.0, leb-true _ _ q.1, leb-true _ _ p.1))))
            (λ e. inr (reach_uncut w h a.0 a.1 a.2 a.3 ss s fits B m (rw (is_from, is_to) at e)))
            (either (inside z (crossed d B) && leb from (along d B).l && leb (along d B).r to))

        -- An accepted split, drawn and cut with:
        pub carried_on : exact_number (layout w h ss) s ≡ 0 → {ups' lvs' cols' rows' places' : List ℕ} →
            length ups' ≡ length ups → length lvs' ≡ length lvs →
            ((e : Direction) (y k : ℕ) → bytes_mesh ups' lvs' e y k ≡ (bytes_mesh ups lvs e y k || draws w h e y k s)) →
            ((M N : Mesh) → ((e : Direction) (y k : ℕ) → N e y k ≡ (M e y k || draws w h e y k s)) → Leads (Bare M upright) cols → Leads (Bare M level) rows →
            Leads (Bare N upright) cols' × Leads (Bare N level) rows') →
            places' ≡ keep_all places (leaves_of (bytes_mesh ups' lvs') cut) →
            Carried w h (ss ++ s ∷ []) ups' lvs' cols' rows' places'
        carried_on ok {ups'} {lvs'} {cols'} {rows'} {places'} eu el drawn linked kept =
            let a = carried_sides in
            let N = mesh w h (ss ++ s ∷ []) in
            let taken = replays_more now.taken s ok in
            let lines = in_bytes_more w h ss s now.lines drawn linked in
            let same : places' ≡ keep_all places (leaves_of N cut) = kept ∙ rw lines.drawn in
            record {
              taken = taken;
              tall = (rw eu now.tall.0, rw el now.tall.1, rw (ap length same ∙ keep_all_length places (leaves_of N cut)) now.tall.2);
              lines = lines;
              held = rw same (held_next w h a.0 a.1 a.2 a.3 (mesh w h ss) N (more_finer (layout w h ss) s) is_sound (replays_sound taken)
                  places now.tall.2.0 now.held cut (λ B m. (cut_live B m).0) cut_or_uncut);
            }
