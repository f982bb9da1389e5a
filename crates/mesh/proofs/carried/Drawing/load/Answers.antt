-- `mesh::carried::Drawing::load` meets its contract.
use Rattle.std.proofs.Common.{ℕ, ◌+◌, ◌≤◌, ◌<◌, ◌≡◌, sym, ap, ◌∙◌, List, ◌∷◌, ◌++◌, [], length, get_or, take, arith, rules, add-one}
use mathlib.Core.Bool.{true}
use mathlib.Core.List.{Memᴰ}
use lib.Seq.{take-suc, take-length, length-take-le}
use Rattle.axis.proofs.Tests.{all_at}
use Rattle.axis.proofs.Members.{entry}
use Rattle.mesh.specs.Lines.{in_range, mesh, layout, splits_of, layout_of}
use Rattle.mesh.specs.Blends.{live}
use Rattle.mesh.specs.Sound.{proper, blends_of, AllProper}
use Rattle.mesh.specs.Bytes.{Rows, Tall, Zeros, keep_all}
use Rattle.mesh.specs.Replay.{Replays, HasTable}
use Rattle.mesh.specs.Carried.{InBytes, Carried}
use Rattle.mesh.specs.declared.Split.{Split}
use Rattle.mesh.specs.declared.Blend.{Blend}
use Rattle.mesh.specs.declared.Lines.{Lines}
use Rattle.mesh.specs.declared.Table.{Table}
use Rattle.mesh.proofs.Cuts.{proper_facts}
use Rattle.mesh.proofs.BlendTables.{table_blends, table_count, proper_largest}
use Rattle.mesh.proofs.Drawing.{blank}
use Rattle.mesh.proofs.Ranges.{side_says}
use Rattle.mesh.proofs.Accepted.{replays_says, lines_replay, replays_sides, replays_stands, replays_sound, replays_short}
use Rattle.mesh.proofs.SoundMaps.{live_proper}
use Rattle.mesh.proofs.Holding.{held_table, keep_all_length}
use Rattle.mesh.proofs.Carrying.{redrawn_both, line_more}
use Rattle.mesh.proofs.carried.Drawing.load.Goals as goal

-- What was replayed has its table in hand:
module _ (L : Lines) (t : Table) (hand : HasTable L t) where
  few : L.count ≤ 60
  few = (replays_says L hand.accepted?).2

  abbrev lives : List Blend
  lives = live L.w L.h (mesh L.w L.h (splits_of L))

  all_blends : blends_of t ≡ lives
  all_blends = ap blends_of hand.is_table ∙ table_blends lives

  module _ (full : length L.splits ≡ 60) where
    taken : Replays (layout_of L)
    taken = lines_replay L full hand.accepted?

    sides : (1 ≤ L.w) × (L.w ≤ 128) × (1 ≤ L.h) × (L.h ≤ 128)
    sides = replays_sides taken

    few_blends : t.count ≤ 1024
    few_blends = rw (hand.is_table, table_count lives) (replays_short taken)

    lives_proper : (B : Blend) → Memᴰ B lives → proper L.w L.h B ≡ true
    lives_proper = live_proper L.w L.h sides.0 sides.2 (mesh L.w L.h (splits_of L))

    are_proper : AllProper (blends_of t)
    are_proper B m = proper_largest L.w L.h B sides.1 sides.3 (lives_proper B (rw all_blends at m))

    -- each blend has its row
    are_there : (places : List ℕ) → Tall L.w L.h places → (B : Blend) → Memᴰ B (blends_of t) → Rows (B.across.m + 1) places
    are_there places tall B m =
        let x = (proper_facts L.w L.h B (lives_proper B (rw all_blends at m))).across in
        omega arith

    long : length (splits_of L) ≡ L.count
    long = length-take-le L.count L.splits (omega (arith, few))

    -- one split more
    module _ (i : ℕ) (lt : i < length (splits_of L)) where
      abbrev next : Split
      next = get_or (splits_of L) i blank

      more : take i (splits_of L) ++ next ∷ [] ≡ take (i + 1) (splits_of L)
      more = sym (rw add-one (take-suc (splits_of L) i blank lt))

      next_fits : in_range L.w L.h next ≡ true
      next_fits = all_at (in_range L.w L.h) (splits_of L) (replays_stands taken).ranges _ (entry (splits_of L) i blank lt)

    -- all lines are drawn and all blends kept
    loaded : {i : ℕ} {ups lvs cols rows places places' : List ℕ} → i ≡ length (splits_of L) → Tall L.w L.h ups × Tall L.w L.h lvs ×
        Tall L.w L.h places → InBytes (mesh L.w L.h (take i (splits_of L))) ups lvs cols rows → Zeros places → places' ≡ keep_all places (blends_of t) →
        Carried L.w L.h (splits_of L) ups lvs cols rows places'
    loaded {i} {ups} {lvs} {cols} {rows} {places} {places'} last tall lines none kept =
        let same : places' ≡ keep_all places lives = kept ∙ rw all_blends in
        record {
          taken = taken;
          tall = (tall.0, tall.1, rw (ap length same ∙ keep_all_length places lives) tall.2);
          lines = rw (last, take-length) at lines;
          held = rw same (held_table L.w L.h sides.0 sides.1 sides.2 sides.3 (mesh L.w L.h (splits_of L)) (replays_sound taken)
              places tall.2.0 none);
        }

pub draw_sides-requires : goal.draw_sides-requires
draw_sides-requires g c =
    let r = replays_says c.args.lines.now c.requires.0.accepted? in
    (search rules, (c.requires.1, rw c.requires.2 (side_says _ r.0).1, rw c.requires.3 (side_says _ r.1).1))

pub shared_ref_as_front-s-items : goal.shared_ref_as_front-s-items
shared_ref_as_front-s-items g c = omega (arith, few c.args.lines.now c.args.table.now c.requires.0)

pub loop-s-init : goal.loop-s-init
loop-s-init g c =
    let sides = c.draw_sides.ensures in
    record { kept = sides.kept; is_count = sides.is_count ∙ c.requires.1.no_split; lines = rw (← c.requires.2, ← c.requires.3) sides.lines }

pub add_line-requires : goal.add_line-requires
add_line-requires g c =
    let L = c.args.lines.now in
    let t = c.args.table.now in
    let hand = c.requires.0 in
    let full : length L.splits ≡ 60 = omega arith in
    let a = sides L t hand full in
    let kept = c.loop-s.invariant.kept in
    let tall = c.requires.1.cleared.undrawn.tall in (
      search rules,
      (
        rw (kept.is_w, kept.is_h, kept.long.0, kept.long.1) tall,
        rw (kept.is_w ∙ c.requires.2) a.1,
        rw (kept.is_h ∙ c.requires.3) a.3,
        omega (arith, c.loop-s.invariant.is_count, c.loop-s-test.true, few L t hand, long L t hand full),
        rw (kept.is_w ∙ c.requires.2, kept.is_h ∙ c.requires.3) (next_fits L t hand full c.loop-s.s-index c.loop-s-test.true),
      ),
    )

pub loop-s-preserved : goal.loop-s-preserved
loop-s-preserved g c =
    let L = c.args.lines.now in
    let l = c.loop-s in
    let full : length L.splits ≡ 60 = omega arith in
    let kept = l.invariant.kept in
    let added = c.add_line.ensures in
    record {
      kept = redrawn_both kept added.kept;
      is_count = added.is_count ∙ ap (λ (n : ℕ). n + 1) l.invariant.is_count;
      lines = rw (more L c.args.table.now c.requires.0 full l.s-index c.loop-s-test.true) at
          (line_more (layout L.w L.h (take l.s-index (splits_of L))) _ (kept.is_w ∙ c.requires.2) (kept.is_h ∙ c.requires.3) l.invariant.lines added);
    }

pub blends-requires : goal.blends-requires
blends-requires g c =
    let L = c.args.lines.now in
    let full : length L.splits ≡ 60 = omega arith in
    few_blends L c.args.table.now c.requires.0 full

pub keep-requires : goal.keep-requires
keep-requires g c =
    let L = c.args.lines.now in
    let t = c.args.table.now in
    let hand = c.requires.0 in
    let full : length L.splits ≡ 60 = omega arith in
    let tall = rw (c.requires.2, c.requires.3) at c.requires.1.cleared.tall in
    rw (c.blends.ensures, c.loop-s.invariant.kept.is_places) (are_proper L t hand full, are_there L t hand full c.args.self.now.places tall)

pub returns : goal.returns
returns g c =
    let L = c.args.lines.now in
    let t = c.args.table.now in
    let hand = c.requires.0 in
    let full : length L.splits ≡ 60 = omega arith in
    let l = c.loop-s in
    let kept = l.invariant.kept in
    let clear = c.requires.1.cleared in
    let lines = rw (c.requires.2, c.requires.3) at clear.undrawn.tall in
    let places = rw (c.requires.2, c.requires.3) at clear.tall in
    let last : l.s-index ≡ length (splits_of L) = omega arith in
    record {
      is_w = kept.is_w ∙ c.requires.2;
      is_h = kept.is_h ∙ c.requires.3;
      many = l.invariant.is_count ∙ last;
      carried = loaded L t hand full last (rw kept.long.0 lines.0, rw kept.long.1 lines.1, places) l.invariant.lines clear.no_place
          (c.keep.ensures ∙ rw (kept.is_places, c.blends.ensures));
    }
