-- `mesh::carried::Drawing::load_fresh` meets its contract: the sides are drawn, and the first four blends are the live ones.
use Rattle.std.proofs.Common.{◌≡◌, ap, ◌∙◌, [], length, arith}
use Rattle.mesh.specs.Lines.{mesh}
use Rattle.mesh.specs.Blends.{live, first_four}
use Rattle.mesh.specs.Bytes.{keep_all}
use Rattle.mesh.proofs.Ranges.{side_says}
use Rattle.mesh.proofs.Fresh.{fresh_live, first_proper}
use Rattle.mesh.proofs.Cuts.{proper_facts}
use Rattle.mesh.proofs.BlendTables.{proper_largest}
use Rattle.mesh.proofs.Accepted.{fresh_replays, replays_sound}
use Rattle.mesh.proofs.Holding.{held_table, keep_all_length}
use Rattle.mesh.proofs.carried.Drawing.load_fresh.Goals as goal

pub keep-requires : goal.keep-requires
keep-requires g c =
    let t = c.args.self.now in
    let x = side_says t.w c.requires.1 in
    let y = side_says t.h c.requires.2 in
    let sides = c.draw_sides.ensures.kept in
    let four : c.first_four.result ≡ first_four t.w t.h = c.first_four.ensures ∙ rw (sides.is_w, sides.is_h) in
    let tall = c.requires.0.cleared.tall in (
      λ B m. proper_largest t.w t.h B x.1 y.1 (first_proper t.w t.h x.0 y.0 B (rw four at m)),
      λ B m.
          let p = (proper_facts t.w t.h B (first_proper t.w t.h x.0 y.0 B (rw four at m))).across in
          rw sides.is_places (omega arith),
    )

pub returns : goal.returns
returns g c =
    let t = c.args.self.now in
    let clear = c.requires.0.cleared in
    let x = side_says t.w c.requires.1 in
    let y = side_says t.h c.requires.2 in
    let sides = c.draw_sides.ensures in
    let taken = fresh_replays t.w t.h c.requires.1 c.requires.2 in
    let four : c.first_four.result ≡ first_four t.w t.h = c.first_four.ensures ∙ rw (sides.kept.is_w, sides.kept.is_h) in
    let same = ◌∙◌ {c = keep_all t.places (live t.w t.h (mesh t.w t.h []))} c.keep.ensures (rw (sides.kept.is_places, four, fresh_live t.w t.h x.0 y.0 y.1)) in
    record {
      is_w = sides.kept.is_w;
      is_h = sides.kept.is_h;
      many = sides.is_count ∙ c.requires.0.no_split;
      carried = record {
        taken = taken;
        tall = (
          rw sides.kept.long.0 clear.undrawn.tall.0,
          rw sides.kept.long.1 clear.undrawn.tall.1,
          rw (ap length same ∙ keep_all_length t.places (live t.w t.h (mesh t.w t.h []))) clear.tall,
        );
        lines = sides.lines;
        held = rw same (held_table t.w t.h x.0 x.1 y.0 y.1 (mesh t.w t.h []) (replays_sound taken) t.places clear.tall.0 clear.no_place);
      };
    }
