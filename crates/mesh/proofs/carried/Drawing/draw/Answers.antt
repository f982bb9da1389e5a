-- `mesh::carried::Drawing::draw` meets its contract: the line is added, and what it cuts is cut.
use Rattle.std.proofs.Common.{◌≡◌, ℕ, ◌+◌, ◌<◌, true, ◌∷◌, [], length, length-append, arith, rules, ap, ◌∙◌, sym}
use Rattle.mesh.specs.Lines.{in_range, Layout}
use Rattle.mesh.specs.Splits.{exact_number}
use Rattle.mesh.specs.declared.Split.{Split}
use Rattle.mesh.proofs.Passing.{exact_says}
use Rattle.mesh.proofs.Stepping.{cut_proper, cut_rows, carried_on}
use Rattle.mesh.proofs.Carrying.{by_small, by_rows, by_run, by_tall, by_sides, by_along}
use Rattle.mesh.proofs.carried.Drawing.draw.Goals as goal

-- an accepted split is in range, and there is room for it
fits : (P : Layout) (s : Split) → exact_number P s ≡ 0 → in_range P.w P.h s ≡ true
fits P s e = (exact_says P s e).0.fits

room : (P : Layout) (s : Split) → exact_number P s ≡ 0 → length P.splits < 60
room P s e = (exact_says P s e).0.room

pub runs_from-from-requires : goal.runs_from-from-requires
runs_from-from-requires g c =
    let now = c.requires.1 in
    let fit = fits c.requires.0 c.args.s c.requires.3 in
    let r = by_small now c.args.s fit in
    let rows = by_rows now c.args.s fit in
    (search rules, (rows.0, omega arith))

pub runs_to-to-requires : goal.runs_to-to-requires
runs_to-to-requires g c =
    let now = c.requires.1 in
    let fit = fits c.requires.0 c.args.s c.requires.3 in
    let rows = by_rows now c.args.s fit in
    let along = by_run now c.args.s fit in
    (search rules, (rows.0, along.0, along.1))

pub add_line-requires : goal.add_line-requires
add_line-requires g c =
    let now = c.requires.1 in
    let a = by_sides now in
    let lt = room c.requires.0 c.args.s c.requires.3 in
    let many = now.many in
    (search rules, (by_tall now, a.0, a.1, omega arith, rw (now.is_w, now.is_h) (fits c.requires.0 c.args.s c.requires.3)))

pub cut_reached-requires : goal.cut_reached-requires
cut_reached-requires g c =
    let now = c.requires.1 in
    let n = c.requires.2 in
    let s = c.args.s in
    let fit = fits c.requires.0 s c.requires.3 in
    let along = by_along now s fit in
    let from = c.runs_from-from.ensures in
    let to = c.runs_to-to.ensures in
    let line = c.add_line in
    let kept = line.ensures.kept in
    rw c.way.ensures (
      to.1,
      cut_proper now.carried s n fit along from to.0,
      rw kept.is_places (cut_rows now.carried s n fit along from to.0 line.new.self.uprights line.new.self.levels kept.long.0 kept.long.1),
    )

pub returns : goal.returns
returns g c P now n e =
    let s = c.args.s in
    let fit = fits P s e in
    let added = c.add_line.ensures in
    let kept = added.kept in
    record {
      is_w = kept.is_w ∙ now.is_w;
      is_h = kept.is_h ∙ now.is_h;
      many = added.is_count ∙ ap (λ (k : ℕ). k + 1) now.many ∙ sym (length-append P.splits (s ∷ []));
      carried = carried_on now.carried s n fit (by_along now s fit) c.runs_from-from.ensures c.runs_to-to.ensures.0 e kept.long.0 kept.long.1
          (rw (now.is_w, now.is_h) at added.drawn) (rw (now.is_w, now.is_h) at added.linked) (rw (kept.is_places, c.way.ensures) at c.cut_reached.ensures);
    }
