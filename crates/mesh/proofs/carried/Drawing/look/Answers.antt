-- `mesh::carried::Drawing::look` meets its contract: the five tests, in order, each behind those before it.
use Rattle.std.proofs.Common.{ℕ, ◌≤◌, ◌<◌, ◌≡◌, refl, sym, ap, ◌∙◌, Bool, true, false, length, arith, rules}
use borrow.Author.Tests.{le-leb, lt-leb}
use mathlib.Core.Bool.{cond, not}
use Rattle.axis.specs.Range.{any}
use Rattle.mesh.specs.Lines.{in_range, shares, ended, mesh_of, Layout, Mesh}
use Rattle.mesh.specs.Blends.{is_cut}
use Rattle.mesh.specs.Splits.{given, live_of, with_line}
use Rattle.mesh.specs.Carried.{CarriedBy, mesh_by}
use Rattle.mesh.specs.declared.Split.{Split}
use Rattle.mesh.specs.declared.carried.Drawing.{Drawing}
use Rattle.mesh.proofs.Stepping.{noted_there, cuts_some}
use Rattle.mesh.proofs.Carrying.{by_small, by_rows, by_walks, by_run, by_along}
use Rattle.mesh.proofs.carried.Drawing.look.Goals as goal

-- the tests by the bytes, on a map that is carried
module _ {n : ℕ} {P : Layout} {t : Drawing n} (now : CarriedBy P t) (s : Split) where
  by_range : {b : Bool} → b ≡ in_range t.w t.h s → in_range P.w P.h s ≡ b
  by_range e = sym (rw (now.is_w, now.is_h) at e)

  by_full : {k : ℕ} → k ≤ t.count → k ≤ length P.splits
  by_full le = let e = now.many in omega arith

  by_room : {k : ℕ} → t.count < k → length P.splits < k
  by_room lt = let e = now.many in omega arith

  by_shares : {b : Bool} → b ≡ shares (mesh_by t) s → shares (mesh_of P) s ≡ b
  by_shares e = sym (e ∙ ap (λ (M : Mesh). shares M s) now.carried.lines.drawn)

  by_ended : {b : Bool} → b ≡ ended (mesh_by t) s → ended (mesh_of P) s ≡ b
  by_ended e = sym (e ∙ ap (λ (M : Mesh). ended M s) now.carried.lines.drawn)

-- each test decides behind those before it
module _ (P : Layout) (s : Split) where
  no_range : in_range P.w P.h s ≡ false → given P s ≡ 3
  unfolding given
  no_range e = rw e

  module _ (fits : in_range P.w P.h s ≡ true) where
    no_room : 60 ≤ length P.splits → given P s ≡ 4
    unfolding given
    no_room full = rw (fits, le-leb 60 (length P.splits) full)

    module _ (room : length P.splits < 60) where
      shared : shares (mesh_of P) s ≡ true → given P s ≡ 5
      unfolding given
      shared e = rw (fits, lt-leb 60 (length P.splits) room, e)

      module _ (apart : shares (mesh_of P) s ≡ false) where
        open_end : ended (mesh_of P) s ≡ false → given P s ≡ 6
        unfolding given
        open_end e = rw (fits, lt-leb 60 (length P.splits) room, apart, e)

        by_cuts : ended (mesh_of P) s ≡ true → {b : Bool} → any (is_cut (mesh_of (with_line P s))) (live_of P) ≡ b → given P s ≡ cond (not b) 7 0
        unfolding given
        by_cuts ends e = rw (fits, lt-leb 60 (length P.splits) room, apart, ends, e)

pub returns-then-not-in_range : goal.returns-then-not-in_range
returns-then-not-in_range g c P now = no_range P c.args.s (by_range now c.args.s c.if-not-in_range.ensures)

pub returns-then-self-ge-MOST_SPLITS : goal.returns-then-self-ge-MOST_SPLITS
returns-then-self-ge-MOST_SPLITS g c P now =
    no_room P c.args.s (by_range now c.args.s c.if-not-in_range.ensures) (by_full now c.args.s c.if-self-ge-MOST_SPLITS.true)

pub shares_step-requires : goal.shares_step-requires
shares_step-requires g c =
    let now = c.requires.1 in
    let fits = by_range now c.args.s c.if-not-in_range.ensures in
    let r = by_small now c.args.s fits in
    let rows = by_rows now c.args.s fits in
    (search rules, (rows.0, r.rises, r.to))

pub returns-then-shares_step : goal.returns-then-shares_step
returns-then-shares_step g c P now =
    let s = c.args.s in
    shared P s (by_range now s c.if-not-in_range.ensures) (by_room now s c.if-self-ge-MOST_SPLITS.false) (by_shares now s c.if-shares_step.ensures)

pub ends_on_lines-requires : goal.ends_on_lines-requires
ends_on_lines-requires g c =
    let now = c.requires.1 in
    let fits = by_range now c.args.s c.if-not-in_range.ensures in
    let r = by_small now c.args.s fits in
    let rows = by_rows now c.args.s fits in
    (search rules, (rows.1, r.position, r.rises, r.to))

pub returns-then-not-ends_on_lines : goal.returns-then-not-ends_on_lines
returns-then-not-ends_on_lines g c P now =
    let s = c.args.s in
    open_end P s (by_range now s c.if-not-in_range.ensures) (by_room now s c.if-self-ge-MOST_SPLITS.false) (by_shares now s c.if-shares_step.ensures)
    (by_ended now s c.if-not-ends_on_lines.ensures)

pub overflow_add-s : goal.overflow_add-s
overflow_add-s g c = let r = by_small c.requires.1 c.args.s (by_range c.requires.1 c.args.s c.if-not-in_range.ensures) in omega arith

pub notes-notes-requires : goal.notes-notes-requires
notes-notes-requires g c = (search rules, by_walks c.requires.1)

pub runs_from-requires : goal.runs_from-requires
runs_from-requires g c =
    let now = c.requires.1 in
    let fits = by_range now c.args.s c.if-not-in_range.ensures in
    let r = by_small now c.args.s fits in
    let rows = by_rows now c.args.s fits in
    (search rules, (rows.0, omega arith))

pub runs_to-requires : goal.runs_to-requires
runs_to-requires g c =
    let now = c.requires.1 in
    let fits = by_range now c.args.s c.if-not-in_range.ensures in
    let rows = by_rows now c.args.s fits in
    let along = by_run now c.args.s fits in
    (search rules, (rows.0, along.0, along.1))

pub returns-then-not-some_reached : goal.returns-then-not-some_reached
returns-then-not-some_reached g c P now =
    let s = c.args.s in
    let fits = by_range now s c.if-not-in_range.ensures in
    let noted = rw (c.way-d.ensures, now.is_w, now.is_h) at c.notes-notes.ensures in
    let n = noted_there now.carried s refl refl noted.0 noted.1 in
    let cuts = sym (cuts_some now.carried s n fits (by_along now s fits) c.runs_from.ensures c.runs_to.ensures.0) ∙
    sym (rw c.way-d.ensures at c.some_reached.ensures) in
    let is = by_cuts P s fits (by_room now s c.if-self-ge-MOST_SPLITS.false) (by_shares now s c.if-shares_step.ensures)
    (by_ended now s c.if-not-ends_on_lines.ensures) cuts in
    is ∙ rw c.if-not-some_reached.true

pub returns : goal.returns
returns g c P now =
    let s = c.args.s in
    let fits = by_range now s c.if-not-in_range.ensures in
    let noted = rw (c.way-d.ensures, now.is_w, now.is_h) at c.notes-notes.ensures in
    let n = noted_there now.carried s refl refl noted.0 noted.1 in
    let cuts = sym (cuts_some now.carried s n fits (by_along now s fits) c.runs_from.ensures c.runs_to.ensures.0) ∙
    sym (rw c.way-d.ensures at c.some_reached.ensures) in
    let is = by_cuts P s fits (by_room now s c.if-self-ge-MOST_SPLITS.false) (by_shares now s c.if-shares_step.ensures)
    (by_ended now s c.if-not-ends_on_lines.ensures) cuts in
    (is ∙ rw c.if-not-some_reached.false, n)
