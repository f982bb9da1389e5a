-- `mesh::cut::cut_across` and `mesh::cut::cut_up` meet their contracts, together. Each hands the halves of a cut to the other, or the blend
-- as it is where it does not cut it, or keeps it where `tried` tells that the other does not either. The measure is `ahead`.
use Rattle.std.proofs.Common.{ℕ, ◌-◌, ◌≡◌, sym, ◌∙◌, List, [], ◌∷◌, get_or, Some, arith}
use Rattle.axis.specs.Nearest.{nearest, any_line}
use Rattle.axis.specs.declared.Side.{Side}
use Rattle.axis.specs.declared.Side.TheVariants.{Lower as lower, Upper as upper}
use Rattle.axis.proofs.Nearest.{line_is, line_none}
use Rattle.mesh.specs.declared.Direction.TheVariants.{Upright as upright, Level as level}
use Rattle.mesh.specs.Bytes.{bytes_mesh}
use Rattle.mesh.specs.Sound.{Proper}
use Rattle.mesh.specs.declared.Blend.{Blend}
use Rattle.mesh.proofs.Cutting.{over, handed_ahead, handed_none, Found, half_asks, handed_more, handed_both, cut_kept}
use Rattle.mesh.proofs.cut.+cut_across_cut_up.Goals as goal

-- the line that the code finds
across_found : (uprights levels : List ℕ) (x : Blend) {z : ℕ} → Proper x →
    any_line (nearest (over uprights x.up.l (x.up.r - x.up.l)) x.across) ≡ Some z → Found (bytes_mesh uprights levels) upright x z
unfolding bytes_mesh
across_found uprights levels x ok e = let r = line_is _ _ e in record { ok = ok; is = r.0; some = r.1 }

up_found : (uprights levels : List ℕ) (x : Blend) {z : ℕ} → Proper x →
    any_line (nearest (over levels x.across.l (x.across.r - x.across.l)) x.up) ≡ Some z → Found (bytes_mesh uprights levels) level x z
unfolding bytes_mesh
up_found uprights levels x ok e = let r = line_is _ _ e in record { ok = ok; is = r.0; some = r.1 }

-- the sides of a cut, as they are taken
abbrev both : List Side
both = lower ∷ upper ∷ []

pub cut_across-loop-side-init : goal.cut_across-loop-side-init
cut_across-loop-side-init t c = handed_none (bytes_mesh c.args.uprights.now c.args.levels.now) upright c.args.x both c.args.places.now

pub cut_across-cut_up-requires : goal.cut_across-cut_up-requires
cut_across-cut_up-requires t c =
    let a = c.args in
    let f = across_found a.uprights.now a.levels.now a.x c.requires.1 (sym c.first_line.ensures ∙ c.in-Some.is) in
    let h = half_asks f a.tried t c.decreases (get_or both c.loop-side.side-index lower) _ c.half.ensures in
    (h.0, ((omega arith, omega arith, omega arith), h.1, h.2))

pub cut_across-loop-side-preserved : goal.cut_across-loop-side-preserved
cut_across-loop-side-preserved t c =
    let a = c.args in
    let f = across_found a.uprights.now a.levels.now a.x c.requires.1 (sym c.first_line.ensures ∙ c.in-Some.is) in
    handed_more f both c.loop-side.side-index _ a.places.now c.loop-side.places c.cut_up.new.places (omega arith) c.half.ensures
    c.loop-side.invariant c.cut_up.ensures

pub cut_across-returns-after-loop-side : goal.cut_across-returns-after-loop-side
cut_across-returns-after-loop-side t c =
    let a = c.args in
    let f = across_found a.uprights.now a.levels.now a.x c.requires.1 (sym c.first_line.ensures ∙ c.in-Some.is) in
    let all : c.loop-side.side-index ≡ 2 = omega arith in
    handed_both f a.tried a.places.now c.loop-side.places c.requires.2 (rw all at c.loop-side.invariant)

pub cut_across-returns-in-None : goal.cut_across-returns-in-None
unfolding bytes_mesh
cut_across-returns-in-None t c =
    let a = c.args in
    rw c.if-tried.true
    (cut_kept (bytes_mesh a.uprights.now a.levels.now) level a.x a.places.now c.keep_blend.new.places
    (c.requires.2 c.if-tried.true) (line_none _ (sym c.first_line.ensures ∙ c.in-None.is)) c.keep_blend.ensures)

pub cut_across-cut_up-requires-in-None-2 : goal.cut_across-cut_up-requires-in-None-2
unfolding bytes_mesh
cut_across-cut_up-requires-in-None-2 t c =
    let uncut = line_none _ (sym c.first_line.ensures ∙ c.in-None-2.is) in
    (handed_ahead c.args.x c.args.tried t c.decreases c.if-tried.false, (c.requires.0, c.requires.1, λ _. uncut))

pub cut_up-loop-side-init : goal.cut_up-loop-side-init
cut_up-loop-side-init t c = handed_none (bytes_mesh c.args.uprights.now c.args.levels.now) level c.args.x both c.args.places.now

pub cut_up-cut_across-requires : goal.cut_up-cut_across-requires
cut_up-cut_across-requires t c =
    let a = c.args in
    let f = up_found a.uprights.now a.levels.now a.x c.requires.1 (sym c.first_line.ensures ∙ c.in-Some.is) in
    let h = half_asks f a.tried t c.decreases (get_or both c.loop-side.side-index lower) _ c.half.ensures in
    (h.0, ((omega arith, omega arith, omega arith), h.1, h.2))

pub cut_up-loop-side-preserved : goal.cut_up-loop-side-preserved
cut_up-loop-side-preserved t c =
    let a = c.args in
    let f = up_found a.uprights.now a.levels.now a.x c.requires.1 (sym c.first_line.ensures ∙ c.in-Some.is) in
    handed_more f both c.loop-side.side-index _ a.places.now c.loop-side.places c.cut_across.new.places (omega arith) c.half.ensures
    c.loop-side.invariant c.cut_across.ensures

pub cut_up-returns-after-loop-side : goal.cut_up-returns-after-loop-side
cut_up-returns-after-loop-side t c =
    let a = c.args in
    let f = up_found a.uprights.now a.levels.now a.x c.requires.1 (sym c.first_line.ensures ∙ c.in-Some.is) in
    let all : c.loop-side.side-index ≡ 2 = omega arith in
    handed_both f a.tried a.places.now c.loop-side.places c.requires.2 (rw all at c.loop-side.invariant)

pub cut_up-returns-in-None : goal.cut_up-returns-in-None
unfolding bytes_mesh
cut_up-returns-in-None t c =
    let a = c.args in
    rw c.if-tried.true
    (cut_kept (bytes_mesh a.uprights.now a.levels.now) upright a.x a.places.now c.keep_blend.new.places
    (c.requires.2 c.if-tried.true) (line_none _ (sym c.first_line.ensures ∙ c.in-None.is)) c.keep_blend.ensures)

pub cut_up-cut_across-requires-in-None-2 : goal.cut_up-cut_across-requires-in-None-2
unfolding bytes_mesh
cut_up-cut_across-requires-in-None-2 t c =
    let uncut = line_none _ (sym c.first_line.ensures ∙ c.in-None-2.is) in
    (handed_ahead c.args.x c.args.tried t c.decreases c.if-tried.false, (c.requires.0, c.requires.1, λ _. uncut))
