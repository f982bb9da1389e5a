-- The blends that the table calls give: those that the map holds, and no others.
use Prim.Native.Nat.{ℕ, ◌<◌}
use native.Mathlib.Omega.{arith}
use mathlib.Core.Path.{◌≡◌, sym, ap, ◌∙◌}
use mathlib.Core.List.{List}
use lib.IntN.{pos, suc_ℤ, pred_ℤ, suc-pred}
use lib.ListN.{length}
use lib.Seq.{ext_get_or}
use Rattle.mesh.specs.declared.Blend.{Blend}
use Rattle.mesh.specs.Sound.{none}
use Rattle.maps.specs.declared.Map.{Map}
use Rattle.maps.specs.declared.Shape.{Shape}
use Rattle.maps.specs.Outcomes.{Placed}
use Rattle.maps.specs.Plain.{Plain, blends}
use Rattle.maps.specs.Record.{record_of}
use Rattle.maps.specs.Calls.{shape}
use Rattle.maps.specs.Demand.{Tabled}
use Rattle.maps.specs.Holds.{Holds}
use Rattle.maps.proofs.Answers.{place_listed, place_none}

-- a shape shows the blend
knot_shown : (a b : ℕ) → pred_ℤ (pos a) ≡ pred_ℤ (pos b) → a ≡ b
knot_shown a b e = let p : pos a ≡ pos b = sym (suc-pred (pos a)) ∙ ap suc_ℤ e ∙ suc-pred (pos b) in cc

shape_shows : (B C : Blend) → shape B ≡ shape C → B ≡ C
shape_shows B C e =
    let l = knot_shown _ _ (ap (λ (s : Shape). s.l) e) in
    let m = knot_shown _ _ (ap (λ (s : Shape). s.m) e) in
    let r = knot_shown _ _ (ap (λ (s : Shape). s.r) e) in
    let b = knot_shown _ _ (ap (λ (s : Shape). s.b) e) in
    let n = knot_shown _ _ (ap (λ (s : Shape). s.n) e) in
    let t = knot_shown _ _ (ap (λ (s : Shape). s.t) e) in
    λ i. record { across = record { l = l i; m = m i; r = r i }; up = record { l = b i; m = n i; r = t i } }

-- The table calls give no two lists.
module _ {m : Map} {bs cs : List Blend} (p : Tabled m bs) (q : Tabled m cs) where
  no_shorter : length bs < length cs → ⊥
  no_shorter lt = omega (arith, p.no_more (length bs) (omega arith), (q.listed (length bs) lt).0)

pub tabled_once : {m : Map} {bs cs : List Blend} → Tabled m bs → Tabled m cs → bs ≡ cs
tabled_once {m} {bs} {cs} p q =
    ext_get_or none bs cs (omega (arith, no_shorter p q, no_shorter q p))
    (λ i lt. shape_shows _ _ (sym (p.listed i lt).1 ∙ (q.listed i (omega (arith, no_shorter q p))).1))

-- They give its live blends.
pub holds_tabled : (P : Plain) → Holds P → Tabled (record_of P) (blends P)
holds_tabled P holds =
    record {
      listed = λ i lt. let e = place_listed P holds i lt in (ap (λ (r : Placed). r.number) e, ap (λ (r : Placed). r.blend) e);
      no_more = place_none P holds;
    }
