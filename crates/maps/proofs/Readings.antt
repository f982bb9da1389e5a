-- Document 01, "Values, readings, splits": readings at anchors, how large readings are, and what a split and a set value do to them.
use Prim.Native.Nat.{ℕ, suc, ◌+◌, ◌-◌, ◌*◌, ◌≤◌, ◌<◌}
use native.Mathlib.Omega.{arith}
use native.Mathlib.Numerals.{add-one}
use mathlib.Core.Path.{◌≡◌, refl, sym, ap, ap₂, ◌∙◌}
use mathlib.Core.Logic.{⊎_elim}
use mathlib.Core.Bool.{true, false, cond}
use mathlib.Core.List.{List, [], ◌∷◌, Memᴰ}
use borrow.Author.Tests.{eqb-true, ltb-true, ltb-false}
use lib.Dec.{eqb, ltb}
use lib.ListN.{length, get_or, length-map, length-set}
use lib.Seq.{get_or-set_same, get_or-set_other}
use Rattle.std.specs.Prelude.{Some, None}
use Rattle.std.specs.List.{position, position_or_len}
use Rattle.std.proofs.lemmas.List.Recursion.{is_position_or_len}
use Rattle.std.proofs.lemmas.Option.{none-some, cond_some}
use Rattle.mesh.specs.declared.Split.{Split}
use Rattle.mesh.specs.declared.Blend.{Blend}
use Rattle.mesh.specs.Lines.{mesh_of}
use Rattle.mesh.specs.Blends.{anchored}
use Rattle.mesh.specs.Sound.{none, proper, sound, AllProperIn}
use Rattle.axis.proofs.Tests.{either, and_both, cond_true, cond_false}
use Rattle.mesh.proofs.OneLineMore.{more_finer}
use Rattle.mesh.proofs.Order.{finer_back}
use Rattle.mesh.proofs.Cuts.{proper_facts}
use Rattle.axis.proofs.Members.{map_mem, entry, placed, entry_map, set_mem}
use Rattle.axis.proofs.Scale.{sum, sum_same}
use Rattle.mesh.proofs.SoundMaps.{live_left, live_proper, live_distinct}
use Rattle.mesh.proofs.NewAnchors.{anchor_kept}
use Rattle.maps.specs.Plain.{Plain, blends}
use Rattle.maps.specs.Values.{reading_at, place_of, carried, drawn}
use Rattle.mesh.specs.Splits.{with_line, live_of}
use Rattle.mesh.specs.Order.{CoveredBy}
use Rattle.maps.specs.Calls.{set_plain}
use Rattle.maps.specs.Holds.{Valued}
use Rattle.maps.proofs.Rounding.{nearest, nearest_whole, nearest_most, means_near}
use Rattle.maps.proofs.ExactSums.{paired_single, paired_most, paired_map, scale, scale_positive, part, exact, reading_rounds, part_own, part_other, parts_one, exact_reproduced}

-- the place of an anchor in a table, blend by blend
module _ (B : Blend) (bs : List Blend) (m n : ℕ) where
  place_here : anchored m n B ≡ true → place_of (B ∷ bs) m n ≡ 0
  place_here e = rw e

  place_later : anchored m n B ≡ false → place_of (B ∷ bs) m n ≡ suc (place_of bs m n)
  place_later e = rw e (add-one (place_of bs m n))

-- the blend at the place of an anchor has it
pub place_found : (bs : List Blend) (m n : ℕ) → place_of bs m n < length bs →
    let B = get_or bs (place_of bs m n) none in (B.across.m ≡ m) × (B.up.m ≡ n)
place_found [] m n lt = absurd (omega arith)
place_found (B ∷ bs) m n lt =
    ⊎_elim
    (λ e. let a = and_both (eqb B.across.m m) (eqb B.up.m n) e in
    rw (place_here B bs m n e) (eqb-true _ _ a.0, eqb-true _ _ a.1))
    (λ e. rw (place_later B bs m n e) (place_found bs m n (omega (arith, place_later B bs m n e))))
    (either (anchored m n B))

module _ (P : Plain) (valued : Valued P) where
  pub blends_proper : AllProperIn P.lines.w P.lines.h (blends P)
  blends_proper = live_proper P.lines.w P.lines.h valued.wide.0 valued.tall.0 (mesh_of P.lines)

  -- a reading at the anchor of a proper blend, on its knots
  reading_on_knots : (B : Blend) → proper P.lines.w P.lines.h B ≡ true →
      reading_at (blends P) P.values (B.across.m - 1) (B.up.m - 1) ≡
      nearest (scale P.lines.w P.lines.h) (exact P.lines.w P.lines.h (blends P) P.values B.across.m B.up.m)
  reading_on_knots B ok =
      let p = proper_facts P.lines.w P.lines.h B ok in
      let a = p.across in
      let b = p.up in
      let x : B.across.m - 1 + 1 ≡ B.across.m = omega arith in
      let y : B.up.m - 1 + 1 ≡ B.up.m = omega arith in
      rw (x, y) at (reading_rounds P.lines.w P.lines.h (blends P) P.values blends_proper (B.across.m - 1) (B.up.m - 1))

  -- At an anchor the reading is the value of its blend.
  pub reading_value : (i : ℕ) → i < length (blends P) → let B = get_or (blends P) i none in
      reading_at (blends P) P.values (B.across.m - 1) (B.up.m - 1) ≡ get_or P.values i 0
  reading_value i lt =
      let w = P.lines.w in
      let h = P.lines.h in
      let B = get_or (blends P) i none in
      let m = entry (blends P) i none lt in
      reading_on_knots B (blends_proper B m) ∙
      rw (
        paired_single (part w h B.across.m B.up.m) (blends P) P.values
            (live_distinct w h valued.wide.0 valued.tall.0 (mesh_of P.lines)) valued.counted i lt
            (λ C mC. part_other w h valued.wide.0 valued.tall.0 (mesh_of P.lines) valued.is_sound B C m mC),
        part_own w h valued.wide.0 valued.tall.0 (mesh_of P.lines) valued.is_sound B m,
      )
      (nearest_whole (scale w h) (scale_positive w h) (get_or P.values i 0))

  -- "Old anchors keep their values; each new one takes the old map's reading there": either way it is the reading there.
  pub carried_reading : (B : Blend) →
      carried (blends P) P.values B ≡ reading_at (blends P) P.values (B.across.m - 1) (B.up.m - 1)
  unfolding carried reading_at
  carried_reading B =
      let i = place_of (blends P) B.across.m B.up.m in
      ⊎_elim
      (λ e. let f = place_found (blends P) B.across.m B.up.m (ltb-true i _ e) in
      cond_true _ _ _ e ∙ sym (reading_value i (ltb-true i _ e)) ∙
      ap₂ (λ (m n : ℕ). reading_at (blends P) P.values (m - 1) (n - 1)) f.0 f.1)
      (λ e. cond_false _ _ _ e)
      (either (ltb i (length (blends P))))

  -- A reading in the domain is at most what all values are: no flow that isn't there;
  pub reading_within : (k : ℕ) → ((x : ℕ) → Memᴰ x P.values → x ≤ k) → (u v : ℕ) → u ≤ P.lines.w →
      v ≤ P.lines.h →
      reading_at (blends P) P.values u v ≤ k
  reading_within k within u v u_in v_in =
      let w = P.lines.w in
      let h = P.lines.h in
      let one = parts_one w h valued.wide.0 valued.tall.0 (mesh_of P.lines) valued.is_sound u v u_in v_in in
      let most = paired_most (part w h (u + 1) (v + 1)) k (blends P) P.values within in
      rw (reading_rounds w h (blends P) P.values blends_proper u v)
      (nearest_most (scale w h) (scale_positive w h) _ k (omega (arith, most, ap (λ (n : ℕ). k * n) one)))

  -- so it is again one of "0 to 65,535 litres a minute".
  pub reading_most : (u v : ℕ) → u ≤ P.lines.w → v ≤ P.lines.h → reading_at (blends P) P.values u v ≤ 65535
  reading_most = reading_within 65535 (λ x m. omega (arith, valued.small x m))

-- A split that leaves a sound map:
module _ (P : Plain) (valued : Valued P) (s : Split) (still : sound P.lines.w P.lines.h (live_of (with_line P.lines s)) ≡ true) where
  -- every live blend of the map just before comes before the new ones;
  pub old_covered : (B : Blend) → Memᴰ B (blends P) →
      (proper P.lines.w P.lines.h B ≡ true) ×
      CoveredBy (mesh_of (with_line P.lines s)) (live_of (with_line P.lines s)) B
  old_covered B m = (
    blends_proper P valued B m,
    λ C l. let r = (live_left P.lines.w P.lines.h valued.wide.0 valued.tall.0 (mesh_of P.lines) B).0 m in
        (live_left P.lines.w P.lines.h valued.wide.0 valued.tall.0 (mesh_of (with_line P.lines s)) C).1
        (r.0, r.1, finer_back (more_finer P.lines s) r.2 l),
  )

  new_proper : AllProperIn P.lines.w P.lines.h (live_of (with_line P.lines s))
  new_proper = live_proper P.lines.w P.lines.h valued.wide.0 valued.tall.0 (mesh_of (with_line P.lines s))

  -- each new value is the old map's reading at the anchor;
  pub drawn_value : (i : ℕ) → i < length (blends (drawn P s)) → let B = get_or (blends (drawn P s)) i none in
      get_or (drawn P s).values i 0 ≡ reading_at (blends P) P.values (B.across.m - 1) (B.up.m - 1)
  unfolding drawn
  drawn_value i lt =
      entry_map (carried (blends P) P.values) (live_of (with_line P.lines s)) i none 0 lt ∙
      carried_reading P valued (get_or (live_of (with_line P.lines s)) i none)

  -- so none is above what all old values are,
  pub drawn_within : (k : ℕ) → ((x : ℕ) → Memᴰ x P.values → x ≤ k) → (x : ℕ) →
      Memᴰ x (drawn P s).values → x ≤ k
  unfolding drawn
  drawn_within k within x m =
      let r = map_mem (carried (blends P) P.values) (live_of (with_line P.lines s)) x m in
      let p = proper_facts P.lines.w P.lines.h r.0 (new_proper r.0 r.1) in
      let a = p.across in
      let b = p.up in
      let most = reading_within P valued k within (r.0.across.m - 1) (r.0.up.m - 1) (omega arith) (omega arith) in
      omega (arith, r.2, carried_reading P valued r.0, most)

  -- and the map just after is again a sound one with a 16-bit value for each live blend;
  pub drawn_valued : Valued (drawn P s)
  unfolding drawn
  drawn_valued = record {
    wide = valued.wide;
    tall = valued.tall;
    is_sound = still;
    counted = length-map (live_of (with_line P.lines s)) (carried (blends P) P.values);
    small = λ x m. omega (arith, drawn_within 65535 (λ y n. omega (arith, valued.small y n)) x m);
  }

  -- a reading just after the split is at most one away from the one just before, up or down;
  pub drawn_reading : (u v : ℕ) → u ≤ P.lines.w → v ≤ P.lines.h →
      (reading_at (blends (drawn P s)) (drawn P s).values u v ≤ reading_at (blends P) P.values u v + 1) ×
      (reading_at (blends P) P.values u v ≤ reading_at (blends (drawn P s)) (drawn P s).values u v + 1)
  unfolding drawn
  drawn_reading u v u_in v_in =
      let w = P.lines.w in
      let h = P.lines.h in
      let L = live_of (with_line P.lines s) in
      let old = exact w h (blends P) P.values in
      let g = part w h (u + 1) (v + 1) in
      let values : exact w h L (drawn P s).values (u + 1) (v + 1) ≡ sum (λ (C : Blend). nearest (scale w h) (old C.across.m C.up.m) * g C) L =
      paired_map g (carried (blends P) P.values) L ∙
      sum_same _ _ L (λ C m. ap (λ (n : ℕ). n * g C) (carried_reading P valued C ∙ reading_on_knots P valued C (new_proper C m))) in
      rw (reading_rounds w h L (drawn P s).values new_proper u v, reading_rounds w h (blends P) P.values (blends_proper P valued) u v, values)
      (means_near (scale w h) (scale_positive w h) (λ (C : Blend). old C.across.m C.up.m) g L (old (u + 1) (v + 1))
      (parts_one w h valued.wide.0 valued.tall.0 (mesh_of (with_line P.lines s)) still u v u_in v_in)
      (exact_reproduced w h valued.wide.0 valued.tall.0 (mesh_of (with_line P.lines s)) still (blends P) P.values old_covered (u + 1) (v + 1)))

  -- and at an old anchor the two are the same.
  pub drawn_anchor : (B : Blend) → Memᴰ B (blends P) →
      reading_at (blends (drawn P s)) (drawn P s).values (B.across.m - 1) (B.up.m - 1) ≡
      reading_at (blends P) P.values (B.across.m - 1) (B.up.m - 1)
  unfolding drawn
  drawn_anchor B m =
      let k = anchor_kept P.lines.w P.lines.h valued.wide.0 valued.tall.0 (mesh_of P.lines) (mesh_of (with_line P.lines s))
      (more_finer P.lines s) B m in
      let r = placed (live_of (with_line P.lines s)) k.0 none k.1 in
      let x : (get_or (live_of (with_line P.lines s)) r.0 none).across.m ≡ B.across.m = ap (λ (C : Blend). C.across.m) r.2 ∙ k.2 in
      let y : (get_or (live_of (with_line P.lines s)) r.0 none).up.m ≡ B.up.m = ap (λ (C : Blend). C.up.m) r.2 ∙ k.3 in
      rw (x, y) at (reading_value (drawn P s) drawn_valued r.0 r.1 ∙ drawn_value r.0 r.1)

-- Setting the value at an anchor leaves a map with a 16-bit value for each live blend;
module _ (P : Plain) (valued : Valued P) (m n v : ℕ) where
  pub set_valued : v < 65536 → Valued (set_plain P m n v)
  unfolding set_plain
  set_valued lt = record {
    wide = valued.wide;
    tall = valued.tall;
    is_sound = valued.is_sound;
    counted = length-set P.values _ v ∙ valued.counted;
    small = λ x k. ⊎_elim (λ q. omega arith) (valued.small x) (set_mem P.values _ v x k);
  }

  -- every other table place keeps its value;
  pub set_other : (i : ℕ) → (i ≡ place_of (blends P) (m + 1) (n + 1) → ⊥) → get_or (set_plain P m n v).values i 0 ≡ get_or P.values i 0
  unfolding set_plain
  set_other i off = get_or-set_other P.values _ i v 0 off

  -- and where a live blend has the anchor, its value, and so the reading there, is the one that was set.
  module _ (there : place_of (blends P) (m + 1) (n + 1) < length (blends P)) where
    pub set_same : get_or (set_plain P m n v).values (place_of (blends P) (m + 1) (n + 1)) 0 ≡ v
    unfolding set_plain
    set_same = get_or-set_same P.values _ v 0 (rw valued.counted there)

    pub set_reading : v < 65536 → reading_at (blends (set_plain P m n v)) (set_plain P m n v).values m n ≡ v
    unfolding set_plain
    set_reading lt =
        let i = place_of (blends P) (m + 1) (n + 1) in
        let f = place_found (blends P) (m + 1) (n + 1) there in
        let x : (get_or (blends P) i none).across.m - 1 ≡ m = omega (arith, f.0) in
        let y : (get_or (blends P) i none).up.m - 1 ≡ n = omega (arith, f.1) in
        rw (x, y) at (reading_value (set_plain P m n v) (set_valued lt) i there ∙ set_same)

-- The place of an anchor, as a search finds it: a place of the table, or none.
place_is : (bs : List Blend) (m n : ℕ) → place_of bs m n ≡ position_or_len (anchored m n) bs
place_is bs m n = is_position_or_len (λ xs. place_of xs m n) (anchored m n) refl (λ B bs. ap (cond (anchored m n B) 0) (omega arith)) bs

pub placed_some : (bs : List Blend) (m n : ℕ) {i : ℕ} → Some i ≡ position (anchored m n) bs → (place_of bs m n ≡ i) × (i < length bs)
placed_some bs m n e =
    let f = cond_some _ _ _ (sym e) in
    (place_is bs m n ∙ f.1, omega (arith, ltb-true _ _ f.0, f.1))

pub placed_none : (bs : List Blend) (m n : ℕ) → None ≡ position (anchored m n) bs → length bs ≤ place_of bs m n
placed_none bs m n e =
    ⊎_elim (λ t. absurd (none-some _ (e ∙ cond_true _ _ _ t))) (λ f. rw (place_is bs m n) (ltb-false _ _ f))
    (either (ltb (position_or_len (anchored m n) bs) (length bs)))
