-- Notes: a blend is told by its note, and what is noted for a line over a sound map is what its live blends say.
use Prim.Native.Nat.{ℕ, ◌+◌, ◌-◌, ◌*◌, ◌/◌, ◌%◌, ◌≤◌, ◌<◌}
use native.Mathlib.Omega.{arith}
use mathlib.Core.Path.{◌≡◌, refl, sym, ap, subst, ◌∙◌}
use mathlib.Core.Logic.{◌↔◌, ◌⊎◌, inl, inr, ⊎_elim}
use mathlib.Core.Bool.{cond, Bool, true, false, ◌&&◌, ◌||◌, not}
use mathlib.Core.List.Memᴰ
use mathlib.Core.List.{List, [], ◌∷◌, ◌++◌, Memᴰ}
use lib.Dec.{leb, eqb}
use lib.ListN.{length, get_or, set, length-set, length-replicate, get_or-eq_default}
use lib.Seq.{get_or-set_same, get_or-set_other}
use borrow.Author.Tests.{eqb-true, eqb-false, leb-true, le-leb, eq-eqb, ne_eqb, not-true, lt-ltb}
use Rattle.axis.specs.Range.{some, any}
use Rattle.axis.specs.Triple.{knot_in, inside, between, RisesIn, Rise}
use Rattle.axis.specs.declared.Side.{Side}
use Rattle.axis.specs.declared.Side.TheVariants.{Lower as lower, Upper as upper}
use Rattle.axis.specs.declared.Triple.{Triple}
use Rattle.axis.proofs.Tests.{either, true_not_false, false_of, and_both, and_of, or_either, or_left, or_right, same_test, some_fails, fails_some, any_at, any_of, each_mem, mem_each}
use Rattle.axis.proofs.Triples.{inside_fact, inside_test, rise_of}
use Rattle.axis.proofs.Runs.{if_at_most, if_below, if_equal}
use Rattle.axis.proofs.Sides.{KnotIn, part_says, part_test, part_of, inside_of}
use Rattle.mesh.specs.Lines.{other, side, Mesh}
use Rattle.mesh.specs.declared.Direction.{Direction}
use Rattle.mesh.specs.declared.Direction.TheVariants.{Upright as upright, Level as level}
use Rattle.mesh.specs.Blends.{crossed, along, same, live}
use Rattle.mesh.specs.Sound.{nested, none_nested, sound, four_everywhere, ProperIn}
use Rattle.mesh.specs.Ends.{abreast}
use Rattle.mesh.specs.Bytes.{packed}
use Rattle.mesh.specs.Carried.{noted, unnoted, note_all, blank, notes, alike, reached, if_reached, all_reached}
use Rattle.mesh.specs.declared.Blend.{Blend}
use Rattle.mesh.proofs.Bytes.{zeros}
use Rattle.mesh.proofs.Cuts.{proper_facts, proper_wider, same_blend}
use Rattle.mesh.proofs.Places.{unpack_packed, unnested}
use Rattle.mesh.proofs.SoundMaps.{live_proper}
use Rattle.mesh.proofs.Quadrants.{crossed_in}

-- a note of a proper blend is not 0, and tells the blend
pub noted_positive : (w h : ℕ) (B : Blend) → ProperIn w h B → noted B ≡ 0 → ⊥
noted_positive w h B p e = let u = p.up in omega arith

note_divides : (c a b : ℕ) → a < 256 → b < 256 → let x = c * 65536 + (a * 256 + b) in (x / 256 % 256 ≡ a) × (x % 256 ≡ b) × (x / 65536 ≡ c)
note_divides c a b ha hb = (omega arith, omega arith, omega arith)

pub unnoted_noted : (w h : ℕ) → w ≤ 128 → h ≤ 128 → (B : Blend) → ProperIn w h B → unnoted (noted B) ≡ B
unfolding unnoted
unnoted_noted w h wide high B p =
    let a = p.across in
    let u = p.up in
    let e = note_divides (packed B) B.across.m B.up.m (omega arith) (omega arith) in
    rw (e.0, e.1, e.2) (unpack_packed w h wide high B p)

-- noting keeps the number of levels
note_length : (e : Side) (d : Direction) (z : ℕ) (T : List ℕ) (bs : List Blend) → length (note_all e d z T bs) ≡ length T
unfolding note_all
note_length e d z T [] = refl
note_length e d z T (B ∷ bs) =
    note_length e d z (cond (knot_in e z (crossed d B)) (set T (along d B).m (noted B)) T) bs ∙ ⊎_elim (λ t. rw t (length-set T _ _)) (λ t. rw t) (either (knot_in e z (crossed d B)))

-- Noting some blends leaves at a level the note of one with its anchor there, or what was there where none has it.
module _ (e : Side) (d : Direction) (z k : ℕ) where
  abbrev Beside : List Blend → Blend → Type 0
  Beside bs B = Memᴰ B bs × (knot_in e z (crossed d B) ≡ true) × ((along d B).m ≡ k)

  more_beside : {B C : Blend} {bs : List Blend} → Beside bs C → Beside (B ∷ bs) C
  more_beside b = (Memᴰ.tail b.0, b.1, b.2)

  none_more : {B : Blend} {bs : List Blend} → (Beside (B ∷ []) B → ⊥) → ((C : Blend) → Beside bs C → ⊥) → (C : Blend) → Beside (B ∷ bs) C → ⊥
  none_more {B} {bs} f g C b =
      ⊎_elim (λ q. f (subst (λ (X : Blend). Beside (B ∷ []) X) q (Memᴰ.head q, b.1, b.2))) (λ m. g C (m, b.1, b.2)) (Memᴰ.cases_cons b.0)

  note_entry : (T : List ℕ) (bs : List Blend) → k < length T → let c = get_or (note_all e d z T bs) k 0 in
      ((B : Blend) × Beside bs B × (c ≡ noted B)) ⊎ (((B : Blend) → Beside bs B → ⊥) × (c ≡ get_or T k 0))
  unfolding note_all
  note_entry T [] lt = inr (λ B b. Memᴰ.not-nil b.0, refl)
  note_entry T (B ∷ bs) lt =
      ⊎_elim
      (λ t. rw t (⊎_elim (λ r. inl (r.0, more_beside r.1, r.2))
      (λ r. if_equal (along d B).m k (λ q. inl (B, (Memᴰ.head refl, t, q), r.1 ∙ rw q (get_or-set_same T k (noted B) 0 lt)))
      (λ ne. inr (none_more (λ b. ne b.2) r.0, r.1 ∙ get_or-set_other T (along d B).m k (noted B) 0 (λ q. ne (sym q)))))
      (note_entry (set T (along d B).m (noted B)) bs (rw length-set lt))))
      (λ t. rw t (⊎_elim (λ r. inl (r.0, more_beside r.1, r.2)) (λ r. inr (none_more (λ b. true_not_false _ b.1 t) r.0, r.1))
      (note_entry T bs lt)))
      (either (knot_in e z (crossed d B)))

-- where a blend's anchor lies strictly inside a support in which it is not nested, the support is its own
own_support : (A B : Blend) → nested A B ≡ false → between A.across.m B.across ≡ true → between A.up.m B.up ≡ true → A ≡ B
own_support A B f p q =
    ⊎_elim (same_blend A B) (λ e. absurd (true_not_false (nested A B) (and_of _ _ (and_of _ _ (ap not e) p) q) f)) (either (same A B))

own_either : (d : Direction) (A B : Blend) → nested A B ≡ false → between (crossed d A).m (crossed d B) ≡ true →
    between (along d A).m (along d B) ≡ true → A ≡ B
own_either upright A B f p q = own_support A B f p q
own_either level A B f p q = own_support A B f q p

between_test : (z : ℕ) (t : Triple) → t.l < z → z < t.r → between z t ≡ true
between_test z t lo hi = and_of _ _ (lt-ltb _ _ lo) (lt-ltb _ _ hi)

-- of two triples with a knot in one part the middle of one lies strictly inside the other
one_between : (e : Side) (z : ℕ) (t u : Triple) → Rise t → Rise u → KnotIn e z t → KnotIn e z u → (between t.m u ≡ true) ⊎ (between u.m t ≡ true)
one_between lower z t u rt ru p q =
    if_at_most t.m u.m (λ le. inl (between_test t.m u (omega arith) (omega arith))) (λ gt. inr (between_test u.m t (omega arith) (omega arith)))
one_between upper z t u rt ru p q =
    if_at_most t.m u.m (λ le. inr (between_test u.m t (omega arith) (omega arith))) (λ gt. inl (between_test t.m u (omega arith) (omega arith)))

-- which blends are noted for a line, in a sound map
module _ (w h : ℕ) (hw : 1 ≤ w) (wide : w ≤ 128) (hh : 1 ≤ h) (high : h ≤ 128) (M : Mesh) (s : sound w h (live w h M) ≡ true) (d : Direction) (z : ℕ) where
  abbrev lives : List Blend
  lives = live w h M

  ok : (B : Blend) → Memᴰ B lives → ProperIn w h B
  ok B m = proper_facts w h B (live_proper w h hw hh M B m)

  rises : (c : Direction) (B : Blend) → Memᴰ B lives → Rise (crossed c B)
  rises c B m = rise_of (crossed_in c (ok B m))

  own : (A B : Blend) → Memᴰ A lives → Memᴰ B lives → between (crossed d A).m (crossed d B) ≡ true → (along d A).m ≡ (along d B).m → A ≡ B
  unfolding sound
  own A B mA mB i q =
      let r = rises (other d) B mB in
      own_either d A B (unnested lives (and_both (four_everywhere w h lives) (none_nested lives) s).1 A B mA mB) i
      (between_test (along d A).m (along d B) (omega arith) (omega arith))

  -- of the blends over a line at one level there is one at most with its anchor on a side: else the anchor of one lay strictly inside the other's support
  one_beside : (e : Side) (A B : Blend) → Memᴰ A lives → Memᴰ B lives → knot_in e z (crossed d A) ≡ true → knot_in e z (crossed d B) ≡ true →
      (along d A).m ≡ (along d B).m → A ≡ B
  one_beside e A B mA mB p q same =
      ⊎_elim (λ i. own A B mA mB i same) (λ i. sym (own B A mB mA i (sym same)))
      (one_between e z (crossed d A) (crossed d B) (rises d A mA) (rises d B mB) (part_says e z (crossed d A) p) (part_says e z (crossed d B) q))

  pub notes_long : (e : Side) → length (notes e d z lives) ≡ 131
  notes_long e = note_length e d z blank lives

  low_level : (B : Blend) → Memᴰ B lives → (along d B).m < 131
  low_level B m = let p = crossed_in (other d) (proper_wider wide high (ok B m)) in by_direction d p
    where
      by_direction : (d : Direction) → RisesIn (side (other d) 128 128) (along d B) → (along d B).m < 131
      by_direction upright p = omega arith
      by_direction level p = omega arith

  pub note_found : (e : Side) (B : Blend) → Memᴰ B lives → knot_in e z (crossed d B) ≡ true → get_or (notes e d z lives) (along d B).m 0 ≡ noted B
  note_found e B m t =
      ⊎_elim (λ r. r.2 ∙ ap (λ (A : Blend). noted A) (one_beside e r.0 B r.1.0 m r.1.1 t r.1.2)) (λ r. absurd (r.0 B (m, t, refl)))
      (note_entry e d z (along d B).m blank lives (rw length-replicate (low_level B m)))

  pub note_from : (e : Side) (k : ℕ) → (get_or (notes e d z lives) k 0 ≡ 0 → ⊥) →
      (B : Blend) × Memᴰ B lives × (knot_in e z (crossed d B) ≡ true) × ((along d B).m ≡ k) × (get_or (notes e d z lives) k 0 ≡ noted B)
  note_from e k ne =
      if_below k 131 (λ lt. ⊎_elim (λ r. (r.0, r.1.0, r.1.1, r.1.2, r.2)) (λ r. absurd (ne (r.1 ∙ zeros 131 k))) (note_entry e d z k blank lives lt))
      (λ le. absurd (ne (get_or-eq_default (notes e d z lives) 0 (omega (arith, notes_long e)))))

  abbrev entry : Side → ℕ → ℕ
  entry e k = get_or (notes e d z lives) k 0

  -- a note tells the blend beside the line that has its anchor at the level, and only such a blend
  tells : (e : Side) (k : ℕ) (B : Blend) → Beside e d z k lives B → (not (eqb (entry e k) 0) ≡ true) × (unnoted (entry e k) ≡ B)
  tells e k B b =
      let p = ok B b.0 in
      let q = subst (λ (j : ℕ). entry e j ≡ noted B) b.2 (note_found e B b.0 b.1) in
      (ap not (ne_eqb _ _ (λ none. noted_positive w h B p (sym q ∙ none))), ap unnoted q ∙ unnoted_noted w h wide high B p)

  told : (e : Side) (k : ℕ) → not (eqb (entry e k) 0) ≡ true → Beside e d z k lives (unnoted (entry e k))
  told e k t =
      let r = note_from e k (eqb-false _ 0 (not-true _ t)) in
      let b : Beside e d z k lives r.0 = (r.1, r.2, r.3) in
      subst (λ (X : Blend). Beside e d z k lives X) (sym (tells e k r.0 b).1) b

  -- two looks are the test of all pairs
  pub alike_abreast : (e : Side) (k : ℕ) →
      alike e d (get_or (notes upper d z lives) k 0) (get_or (notes lower d z lives) k 0) ≡ any (λ A. any (abreast d z e k A) lives) lives
  alike_abreast e k = same_test _ _ to_pair of_pair
    where
      to_pair : alike e d (entry upper k) (entry lower k) ≡ true → any (λ A. any (abreast d z e k A) lives) lives ≡ true
      to_pair t =
          let f = and_both _ _ t in
          let g = and_both _ _ f.0 in
          let a = told upper k g.0 in
          let b = told lower k g.1 in
          any_of _ lives _ a.0
          (any_of _ lives _ b.0 (and_of _ _ (and_of _ _ (and_of _ _ (and_of _ _ a.1 b.1) (eq-eqb _ _ a.2)) (eq-eqb _ _ b.2)) f.1))

      of_pair : any (λ A. any (abreast d z e k A) lives) lives ≡ true → alike e d (entry upper k) (entry lower k) ≡ true
      of_pair t =
          let A = any_at (λ A. any (abreast d z e k A) lives) lives t in
          let B = any_at (abreast d z e k A.0) lives A.2 in
          let reach = and_both _ _ B.2 in
          let right = and_both _ _ reach.0 in
          let left = and_both _ _ right.0 in
          let over = and_both _ _ left.0 in
          let a = tells upper k A.0 (A.1, over.0, eqb-true _ _ left.1) in
          let b = tells lower k B.0 (B.1, over.1, eqb-true _ _ right.1) in
          and_of _ _ (and_of _ _ a.0 b.0) (rw (a.1, b.1) reach.1)

  -- the noted blends that lie along a line are those of all blends that do
  module _ (from to : ℕ) where
    abbrev Along : Blend → Type 0
    Along B = Memᴰ B lives × (inside z (crossed d B) ≡ true) × (from ≤ (along d B).l) × ((along d B).r ≤ to)

    reached_along : (e : Side) (k : ℕ) → reached d from to (entry e k) ≡ true → Along (unnoted (entry e k))
    reached_along e k t =
        let f = and_both _ _ t in
        let g = and_both _ _ f.0 in
        let b = told e k g.0 in
        (b.0, inside_test z _ (inside_of e z _ (rises d _ b.0) (part_says e z _ b.1)), leb-true _ _ g.1, leb-true _ _ f.1)

    along_reached : (B : Blend) → Along B → (e : Side) × (reached d from to (entry e (along d B).m) ≡ true) × (unnoted (entry e (along d B).m) ≡ B)
    along_reached B a =
        let p = part_of z (crossed d B) (inside_fact z (crossed d B) a.1) in
        let u = tells p.0 (along d B).m B (a.0, part_test p.0 z (crossed d B) p.1, refl) in
        (p.0, and_of _ _ (and_of _ _ u.0 (rw u.1 (le-leb _ _ a.2))) (rw u.1 (le-leb _ _ a.3)), u.1)

    -- its anchor lies between
    amid : (B : Blend) → Along B → (from ≤ (along d B).m) × ((along d B).m < from + (to - from))
    amid B a = let r = rises (other d) B a.0 in (omega (arith, r.low, a.2), omega (arith, r.low, r.high, a.2, a.3))

    abbrev found : ℕ → List Blend
    found k = if_reached d from to (entry upper k) ++ if_reached d from to (entry lower k)

    pub reached_mem : (B : Blend) → Memᴰ B (all_reached d from to (notes upper d z lives) (notes lower d z lives)) ↔
        (Memᴰ B lives × (inside z (crossed d B) ≡ true) × (from ≤ (along d B).l) × ((along d B).r ≤ to))
    unfolding all_reached
    reached_mem B = (
      λ m. let r = each_mem from (to - from) found B m in
          ⊎_elim (of_note upper r.0) (of_note lower r.0) (Memᴰ.append_cases (if_reached d from to (entry upper r.0)) r.3),
      λ a. let r = along_reached B a in
          mem_each from (to - from) found B (along d B).m (amid B a).0 (amid B a).1 (at_note r.0 (rw r.1 (Memᴰ.head (sym r.2)))),
    )
      where
        of_note : (e : Side) (k : ℕ) → Memᴰ B (if_reached d from to (entry e k)) → Along B
        of_note e k m =
            ⊎_elim (λ t. subst Along (sym (Memᴰ.eq_of_singleton (rw t at m))) (reached_along e k t)) (λ t. absurd (Memᴰ.not-nil (rw t at m)))
            (either (reached d from to (entry e k)))

        at_note : (e : Side) → Memᴰ B (if_reached d from to (entry e (along d B).m)) → Memᴰ B (found (along d B).m)
        at_note upper m = Memᴰ.append_left _ m
        at_note lower m = Memᴰ.append_right (if_reached d from to (entry upper (along d B).m)) m

    pub some_reached :
        some from (to - from) (λ k. reached d from to (get_or (notes upper d z lives) k 0) || reached d from to (get_or (notes lower d z lives) k 0)) ≡
        any (λ B. inside z (crossed d B) && leb from (along d B).l && leb (along d B).r to) lives
    some_reached = same_test _ _ to_one of_one
      where
        test : ℕ → Bool
        test k = reached d from to (entry upper k) || reached d from to (entry lower k)

        one : Blend → Bool
        one B = inside z (crossed d B) && leb from (along d B).l && leb (along d B).r to

        to_one : some from (to - from) test ≡ true → any one lives ≡ true
        to_one t =
            ⊎_elim (λ yes. yes)
            (λ no. absurd (true_not_false _ t (fails_some from (to - from) test (λ k lo hi. false_of _ (λ r. true_not_false _
            (⊎_elim (λ u. is_one (reached_along upper k u)) (λ u. is_one (reached_along lower k u)) (or_either _ _ r)) no)))))
            (either (any one lives))
          where
            is_one : {B : Blend} → Along B → any one lives ≡ true
            is_one {B} a = any_of one lives B a.0 (and_of _ _ (and_of _ _ a.1 (le-leb _ _ a.2)) (le-leb _ _ a.3))

        of_one : any one lives ≡ true → some from (to - from) test ≡ true
        of_one t =
            let B = any_at one lives t in
            let f = and_both _ _ B.2 in
            let g = and_both _ _ f.0 in
            let k = (along d B.0).m in
            let a : Along B.0 = (B.1, g.0, leb-true _ _ g.1, leb-true _ _ f.1) in
            let r = along_reached B.0 a in
            let there = amid B.0 a in
            ⊎_elim (λ yes. yes)
            (λ no. absurd (true_not_false _ (at_one r.0 k r.1) (some_fails from (to - from) test no k there.0 there.1)))
            (either (some from (to - from) test))
          where
            at_one : (e : Side) (k : ℕ) → reached d from to (entry e k) ≡ true → test k ≡ true
            at_one upper k u = or_left _ _ u
            at_one lower k u = or_right (reached d from to (entry upper k)) _ u
