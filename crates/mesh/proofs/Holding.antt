-- Places that hold the live blends by their anchors: kept one after the other, after a line more, and walked.
use Prim.Native.Nat.{ℕ, ◌+◌, ◌≤◌, ◌<◌}
use native.Mathlib.Omega.{arith}
use mathlib.Core.Path.{◌≡◌, refl, sym, ap, subst, ◌∙◌}
use mathlib.Core.Logic.{◌⊎◌, inl, inr, ⊎_elim}
use mathlib.Core.Bool.{true}
use mathlib.Core.List.Memᴰ
use mathlib.Core.List.{List, [], ◌∷◌, Memᴰ}
use borrow.Author.Tests.{eq-eqb, ne_eqb}
use lib.ListN.{length, get_or, length-set}
use lib.Seq.{get_or-set_same, get_or-set_other}
use Rattle.axis.specs.Range.{only, Distinct}
use Rattle.mesh.specs.Lines.{side, Mesh, mesh}
use Rattle.mesh.specs.declared.Direction.{Direction}
use Rattle.mesh.specs.declared.Direction.TheVariants.{Upright as upright, Level as level}
use Rattle.mesh.specs.Blends.{crossed, once, anchored, in_table_order, at, place, leaves_of, first_four, refine, live, Rising}
use Rattle.mesh.specs.Order.{Uncut, Left, Coarser, SameMembers}
use Rattle.mesh.specs.Sound.{sound, ProperIn}
use Rattle.mesh.specs.Bytes.{Rows, Zeros, packed, unpacked, keep, keep_all, kept, walk}
use Rattle.mesh.specs.Carried.{Leads, Bare, Held, Walks}
use Rattle.mesh.specs.declared.Split.{Split}
use Rattle.mesh.specs.declared.Blend.{Blend}
use Rattle.axis.proofs.Tests.{true_not_false, and_of, only_mem, mem_only, each_same, cond_false}
use Rattle.axis.proofs.Distinct.{only_distinct, singleton, nothing, ascending_unique, lone}
use Rattle.axis.proofs.Runs.{if_equal}
use Rattle.mesh.proofs.Bytes.{zeros}
use Rattle.mesh.proofs.Cuts.{proper_facts, proper_rises}
use Rattle.mesh.proofs.Order.{leaves_of_left, left_leaves_of, left_uncut, left_itself, finer_leaves, keeps_anchor}
use Rattle.mesh.proofs.TableOrder.{anchored_at, once_mem, mem_once, once_distinct, order_mem}
use Rattle.mesh.proofs.Places.{unpack_packed, packed_positive, at_inj}
use Rattle.mesh.proofs.Live.{same_table}
use Rattle.mesh.proofs.Fresh.{first_four_rises}
use Rattle.mesh.proofs.SoundMaps.{live_leaves, live_proper, live_distinct, own_anchors}
use Rattle.mesh.proofs.AtMost.{live_knots}

pub keep_all_length : (T : List ℕ) (bs : List Blend) → length (keep_all T bs) ≡ length T
unfolding keep_all
keep_all_length T [] = refl
keep_all_length T (B ∷ bs) = keep_all_length (keep T B) bs ∙ length-set T (place B) (packed B)

-- What a place holds after some blends were kept: the last of them that has it, or what it held before.
kept_last : (T : List ℕ) (bs : List Blend) → ((C : Blend) → Memᴰ C bs → place C < length T) → (i : ℕ) →
    ((C : Blend) × Memᴰ C bs × (place C ≡ i) × (get_or (keep_all T bs) i 0 ≡ packed C)) ⊎
    (((C : Blend) → Memᴰ C bs → place C ≡ i → ⊥) × (get_or (keep_all T bs) i 0 ≡ get_or T i 0))
unfolding keep_all
kept_last T [] fit i = inr (λ C m. absurd (Memᴰ.not-nil m), refl)
kept_last T (B ∷ bs) fit i =
    ⊎_elim (λ r. inl (r.0, Memᴰ.tail r.1, r.2, r.3))
    (λ r.
    if_equal i (place B)
    (λ q.
    inl (B, Memᴰ.head refl, sym q, r.1 ∙ rw q (get_or-set_same T (place B) (packed B) 0 (fit B (Memᴰ.head refl)))))
    (λ ne.
    inr (
      λ C m e. ⊎_elim (λ q. ne (sym e ∙ ap place q)) (λ k. r.0 C k e) (Memᴰ.cases_cons m),
      r.1 ∙ get_or-set_other T (place B) i (packed B) 0 ne,
    )))
    (kept_last (keep T B) bs (λ C m. rw (length-set T (place B) (packed B)) (fit C (Memᴰ.tail m))) i)

module _ (w h : ℕ) (hw : 1 ≤ w) (wide : w ≤ 128) (hh : 1 ≤ h) (high : h ≤ 128) where
  in_rows : (T : List ℕ) → Rows (w + 3) T → (C : Blend) → ProperIn w h C → place C < length T
  in_rows T room C p = let a = p.across in let u = p.up in omega arith

  module _ (M : Mesh) where
    proper_live : (C : Blend) → Memᴰ C (live w h M) → ProperIn w h C
    proper_live C k = proper_facts w h C (live_proper w h hw hh M C k)

    -- the live blends with one anchor: there is at most one
    module _ (m n : ℕ) where
      abbrev here : List Blend
      here = only (anchored m n) (live w h M)

      in_here : (C : Blend) → Memᴰ C here → Memᴰ C (live w h M) × (C.across.m ≡ m) × (C.up.m ≡ n)
      in_here C k =
          let o = only_mem (anchored m n) (live w h M) C k in
          let a = anchored_at m n C o.1 in
          (o.0, a.0, a.1)

      here_in : (C : Blend) → Memᴰ C (live w h M) → C.across.m ≡ m → C.up.m ≡ n → Memᴰ C here
      here_in C k p q = mem_only (anchored m n) (live w h M) C k (and_of _ _ (eq-eqb _ _ p) (eq-eqb _ _ q))

      here_distinct : Distinct here
      here_distinct = only_distinct (anchored m n) (live w h M) (live_distinct w h hw hh M)

      module _ (s : sound w h (live w h M) ≡ true) where
        alone : (B C : Blend) → Memᴰ B here → Memᴰ C here → B ≡ C
        alone B C mB mC =
            let b = in_here B mB in
            let c = in_here C mC in
            own_anchors w h hw hh M s B C b.0 c.0 (b.1 ∙ sym c.1) (b.2 ∙ sym c.2)

        kept_one : (T : List ℕ) → n < 131 → (C : Blend) → Memᴰ C (live w h M) → place C ≡ at m n → get_or T (at m n) 0 ≡ packed C → kept T m n ≡ here
        kept_one T hn C k there e =
            let p = proper_live C k in
            let u = p.up in
            let a = at_inj C.across.m C.up.m m n (omega arith) hn there in
            let c = here_in C k a.0 a.1 in
            let full = ne_eqb (get_or T (at m n) 0) 0 (λ z. packed_positive C (omega arith) (sym e ∙ z)) in
            let own : unpacked m n (get_or T (at m n) 0) ≡ C = cc (unpack_packed w h wide high C p) in
            cond_false _ _ _ full ∙ ap (λ (B : Blend). B ∷ []) own ∙ sym (singleton C here here_distinct (λ B j. alone B C j c) c)

  -- So places hold the live blends after live blends were kept, if they held the others before.
  module _ (M : Mesh) (s : sound w h (live w h M) ≡ true) (places : List ℕ) (room : Rows (w + 3) places) where
    held_all : (bs : List Blend) → ((C : Blend) → Memᴰ C bs → Memᴰ C (live w h M)) →
        ((m n : ℕ) → m < 131 → n < 131 → ((C : Blend) → Memᴰ C bs → place C ≡ at m n → ⊥) → kept places m n ≡ only (anchored m n) (live w h M)) →
        Held (keep_all places bs) (live w h M)
    held_all bs new others m n hm hn =
        ⊎_elim (λ r. kept_one M m n s (keep_all places bs) hn r.0 (new r.0 r.1) r.2 r.3)
        (λ r. rw r.1 (others m n hm hn r.0))
        (kept_last places bs (λ C k. in_rows places room C (proper_live M C (new C k))) (at m n))

  -- the live blends kept over no blends
  pub held_table : (M : Mesh) → sound w h (live w h M) ≡ true → (places : List ℕ) → Rows (w + 3) places → Zeros places →
      Held (keep_all places (live w h M)) (live w h M)
  held_table M s places room is_empty =
      held_all M s places room (live w h M) (λ C k. k)
      (λ m n hm hn none.
      let free : get_or places (at m n) 0 ≡ 0 = ap (λ (T : List ℕ). get_or T (at m n) 0) is_empty ∙ zeros (length places) (at m n) in
      rw free (sym (nothing (here M m n) (λ C k. let c = in_here M m n C k in none C c.0 (rw (c.1, c.2))))))

  -- A finer mesh: what is left of the blends that it cuts is kept besides. Nothing need be cleared: something with the anchor of each is left.
  module _ (M N : Mesh) (coarser : Coarser M N) (sM : sound w h (live w h M) ≡ true) (sN : sound w h (live w h N) ≡ true)
      (places : List ℕ) (room : Rows (w + 3) places) (held : Held places (live w h M)) (cs : List Blend)
      (among : (B : Blend) → Memᴰ B cs → Memᴰ B (live w h M)) (others : (B : Blend) → Memᴰ B (live w h M) → Memᴰ B cs ⊎ Uncut N B) where
    rising : Rising (live w h M)
    rising B k = proper_rises w h B (live_proper w h hw hh M B k)

    next : SameMembers (leaves_of N (live w h M)) (live w h N)
    next C =
        let f = finer_leaves M N coarser (first_four w h) (live w h M) (first_four_rises w h hw hh) (live_leaves w h hw hh M) C in
        let r = live_leaves w h hw hh N C in
        (λ k. r.1 (f.0 k), λ k. f.1 (r.0 k))

    left_cut : (B C : Blend) → Memᴰ B cs → Left N B C → Memᴰ C (leaves_of N cs)
    left_cut B C k l = left_leaves_of N cs (λ B k. rising B (among B k)) C (B, k, l)

    pub held_next : Held (keep_all places (leaves_of N cs)) (live w h N)
    held_next =
        held_all N sN places room (leaves_of N cs)
        (λ C k. let l = leaves_of_left N cs (λ B k. rising B (among B k)) C k in
        (next C).0 (left_leaves_of N (live w h M) rising C (l.0, among l.0 l.1, l.2)))
        (λ m n hm hn none.
        held m n hm hn ∙
        ascending_unique place (here M m n) (here N m n) (lone _ (here M m n) (here_distinct M m n) (alone M m n sM))
        (lone _ (here N m n) (here_distinct N m n) (alone N m n sN))
        (λ B k. let b = in_here M m n B k in
        ⊎_elim
        (λ c. let a = keeps_anchor N B (rising B b.0) in absurd (none a.0 (left_cut B a.0 c a.1) (rw (a.2, a.3, b.1, b.2))))
        (λ u. here_in N m n B ((next B).0 (left_leaves_of N (live w h M) rising B (B, b.0, left_itself u))) b.1 b.2)
        (others B b.0))
        (λ C k. let c = in_here N m n C k in
        let l = leaves_of_left N (live w h M) rising C ((next C).1 c.0) in
        ⊎_elim (λ j. absurd (none C (left_cut l.0 C j l.2) (rw (c.1, c.2))))
        (λ u. here_in M m n C (Memᴰ.cast (left_uncut u l.2) l.1) c.1 c.2)
        (others l.0 l.1)))

  -- the walk over them is the table
  module _ (M : Mesh) (s : sound w h (live w h M) ≡ true) (places : List ℕ) (held : Held places (live w h M)) where
    in_order : in_table_order w h (live w h M) ≡ in_table_order w h (once (leaves_of M (first_four w h)))
    in_order =
        same_table w h high (live w h M) (once (leaves_of M (first_four w h))) (live_distinct w h hw hh M) (once_distinct _) (live_proper w h hw hh M)
        (λ C. let l = live_leaves w h hw hh M C in (λ k. mem_once _ C (l.0 k), λ k. l.1 (once_mem _ C k)))
        (λ B C kB kC. own_anchors w h hw hh M s B C (order_mem w h (live w h M) B kB).0 (order_mem w h (live w h M) C kC).0)

    pub held_walk : walk w h places ≡ live w h M
    unfolding walk in_table_order refine live
    held_walk = each_same 1 (w + 1) _ _ (λ m lo hi. each_same 1 (h + 1) _ _ (λ n lo2 hi2. held m n (omega arith) (omega arith))) ∙ in_order

  -- Links past columns and rows without a line lead past places that are free, since anchors stand on lines.
  module _ (ss : List Split) (columns rows places : List ℕ) (room : Rows (w + 3) places) (held : Held places (live w h (mesh w h ss))) where
    free : (d : Direction) (m n : ℕ) → m < 131 → n < 131 → Bare (mesh w h ss) d (side d m n) → kept places m n ≡ []
    free d m n hm hn bare =
        held m n hm hn ∙
        nothing (here (mesh w h ss) m n)
        (λ C k.
        let on = (live_knots w h hw hh ss d C (in_here (mesh w h ss) m n C k).0).m in
        true_not_false _ on.1 (subst (Bare (mesh w h ss) d) (sym (stands d C k)) bare on.0))
      where
        stands : (d : Direction) (C : Blend) → Memᴰ C (here (mesh w h ss) m n) → (crossed d C).m ≡ side d m n
        stands upright C k = (in_here (mesh w h ss) m n C k).1
        stands level C k = (in_here (mesh w h ss) m n C k).2

    pub held_walks : Leads (Bare (mesh w h ss) upright) columns → Leads (Bare (mesh w h ss) level) rows → Walks w h columns rows places
    held_walks over_columns over_rows =
        record {
          wide = wide;
          high = high;
          tall = room;
          over_columns = record {
            long = over_columns.long;
            on = over_columns.on;
            past = λ k y hk lo hy hi n hn. free upright y n hy hn (over_columns.past k y hk lo hy hi);
          };
          over_rows = record {
            long = over_rows.long;
            on = over_rows.on;
            past = λ k y hk lo hy hi m hm. free level m y hm hy (over_rows.past k y hk lo hy hi);
          };
        }
