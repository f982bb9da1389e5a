-- What a store, a line and a split do to the steps of a mesh in bytes.
use Prim.Native.Nat.{ℕ, ◌+◌, ◌-◌, ◌≤◌, ◌<◌, max}
use native.Mathlib.Omega.{arith}
use mathlib.Core.Path.{◌≡◌, refl, sym, ap, ◌∙◌}
use mathlib.Core.Logic.{⊎_elim}
use mathlib.Core.Bool.{Bool, true, false, ◌&&◌, ◌||◌, or-false, or_assoc, and-true, and-false, and-or_distrib_right}
use mathlib.Core.List.{List, [], ◌∷◌, ◌++◌}
use borrow.Author.Tests.{ltb-true, leb-true, eqb-true, eqb-false, lt-ltb, le-ltb, le-leb, eq-eqb, ne_eqb}
use lib.Dec.{eqb, ltb, leb, leb-zero}
use lib.ListN.{length, get_or, set, take, drop, replicate, length-set, length-take, length-replicate, get_or-append}
use lib.Seq.{get_or-take, get_or-append_right, get_or-set_same, get_or-set_other}
use Rattle.std.proofs.lemmas.List.{length-append, length-drop, get_or-drop, get_or-replicate}
use Rattle.axis.specs.Range.{any}
use Rattle.mesh.specs.Lines.{number, other, side, start, end, draws, fresh_mesh}
use Rattle.mesh.specs.declared.Direction.{Direction}
use Rattle.mesh.specs.Bytes.{Rows, Zeros, step_on, Drawn}
use Rattle.mesh.specs.Blends.{at}
use Rattle.mesh.specs.declared.Split.{Split}
use Rattle.axis.proofs.Tests.{any_append, either, same_test, and_both, and_of, or_either, or_left, or_right, true_not_false}
use Rattle.axis.proofs.Runs.{if_below}
use Rattle.mesh.proofs.Bytes.{step_on_lem, zeros}

-- two tests after the same two, equal where those hold
guarded : (a b c d : Bool) → (a ≡ true → b ≡ true → c ≡ d) → (a && b && c) ≡ (a && b && d)
guarded true true c d f = f refl refl
guarded true false c d f = refl
guarded false b c d f = refl

-- a step whose byte is the same in two tables, where it has one, is the same
step_same : (before after : List ℕ) (y j : ℕ) →
    (y < 131 → j < 131 → get_or after (at y j) 0 ≡ get_or before (at y j) 0) → step_on after y j ≡ step_on before y j
unfolding step_on
step_same before after y j same =
    guarded (ltb y 131) (ltb j 131) _ _ (λ p q. rw (same (ltb-true y 131 p) (ltb-true j 131 q)))

-- Places of the table are one-to-one, so a store at one switches on its own step and no other.
pub step_set : (bytes : List ℕ) (z k : ℕ) → Rows (z + 1) bytes → z < 131 → k < 131 → (y j : ℕ) →
    step_on (set bytes (at z k) 1) y j ≡ (step_on bytes y j || (eqb y z && eqb j k))
step_set bytes z k room hz hk y j =
    ⊎_elim
    (λ e. here e ∙ sym (or_right (step_on bytes y j) _ e))
    (λ e. elsewhere e ∙ sym (rw e (or-false (step_on bytes y j))))
    (either (eqb y z && eqb j k))
  where
    here : (eqb y z && eqb j k) ≡ true → step_on (set bytes (at z k) 1) y j ≡ true
    here e =
        let p = and_both (eqb y z) (eqb j k) e in
        let one : get_or (set bytes (at z k) 1) (at z k) 0 ≡ 1 = get_or-set_same bytes (at z k) 1 0 (omega arith) in
        rw (eqb-true y z p.0, eqb-true j k p.1)
        (step_on_lem (set bytes (at z k) 1) z k hz hk (λ q. omega arith))

    elsewhere : (eqb y z && eqb j k) ≡ false → step_on (set bytes (at z k) 1) y j ≡ step_on bytes y j
    elsewhere e =
        let apart : y < 131 → j < 131 → at y j ≡ at z k → ⊥ =
        λ hy hj q. true_not_false _ (and_of _ _ (eq-eqb y z (omega arith)) (eq-eqb j k (omega arith))) e in
        step_same bytes (set bytes (at z k) 1) y j (λ hy hj. get_or-set_other bytes (at z k) (at y j) 1 0 (apart hy hj))

-- a line from a knot to itself has no step
pub drawn_none : (bytes : List ℕ) (z from : ℕ) → Drawn bytes bytes z from from
drawn_none bytes z from =
    record {
      long = refl;
      on = λ y j. sym (ap (λ (b : Bool). step_on bytes y j || b) (none y j) ∙ or-false (step_on bytes y j));
    }
  where
    none : (y j : ℕ) → (eqb y z && leb from j && ltb j from) ≡ false
    none y j =
        guarded (eqb y z) (leb from j) (ltb j from) false (λ p q. le-ltb j from (leb-true from j q)) ∙
        and-false (eqb y z && leb from j)

-- a line drawn as far as knot k, and the step from k besides
pub drawn_more : {before after : List ℕ} {z from k : ℕ} → Drawn before after z from k → from ≤ k → z < 131 → k < 131 → Rows (z + 1) before →
    Drawn before (set after (at z k) 1) z from (k + 1)
drawn_more {before} {after} {z} {from} {k} d hf hz hk room =
    record {
      long = rw length-set d.long;
      on = λ y j.
          rw (step_set after z k (rw d.long room) hz hk y j, d.on y j, or_assoc, spread _ _ _ _ (past j), next j);
    }
  where
    past : (j : ℕ) → eqb j k ≡ true → leb from j ≡ true
    past j e = let q = eqb-true j k e in le-leb from j (omega arith)

    next : (j : ℕ) → ltb j (k + 1) ≡ (ltb j k || eqb j k)
    next j =
        same_test _ _
        (λ e. let lt = ltb-true j (k + 1) e in
        ⊎_elim
        (λ q. or_right (ltb j k) (eqb j k) q)
        (λ q. let ne = eqb-false j k q in or_left (ltb j k) (eqb j k) (lt-ltb j k (omega arith)))
        (either (eqb j k)))
        (λ e. lt-ltb j (k + 1)
        (⊎_elim (λ q. omega (arith, ltb-true j k q)) (λ q. omega (arith, eqb-true j k q)) (or_either (ltb j k) (eqb j k) e)))

    spread : (a b c e : Bool) → (e ≡ true → b ≡ true) → (a && b && c || a && e) ≡ (a && b && (c || e))
    spread true true c e f = refl
    spread true false c true f = sym (f refl)
    spread true false c false f = refl
    spread false b c e f = refl

-- A line drawn as far as knot k is drawn as far as `to`, where k is the first knot from `from` on that is not below `to`.
pub drawn_until : {before after : List ℕ} {z from k to : ℕ} → Drawn before after z from k → to ≤ k → k ≤ max from to →
    Drawn before after z from to
drawn_until {before} {after} {z} {from} {k} {to} d lo hi =
    record {
      long = d.long;
      on = λ y j. d.on y j ∙ ap (λ (b : Bool). step_on before y j || b)
          (guarded (eqb y z) (leb from j) (ltb j k) (ltb j to) (λ p q. below j (leb-true from j q)));
    }
  where
    below : (j : ℕ) → from ≤ j → ltb j k ≡ ltb j to
    below j le =
        same_test _ _
        (λ e. let lt = ltb-true j k e in lt-ltb j to (omega arith))
        (λ e. let lt = ltb-true j to e in lt-ltb j k (omega arith))

-- A list of which n entries from the a-th on were set: as it was below and past these.
abbrev pub filled : List ℕ → ℕ → ℕ → ℕ → List ℕ
filled xs a n v = take a xs ++ (replicate n v ++ drop n (drop a xs))

module _ (xs : List ℕ) (a n v : ℕ) (room : a + n ≤ length xs) where
  before_it : length (take a xs) ≡ a
  before_it = omega (arith, length-take a xs)

  run_long : length (replicate n v) ≡ n
  run_long = length-replicate n v

  filled_long : length (filled xs a n v) ≡ length xs
  filled_long =
      let rest = drop n (drop a xs) in
      length-append (take a xs) (replicate n v ++ rest) ∙
      omega (arith, before_it, length-append (replicate n v) rest, run_long, length-drop n (drop a xs), length-drop a xs)

  filled_below : (i : ℕ) → i < a → get_or (filled xs a n v) i 0 ≡ get_or xs i 0
  filled_below i lt = get_or-append (take a xs) _ 0 i (omega (arith, before_it)) ∙ get_or-take a xs i 0 lt

  filled_in : (i : ℕ) → a ≤ i → i < a + n → get_or (filled xs a n v) i 0 ≡ v
  filled_in i lo hi =
      get_or-append_right (take a xs) _ i 0 (omega (arith, before_it)) ∙
      get_or-append (replicate n v) _ 0 _ (omega (arith, before_it, run_long)) ∙ get_or-replicate n _ v 0 (omega (arith, before_it))

  filled_past : (i : ℕ) → a + n ≤ i → get_or (filled xs a n v) i 0 ≡ get_or xs i 0
  filled_past i le =
      let there : a + (n + (i - length (take a xs) - length (replicate n v))) ≡ i = omega (arith, before_it, run_long) in
      get_or-append_right (take a xs) _ i 0 (omega (arith, before_it)) ∙
      get_or-append_right (replicate n v) _ _ 0 (omega (arith, before_it, run_long)) ∙
      get_or-drop n (drop a xs) _ 0 ∙ get_or-drop a xs _ 0 ∙ ap (λ j. get_or xs j 0) there

-- Places of the table are one-to-one, so a run of them that is set switches on its own steps and no other.
pub run_drawn : (bytes run : List ℕ) (z from to : ℕ) → Rows (z + 1) bytes → z < 131 → from ≤ to → to ≤ 131 →
    run ≡ replicate (at z to - at z from) 1 →
    Drawn bytes (take (at z from) bytes ++ (run ++ drop (at z to - at z from) (drop (at z from) bytes))) z from to
run_drawn bytes run z from to rows hz le ht e = rw e (record { long = filled_long bytes (at z from) n 1 room; on = on })
  where
    n : ℕ
    n = at z to - at z from

    room : at z from + n ≤ length bytes
    room = omega arith

    set : List ℕ
    set = filled bytes (at z from) n 1

    on : (y j : ℕ) → step_on set y j ≡ (step_on bytes y j || (eqb y z && leb from j && ltb j to))
    on y j =
        ⊎_elim
        (λ t. here t ∙ sym (or_right (step_on bytes y j) _ t))
        (λ t. elsewhere t ∙ sym (rw t (or-false (step_on bytes y j))))
        (either (eqb y z && leb from j && ltb j to))
      where
        here : (eqb y z && leb from j && ltb j to) ≡ true → step_on set y j ≡ true
        here t =
            let p = and_both (eqb y z && leb from j) (ltb j to) t in
            let q = and_both (eqb y z) (leb from j) p.0 in
            let lo = leb-true from j q.1 in
            let hi = ltb-true j to p.1 in
            rw (eqb-true y z q.0) (step_on_lem set z j hz (omega arith) (λ k. omega (arith, filled_in bytes (at z from) n 1 room (at z j) (omega arith) (omega arith), k)))

        elsewhere : (eqb y z && leb from j && ltb j to) ≡ false → step_on set y j ≡ step_on bytes y j
        elsewhere t =
            step_same bytes set y j (λ hy hj.
            if_below (at y j) (at z from) (λ lt. filled_below bytes (at z from) n 1 room (at y j) lt)
            (λ lo. if_below (at y j) (at z to)
            (λ hi. absurd (true_not_false _ (and_of _ _ (and_of _ _ (eq-eqb y z (omega arith)) (le-leb from j (omega arith))) (lt-ltb j to (omega arith))) t))
            (λ past. filled_past bytes (at z from) n 1 room (at y j) (omega arith))))

-- bytes that are all 0 have no step on
off : (bytes : List ℕ) → Zeros bytes → (y k : ℕ) → step_on bytes y k ≡ false
unfolding step_on
off bytes none y k =
    let zero : get_or bytes (at y k) 0 ≡ 0 = ap (λ (xs : List ℕ). get_or xs (at y k) 0) none ∙ zeros (length bytes) (at y k) in
    rw zero (and-false (ltb y 131 && ltb k 131))

-- lines from the first knot to one knot, at some positions over no steps
pub record AllDrawn (bytes : List ℕ) (n : ℕ) (zs : List ℕ) (to : ℕ) : Type 0 where
  pub long : length bytes ≡ n
  pub on : (y k : ℕ) → step_on bytes y k ≡ (any (eqb y) zs && ltb k to)

pub all_none : {bytes : List ℕ} {to : ℕ} → Zeros bytes → AllDrawn bytes (length bytes) [] to
all_none {bytes} none = record { long = refl; on = off bytes none }

pub all_more : {before after : List ℕ} {n : ℕ} {zs : List ℕ} {to z : ℕ} → AllDrawn before n zs to → Drawn before after z 0 to →
    AllDrawn after n (zs ++ z ∷ []) to
all_more {zs = zs} {to = to} {z = z} a d =
    record {
      long = d.long ∙ a.long;
      on = λ y k.
          rw (d.on y k, a.on y k, leb-zero k, any_append (eqb y) zs (z ∷ []), or-false (eqb y z))
          (simp (and-true, and-or_distrib_right));
    }

-- a fresh map's lines
pub all_fresh : {bytes : List ℕ} {n crossed run : ℕ} → AllDrawn bytes n (0 ∷ 1 ∷ (crossed + 1) ∷ (crossed + 2) ∷ []) (run + 2) →
    (d : Direction) (w h : ℕ) → side d w h ≡ crossed → side (other d) w h ≡ run → (y k : ℕ) → step_on bytes y k ≡ fresh_mesh w h d y k
unfolding fresh_mesh
all_fresh {bytes} {n} {crossed} {run} a d w h across along y k = a.on y k ∙ rw (across, along, or-false (eqb y (crossed + 2))) (simp (or_assoc))

-- four lines over no steps, as a fresh map has them
pub fresh_drawn : {b₀ b₁ b₂ b₃ b₄ : List ℕ} {p q r s to : ℕ} → Zeros b₀ →
    Drawn b₀ b₁ p 0 to → Drawn b₁ b₂ q 0 to → Drawn b₂ b₃ r 0 to → Drawn b₃ b₄ s 0 to →
    (y k : ℕ) → step_on b₄ y k ≡ ((eqb y p || eqb y q || eqb y r || eqb y s) && ltb k to)
fresh_drawn {b₀} none d₁ d₂ d₃ d₄ y k =
    rw (d₄.on y k, d₃.on y k, d₂.on y k, d₁.on y k, off b₀ none y k, leb-zero k)
    (simp (and-true, and-or_distrib_right))

-- A split's line, from its first knot to its last, is what the split draws; a split of the other direction draws nothing.
module _ (s : Split) (d : Direction) (w h : ℕ) where
  pub split_drawn : {before after : List ℕ} {z from to : ℕ} (run : ℕ) → Drawn before after z from to →
      s.direction ≡ number d → z ≡ s.position + 1 → from ≡ start s → to ≡ end run s → side (other d) w h ≡ run →
      (y k : ℕ) → step_on after y k ≡ (step_on before y k || draws w h d y k s)
  unfolding draws
  split_drawn run drawn e ez ef et er y k = rw (drawn.on y k, eq-eqb _ _ e, ez, ef, et, er)

  pub split_passed : (bytes : List ℕ) → (s.direction ≡ number d → ⊥) →
      (y k : ℕ) → step_on bytes y k ≡ (step_on bytes y k || draws w h d y k s)
  unfolding draws
  split_passed bytes ne y k = sym (rw (ne_eqb _ _ ne) (or-false (step_on bytes y k)))

-- what an array of splits reads as past its end
abbrev pub blank : Split
blank = record { direction = 0; position = 0; from = 0; to = 0 }
