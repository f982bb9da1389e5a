-- The lines that contain a given one are all listed, each once, so the line that a split takes is the least candidate within its allowance.
use Prim.Native.Nat.{ℕ, ◌+◌, ◌-◌, ◌≤◌, ◌<◌}
use native.Mathlib.Omega.{arith}
use mathlib.Core.Path.{◌≡◌, refl, sym, subst, ◌∙◌}
use mathlib.Core.List.Memᴰ
use mathlib.Core.List.{List, [], ◌∷◌, Memᴰ}
use borrow.Author.Tests.{le-leb, leb-true}
use Rattle.axis.specs.Range.{each, only, least, Distinct}
use Rattle.axis.proofs.Tests.{only_mem, mem_only, each_mem, mem_each}
use Rattle.axis.proofs.Distinct.{only_distinct, each_distinct, singleton, nothing}
use Rattle.axis.proofs.Least.{least_says, least_of_lem, some_least}
use Rattle.mesh.specs.declared.Split.{Split}
use Rattle.mesh.specs.Lines.{Layout}
use Rattle.mesh.specs.Lengthening.{spanning, run, containing, Contains, adds, steps_of, candidate, within, chosen, Allowed, Least}

module _ (P : Layout) (s : Split) where
  -- the lines from a start on
  abbrev ends : ℕ → ℕ → List Split
  ends from to = spanning s from to ∷ []

  abbrev starts : ℕ → List Split
  starts from = each s.to (run P s + 1 - s.to) (ends from)

  -- a line that contains the given one differs from it in its ends alone,
  pub contains_spanning : (c : Split) → Contains P s c → c ≡ spanning s c.from c.to
  contains_spanning c i = rw (← i.same_way, ← i.same_place)

  -- so one that is no longer is the given one;
  pub contains_same : (c : Split) → Contains P s c → s.from ≤ s.to → steps_of c ≤ steps_of s → c ≡ s
  contains_same c i rises le =
      let from : c.from ≡ s.from = omega (arith, i.begins, i.ends) in
      let to : c.to ≡ s.to = omega (arith, i.begins, i.ends) in
      contains_spanning c i ∙ (λ k. spanning s (from k) (to k))

  -- every line of the list contains the given one, and every line that does is in it,
  pub containing_complete : (c : Split) → (Memᴰ c (containing P s) → Contains P s c) × (Contains P s c → Memᴰ c (containing P s))
  unfolding containing
  containing_complete c = (
    λ m.
        let f = each_mem 0 (s.from + 1) starts c m in
        let t = each_mem s.to (run P s + 1 - s.to) (ends f.0) c f.3 in
        let begins : f.0 < 0 + (s.from + 1) = f.2 in
        let within : t.0 < s.to + (run P s + 1 - s.to) = t.2 in
        rw (Memᴰ.eq_of_singleton t.3) (record { same_way = refl; same_place = refl; begins = omega arith; ends = t.1; within = omega arith }),
    λ i.
        mem_each 0 (s.from + 1) starts c c.from (omega arith) (omega (arith, i.begins))
        (mem_each s.to (run P s + 1 - s.to) (ends c.from) c c.to i.ends (omega (arith, i.ends, i.within))
        (Memᴰ.head (contains_spanning c i))),
  )

  -- once.
  containing_distinct : Distinct (containing P s)
  unfolding containing
  containing_distinct =
      each_distinct (λ c. c.from) 0 (s.from + 1) starts
      (λ from. each_distinct (λ c. c.to) s.to (run P s + 1 - s.to) (ends from) (λ to. (λ m. Memᴰ.not-nil m, tt))
      (λ to c m. rw (Memᴰ.eq_of_singleton m)))
      (λ from c m. rw (Memᴰ.eq_of_singleton (each_mem s.to (run P s + 1 - s.to) (ends from) c m).3))

  module _ (a : ℕ) where
    -- the candidates within the allowance, those of them that add the fewest and the shortest of these
    abbrev near : List Split
    near = only (within s a) (containing P s)

    abbrev close : List Split
    close = only (candidate P) near

    abbrev few : List Split
    few = least (adds P) close

    abbrev short : List Split
    short = least steps_of few

    is_allowed : (c : Split) → Memᴰ c close → Allowed P s a c
    is_allowed c m =
        let o = only_mem (candidate P) near c m in
        let n = only_mem (within s a) (containing P s) c o.0 in
        (((containing_complete c).0 n.0, o.1), leb-true _ _ n.1)

    allowed_listed : (c : Split) → Allowed P s a c → Memᴰ c close
    allowed_listed c i =
        mem_only (candidate P) near c (mem_only (within s a) (containing P s) c ((containing_complete c).1 i.0.0) (le-leb _ _ i.1)) i.0.1

    -- what the line taken is least of
    record Taken (c : Split) : Type 0 where
      there : Memᴰ c close
      among_few : Memᴰ c few
      among_short : Memᴰ c short
      fewest : (b : Split) → Memᴰ b close → adds P c ≤ adds P b
      shortest : (b : Split) → Memᴰ b few → steps_of c ≤ steps_of b
      lowest : (b : Split) → Memᴰ b short → c.from ≤ b.from

    taken_says : (c : Split) → Memᴰ c (chosen P s a) → Taken c
    unfolding chosen
    taken_says c m =
        let low = least_says (λ (b : Split). b.from) short c m in
        let brief = least_says steps_of few c low.0 in
        let scant = least_says (adds P) close c brief.0 in
        record { there = scant.0; among_few = brief.0; among_short = low.0; fewest = scant.1; shortest = brief.1; lowest = low.1 }

    as_few : (b c : Split) → Taken c → Allowed P s a b → adds P b ≡ adds P c → Memᴰ b few
    as_few b c t i e = least_of_lem (adds P) close b (allowed_listed b i) (λ x m. omega (arith, t.fewest x m))

    as_short : (b c : Split) → Taken c → Allowed P s a b → adds P b ≡ adds P c → steps_of b ≡ steps_of c → Memᴰ b short
    as_short b c t i e f = least_of_lem steps_of few b (as_few b c t i e) (λ x m. omega (arith, t.shortest x m))

    -- two lines taken have the same ends
    one_taken : s.from ≤ s.to → (b c : Split) → Memᴰ b (chosen P s a) → Memᴰ c (chosen P s a) → b ≡ c
    one_taken rises b c m n =
        let t = taken_says b m in
        let u = taken_says c n in
        let i = (is_allowed b t.there).0.0 in
        let j = (is_allowed c u.there).0.0 in
        let from : b.from ≡ c.from = omega (arith, t.lowest c u.among_short, u.lowest b t.among_short) in
        let to : b.to ≡ c.to = omega (arith, i.begins, i.ends, j.begins, j.ends, t.shortest c u.among_few, u.shortest b t.among_few) in
        contains_spanning b i ∙ (λ k. spanning s (from k) (to k)) ∙ sym (contains_spanning c j)

    chosen_distinct : Distinct (chosen P s a)
    unfolding chosen
    chosen_distinct =
        only_distinct _ short
        (only_distinct _ few (only_distinct _ close (only_distinct (candidate P) near (only_distinct (within s a) (containing P s) containing_distinct))))

    pub chosen_least : s.from ≤ s.to → Least P s a
    unfolding chosen
    chosen_least rises =
        record {
          taken = λ c m. is_allowed c (taken_says c m).there;
          fewest = λ b c m i. (taken_says c m).fewest b (allowed_listed b i);
          shortest = λ b c m i e. let t = taken_says c m in t.shortest b (as_few b c t i e);
          lowest = λ b c m i e f. let t = taken_says c m in t.lowest b (as_short b c t i e f);
          one = λ b i. let c = some b i in (c.0, singleton c.0 (chosen P s a) chosen_distinct (λ y m. one_taken rises y c.0 m c.1) c.1);
          none = (
            λ e b i. let c = some b i in Memᴰ.not-nil (subst (Memᴰ c.0) e c.1),
            λ f. nothing (chosen P s a) (λ c m. f c (is_allowed c (taken_says c m).there)),
          );
        }
      where
        some : (b : Split) → Allowed P s a b → (c : Split) × Memᴰ c (chosen P s a)
        some b i =
            let x = some_least (adds P) close b (allowed_listed b i) in
            let y = some_least steps_of few x.0 x.1 in
            some_least (λ (c : Split). c.from) short y.0 y.1
