-- Who goes on with an opened map keeps one: a fresh map is good and has its table, and so is what a change of an opened map leaves.
use Prim.Native.Nat.{ℕ, zero, suc}
use native.Mathlib.Omega.{arith}
use mathlib.Core.Path.{◌≡◌, refl}
use mathlib.Core.Logic.{⊎_elim}
use mathlib.Core.Bool.{true, ◌&&◌}
use lib.ListN.{get_or, replicate}
use Rattle.axis.proofs.Tests.{either, and_both}
use Rattle.mesh.specs.declared.Split.{Split}
use Rattle.mesh.specs.declared.Table.{Table}
use Rattle.mesh.specs.Lines.{allowed_side}
use Rattle.mesh.specs.Sound.{fresh_table}
use Rattle.mesh.proofs.Fresh.{fresh_live}
use Rattle.mesh.proofs.Accepted.{replays_sides}
use Rattle.maps.specs.declared.Map.{Map}
use Rattle.maps.specs.Plain.{fresh_plain}
use Rattle.maps.specs.Record.{lines_of, record_of, good, Held}
use Rattle.maps.specs.Calls.{fresh_map, set_value, split_within}
use Rattle.maps.specs.Opened.{table_of, IsTable}
use Rattle.maps.proofs.Opening.{good_table}
use Rattle.maps.proofs.GoodRecords.{record_good, fresh_holds}
use Rattle.maps.proofs.Changing.{GoodMap, set_good, split_good}

pub good_opens : {m : Map} → good m ≡ true → IsTable m (table_of m)
good_opens y = record { is_good = y; is_table = refl }

-- a map without splits has the table of the first four blends, and its arrays are full of zeros
pub blank_opens : (w h : ℕ) → allowed_side w ≡ true → allowed_side h ≡ true → IsTable (record_of (fresh_plain w h)) (fresh_table w h)
unfolding fresh_plain fresh_table
blank_opens w h a b =
    let p = fresh_holds w h a b in
    let s = replays_sides p.taken in
    let r = record_good p in
    record { is_good = r.0; is_table = rw (good_table _ r.0, r.1, a, b, fresh_live w h s.0 s.2 s.3) }

zeros : (n i : ℕ) → get_or (replicate {A = ℕ} n 0) i 0 ≡ 0
zeros zero i = refl
zeros (suc n) zero = refl
zeros (suc n) (suc i) = zeros n i

pub blank_held : (w h : ℕ) → Held (record_of (fresh_plain w h))
unfolding record_of lines_of fresh_plain
blank_held w h = record { full = record { splits = refl; values = refl; marks = refl }; small = λ i. omega (arith, zeros 1024 i) }

-- a fresh map is good, on a refusal too
pub fresh_good : (w h : ℕ) → good (fresh_map w h).map ≡ true
unfolding fresh_map
fresh_good w h =
    ⊎_elim (λ t. let b = and_both (allowed_side w) (allowed_side h) t in rw t (record_good (fresh_holds w h b.0 b.1)).0)
    (λ f. rw f (record_good (fresh_holds 1 1 refl refl)).0) (either (allowed_side w && allowed_side h))

pub fresh_opens : (w h : ℕ) → IsTable (fresh_map w h).map (table_of (fresh_map w h).map)
fresh_opens w h = good_opens (fresh_good w h)

module _ {m : Map} {t : Table} (g : GoodMap m t) where
  pub set_opens : (i j v : ℕ) → IsTable (set_value m i j v).map (table_of (set_value m i j v).map)
  set_opens i j v = good_opens (set_good g i j v)

  pub split_opens : (s : Split) (a : ℕ) → IsTable (split_within m s a).map (table_of (split_within m s a).map)
  split_opens s a = good_opens (split_good g s a)
