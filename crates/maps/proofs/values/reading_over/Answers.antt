-- `maps::values::reading_over` meets its contract: the four parts are added one after the other.
use Rattle.std.proofs.Common.{arith, ◌≡◌, ◌+◌, ◌-◌, ◌*◌, ◌/◌, ◌<◌, ◌≤◌, ℕ, zero, suc, ◌∷◌, sym, ap, ap₂, ◌∙◌, get_or}
use Rattle.std.proofs.Math.Nat.{mul-add-div_right}
use lib.ListN.{drop}
use lib.Seq.{drop-cons}
use Rattle.axis.specs.Fraction.{plus, total}
use Rattle.axis.proofs.Members.{entry}
use Rattle.mesh.specs.Sound.{none}
use Rattle.maps.specs.declared.values.Entry.{Entry}
use Rattle.maps.specs.declared.values.Sum.{Sum}
use Rattle.maps.specs.declared.Weight.{Weight}
use Rattle.maps.specs.Rounding.{rounded}
use Rattle.maps.specs.Inner.{Listed, SumOf, product, portions, fraction_of}
use Rattle.maps.proofs.values.reading_over.Goals as goal
use Rattle.maps.proofs.values.reading_over.Goals.{In-loop-k, After-loop-k}

-- a sum of at most three parts is one of three, to which a fourth may be added
wider : (n : ℕ) (s : Sum) → n ≤ 3 → SumOf n s → SumOf 3 s
wider zero s le sum = record { positive = sum.positive; low = omega (arith, sum.low); rest = omega (arith, sum.rest); most = omega (arith, sum.most) }
wider (suc zero) s le sum = record { positive = sum.positive; low = omega (arith, sum.low); rest = omega (arith, sum.rest); most = omega (arith, sum.most) }
wider (suc (suc zero)) s le sum =
    record { positive = sum.positive; low = omega (arith, sum.low); rest = omega (arith, sum.rest); most = omega (arith, sum.most) }
wider (suc (suc (suc zero))) s le sum = sum
wider (suc (suc (suc (suc n)))) s le sum = absurd (omega arith)

-- the entry of a turn
abbrev this : In-loop-k → Entry
this c = get_or c.args.four.now (c.loop-k.k - 1) (record { blend = none; place = 0 })

listed : (c : In-loop-k) → Listed (this c)
listed c = c.requires.1 (this c) (entry c.args.four.now (c.loop-k.k - 1) _ (omega arith))

turn : (c : In-loop-k) → drop (c.loop-k.k - 1) c.args.four.now ≡ this c ∷ drop c.loop-k.k c.args.four.now
turn c =
    let on : suc (c.loop-k.k - 1) ≡ c.loop-k.k = omega arith in
    rw on at (drop-cons c.args.four.now (c.loop-k.k - 1) (record { blend = none; place = 0 }) (omega arith))

pub weight_at-weight-requires : goal.weight_at-weight-requires
weight_at-weight-requires c =
    ((listed (goal.at.weight_at-weight-requires c).In-loop-k).is_proper, omega arith, omega arith, omega arith, omega arith)

pub offset_bounds-values-entry : goal.offset_bounds-values-entry
offset_bounds-values-entry c = let l = listed (goal.at.offset_bounds-values-entry c).In-loop-k in omega (arith, l.inside)

pub bounds-values-entry : goal.bounds-values-entry
bounds-values-entry c = let l = listed (goal.at.bounds-values-entry c).In-loop-k in omega (arith, l.inside)

pub plus-sum-requires : goal.plus-sum-requires
plus-sum-requires c = (wider _ _ (omega arith) c.loop-k.invariant.0, c.weight_at-weight.ensures.1)

pub loop-k-preserved : goal.loop-k-preserved
loop-k-preserved c =
    let t = (goal.at.loop-k-preserved c).In-loop-k in
    let a = c.args in
    let more : 4 - c.loop-k.k + 1 ≡ 4 - (c.loop-k.k - 1) = omega arith in
    let part = ap (λ (w : Weight). product w (get_or a.values.now (this t).place 0)) c.weight_at-weight.ensures.0 in
    (rw more at (c.plus-sum.ensures.1 _ c.loop-k.invariant.0), rw (turn t) (c.plus-sum.ensures.0 ∙ ap₂ plus part c.loop-k.invariant.1))

-- at the end the sum is that of all four
whole : (c : After-loop-k) → let a = c.args in
    SumOf 4 c.loop-k.sum × (fraction_of c.loop-k.sum ≡ total (portions a.x a.y a.u a.v a.values.now a.four.now))
whole c = let z : c.loop-k.k ≡ 0 = omega (arith, c.loop-k-test.false) in rw z at c.loop-k.invariant

pub returns : goal.returns
returns c =
    let a = c.args in
    let s = c.loop-k.sum in
    let l = whole (goal.at.returns c).After-loop-k in
    let twice : 0 < 2 * s.bottom = omega (arith, l.0.positive) in
    let halved : 2 * (s.whole * s.bottom + s.top) + s.bottom ≡ s.whole * (2 * s.bottom) + (2 * s.top + s.bottom) = omega arith in
    sym (ap (λ (n : ℕ). n / (2 * s.bottom)) halved ∙ mul-add-div_right twice s.whole (2 * s.top + s.bottom)) ∙ ap rounded l.1
