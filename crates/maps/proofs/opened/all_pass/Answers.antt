-- `maps::opened::all_pass` meets its contract.
use Rattle.std.proofs.Common.{arith, ◌≡◌, ◌∙◌, ◌&&◌, ℕ, length, take, refl, sym, ap, ap₂}
use lib.Seq.{take-length}
use Rattle.std.proofs.lemmas.List.Folds.{list_all_more}
use Rattle.std.specs.List.{list_all}
use Rattle.maps.proofs.opened.all_pass.Goals as goal

pub loop-number-init : goal.loop-number-init
loop-number-init g c test says = refl

pub loop-number-preserved : goal.loop-number-preserved
loop-number-preserved g c test says =
    ap₂ ◌&&◌ (c.loop-number.invariant test says) (says _ _ c.passes-all.ensures ∙ ap test c.number-item.is) ∙
    sym (list_all_more test c.args.numbers.now c.loop-number.number-index c.number-item.result c.loop-number-test.true)

pub returns : goal.returns
returns g c test says =
    let all_passed : c.loop-number.number-index ≡ length c.args.numbers.now = omega arith in
    c.loop-number.invariant test says ∙
    ap (list_all test) (ap (λ (n : ℕ). take n c.args.numbers.now) all_passed ∙ take-length c.args.numbers.now)
