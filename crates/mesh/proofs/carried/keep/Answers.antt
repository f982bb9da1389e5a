-- `mesh::carried::keep` meets its contract.
use Rattle.std.proofs.Common.{◌+◌, ◌≡◌, ◌∷◌, get_or, drop, add-one, drop-cons}
use mathlib.Core.List.{Memᴰ}
use lib.ListN.{drop_of_length-le}
use Rattle.axis.proofs.Members.{entry}
use Rattle.mesh.specs.Sound.{none}
use Rattle.mesh.specs.Bytes.{keep_all}
use Rattle.mesh.proofs.carried.keep.Goals as goal

pub keep_blend-requires : goal.keep_blend-requires
keep_blend-requires c =
    let there : Memᴰ (get_or c.args.blends.now c.loop-x.x-index none) c.args.blends.now = entry c.args.blends.now c.loop-x.x-index none c.loop-x-test.true in
    (rw c.loop-x.auto.places (c.requires.1 _ there), c.requires.0 _ there)

pub loop-x-preserved : goal.loop-x-preserved
unfolding keep_all
loop-x-preserved c =
    let blends = c.args.blends.now in
    let i = c.loop-x.x-index in
    let turn : drop i blends ≡ get_or blends i none ∷ drop (i + 1) blends = rw add-one (drop-cons blends i none c.loop-x-test.true) in
    rw c.keep_blend.ensures (rw turn at c.loop-x.invariant)

pub returns : goal.returns
unfolding keep_all
returns c = rw (drop_of_length-le c.args.blends.now {i = c.loop-x.x-index} c.loop-x-test.false) at c.loop-x.invariant
