-- `files::listing::list` meets its contract: no file, or the text of the map that is read, where the buffer holds it.
use Rattle.std.proofs.Common.{◌≡◌, ◌∙◌, sym, ap}
use borrow.Author.Tests.{leb-true}
use Rattle.std.proofs.lemmas.Result.{err_from_is_err_and}
use Rattle.mesh.proofs.Refused.{refuses}
use Rattle.maps.specs.Outcomes.{Changed}
use Rattle.maps.proofs.Changing.{GoodMap, open_map}
use Rattle.files.specs.Calls.{read_file}
use Rattle.files.proofs.TableText.{lists_refusal, lists_text, text_short, text_put}
use Rattle.files.proofs.listing.list.Goals.{In_ok-o}
use Rattle.files.proofs.listing.list.Goals as goal

-- the map that is read, with its number, which is 0
is_map : (c : In_ok-o) → c.in_ok-o.o.map ≡ (read_file c.args.bytes.now).map
is_map c = ap (λ (x : Changed). x.map) c.in_ok-o.ensures

good_self : (c : In_ok-o) → GoodMap c.in_ok-o.o.map c.in_ok-o.o.table
good_self c = open_map c.in_ok-o.o

pub returns-in_err-o : goal.returns-in_err-o
returns-in_err-o c =
    let p = err_from_is_err_and c.from_residual.result c.from_residual.ensures.1 in
    let n = ap (λ (x : Changed). x.number) c.in_err-o.ensures in
    rw (p.1, p.2, n) (lists_refusal c.args.bytes.now c.args.out.now (λ z. refuses _ (n ∙ z)))

pub returns-then-not-fits : goal.returns-then-not-fits
returns-then-not-fits c =
    let s = (goal.at.returns-then-not-fits c).In_ok-o in
    let z = sym (ap (λ (x : Changed). x.number) c.in_ok-o.ensures) in
    rw (is_map s, lists_text c.args.bytes.now c.args.out.now z) at
    (text_short (good_self s) c.args.out.now (sym c.fits.ensures ∙ c.if-not-fits.true))

pub put_table-requires : goal.put_table-requires
put_table-requires c = leb-true _ _ (sym c.fits.ensures ∙ c.if-not-fits.false)

pub returns : goal.returns
returns c =
    let s = (goal.at.returns c).In_ok-o in
    let z = sym (ap (λ (x : Changed). x.number) c.in_ok-o.ensures) in
    rw (is_map s, lists_text c.args.bytes.now c.args.out.now z) at
    (text_put (good_self s) c.args.out.now (sym c.fits.ensures ∙ c.if-not-fits.false) c.put_table.ensures)
