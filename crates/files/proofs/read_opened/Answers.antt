-- `files::read_opened` meets its contract: the file of the map that the bytes tell, in their form, is compared with them.
use Rattle.std.proofs.Common.{arith, ◌≡◌, ◌∙◌, List, ℕ, Some, eqb, sym, ap}
use Rattle.std.proofs.lemmas.Option.{MatchOption-at_some}
use Rattle.axis.specs.Range.{agree}
use Rattle.maps.specs.Record.{record_of, plain}
use Rattle.maps.proofs.Changing.{opened_ok, opened_err}
use Rattle.files.specs.File.{file_in, is_old, guessed}
use Rattle.files.proofs.Reading.{not_opened, not_same, all_same}
use Rattle.files.proofs.read_opened.Goals.{After-map-map, After-is_file}
use Rattle.files.proofs.read_opened.Goals as goal

-- the bytes whose places were found
same : (c : After-map-map) → c.in_ok-places.places.bytes.now ≡ c.args.bytes.now
same c = let some : c.of.result ≡ Some c.in_ok-places.places = grind arith in MatchOption-at_some _ _ _ some c.of.ensures

told : (c : After-map-map) → c.map-map.result ≡ record_of (guessed c.args.bytes.now)
told c = c.map-map.ensures ∙ ap (λ (bytes : List ℕ). record_of (guessed bytes)) (same c)

pub returns-in_default : goal.returns-in_default
returns-in_default c =
    let s = (goal.at.returns-in_default c).After-map-map in
    sym (not_opened c.args.bytes.now c.map-map.result (told s) (opened_err _ _ c.in_default.ensures).0)

-- the file that was compared is that of the map that was taken, in the form of the bytes
compared : (c : After-is_file) → let bytes = c.args.bytes.now in c.is_file.result ≡ agree eqb bytes (file_in (is_old bytes) (plain c.map-map.result))
compared c =
    let form = c.in_ok-places.places.stand.is_form ∙ ap is_old (same (goal.at.After-is_file c).After-map-map) in
    rw ((opened_ok _ c.in-Ok.opened c.in-Ok.ensures).1, form) at c.is_file.ensures

pub returns-then-not-is_file : goal.returns-then-not-is_file
returns-then-not-is_file c =
    let p = goal.at.returns-then-not-is_file c in
    sym (not_same c.args.bytes.now c.map-map.result (told p.After-map-map) (sym (compared p.After-is_file) ∙ c.if-not-is_file.true))

pub returns : goal.returns
returns c =
    let p = goal.at.returns c in
    let is = opened_ok _ c.in-Ok.opened c.in-Ok.ensures in
    rw is.1 (all_same c.args.bytes.now c.map-map.result (told p.After-map-map) is.0 (sym (compared p.After-is_file) ∙ c.if-not-is_file.false))
