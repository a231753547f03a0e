use Rattle.std.proofs.Common.{◌≡◌, ◌<◌, ap, sym, ◌∙◌, ◌++◌, length, not, take}
use Rattle.std.specs.Prelude.{◌==◌, if◌then◌else◌}
use Rattle.std.proofs.lemmas.Bool.{ltb-true}
use Rattle.std.proofs.lemmas.List.{get_or_read}
use Rattle.path_map.specs.declared.keeping.KeptForm.TheVariants.{Whole, Both, Changed}
use Rattle.path_map.specs.Exceptions.{is_one_of}
use Rattle.path_map.specs.Listed.{listed}
use Rattle.path_map.specs.RowLists.{changed, row_at}
use Rattle.path_map.proofs.Kept.{listed-has}
use Rattle.path_map.proofs.RowLists.{both-has, changed-list, either-first, either-second, row-form, row-past}
use Rattle.path_map.proofs.keeping.+looking.Goals as goal

pub returns-in_default : goal.returns-in_default
returns-in_default t c = sym (ap (λ list. is_one_of list c.args.exception) (row-past c.args.rows.now c.args.number c.in_default.ensures.lookup.3))

pub returns-in-Whole : goal.returns-in-Whole
returns-in-Whole t c =
    let rows = c.args.rows.now in
    let k = c.args.number in
    let row = c.in-Some.row.now in
    let inside : k < length rows = ltb-true k (length rows) (sym c.in-Some.ensures.lookup.0) in
    let set = c.in-Whole.set in
    let is : row_at rows k ≡ listed set = row-form rows k row (Whole set) inside (get_or_read rows k row inside c.in-Some.ensures.lookup.1 row) c.in-Whole.is in
    c.has.ensures ∙ (sym (listed-has set c.args.exception) ∙ ap (λ list. is_one_of list c.args.exception) (sym is))

pub returns-then-row_has : goal.returns-then-row_has
returns-then-row_has t c =
    let rows = c.args.rows.now in
    let k = c.args.number in
    let e = c.args.exception in
    let row = c.in-Some.row.now in
    let inside : k < length rows = ltb-true k (length rows) (sym c.in-Some.ensures.lookup.0) in
    let before = take k rows in
    let a = c.in-Both.one in
    let b = c.in-Both.other in
    let is : row_at rows k ≡ row_at before a ++ row_at before b =
    row-form rows k row (Both a b) inside (get_or_read rows k row inside c.in-Some.ensures.lookup.1 row) c.in-Both.is in
    either-first c.row_has.result (is_one_of (row_at before a) e) (is_one_of (row_at before b) e) (is_one_of (row_at rows k) e) c.if-row_has.true c.row_has.ensures
    (ap (λ list. is_one_of list e) is ∙ both-has (row_at before a) (row_at before b) e)

pub returns-else-row_has : goal.returns-else-row_has
returns-else-row_has t c =
    let rows = c.args.rows.now in
    let k = c.args.number in
    let e = c.args.exception in
    let row = c.in-Some.row.now in
    let inside : k < length rows = ltb-true k (length rows) (sym c.in-Some.ensures.lookup.0) in
    let before = take k rows in
    let a = c.in-Both.one in
    let b = c.in-Both.other in
    let is : row_at rows k ≡ row_at before a ++ row_at before b =
    row-form rows k row (Both a b) inside (get_or_read rows k row inside c.in-Some.ensures.lookup.1 row) c.in-Both.is in
    either-second c.row_has.result c.row_has-else-row_has.result (is_one_of (row_at before a) e) (is_one_of (row_at before b) e) (is_one_of (row_at rows k) e)
    c.if-row_has.false c.row_has.ensures c.row_has-else-row_has.ensures
    (ap (λ list. is_one_of list e) is ∙ both-has (row_at before a) (row_at before b) e)

pub returns-in-Changed : goal.returns-in-Changed
returns-in-Changed t c =
    let rows = c.args.rows.now in
    let k = c.args.number in
    let e = c.args.exception in
    let row = c.in-Some.row.now in
    let inside : k < length rows = ltb-true k (length rows) (sym c.in-Some.ensures.lookup.0) in
    let before = take k rows in
    let a = c.in-Changed.base in
    let n = c.in-Changed.changed in
    let is : row_at rows k ≡ changed n (row_at before a) =
    row-form rows k row (Changed a n) inside (get_or_read rows k row inside c.in-Some.ensures.lookup.1 row) c.in-Changed.is in
    c.has_changed.ensures
    ∙ (ap (λ there. if e == n then not there else there) c.row_has-in-Changed.ensures
    ∙ (sym (changed-list n (row_at before a) e) ∙ ap (λ list. is_one_of list e) (sym is)))
