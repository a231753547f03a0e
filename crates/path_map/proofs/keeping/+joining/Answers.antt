use Rattle.std.proofs.Common.{◌≡◌, ◌<◌, ◌++◌, sym, length, take, Option}
use Rattle.std.proofs.lemmas.Bool.{ltb-true}
use Rattle.std.proofs.lemmas.List.{get_or_read}
use Rattle.std.proofs.lemmas.Result.{IfOk-weaker}
use Rattle.path_map.specs.declared.keeping.KeptForm.TheVariants.{Whole, Both, Changed}
use Rattle.path_map.specs.declared.members.ExceptionSet.{ExceptionSet}
use Rattle.path_map.specs.Listed.{listed}
use Rattle.path_map.specs.RowLists.{MayBeBoth, MayBeChanged, MayBeRow, changed, row_at}
use Rattle.path_map.specs.Sets.{MayBeCopy}
use Rattle.path_map.proofs.RowLists.{both-row, changed-row, copied-row, row-form}
use Rattle.path_map.proofs.keeping.+joining.Goals as goal

pub returns-in-Whole : goal.returns-in-Whole
returns-in-Whole t c =
    let rows = c.args.rows.now in
    let k = c.args.number in
    let row = c.in-Some.row.now in
    let inside : k < length rows = ltb-true k (length rows) (sym c.in-Some.ensures.lookup.0) in
    let set = c.in-Whole.set in
    let is : row_at rows k ≡ listed set = row-form rows k row (Whole set) inside (get_or_read rows k row inside c.in-Some.ensures.lookup.1 row) c.in-Whole.is in
    IfOk-weaker c.copy.result (MayBeCopy set c.args.bound) (MayBeRow rows k c.args.bound)
    (λ (found : Option ExceptionSet). copied-row rows k c.args.bound set found is) c.copy.ensures

pub returns-in_ok-other-in-Both : goal.returns-in_ok-other-in-Both
returns-in_ok-other-in-Both t c =
    let rows = c.args.rows.now in
    let k = c.args.number in
    let row = c.in-Some.row.now in
    let inside : k < length rows = ltb-true k (length rows) (sym c.in-Some.ensures.lookup.0) in
    let a = c.in-Both.one in
    let b = c.in-Both.other in
    let one = c.in_ok-one-in-Both.one in
    let other = c.in_ok-other-in-Both.other in
    let is : row_at rows k ≡ row_at (take k rows) a ++ row_at (take k rows) b =
    row-form rows k row (Both a b) inside (get_or_read rows k row inside c.in-Some.ensures.lookup.1 row) c.in-Both.is in
    IfOk-weaker c.both.result (MayBeBoth one other) (MayBeRow rows k c.args.bound)
    (λ (found : Option ExceptionSet). both-row rows (take k rows) k a b c.args.bound one other found is c.in_ok-one-in-Both.ensures c.in_ok-other-in-Both.ensures) c.both.ensures

pub returns-in_ok-base-in-Changed : goal.returns-in_ok-base-in-Changed
returns-in_ok-base-in-Changed t c =
    let rows = c.args.rows.now in
    let k = c.args.number in
    let row = c.in-Some.row.now in
    let inside : k < length rows = ltb-true k (length rows) (sym c.in-Some.ensures.lookup.0) in
    let a = c.in-Changed.base in
    let n = c.in-Changed.changed in
    let base = c.in_ok-base-in-Changed.base in
    let is : row_at rows k ≡ changed n (row_at (take k rows) a) =
    row-form rows k row (Changed a n) inside (get_or_read rows k row inside c.in-Some.ensures.lookup.1 row) c.in-Changed.is in
    IfOk-weaker c.change.result (MayBeChanged base n) (MayBeRow rows k c.args.bound)
    (λ (found : Option ExceptionSet). changed-row rows (take k rows) k a n c.args.bound base found is c.in_ok-base-in-Changed.ensures) c.change.ensures
