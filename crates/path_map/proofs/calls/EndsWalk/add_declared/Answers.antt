use Rattle.std.proofs.Common.{◌≡◌, ap, sym, ◌∙◌, subst, get_or, length, ◌<◌}
use Rattle.std.specs.Prelude.{Some}
use Rattle.std.proofs.lemmas.Bool.{ltb-true}
use Rattle.std.proofs.lemmas.List.{get_or_read}
use Rattle.resolved.specs.CoreOf.{program_of}
use Rattle.resolved.specs.Exits.{declared_by}
use Rattle.resolved.specs.Program.{procedure_at}
use Rattle.path_map.specs.Exits.{raised_by}
use Rattle.path_map.specs.Exceptions.{exceptions_of, is_one_of}
use Rattle.path_map.specs.Rows.{no_row, says}
use Rattle.path_map.specs.Sets.{IsSum, members}
use Rattle.path_map.specs.Walks.{AreThrownInside}
use Rattle.path_map.proofs.Declared.{declared-there}
use Rattle.path_map.proofs.Fitting.{thrown-inside}
use Rattle.path_map.proofs.Walking.{sum-same}
use Rattle.path_map.proofs.calls.EndsWalk.add_declared.Goals as goal
use Rattle.path_map.proofs.calls.EndsWalk.add_declared.Goals.{in-Some-Some+in_ok-unite-in-Some-Some, in_default+in_ok-insert_all-in_default}

pub unite-requires : goal.unite-requires
unite-requires c =
    let rows = c.deref-in-Some.result.now in
    let callee = c.args.callee in
    let found = c.in-Some-Some.field-0.now in
    let inside : callee < length rows = ltb-true callee (length rows) (sym c.in-Some-Some.ensures.lookup.0) in
    let there : get_or c.args.self.now.rows.items callee no_row ≡ Some c.in-Some-Some.row =
    ap (λ list. get_or list callee no_row) (sym c.deref-in-Some.ensures.value)
    ∙ (sym (get_or_read rows callee found inside c.in-Some-Some.ensures.lookup.1 no_row) ∙ c.in-Some-Some.field-0-is) in
    c.args.self.now.bounded callee c.in-Some-Some.row there ∙ sym c.requires

pub insert_all-requires : goal.insert_all-requires
insert_all-requires c =
    let procedures = c.deref.result.now in
    let callee = c.args.callee in
    let procedure = c.in-Some.procedure.now in
    let inside : callee < length procedures = ltb-true callee (length procedures) (sym c.in-Some.ensures.lookup.0) in
    subst (λ list. AreThrownInside c.args.set.now.bound list) (sym c.deref-in_default.ensures.value)
    (subst (λ n. AreThrownInside n procedure.throws.items) (sym (c.requires ∙ c.args.self.now.count))
    (thrown-inside c.args.self.now.core.now callee procedure (subst (λ list. callee < length list) c.deref.ensures.value inside)
    (subst (λ list. procedure ≡ get_or list callee procedure) c.deref.ensures.value (get_or_read procedures callee procedure inside c.in-Some.ensures.lookup.1 procedure))))

pub returns-after-get-2-clause-added : goal.returns-after-get-2-clause-added
returns-after-get-2-clause-added c =
    let procedures = c.deref.result.now in
    let callee = c.args.callee in
    let core = c.args.self.now.core.now in
    let procedure = c.in-Some.procedure.now in
    let inside : callee < length procedures = ltb-true callee (length procedures) (sym c.in-Some.ensures.lookup.0) in
    let same = declared-there core callee procedure (subst (λ list. callee < length list) c.deref.ensures.value inside)
    (subst (λ list. procedure ≡ get_or list callee procedure) c.deref.ensures.value (get_or_read procedures callee procedure inside c.in-Some.ensures.lookup.1 procedure)) in
    let declared = declared_by (procedure_at (program_of core) callee).throws in
    let had = members c.args.set.now in
    elim c.match-get-2.branch [
      | in-Some-Some+in_ok-unite-in-Some-Some w ↦
          let rows = c.deref-in-Some.result.now in
          let found = w.in-Some-Some.field-0.now in
          let row = w.in-Some-Some.row in
          let near : callee < length rows = ltb-true callee (length rows) (sym w.in-Some-Some.ensures.lookup.0) in
          let there : get_or c.args.self.now.rows.items callee no_row ≡ Some row =
          ap (λ list. get_or list callee no_row) (sym c.deref-in-Some.ensures.value)
          ∙ (sym (get_or_read rows callee found near w.in-Some-Some.ensures.lookup.1 no_row) ∙ w.in-Some-Some.field-0-is) in
          subst (λ s. IsSum had (is_one_of declared) (members s)) (sym w.set-is)
          (sum-same had (members w.unite.new.self) (members row) (is_one_of declared) w.in_ok-unite-in-Some-Some.ensures.united
          (λ e. sym (subst (λ r. says r declared e ≡ is_one_of declared e) there (c.args.self.now.same callee e))))
      | in_default+in_ok-insert_all-in_default w ↦
          subst (λ s. IsSum had (is_one_of declared) (members s)) (sym w.set-is)
          (subst (λ list. IsSum had (is_one_of list) (members w.insert_all.new.set))
          (ap exceptions_of w.deref-in_default.ensures.value ∙ sym same) w.in_ok-insert_all-in_default.ensures.added)
    ]

pub returns-after-get-2-clause-summary : goal.returns-after-get-2-clause-summary
returns-after-get-2-clause-summary c =
    let procedures = c.deref.result.now in
    let callee = c.args.callee in
    let core = c.args.self.now.core.now in
    let procedure = c.in-Some.procedure.now in
    let inside : callee < length procedures = ltb-true callee (length procedures) (sym c.in-Some.ensures.lookup.0) in
    let same = declared-there core callee procedure (subst (λ list. callee < length list) c.deref.ensures.value inside)
    (subst (λ list. procedure ≡ get_or list callee procedure) c.deref.ensures.value (get_or_read procedures callee procedure inside c.in-Some.ensures.lookup.1 procedure)) in
    c.summary_of.ensures ∙ (ap (λ list. raised_by (exceptions_of list)) c.deref-in-Some-2.ensures.value ∙ ap raised_by (sym same))
