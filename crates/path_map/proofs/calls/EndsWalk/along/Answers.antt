use Rattle.std.proofs.Common.{◌≡◌, ap, refl, sym, subst, [], ◌∷◌, ◌<◌, ◌+◌, get_or, length, arith}
use Rattle.path_map.specs.Walks.{AreThrownInside, exception_count}
use Rattle.path_map.proofs.Fitting.{counted, thrown-inside}
use Rattle.std.proofs.lemmas.List.{length-append}
use Rattle.path_map.specs.Exceptions.{exceptions_of}
use Rattle.path_map.proofs.Declared.{bounds-grow, rows-grow}
use Rattle.path_map.proofs.calls.EndsWalk.along.Goals as goal

pub loop-procedure-preserved : goal.loop-procedure-preserved
loop-procedure-preserved c =
    let rows = c.loop-procedure.rows.items in
    let row = c.in_ok-row_of.field-0 in
    record {
      count = rw c.in_ok-push.ensures.items (omega (arith, length-append rows (row ∷ []), c.loop-procedure.invariant.count));
      rows = rw c.in_ok-push.ensures.items (rows-grow c.args.core.now rows row c.loop-procedure.procedure-index c.procedure-item.result _ c.loop-procedure.invariant.count
          (rw (← c.deref-procedure-items.ensures.value) c.loop-procedure-test.true) (rw (← c.deref-procedure-items.ensures.value) c.procedure-item.is)
          (ap exceptions_of (rw c.deref.ensures.value refl)) c.in_ok-row_of.ensures.declared c.loop-procedure.invariant.rows);
      bounded = rw c.in_ok-push.ensures.items (bounds-grow _ rows row c.loop-procedure.invariant.bounded c.in_ok-row_of.ensures.bound);
    }

pub row_of-requires : goal.row_of-requires
row_of-requires c =
    let core = c.args.core.now in
    let procedure = c.procedure-item.result in
    let inside : AreThrownInside (exception_count core) procedure.throws.items =
    thrown-inside core c.loop-procedure.procedure-index procedure
    (subst (λ list. c.loop-procedure.procedure-index < length list) c.deref-procedure-items.ensures.value c.loop-procedure-test.true)
    (subst (λ list. procedure ≡ get_or list c.loop-procedure.procedure-index procedure) c.deref-procedure-items.ensures.value c.procedure-item.is) in
    let same : exception_count core ≡ c.len.result + 3 = omega (arith, counted core, c.len.ensures, core.exceptions.ok.0) in
    subst (λ list. AreThrownInside (c.len.result + 3) list) (sym c.deref.ensures.value)
    (subst (λ n. AreThrownInside n procedure.throws.items) same inside)

pub invariant_of-result-clause-count : goal.invariant_of-result-clause-count
invariant_of-result-clause-count c = omega (arith, counted c.args.core.now, c.len.ensures, c.args.core.now.exceptions.ok.0)
