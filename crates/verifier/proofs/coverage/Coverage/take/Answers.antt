use Rattle.std.proofs.Common.{◌≡◌, ◌≢◌, ◌<◌, ◌==◌, ◌∙◌, arith, length, sym}
use Rattle.std.proofs.lemmas.Bool.{eqb-false}
use Rattle.std.specs.Vec.{vec_len}
use Rattle.verifier.proofs.Covering.{above_inside, later_waits, quiet_to_start, taken_coverage, taken_left}
use Rattle.verifier.proofs.coverage.Coverage.take.Goals as goal

pub returns-then-at-handler-clause-none : goal.returns-then-at-handler-clause-none
returns-then-at-handler-clause-none c =
    let found = c.in-Some.ensures in
    let handlers = c.args.self.now.handlers in
    let test : c.is_empty.result ≡ (vec_len handlers == 0) = c.is_empty.ensures in
    let not : vec_len handlers ≢ 0 = eqb-false (vec_len handlers) 0 (sym test ∙ c.if-is_empty.false) in
    let some : 0 < length handlers.items = omega (arith, not, handlers.ok.0) in
    later_waits c.args.self.now c.args.at c.requires c.in-Some.index c.index-handler.result.now (above_inside c.args.self.now c.args.at c.requires c.in-Some.index some found.above) c.index-handler.ensures c.if-at-handler.true found.first

pub returns-clause-fewer : goal.returns-clause-fewer
returns-clause-fewer c =
    let found = c.in-Some.ensures in
    taken_left c.args.self.now (record { handlers = c.args.self.now.handlers; ends = c.set.new.self; quiet = c.args.self.now.quiet }) c.in-Some.index c.set.ensures.width c.set.ensures.changed c.set.ensures.others found.inside (omega (arith, found.above))

pub returns-then-at-handler-clause-coverage : goal.returns-then-at-handler-clause-coverage
returns-then-at-handler-clause-coverage c =
    let found = c.in-Some.ensures in
    let handlers = c.args.self.now.handlers in
    let test : c.is_empty.result ≡ (vec_len handlers == 0) = c.is_empty.ensures in
    let not : vec_len handlers ≢ 0 = eqb-false (vec_len handlers) 0 (sym test ∙ c.if-is_empty.false) in
    let some : 0 < length handlers.items = omega (arith, not, handlers.ok.0) in
    quiet_to_start c.args.self.now c.args.at c.requires c.in-Some.index c.index-handler.result.now (above_inside c.args.self.now c.args.at c.requires c.in-Some.index some found.above) c.index-handler.ensures found.first

pub returns-clause-coverage : goal.returns-clause-coverage
returns-clause-coverage c =
    let s = c.set.ensures in
    taken_coverage c.args.self.now c.set.new.self c.in-Some.index c.requires s.tree s.width s.changed s.others
