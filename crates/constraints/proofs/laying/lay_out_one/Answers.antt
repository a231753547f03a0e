use Rattle.std.proofs.Common.{arith, refl, sym, ◌∙◌, ◌≡◌, ◌≢◌, length}
use Rattle.std.specs.Prelude.{◌==◌}
use Rattle.std.proofs.lemmas.Bool.{eqb-false}
use Rattle.constraints.proofs.PartRows.{laid-one}
use Rattle.constraints.proofs.laying.lay_out_one.Goals as goal

pub returns : goal.returns
returns c =
    let test : c.is_empty.result ≡ (length c.args.left.items == 0) = c.is_empty.ensures in
    let some : length c.args.left.items ≢ 0 = eqb-false (length c.args.left.items) 0 (sym test ∙ c.if-is_empty.false) in
    laid-one c.args.number c.args.left.items _ c.args.constraints.now.items c.push.new.self.items c.in_ok-push.ensures.items refl refl refl (omega (arith, some))
