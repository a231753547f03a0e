-- No jump of a graph leads to an unconditional jump.
use Rattle.std.proofs.Common.{get_or}
use Rattle.std.proofs.lemmas.List.Elements.{All-map}
use Rattle.lowering.specs.Direct.{HasDirectJumps}
use Rattle.lowering.specs.Laws.{GraphsHaveDirectJumps}
use Rattle.lowering.specs.Graphs.{body_code, procedure_contents}
use Rattle.lowering.proofs.Finals.{threaded-direct}
use Rattle.lowering.proofs.Forward.{body-forward}
use Rattle.lowering.proofs.Inside.{body-faultless}

pub graphs-direct : GraphsHaveDirectJumps
graphs-direct program formed none =
    All-map HasDirectJumps (procedure_contents program) program.procedures
    (λ k d below.
    let body = (get_or program.procedures k d).body in
    threaded-direct (body_code program body) (body-forward program body (body-faultless program k d none below)))
