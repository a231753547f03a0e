use Rattle.std.proofs.Common.{◌++◌, take}
use Rattle.std.specs.Prelude.{flat_map}
use Rattle.std.specs.Fmt.{HasWritten, IsPlainFormatter}
use Rattle.labels.proofs.printed.write_later.Given as goal

abbrev pub invariant-loop-part : goal.invariant-loop-part
invariant-loop-part g l =
    IsPlainFormatter l.initial.f →
    HasWritten g.W.Write.write_str_gives l.initial.f
    (flat_map (λ part. l.separator ++ g.P.LabelPart.printed l.hierarchy part) (take l.part-index l.parts)) l.f
