-- The graph of a well-formed program is within the limits of the module file: it goes to positions alone, and so its targets are too.
use Rattle.lowering.specs.Laws.{GraphsFitTheFile}
use Rattle.lowering.proofs.FittingGraphs.{graph-fits}
use Rattle.lowering.proofs.Inside.{graphs-positioned}

pub graphs-fit : GraphsFitTheFile
graphs-fit program formed none names values = graph-fits program formed names values (graphs-positioned program formed none)
