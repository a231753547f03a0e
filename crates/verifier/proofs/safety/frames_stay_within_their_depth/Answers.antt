use Rattle.verifier.proofs.Bounds.{bounded}
use Rattle.verifier.proofs.Within.{never_deeper}
use Rattle.verifier.proofs.safety.frames_stay_within_their_depth.Goals as goal

pub returns : goal.returns
returns c = λ m fits free. never_deeper m (bounded m fits) free
