use Rattle.verifier.proofs.Renamed.{reads_as_code}
use Rattle.verifier.proofs.safety.positions_stand_for_their_offsets.Goals as goal

pub returns : goal.returns
returns c = λ m free. reads_as_code m free
