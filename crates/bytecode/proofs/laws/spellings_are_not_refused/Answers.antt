use Rattle.std.proofs.Common.{ap}
use Rattle.bytecode.specs.Decoded.{refusal_of}
use Rattle.bytecode.proofs.Both.{module_again}
use Rattle.bytecode.proofs.laws.spellings_are_not_refused.Goals as goal

pub returns : goal.returns
returns c = λ m bytes h. ap (refusal_of bytes) (module_again bytes m h)
