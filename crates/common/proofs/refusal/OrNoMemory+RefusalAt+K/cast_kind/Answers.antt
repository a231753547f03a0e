use Rattle.std.proofs.Common.{refl}
use Rattle.common.proofs.refusal.OrNoMemory+RefusalAt+K.cast_kind.Goals as goal

-- src/refusal.rt:32:5
pub returns-in-Refused : goal.returns-in-Refused
returns-in-Refused g c = rw c.in-Refused.is (record { kind = c.from.result; at = c.in-Refused.refusal.at }, refl, (c.from.ensures, refl))
