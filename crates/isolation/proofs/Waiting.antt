-- A loop whose condition stays true and whose body changes nothing never comes to an end.
use Rattle.std.proofs.Common.{◌≡◌, refl, ℕ, zero, suc, true}
use Rattle.common.specs.declared.value.Value.{Value}
use Rattle.common.specs.declared.value.Value.TheVariants.{Bool as Truth}
use Rattle.resolved.specs.Value.{Evaluated, Yields}
use Rattle.resolved.specs.SourceState.{SourceState}
use Rattle.resolved.specs.Meaning.{OutOfFuel, Outcome, Stopped, normally, fuel}

pub waits-for_ever : (k : ℕ) (condition : SourceState → Evaluated Value) (body : SourceState → Outcome) (s : SourceState) →
    condition s ≡ Yields (Truth true) → body s ≡ normally s → fuel k condition body s ≡ Stopped OutOfFuel s
waits-for_ever zero condition body s holds nothing = rw holds refl
waits-for_ever (suc k) condition body s holds nothing = rw (holds, nothing) (waits-for_ever k condition body s holds nothing)
