use Rattle.std.proofs.Common.{◌≡◌, List, ℕ, ◌++◌, length}
use Rattle.std.specs.Io.KnownBytes.{Appends}
use Rattle.channels.proofs.sink.write_all.Given as goal

-- a front of the bytes is taken, the rest is left, and no write has failed
abbrev pub invariant-loop-rest : goal.invariant-loop-rest
invariant-loop-rest g l =
    (front : List ℕ) × (front ++ l.rest ≡ l.fn.bytes)
    × Appends (g.S.Sink.taken l.fn.sink) (g.S.Sink.taken l.sink) front
    × (g.S.Sink.has_failed l.sink ≡ g.S.Sink.has_failed l.fn.sink)

abbrev pub decreases-loop-rest : goal.decreases-loop-rest
decreases-loop-rest g l = length l.rest
