use Rattle.std.proofs.Common.{◌≡◌, Some, take}
use Rattle.lexer.specs.Terminal.{terminals_of}
use Rattle.principals.specs.Reading.{Fresh, run, state_of, entries_of}
use Rattle.principals.proofs.reading.read_statements.Given as goal

-- the tokens so far lead to this state and say these statements
abbrev pub invariant-loop-token : goal.invariant-loop-token
invariant-loop-token l =
    run Fresh (terminals_of (take l.token-index l.tokens)) ≡ Some (state_of l.progress, entries_of l.statements.items)
