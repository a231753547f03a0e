use Rattle.std.proofs.Common.{◌≡◌, take, filter, not, eqb, length}
use Rattle.channels.specs.WorldText.{texts_of}
use Rattle.channels.proofs.world_text.words_of.Given as goal

-- the words so far are the pieces so far that are not empty
abbrev pub invariant-loop-piece : goal.invariant-loop-piece
invariant-loop-piece l = texts_of l.words.items ≡ filter (λ word. not (eqb (length word) 0)) (texts_of (take l.piece-index l.piece-items))
