use Rattle.std.proofs.Common.{◌≡◌, take, true}
use Rattle.std.specs.List.{list_all}
use Rattle.channels.specs.WorldText.{is_number, texts_of}
use Rattle.channels.proofs.world_text.are_numbers.Given as goal

-- the words so far are numbers
abbrev pub invariant-loop-word : goal.invariant-loop-word
invariant-loop-word l = list_all is_number (texts_of (take l.word-index l.words)) ≡ true
