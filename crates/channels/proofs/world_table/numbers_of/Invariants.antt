use Rattle.std.proofs.Common.{◌≡◌, take, map, true}
use Rattle.std.specs.List.{list_all}
use Rattle.channels.specs.WorldText.{is_int, number_of, texts_of}
use Rattle.channels.proofs.world_table.numbers_of.Given as goal

-- the numbers so far
abbrev pub invariant-loop-word : goal.invariant-loop-word
invariant-loop-word l = record {
  numbers : l.numbers.items ≡ map number_of (texts_of (take l.word-index l.words));
  fit : list_all is_int (map number_of (texts_of (take l.word-index l.words))) ≡ true;
}
