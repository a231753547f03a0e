use Rattle.std.proofs.Common.{length, drop, ◌+◌, ◌-◌, ◌*◌, ◌≤◌}
use Rattle.std.specs.Vec.{vec_capacity, vec_len}
use Rattle.bytecode.specs.Reading.{GoesOn, IsRest}
use Rattle.bytecode.proofs.code.read_most.Given as goal

-- what is left to read goes on to what reading gives from the start
abbrev pub invariant-loop-at : goal.invariant-loop-at
invariant-loop-at l = record {
  goes_on : GoesOn l.version l.fn.before.items l.code.items l.bytes (drop l.at l.bytes);
  few : length l.code.items ≤ l.at + length l.fn.before.items;
  inside : l.at ≤ length l.bytes;
}

abbrev pub decreases-loop-at : goal.decreases-loop-at
decreases-loop-at l = length l.bytes + length l.fn.before.items - length l.code.items

-- the same, and there are bytes and places for those up to where the run stops
abbrev pub invariant-loop-front : goal.invariant-loop-front
invariant-loop-front l = record {
  goes_on : GoesOn l.version l.fn.before.items l.code.items l.bytes (drop l.at l.bytes);
  few : length l.code.items ≤ l.at + length l.fn.before.items;
  bytes_there : (l.stop - vec_len l.code) * 5 + l.at ≤ length l.bytes;
  places : l.stop ≤ vec_capacity l.code;
  so_far : vec_len l.code ≤ l.stop;
}

abbrev pub decreases-loop-front : goal.decreases-loop-front
decreases-loop-front l = l.stop - vec_len l.code

abbrev pub invariant-loop-front-2 : goal.invariant-loop-front-2
invariant-loop-front-2 l = record {
  goes_on : GoesOn l.version l.fn.before.items l.code.items l.bytes l.front;
  few : length l.front + length l.code.items ≤ length l.bytes + length l.fn.before.items;
  rest : IsRest l.bytes l.front;
}

abbrev pub decreases-loop-front-2 : goal.decreases-loop-front-2
decreases-loop-front-2 l = length l.front
