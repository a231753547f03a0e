use Rattle.std.proofs.Common.{◌≡◌, ℕ, ◌≤◌, ◌++◌, length, take, drop, replicate, false, None}
use Rattle.labels.specs.Words.{has_bit}
use Rattle.modules.specs.Code.{code_length}
use Rattle.verifier.specs.Index.{index_from}
use Rattle.verifier.specs.Starts.{numbers_of, starts_before}
use Rattle.verifier.proofs.index.mark_starts.Given as goal

-- the bits of the code so far, and none after them
abbrev pub invariant-loop-instruction : goal.invariant-loop-instruction
invariant-loop-instruction l = record {
  offset_is : l.offset ≡ code_length (take l.instruction-index l.code);
  enough : length l.starts ≡ length l.fn.starts;
  count_is : starts_before l.starts l.offset ≡ l.instruction-index;
  numbers_are : numbers_of l.starts 0 (code_length l.code) ≡ index_from 0 (take l.instruction-index l.code) ++ replicate (code_length (drop l.instruction-index l.code)) None;
  clear : (at : ℕ) → l.offset ≤ at → has_bit l.starts at ≡ false;
}
