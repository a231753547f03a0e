-- Where a piece of code stands in a longer one, and how many instructions code has.
use Rattle.std.proofs.Common.{◌≡◌, ℕ, ◌+◌, List, ◌∷◌, ◌++◌, length, Some, sym, ap, ◌∙◌, arith, append_assoc, length-append, slice_get}
use Rattle.modules.specs.declared.instruction.Instruction.{Instruction}
use Rattle.verifier.proofs.Indices.{get-seam}

-- a piece of code stands at a position
pub record Stands (code piece : List Instruction) (at : ℕ) : Type 0 where
  pub before : List Instruction
  pub beyond : List Instruction
  pub parts : code ≡ before ++ (piece ++ beyond)
  pub position : length before ≡ at

pub stands-front : (code xs ys : List Instruction) (at : ℕ) → Stands code (xs ++ ys) at → Stands code xs at
stands-front code xs ys at h = record {
  before = h.before;
  beyond = ys ++ h.beyond;
  parts = h.parts ∙ ap (λ l. h.before ++ l) (append_assoc xs ys h.beyond);
  position = h.position;
}

-- after a piece of this many instructions
pub stands-back : (code xs ys : List Instruction) (at n : ℕ) → length xs ≡ n → Stands code (xs ++ ys) at → Stands code ys (at + n)
stands-back code xs ys at n size h = record {
  before = h.before ++ xs;
  beyond = h.beyond;
  parts = h.parts ∙ ap (λ l. h.before ++ l) (append_assoc xs ys h.beyond) ∙ sym (append_assoc h.before xs (ys ++ h.beyond));
  position = length-append h.before xs ∙ omega (arith, size, h.position);
}

-- the instruction at the position of a piece is its first
pub stands-here : (code more : List Instruction) (i : Instruction) (at : ℕ) → Stands code (i ∷ more) at → slice_get code at ≡ Some i
stands-here code more i at h =
    ap (λ c. slice_get c at) h.parts
    ∙ ap (λ n. slice_get (h.before ++ i ∷ (more ++ h.beyond)) n) (sym h.position)
    ∙ get-seam h.before i (more ++ h.beyond)
