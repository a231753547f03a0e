-- The number of `--steps` that a typed getter reads.
use Rattle.std.proofs.Common.{◌≡◌, ◌∙◌, ◌≤◌, ℕ, List, Option, Some, None, Result, Ok, Err, codes, false, ap, arith}
use Rattle.std.specs.Prelude.{IfSome, unwrap_or}
use Rattle.std.specs.Option.{option_map_or}
use Rattle.std.specs.Str.Parse.{ParsesUnsigned}
use Rattle.clap.specs.Matches.{ReadsOne}
use Rattle.clap.specs.Words.{Accepts, Row, Text, first_of, one_of}
use Rattle.command_line.specs.Command.{step_numbers}
use Rattle.command_line.specs.Matched.{HasStepsInRange}
use Rattle.command_line.specs.Task.{number_of, steps_in}

abbrev number_in : Option Text → ℕ
number_in word = option_map_or number_of word 1000000

within : (word : Option Text) → IfSome word (Accepts false step_numbers) → number_in word ≤ 1000000000000
within None accepted = omega arith
within (Some w) accepted = accepted.3

pub steps_within : (rows : List Row) → HasStepsInRange rows → steps_in rows ≤ 1000000000000
steps_within rows h = within (first_of (codes "steps") rows) h.0

module _ {E : Type 0} (G : Text → Result ℕ E → Type 0) (parses : (t : Text) (x : Result ℕ E) → G t x → ParsesUnsigned 64 10 t x) where
  word_read : (t : Text) (read : Option ℕ) → Accepts false step_numbers t → ReadsOne G t read → unwrap_or read 1000000 ≡ number_of t
  word_read t (Some n) accepted reads = (parses t (Ok n) reads).1
  word_read t None accepted reads = absurd (parses t (Err reads.0) reads.1 (accepted.0, accepted.1))

  none_read : (read : Option ℕ) → read ≡ None → unwrap_or read 1000000 ≡ 1000000
  none_read read none = ap (λ r. unwrap_or r 1000000) none

  number_read : (word one : Option Text) (read : Option ℕ) → IfSome word (Accepts false step_numbers) → one ≡ word
      → (one ≡ None → read ≡ None) → ((t : Text) → one ≡ Some t → ReadsOne G t read) → unwrap_or read 1000000 ≡ number_in word
  number_read None one read accepted same none some = none_read read (none same)
  number_read (Some t) one read accepted same none some = word_read t read accepted (some t same)

  pub steps_read : (rows : List Row) (one : Option Text) (read : Option ℕ) → HasStepsInRange rows → one ≡ one_of (codes "steps") rows
      → (one ≡ None → read ≡ None) → ((t : Text) → one ≡ Some t → ReadsOne G t read) → unwrap_or read 1000000 ≡ steps_in rows
  steps_read rows one read h same none some = number_read (first_of (codes "steps") rows) one read h.0 (same ∙ h.1) none some
