-- Words without bits, to which more are added.
use Rattle.std.proofs.Common.{◌≡◌, ap, ◌∙◌, ℕ, ◌+◌, length, replicate, List, ◌++◌}
use Rattle.std.proofs.lemmas.List.{replicate-append-replicate, length-replicate}

-- with more words without bits, there are only such words, and as many more
pub zeros_more : (words more : List ℕ) (n : ℕ) → words ≡ replicate (length words) 0 → more ≡ replicate n 0 →
    (words ++ more ≡ replicate (length words + n) 0) × (length (words ++ more) ≡ length words + n)
zeros_more words more n zeros more_zeros = (together, ap length together ∙ length-replicate (length words + n) 0)
  where
    together : words ++ more ≡ replicate (length words + n) 0
    together = ap (λ end. words ++ end) more_zeros ∙ (ap (λ front. front ++ replicate n 0) zeros ∙ replicate-append-replicate (length words) n 0)
