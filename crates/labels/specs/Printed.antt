-- How a label is printed: `{Alice: Bob, Carol; Bob:}`, the least one `{}`.
-- Source: our own.
use Rattle.std.specs.Prelude.{ℕ, List, [], ◌∷◌, ◌++◌, slice_get, unwrap_or, codes}
use Rattle.std.specs.Fmt.{decimal}
use Rattle.std.specs.List.{join_by}
use Rattle.principals.specs.ActsFor.{PrincipalHierarchy}
use Rattle.labels.specs.Label.{ReaderPolicy, Label}

-- a principal by its name; a number that is no principal in decimal
abbrev pub printed_principal : PrincipalHierarchy → ℕ → List ℕ
printed_principal h number = unwrap_or (slice_get h.names number) (decimal number)

-- the readers, after a space where there are some
abbrev pub printed_readers : PrincipalHierarchy → List ℕ → List ℕ
printed_readers h [] = []
printed_readers h (reader ∷ readers) = codes " " ++ join_by (printed_principal h) (codes ", ") (reader ∷ readers)

-- the owner, a colon and the readers
abbrev pub printed_policy : PrincipalHierarchy → ReaderPolicy → List ℕ
printed_policy h policy = printed_principal h policy.owner ++ codes ":" ++ printed_readers h policy.readers

-- the policies in braces
abbrev pub printed_label : PrincipalHierarchy → Label → List ℕ
printed_label h label = codes "{" ++ join_by (printed_policy h) (codes "; ") label ++ codes "}"
