-- Whom the name of an observer stands for. What is shown of the pairs that a run has sent, and the text that shows it, are the words
-- of the crate of channels, and are passed on here.
-- Source: our own; seeing the channels that one may read is the observer of Volpano, Smith and Irvine 1996.
pub use Rattle.channels.specs.View.{name_in, is_shown, observer_view, pair_line, view_text}
use Rattle.std.specs.Prelude.{◌≡◌, ℕ, List, Option, Some, None}
use Rattle.principals.specs.ActsFor.{PrincipalHierarchy, HasName}

-- whom an observer's name stands for, by the number of the principal; without a name no one observes
abbrev pub IsObserver : PrincipalHierarchy → Option (List ℕ) → Option ℕ → Type 0
IsObserver hierarchy None principal = principal ≡ None
IsObserver hierarchy (Some name) None = ⊥
IsObserver hierarchy (Some name) (Some principal) = HasName hierarchy principal name
