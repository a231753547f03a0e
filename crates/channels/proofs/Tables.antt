-- The table of inputs after lines of a world's text.
use Rattle.std.proofs.Common.{◌≡◌, ℕ, zero, suc, ◌+◌, ◌<◌, Bool, true, false, not, ◌||◌, cond, List, [], ◌∷◌, ◌++◌, length, map, take, get_or, Option, Some, None, is_some, ℤ, refl, sym, ap, subst, ◌∙◌, arith, append_assoc, eqb, below_more, Bor}
use Rattle.std.specs.Option.{option_map}
use Rattle.std.specs.BTreeMap.{get_by}
use Rattle.std.specs.Cmp.Lexicographic.{slice_cmp}
use Rattle.std.specs.Ordering.{nat_cmp}
use Rattle.std.specs.declared.alloc.Global.{Global}
use Rattle.std.specs.declared.vec.Vec.{Vec}
use Rattle.std.proofs.lemmas.List.{take_more, map_push}
use Rattle.std.proofs.lemmas.List.Folds.{list_any-append}
use Rattle.std.specs.List.{slice_split}
use Rattle.channels.specs.Table.{Inputs, table_of}
use Rattle.common.specs.Answers.{IfRefused, IsCast}
use Rattle.common.specs.declared.fault.OrNoMemory.{OrNoMemory}
use Rattle.common.proofs.Casting.{cast-refused}
use Rattle.channels.specs.declared.kind.WorldRefusal.{WorldRefusal}
use Rattle.std.specs.List.{list_all, list_any}
use Rattle.std.specs.Str.{bytes_eq}
use Rattle.std.proofs.lemmas.Slice.Eq.{bytes_eq-Decides}
use Rattle.channels.specs.WorldText.{Table, table_after, table_with, table_refusal, entry_refusal, given_by, gives_to, numbers_of, numbers_given, has_form, is_int, kind_of, world_of, numbers_in, input_of, texts_of, lines_of, words_of, kind_at, IsRightBefore, IsWorldRefusal}
use Rattle.channels.specs.declared.kind.WorldRefusalKind.{WorldRefusalKind}
use Rattle.channels.specs.declared.kind.WorldRefusalKind.TheVariants.{Syntax, UnknownChannel, RepeatedChannel, NumberOutOfRange}

pub bytes_eq_sym : (xs ys : List ℕ) → bytes_eq xs ys ≡ bytes_eq ys xs
bytes_eq_sym xs ys = go (bytes_eq xs ys) (bytes_eq ys xs) (bytes_eq-Decides xs ys) (bytes_eq-Decides ys xs)
  where
    go : (a b : Bool) → ((a ≡ true → xs ≡ ys) × (xs ≡ ys → a ≡ true)) → ((b ≡ true → ys ≡ xs) × (ys ≡ xs → b ≡ true)) → a ≡ b
    go true b d e = sym (e.1 (sym (d.0 refl)))
    go false true d e = d.1 (sym (e.0 refl))
    go false false d e = refl

-- a line names a channel where the lines give something to it
any_given : (lines : List (List (List ℕ))) (name : List ℕ) → list_any (λ line. gives_to name line) lines ≡ is_some (given_by lines name)
any_given [] name = refl
any_given (line ∷ lines) name = go (gives_to name line) (any_given lines name)
  where
    go : (b : Bool) → list_any (λ line. gives_to name line) lines ≡ is_some (given_by lines name) → (b || list_any (λ line. gives_to name line) lines) ≡ is_some (cond b (Some (numbers_of line)) (given_by lines name))
    go true e = refl
    go false e = e

-- the tests of a line by its channel, as the table has it
by_entry : (known repeated : Bool) (given : Option (List ℤ)) (numbers : List ℤ) → repeated ≡ is_some given → entry_refusal (cond known (Some given) None) numbers ≡ cond (not known) (Some UnknownChannel) (cond repeated (Some RepeatedChannel) (cond (list_all is_int numbers) None (Some NumberOutOfRange)))
by_entry false repeated given numbers e = refl
by_entry true repeated None numbers e = rw e refl
by_entry true repeated (Some given) numbers e = rw e refl

-- what is wrong with a line by the table is what is wrong with it after the lines before
pub refusal_same : (names : List (List ℕ)) (before : List (List (List ℕ))) (line : List (List ℕ)) (table : Table) → ((name : List ℕ) → table name ≡ table_after names before name) → table_refusal table line ≡ kind_of names before line
refusal_same names before [] table same = refl
refusal_same names before (name ∷ rest) table same =
    rw (same name) (ap (λ (o : Option WorldRefusalKind). cond (not (has_form (name ∷ rest))) (Some Syntax) o)
    (by_entry (list_any (λ input. bytes_eq name input) names) (list_any (λ line. gives_to name line) before) (given_by before name) (numbers_of (name ∷ rest)) (any_given before name)))

-- what one more line gives
abbrev or_else : Option (List ℤ) → Option (List ℤ) → Option (List ℤ)
or_else None o = o
or_else (Some given) o = Some given

given_push : (lines : List (List (List ℕ))) (line : List (List ℕ)) (name : List ℕ) → given_by (lines ++ line ∷ []) name ≡ or_else (given_by lines name) (cond (gives_to name line) (Some (numbers_of line)) None)
given_push [] line name = refl
given_push (first ∷ lines) line name = go (gives_to name first) (given_push lines line name)
  where
    go : (b : Bool) → given_by (lines ++ line ∷ []) name ≡ or_else (given_by lines name) (cond (gives_to name line) (Some (numbers_of line)) None) → cond b (Some (numbers_of first)) (given_by (lines ++ line ∷ []) name) ≡ or_else (cond b (Some (numbers_of first)) (given_by lines name)) (cond (gives_to name line) (Some (numbers_of line)) None)
    go true e = refl
    go false e = e

or_none : (o : Option (List ℤ)) → or_else o None ≡ o
or_none None = refl
or_none (Some given) = refl

-- a right line of a name finds an entry without numbers
entry_open : (form : Bool) (entry : Option (Option (List ℤ))) (numbers : List ℤ) → cond (not form) (Some Syntax) (entry_refusal entry numbers) ≡ None → entry ≡ Some None
entry_open false entry numbers e = absurd (let no : Some Syntax ≡ None = e in cc)
entry_open true None numbers e = absurd (let no : Some UnknownChannel ≡ None = e in cc)
entry_open true (Some None) numbers e = refl
entry_open true (Some (Some given)) numbers e = absurd (let no : Some RepeatedChannel ≡ None = e in cc)

open_parts : (known : Bool) (given : Option (List ℤ)) → cond known (Some given) None ≡ Some None → (known ≡ true) × (given ≡ None)
open_parts true given e = (refl, cc)
open_parts false given e = absurd (let no : ◌≡◌ {A = Option (Option (List ℤ))} None (Some None) = e in cc)

-- the table after a right line
pub table_more : (names : List (List ℕ)) (before : List (List (List ℕ))) (line : List (List ℕ)) (table : Table) → ((name : List ℕ) → table name ≡ table_after names before name) → table_refusal table line ≡ None → (name : List ℕ) → table_with table line name ≡ table_after names (before ++ line ∷ []) name
table_more names before [] table same right name =
    same name ∙ ap (λ (o : Option (List ℤ)). cond (list_any (λ input. bytes_eq name input) names) (Some o) None) (sym (or_none (given_by before name)) ∙ sym (given_push before [] name))
table_more names before (first ∷ rest) table same right name = go (bytes_eq first name) refl
  where
    go : (b : Bool) → bytes_eq first name ≡ b → cond b (Some (Some (numbers_of (first ∷ rest)))) (table name) ≡ table_after names (before ++ (first ∷ rest) ∷ []) name
    go true e =
        let is : first ≡ name = (bytes_eq-Decides first name).0 e in
        let entry : table first ≡ Some None = entry_open (has_form (first ∷ rest)) (table first) (numbers_of (first ∷ rest)) right in
        let here : table_after names before name ≡ Some None = sym (same name) ∙ ap table (sym is) ∙ entry in
        let parts = open_parts (list_any (λ input. bytes_eq name input) names) (given_by before name) here in
        let back : bytes_eq name first ≡ true = bytes_eq_sym name first ∙ e in
        rw (given_push before (first ∷ rest) name, parts.0, parts.1, back) refl
    go false e =
        let back : bytes_eq name first ≡ false = bytes_eq_sym name first ∙ e in
        rw (given_push before (first ∷ rest) name, back, or_none) (same name)

-- ---- the world

given_numbers : (lines : List (List (List ℕ))) (name : List ℕ) → numbers_in (Some (given_by lines name)) ≡ numbers_given lines name
given_numbers [] name = refl
given_numbers (line ∷ lines) name = go (gives_to name line) (given_numbers lines name)
  where
    go : (b : Bool) → numbers_in (Some (given_by lines name)) ≡ numbers_given lines name → numbers_in (Some (cond b (Some (numbers_of line)) (given_by lines name))) ≡ cond b (numbers_of line) (numbers_given lines name)
    go true e = refl
    go false e = e

known_here : (front : List (List ℕ)) (name : List ℕ) (rest : List (List ℕ)) → list_any (λ input. bytes_eq name input) (front ++ name ∷ rest) ≡ true
known_here [] name rest = rw ((bytes_eq-Decides name name).1 refl) refl
known_here (x ∷ front) name rest = go (bytes_eq name x) (known_here front name rest)
  where
    go : (b : Bool) → list_any (λ input. bytes_eq name input) (front ++ name ∷ rest) ≡ true → (b || list_any (λ input. bytes_eq name input) (front ++ name ∷ rest)) ≡ true
    go true e = refl
    go false e = e

inputs_from : (names front rest : List (List ℕ)) (lines : List (List (List ℕ))) (table : Table) → ((name : List ℕ) → table name ≡ table_after names lines name) → names ≡ front ++ rest → map (input_of table) rest ≡ world_of rest lines
inputs_from names front [] lines table same e = refl
inputs_from names front (name ∷ rest) lines table same e =
    let known : list_any (λ input. bytes_eq name input) names ≡ true = rw e (known_here front name rest) in
    let numbers : numbers_in (table name) ≡ numbers_given lines name =
    ap numbers_in (same name ∙ ap (λ (b : Bool). cond b (Some (given_by lines name)) None) known) ∙ given_numbers lines name in
    let more : map (input_of table) rest ≡ world_of rest lines =
    inputs_from names (front ++ name ∷ []) rest lines table same (e ∙ sym (append_assoc front (name ∷ []) rest)) in
    rw (numbers, more) refl

-- the inputs with what the table has for them are the world of the lines
pub world_is : (names : List (List ℕ)) (lines : List (List (List ℕ))) (table : Table) → ((name : List ℕ) → table name ≡ table_after names lines name) → map (input_of table) names ≡ world_of names lines
world_is names lines table same = inputs_from names [] names lines table same refl

-- ---- the code's loops

-- the texts before an index and the text there
texts_more : (ws : List (Bor (List ℕ))) (k : ℕ) (d : Bor (List ℕ)) → k < length ws → texts_of (take (k + 1) ws) ≡ texts_of (take k ws) ++ (get_or ws k d).now ∷ []
texts_more ws k d h = ap texts_of (take_more ws k d h) ∙ map_push (λ (w : Bor (List ℕ)). w.now) (take k ws) (get_or ws k d)

-- one more name in an empty table
pub empty_more : (ws : List (Bor (List ℕ))) (k : ℕ) (d : Bor (List ℕ)) (m : Inputs) (name : List ℕ) → k < length ws → table_of m name ≡ table_after (texts_of (take k ws)) [] name → option_map (λ (entry : Option (Vec ℤ Global)). option_map (λ (numbers : Vec ℤ Global). numbers.items) entry) (cond (bytes_eq (get_or ws k d).now name) (Some None) (get_by (λ (key : Bor (List ℕ)). slice_cmp nat_cmp name key.now) m)) ≡ table_after (texts_of (take (k + 1) ws)) [] name
empty_more ws k d m name h old =
    let more = texts_more ws k d h in
    let any : list_any (λ input. bytes_eq name input) (texts_of (take (k + 1) ws)) ≡ (list_any (λ input. bytes_eq name input) (texts_of (take k ws)) || (bytes_eq name (get_or ws k d).now || false)) =
    ap (list_any (λ input. bytes_eq name input)) more ∙ list_any-append (λ input. bytes_eq name input) (texts_of (take k ws)) ((get_or ws k d).now ∷ []) in
    ap (λ (b : Bool). option_map (λ (entry : Option (Vec ℤ Global)). option_map (λ (numbers : Vec ℤ Global). numbers.items) entry) (cond b (Some None) (get_by (λ (key : Bor (List ℕ)). slice_cmp nat_cmp name key.now) m))) (bytes_eq_sym (get_or ws k d).now name)
    ∙ go (bytes_eq name (get_or ws k d).now) (list_any (λ input. bytes_eq name input) (texts_of (take k ws))) old
    ∙ ap (λ (b : Bool). cond b (Some None) None) (sym any)
  where
    go : (b known : Bool) → table_of m name ≡ cond known (Some None) None → option_map (λ (entry : Option (Vec ℤ Global)). option_map (λ (numbers : Vec ℤ Global). numbers.items) entry) (cond b (Some None) (get_by (λ (key : Bor (List ℕ)). slice_cmp nat_cmp name key.now) m)) ≡ cond (known || (b || false)) (Some None) None
    go true true e = refl
    go true false e = refl
    go false true e = e
    go false false e = e

module _ (text : List ℕ) (lines : List (Bor (List ℕ))) (cut : texts_of lines ≡ slice_split (λ byte. eqb byte 10) text) (k : ℕ) (d : Bor (List ℕ)) (within : k < length lines) (words : List (List ℕ)) (words_are : words ≡ words_of (get_or lines k d).now) where
  lines_are : lines_of text ≡ map words_of (texts_of lines)
  lines_are = ap (map words_of) (sym cut)

  line_below : (ws : List (Bor (List ℕ))) (j : ℕ) → j < length ws → j < length (map words_of (texts_of ws))
  line_below [] j h = absurd (omega arith)
  line_below (w ∷ ws) zero h = omega arith
  line_below (w ∷ ws) (suc j) h = let below : j < length (map words_of (texts_of ws)) = line_below ws j (omega arith) in omega arith

  line_there : (ws : List (Bor (List ℕ))) (j : ℕ) → j < length ws → get_or (map words_of (texts_of ws)) j [] ≡ words_of (get_or ws j d).now
  line_there [] j h = absurd (omega arith)
  line_there (w ∷ ws) zero h = refl
  line_there (w ∷ ws) (suc j) h = line_there ws j (omega arith)

  pub line_within : k < length (lines_of text)
  line_within = rw lines_are (line_below lines k within)

  pub line_is : get_or (lines_of text) k [] ≡ words
  line_is = ap (λ (ls : List (List (List ℕ))). get_or ls k []) lines_are ∙ line_there lines k within ∙ sym words_are

  module _ (names : List (List ℕ)) (table : Table) (same : (name : List ℕ) → table name ≡ table_after names (take k (lines_of text)) name) where
    refusal_here : kind_at names (lines_of text) k ≡ table_refusal table words
    refusal_here = ap (kind_of names (take k (lines_of text))) line_is ∙ sym (refusal_same names (take k (lines_of text)) words table same)

    -- a right line more
    pub right_more : IsRightBefore names (lines_of text) k → table_refusal table words ≡ None → IsRightBefore names (lines_of text) (k + 1)
    right_more before right = below_more _ _ before (refusal_here ∙ right)

    pub table_on : (new : Table) → table_refusal table words ≡ None → ((name : List ℕ) → new name ≡ table_with table words name) → (name : List ℕ) → new name ≡ table_after names (take (k + 1) (lines_of text)) name
    table_on new right with_line name =
        let more : take (k + 1) (lines_of text) ≡ take k (lines_of text) ++ words ∷ [] =
        take_more (lines_of text) k [] line_within ∙ ap (λ (l : List (List ℕ)). take k (lines_of text) ++ l ∷ []) line_is in
        with_line name ∙ table_more names (take k (lines_of text)) words table same right name
        ∙ ap (λ (ls : List (List (List ℕ))). table_after names ls name) (sym more)

    -- the first wrong line
    pub line_reported : (given : OrNoMemory WorldRefusalKind) (number : ℕ) (fault : OrNoMemory WorldRefusal) → number ≡ k + 1
        → IsRightBefore names (lines_of text) k → IsCast (λ (kind : WorldRefusalKind) (refusal : WorldRefusal). refusal ≡ record { line = number; kind = kind }) given fault
        → IfRefused (λ kind. table_refusal table words ≡ Some kind) given → IfRefused (IsWorldRefusal names (lines_of text)) fault
    line_reported given number fault e before is h = cast-refused given _ _ first fault is h
      where
        first : (kind : WorldRefusalKind) (refusal : WorldRefusal) → refusal ≡ record { line = number; kind = kind } → table_refusal table words ≡ Some kind → IsWorldRefusal names (lines_of text) refusal
        first kind refusal placed wrong =
            subst (IsWorldRefusal names (lines_of text)) (sym placed) (record { index = k; line_is = e; there = line_within; wrong = refusal_here ∙ wrong; first = before })
