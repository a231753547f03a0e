-- Characters, keywords, signs and names. A text is the list of its characters, each by its code.
-- Source: names are those of Unicode Standard Annex 31 with `_` as one more first character; the keywords and the signs are our own.
use Rattle.std.specs.Prelude.{ℕ, ◌==◌, ◌&&◌, ◌||◌, Bool, false, not, List, [], ◌∷◌, ◌++◌, map, bytes_eq, codes}
use Rattle.std.specs.List.{list_all, list_any}
use Rattle.std.specs.Str.{chars}
use Rattle.unicode_ident.specs.Ident.{is_xid_start, is_xid_continue}

-- white space: a space, a tab, a carriage return, a line feed
abbrev pub is_white_space : ℕ → Bool
is_white_space c = c == 32 || c == 9 || c == 13 || c == 10

-- a first character, which may be `_`, and any number of further ones
abbrev pub is_identifier : List ℕ → Bool
is_identifier [] = false
is_identifier (c ∷ cs) = (is_xid_start c || c == 95) && list_all is_xid_continue cs

abbrev pub keywords : List (List ℕ)
keywords =
    map codes ("boolean" ∷ "break" ∷ "catch" ∷ "continue" ∷ "else" ∷ "exception" ∷ "false" ∷ "global" ∷ "if"
    ∷ "input" ∷ "int" ∷ "output" ∷ "receive" ∷ "return" ∷ "send" ∷ "throw" ∷ "throws" ∷ "true" ∷ "try" ∷ "void"
    ∷ "while" ∷ [])

abbrev pub signs : List (List ℕ)
signs =
    map codes ("{" ∷ "}" ∷ "(" ∷ ")" ∷ "[" ∷ "]" ∷ ";" ∷ "," ∷ ":" ∷ "=" ∷ "==" ∷ "!=" ∷ "<" ∷ "<=" ∷ ">" ∷ ">="
    ∷ "+" ∷ "-" ∷ "*" ∷ "/" ∷ "%" ∷ "!" ∷ "&&" ∷ "||" ∷ "&" ∷ "|" ∷ "^" ∷ "<<" ∷ ">>" ∷ ">>>" ∷ [])

-- a keyword or a sign
abbrev pub is_fixed : List ℕ → Bool
is_fixed cs = list_any (bytes_eq cs) (keywords ++ signs)

-- an identifier that is no keyword
abbrev pub is_name : List ℕ → Bool
is_name cs = is_identifier cs && not (list_any (bytes_eq cs) keywords)

-- the same of a text by its bytes
abbrev pub is_name_text : List ℕ → Bool
is_name_text text = is_name (chars text)

-- ---- parts of the rules, by which contracts and proofs speak of them

-- whether a name may begin with the character
abbrev pub may_begin : ℕ → Bool
may_begin c = is_xid_start c || c == 95
