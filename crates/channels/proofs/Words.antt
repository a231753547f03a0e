-- Words of a line, one after another.
use Rattle.std.proofs.Common.{◌≡◌, ℕ, zero, suc, ◌+◌, ◌-◌, ◌<◌, ◌≤◌, Bool, true, false, ◌&&◌, cond, List, [], ◌∷◌, ◌++◌, length, map, take, drop, get_or, Option, Some, None, ℤ, refl, ap, ◌∙◌, arith, Bor}
use Rattle.std.specs.List.{list_all}
use Rattle.std.specs.Str.{bytes_eq}
use Rattle.std.proofs.lemmas.Bool.{and_parts}
use Rattle.std.proofs.lemmas.List.{take_more, map_push, take_all}
use Rattle.std.proofs.lemmas.List.Folds.{list_all-append}
use Rattle.lexer.specs.Words.{is_name_text}
use Rattle.std.specs.Option.{option_map}
use Rattle.std.specs.BTreeMap.{get_by}
use Rattle.std.specs.Cmp.Lexicographic.{slice_cmp}
use Rattle.std.specs.Ordering.{nat_cmp}
use Rattle.std.specs.declared.alloc.Global.{Global}
use Rattle.std.specs.declared.vec.Vec.{Vec}
use Rattle.channels.specs.Table.{Inputs, table_of}
use Rattle.channels.specs.WorldText.{table_with, texts_of, is_number, number_of, is_int, has_form}

-- a word of words that all write numbers writes one
pub word_number : (ws : List (Bor (List ℕ))) (k : ℕ) (d : Bor (List ℕ)) → list_all is_number (texts_of ws) ≡ true → k < length ws → is_number (get_or ws k d).now ≡ true
word_number [] k d all h = absurd (omega arith)
word_number (w ∷ ws) zero d all h = (and_parts (is_number w.now) (list_all is_number (texts_of ws)) all).0
word_number (w ∷ ws) (suc k) d all h = word_number ws k d (and_parts (is_number w.now) (list_all is_number (texts_of ws)) all).1 (omega arith)

-- one number outside 32 bits is enough
pub some_outside : (ws : List (Bor (List ℕ))) (k : ℕ) (d : Bor (List ℕ)) → k < length ws → is_int (number_of (get_or ws k d).now) ≡ false → list_all is_int (map number_of (texts_of ws)) ≡ false
some_outside [] k d h out = absurd (omega arith)
some_outside (w ∷ ws) zero d h out = rw out refl
some_outside (w ∷ ws) (suc k) d h out = go (is_int (number_of w.now)) (some_outside ws k d (omega arith) out)
  where
    go : (b : Bool) → list_all is_int (map number_of (texts_of ws)) ≡ false → b && list_all is_int (map number_of (texts_of ws)) ≡ false
    go true e = e
    go false e = refl

pub none_outside : (b : Bool) (z : ℤ) → cond b (Some z) None ≡ None → b ≡ false
none_outside true z e = absurd (let no : Some z ≡ None = e in cc)
none_outside false z e = refl

pub numbers_more : (ws : List (Bor (List ℕ))) (k : ℕ) (d : Bor (List ℕ)) → k < length ws → map number_of (texts_of (take (k + 1) ws)) ≡ map number_of (texts_of (take k ws)) ++ number_of (get_or ws k d).now ∷ []
numbers_more ws k d h =
    ap (λ (xs : List (Bor (List ℕ))). map number_of (texts_of xs)) (take_more ws k d h)
    ∙ ap (map number_of) (map_push (λ (w : Bor (List ℕ)). w.now) (take k ws) (get_or ws k d))
    ∙ map_push number_of (texts_of (take k ws)) (get_or ws k d).now

pub all_more : (xs : List ℤ) (z : ℤ) → list_all is_int xs ≡ true → is_int z ≡ true → list_all is_int (xs ++ z ∷ []) ≡ true
all_more xs z h e = list_all-append is_int xs (z ∷ []) ∙ rw (h, e) refl

-- the words after the sign of a line are numbers
pub form_numbers : (ws : List (Bor (List ℕ))) → 2 ≤ length ws → has_form (texts_of ws) ≡ true → list_all is_number (texts_of (take (length ws - 2) (drop 2 ws))) ≡ true
form_numbers [] h form = absurd (omega arith)
form_numbers (a ∷ []) h form = absurd (omega arith)
form_numbers (a ∷ b ∷ ws) h form =
    let parts = and_parts (is_name_text a.now) (bytes_eq b.now (61 ∷ []) && list_all is_number (texts_of ws)) form in
    let numbers = and_parts (bytes_eq b.now (61 ∷ [])) (list_all is_number (texts_of ws)) parts.1 in
    let all : take (length (a ∷ b ∷ ws) - 2) ws ≡ ws = take_all (length (a ∷ b ∷ ws) - 2) ws (omega arith) in
    rw all numbers.1

some_list : (b : Bool) (xs ys : List ℤ) → Some ys ≡ cond b (Some xs) None → ys ≡ xs
some_list true xs ys e = cc
some_list false xs ys e = absurd (let no : Some ys ≡ None = e in cc)

-- a table after the insertion of a line's numbers
pub put_entry : (ws : List (Bor (List ℕ))) (d : Bor (List ℕ)) (m : Inputs) (numbers : Vec ℤ Global) (name : List ℕ) → 2 ≤ length ws → Some numbers.items ≡ cond (list_all is_int (map number_of (texts_of (take (length ws - 2) (drop 2 ws))))) (Some (map number_of (texts_of (take (length ws - 2) (drop 2 ws))))) None → option_map (λ (entry : Option (Vec ℤ Global)). option_map (λ (numbers : Vec ℤ Global). numbers.items) entry) (cond (bytes_eq (get_or ws 0 d).now name) (Some (Some numbers)) (get_by (λ (key : Bor (List ℕ)). slice_cmp nat_cmp name key.now) m)) ≡ table_with (table_of m) (texts_of ws) name
put_entry [] d m numbers name h e = absurd (omega arith)
put_entry (a ∷ []) d m numbers name h e = absurd (omega arith)
put_entry (a ∷ b ∷ ws) d m numbers name h e = go (bytes_eq a.now name) written
  where
    written : numbers.items ≡ map number_of (texts_of ws)
    written =
        let all : take (length (a ∷ b ∷ ws) - 2) ws ≡ ws = take_all (length (a ∷ b ∷ ws) - 2) ws (omega arith) in
        some_list _ _ numbers.items e ∙ ap (λ (xs : List (Bor (List ℕ))). map number_of (texts_of xs)) all

    go : (t : Bool) → numbers.items ≡ map number_of (texts_of ws) → option_map (λ (entry : Option (Vec ℤ Global)). option_map (λ (numbers : Vec ℤ Global). numbers.items) entry) (cond t (Some (Some numbers)) (get_by (λ (key : Bor (List ℕ)). slice_cmp nat_cmp name key.now) m)) ≡ cond t (Some (Some (map number_of (texts_of ws)))) (table_of m name)
    go true w = ap (λ (ns : List ℤ). Some (Some ns)) w
    go false w = refl
