-- One more list that is kept once.
use Rattle.std.proofs.Common.{◌≡◌, ◌≢◌, inl, inr, ℕ, suc, zero, ◌+◌, ◌<◌, ◌≤◌, List, [], ◌∷◌, ◌++◌, length, drop, get_or, map, set, Option, Some, None, refl, sym, ap, ◌∙◌, subst, arith, length-append}
use Rattle.std.proofs.lemmas.List.{drop_all, get_or_append_left, get_or-set_same, get_or-set_other}
use Rattle.std.proofs.Math.Seq.{get_or-append_seam}
use Rattle.std.proofs.Math.ListN.{length-set}
use Rattle.std.proofs.lemmas.Bool.{cases_eq}
use Rattle.std.specs.Prelude.{IfNone, IfSome}
use Rattle.verifier.specs.Operands.{above_of, booleans_of, ints_of, list_of, noted, on_top, packed, spelled, HasAbove, IsNode, IsShared}
use Rattle.verifier.specs.declared.operands.Node.{Node}
use Rattle.verifier.specs.declared.operands.Top.{Top}
use Rattle.verifier.specs.declared.operands.Top.TheVariants as top
use Rattle.common.specs.declared.base_type.BaseType.{BaseType}
use Rattle.common.specs.declared.base_type.BaseType.TheVariants.{Int, Boolean}
use Rattle.common.proofs.Cases.{last_cases}

pub spelled_push : (lists : List (List BaseType)) (nodes : List Node) (node : Node) → spelled lists (nodes ++ node ∷ []) ≡ spelled lists nodes ++ on_top node.top (list_of (spelled lists nodes) node.below) ∷ []
spelled_push lists [] node = refl
spelled_push lists (x ∷ nodes) node = spelled_push (lists ++ on_top x.top (list_of lists x.below) ∷ []) nodes node

-- what is noted of a node spells nothing else
noted_spells : (lists : List (List BaseType)) (kind : BaseType) (above : ℕ) (node : Node) → on_top (noted kind above node).top (list_of lists (noted kind above node).below) ≡ on_top node.top (list_of lists node.below)
noted_spells lists Int above node = refl
noted_spells lists Boolean above node = refl

pub spelled_noted : (lists : List (List BaseType)) (nodes : List Node) (k above : ℕ) (kind : BaseType) (node : Node) → node ≡ get_or nodes k node → spelled lists (set nodes k (noted kind above node)) ≡ spelled lists nodes
spelled_noted lists [] k above kind node is = refl
spelled_noted lists (x ∷ nodes) zero above kind node is =
    ap (λ (n : List BaseType). spelled (lists ++ n ∷ []) nodes) (noted_spells lists kind above node ∙ ap (λ (n : Node). on_top n.top (list_of lists n.below)) is)
spelled_noted lists (x ∷ nodes) (suc k) above kind node is = spelled_noted (lists ++ on_top x.top (list_of lists x.below) ∷ []) nodes k above kind node is

longer_one : (lists : List (List BaseType)) (n : List BaseType) → length (lists ++ n ∷ []) ≡ length lists + 1
longer_one lists n = omega (arith, length-append lists (n ∷ []))

old : (lists : List (List BaseType)) (n : List BaseType) (k : ℕ) → k < length lists → list_of (lists ++ n ∷ []) k ≡ list_of lists k
old lists n k h = get_or_append_left lists (n ∷ []) [] k h

new : (lists : List (List BaseType)) (n : List BaseType) → list_of (lists ++ n ∷ []) (length lists) ≡ n
new lists n = get_or-append_seam lists n [] []

-- the tail of a list that is there is there
abbrev pub HasTails : List (List BaseType) → Type 0
HasTails lists = (r : ℕ) (kind : BaseType) (tail : List BaseType) → r < length lists → list_of lists r ≡ kind ∷ tail → (b : ℕ) × (b < length lists) × (list_of lists b ≡ tail)

module _ (lists : List (List BaseType)) (kind : BaseType) (below : ℕ) (there : below < length lists) (fresh : (k : ℕ) → k < length lists → list_of lists k ≢ kind ∷ list_of lists below) where
  -- no list has the new one as its tail
  not_on_new : ((r : ℕ) (q : BaseType) (tail : List BaseType) → r < length lists → list_of lists r ≡ q ∷ tail → (b : ℕ) × (b < length lists) × (list_of lists b ≡ tail)) → (q : BaseType) (r : ℕ) → r < length lists + 1 → list_of (lists ++ (kind ∷ list_of lists below) ∷ []) r ≢ q ∷ (kind ∷ list_of lists below)
  not_on_new tails q r h e =
      elim (last_cases r (length lists) h) [
        | inl l ↦ let t = tails r q (kind ∷ list_of lists below) l (sym (old lists (kind ∷ list_of lists below) r l) ∙ e) in fresh t.0 t.1 t.2
        | inr same ↦
            let f : kind ∷ list_of lists below ≡ q ∷ (kind ∷ list_of lists below) = sym (new lists (kind ∷ list_of lists below)) ∙ ap (list_of (lists ++ (kind ∷ list_of lists below) ∷ [])) (sym same) ∙ e in
            let g : length (kind ∷ list_of lists below) ≡ length (q ∷ (kind ∷ list_of lists below)) = ap length f in
            absurd (omega arith)
      ]

  is_new : (r : ℕ) → r ≡ length lists → kind ∷ list_of lists below ≡ list_of (lists ++ (kind ∷ list_of lists below) ∷ []) r
  is_new r e = sym (new lists (kind ∷ list_of lists below)) ∙ ap (list_of (lists ++ (kind ∷ list_of lists below) ∷ [])) (sym e)

  some_old : (q : BaseType) (above : List (Option ℕ)) → HasAbove q lists above → (k r : ℕ) → k < length lists → get_or (above ++ None ∷ []) k None ≡ Some r → (r < length (lists ++ (kind ∷ list_of lists below) ∷ [])) × (list_of (lists ++ (kind ∷ list_of lists below) ∷ []) r ≡ q ∷ list_of (lists ++ (kind ∷ list_of lists below) ∷ []) k)
  some_old q above h k r lk e =
      let s = h.some k r lk (sym (get_or_append_left above (None ∷ []) None k (omega (arith, h.long))) ∙ e) in (
        omega (arith, s.0, longer_one lists (kind ∷ list_of lists below)),
        old lists (kind ∷ list_of lists below) r s.0 ∙ s.1 ∙ ap (λ t. q ∷ t) (sym (old lists (kind ∷ list_of lists below) k lk)),
      )

  some_none : {A : Type 0} (q : BaseType) (above : List (Option ℕ)) → HasAbove q lists above → (k r : ℕ) → k ≡ length lists → get_or (above ++ None ∷ []) k None ≡ Some r → A
  some_none q above h k r ek e =
      let k_is : k ≡ length above = ek ∙ sym h.long in
      absurd (let f : None ≡ Some r = sym (get_or-append_seam above None [] None) ∙ ap (λ j. get_or (above ++ None ∷ []) j None) (sym k_is) ∙ e in cc)

  none_old : (q : BaseType) (above : List (Option ℕ)) → HasAbove q lists above → (k r : ℕ) → k < length lists → r < length lists → get_or (above ++ None ∷ []) k None ≡ None → list_of (lists ++ (kind ∷ list_of lists below) ∷ []) r ≡ q ∷ list_of (lists ++ (kind ∷ list_of lists below) ∷ []) k → ⊥
  none_old q above h k r lk lr e same =
      h.none k lk (sym (get_or_append_left above (None ∷ []) None k (omega (arith, h.long))) ∙ e) r lr (sym (old lists (kind ∷ list_of lists below) r lr) ∙ same ∙ ap (λ t. q ∷ t) (old lists (kind ∷ list_of lists below) k lk))

  at_below : (above : List (Option ℕ)) → HasAbove kind lists above → (k : ℕ) → k ≡ below → get_or (set (above ++ None ∷ []) below (Some (length lists))) k None ≡ Some (length lists)
  at_below above h k e = ap (λ j. get_or (set (above ++ None ∷ []) below (Some (length lists))) j None) e ∙ get_or-set_same (above ++ None ∷ []) below (Some (length lists)) None (omega (arith, h.long, length-append above (None ∷ [])))

  pub above_other : (q : BaseType) (above : List (Option ℕ)) → kind ≢ q → HasTails lists → HasAbove q lists above → HasAbove q (lists ++ (kind ∷ list_of lists below) ∷ []) (above ++ None ∷ [])
  above_other q above ne tails h = record {
    long = omega (arith, length-append lists ((kind ∷ list_of lists below) ∷ []), length-append above (None ∷ []), h.long);
    some = λ k r l e. elim (last_cases k (length lists) (omega (arith, l, longer_one lists (kind ∷ list_of lists below)))) [
      | inl lk ↦ some_old q above h k r lk e
      | inr ek ↦ some_none q above h k r ek e
    ];
    none = λ k l e r m same. elim (last_cases k (length lists) (omega (arith, l, longer_one lists (kind ∷ list_of lists below)))) [
      | inl lk ↦ elim (last_cases r (length lists) (omega (arith, m, longer_one lists (kind ∷ list_of lists below)))) [
        | inl lr ↦ none_old q above h k r lk lr e same
        | inr er ↦ ne (let f : kind ∷ list_of lists below ≡ q ∷ list_of (lists ++ (kind ∷ list_of lists below) ∷ []) k = is_new r er ∙ same in cc)
      ]
      | inr ek ↦ not_on_new tails q r (omega (arith, m, longer_one lists (kind ∷ list_of lists below))) (same ∙ ap (λ t. q ∷ t) (sym (is_new k ek)))
    ];
  }

  pub above_same : (above : List (Option ℕ)) → HasTails lists → ((a b : ℕ) → a < length lists → b < length lists → list_of lists a ≡ list_of lists b → a ≡ b) → HasAbove kind lists above → HasAbove kind (lists ++ (kind ∷ list_of lists below) ∷ []) (set (above ++ None ∷ []) below (Some (length lists)))
  above_same above tails distinct h = record {
    long = omega (arith, length-append lists ((kind ∷ list_of lists below) ∷ []), length-append above (None ∷ []), length-set (above ++ None ∷ []) below (Some (length lists)), h.long);
    some = λ k r l e. elim (cases_eq k below) [
      | inl ek ↦
          let f : Some (length lists) ≡ Some r = sym (at_below above h k ek) ∙ e in
          let r_is : length lists ≡ r = cc in (
            omega (arith, longer_one lists (kind ∷ list_of lists below)),
            ap (list_of (lists ++ (kind ∷ list_of lists below) ∷ [])) (sym r_is) ∙ new lists (kind ∷ list_of lists below) ∙ ap (λ t. kind ∷ t) (sym (old lists (kind ∷ list_of lists below) below there) ∙ ap (list_of (lists ++ (kind ∷ list_of lists below) ∷ [])) (sym ek)),
          )
      | inr nk ↦
          let f : get_or (above ++ None ∷ []) k None ≡ Some r = sym (get_or-set_other (above ++ None ∷ []) below k (Some (length lists)) None nk) ∙ e in
          elim (last_cases k (length lists) (omega (arith, l, longer_one lists (kind ∷ list_of lists below)))) [
            | inl lk ↦ some_old kind above h k r lk f
            | inr e2 ↦ some_none kind above h k r e2 f
          ]
    ];
    none = λ k l e r m same. elim (cases_eq k below) [
      | inl ek ↦ absurd (let f : Some (length lists) ≡ None = sym (at_below above h k ek) ∙ e in cc)
      | inr nk ↦
          let f : get_or (above ++ None ∷ []) k None ≡ None = sym (get_or-set_other (above ++ None ∷ []) below k (Some (length lists)) None nk) ∙ e in
          elim (last_cases k (length lists) (omega (arith, l, longer_one lists (kind ∷ list_of lists below)))) [
            | inl lk ↦ elim (last_cases r (length lists) (omega (arith, m, longer_one lists (kind ∷ list_of lists below)))) [
              | inl lr ↦ none_old kind above h k r lk lr f same
              | inr er ↦
                  let g : kind ∷ list_of lists below ≡ kind ∷ list_of lists k = is_new r er ∙ same ∙ ap (λ t. kind ∷ t) (old lists (kind ∷ list_of lists below) k lk) in
                  nk (distinct k below lk there (let tails_same : list_of lists below ≡ list_of lists k = cc in sym tails_same))
            ]
            | inr e2 ↦ not_on_new tails kind r (omega (arith, m, longer_one lists (kind ∷ list_of lists below))) (same ∙ ap (λ t. kind ∷ t) (sym (is_new k e2)))
          ]
    ];
  }

  pub distinct_more : ((a b : ℕ) → a < length lists → b < length lists → list_of lists a ≡ list_of lists b → a ≡ b) → (a b : ℕ) → a < length lists + 1 → b < length lists + 1 → list_of (lists ++ (kind ∷ list_of lists below) ∷ []) a ≡ list_of (lists ++ (kind ∷ list_of lists below) ∷ []) b → a ≡ b
  distinct_more distinct a b ha hb e =
      elim (last_cases a (length lists) ha) [
        | inl la ↦ elim (last_cases b (length lists) hb) [
          | inl lb ↦ distinct a b la lb (sym (old lists (kind ∷ list_of lists below) a la) ∙ e ∙ old lists (kind ∷ list_of lists below) b lb)
          | inr eb ↦ absurd (fresh a la (sym (old lists (kind ∷ list_of lists below) a la) ∙ e ∙ ap (list_of (lists ++ (kind ∷ list_of lists below) ∷ [])) eb ∙ new lists (kind ∷ list_of lists below)))
        ]
        | inr ea ↦ elim (last_cases b (length lists) hb) [
          | inl lb ↦ absurd (fresh b lb (sym (old lists (kind ∷ list_of lists below) b lb) ∙ sym e ∙ ap (list_of (lists ++ (kind ∷ list_of lists below) ∷ [])) ea ∙ new lists (kind ∷ list_of lists below)))
          | inr eb ↦ ea ∙ sym eb
        ]
      ]

no_node : Node
no_node = record { top = top.Nothing; below = 0; depth = 0; skip = 0; bits = 0; int = 0; boolean = 0 }

tail_of : (t : Top) (below tail : List BaseType) (q : BaseType) → on_top t below ≡ q ∷ tail → below ≡ tail
tail_of top.Nothing below tail q e = absurd (cc)
tail_of top.Int below tail q e = cc
tail_of top.Boolean below tail q e = cc

-- the tails of lists that are kept once
pub tails_of : (lists : List (List BaseType)) (nodes : List Node) (ints booleans : List (Option ℕ)) → IsShared lists nodes ints booleans → HasTails lists
tails_of lists nodes ints booleans s r q tail l e =
    let h = s.node r no_node (omega (arith, s.long)) in
    ((get_or nodes r no_node).below, omega (arith, h.below), tail_of (get_or nodes r no_node).top (list_of lists (get_or nodes r no_node).below) tail q (sym h.list ∙ e))

-- the same nodes with one more
node_more : (lists : List (List BaseType)) (nodes : List Node) (n : List BaseType) (node : Node) → length lists ≡ length nodes → ((k : ℕ) (d : Node) → k < length nodes → IsNode lists k (get_or nodes k d)) → node.below < length lists → n ≡ on_top node.top (list_of lists node.below) → node.depth ≡ length n → node.depth ≤ length lists → node.bits ≡ packed 64 n → list_of lists node.skip ≡ drop 64 n → node.skip < length lists → (k : ℕ) (d : Node) → k < length nodes + 1 → IsNode (lists ++ n ∷ []) k (get_or (nodes ++ node ∷ []) k d)
node_more lists nodes n node long h below list depth few bits skip skips k d l =
    elim (last_cases k (length nodes) l) [
      | inl lk ↦
          let old_node = h k d lk in
          subst (IsNode (lists ++ n ∷ []) k) (sym (get_or_append_left nodes (node ∷ []) d k lk)) (record {
            list = old lists n k (omega arith) ∙ old_node.list ∙ ap (on_top (get_or nodes k d).top) (sym (old lists n (get_or nodes k d).below (omega (arith, old_node.below))));
            below = old_node.below;
            depth = old_node.depth ∙ ap length (sym (old lists n k (omega arith)));
            few = old_node.few;
            bits = old_node.bits ∙ ap (packed 64) (sym (old lists n k (omega arith)));
            skip = old lists n (get_or nodes k d).skip (omega (arith, old_node.skips)) ∙ old_node.skip ∙ ap (drop 64) (sym (old lists n k (omega arith)));
            skips = old_node.skips;
          })
      | inr ek ↦
          let node_is : node ≡ get_or (nodes ++ node ∷ []) k d = sym (get_or-append_seam nodes node [] d) ∙ ap (λ j. get_or (nodes ++ node ∷ []) j d) (sym ek) in
          let number : k ≡ length lists = omega arith in
          subst (IsNode (lists ++ n ∷ []) k) node_is (record {
            list = ap (list_of (lists ++ n ∷ [])) number ∙ new lists n ∙ list ∙ ap (on_top node.top) (sym (old lists n node.below below));
            below = omega arith;
            depth = depth ∙ ap length (sym (new lists n) ∙ ap (list_of (lists ++ n ∷ [])) (sym number));
            few = omega arith;
            bits = bits ∙ ap (packed 64) (sym (new lists n) ∙ ap (list_of (lists ++ n ∷ [])) (sym number));
            skip = old lists n node.skip skips ∙ skip ∙ ap (drop 64) (sym (new lists n) ∙ ap (list_of (lists ++ n ∷ [])) (sym number));
            skips = omega arith;
          })
    ]

-- what is noted of a node changes no list
node_noted : (lists : List (List BaseType)) (k above : ℕ) (kind : BaseType) (node : Node) → IsNode lists k node → IsNode lists k (noted kind above node)
node_noted lists k above Int node h = record { list = h.list; below = h.below; depth = h.depth; few = h.few; bits = h.bits; skip = h.skip; skips = h.skips }
node_noted lists k above Boolean node h = record { list = h.list; below = h.below; depth = h.depth; few = h.few; bits = h.bits; skip = h.skip; skips = h.skips }

nodes_noted : (lists : List (List BaseType)) (nodes : List Node) (below above : ℕ) (kind : BaseType) (node : Node) → node ≡ get_or nodes below node → below < length nodes → ((k : ℕ) (d : Node) → k < length nodes → IsNode lists k (get_or nodes k d)) → (k : ℕ) (d : Node) → k < length nodes → IsNode lists k (get_or (set nodes below (noted kind above node)) k d)
nodes_noted lists nodes below above kind node is there h k d l =
    elim (cases_eq k below) [
      | inl ek ↦
          let at : noted kind above node ≡ get_or (set nodes below (noted kind above node)) k d = sym (ap (λ j. get_or (set nodes below (noted kind above node)) j d) ek ∙ get_or-set_same nodes below (noted kind above node) d there) in
          subst (IsNode lists k) at (node_noted lists k above kind node (subst (IsNode lists k) (sym (is ∙ ap (λ j. get_or nodes j node) (sym ek))) (h k node l)))
      | inr nk ↦ subst (IsNode lists k) (sym (get_or-set_other nodes below k (noted kind above node) d nk)) (h k d l)
    ]

-- ---- what is above each node

map_set : {A B : Type 0} (f : A → B) (xs : List A) (k : ℕ) (x : A) → map f (set xs k x) ≡ set (map f xs) k (f x)
map_set f [] k x = refl
map_set f (y ∷ xs) zero x = refl
map_set f (y ∷ xs) (suc k) x = ap (λ l. f y ∷ l) (map_set f xs k x)

map_last : {A B : Type 0} (f : A → B) (xs : List A) (x : A) → map f (xs ++ x ∷ []) ≡ map f xs ++ f x ∷ []
map_last f [] x = refl
map_last f (y ∷ xs) x = ap (λ l. f y ∷ l) (map_last f xs x)

-- a part that stays the same stays so everywhere
map_kept : {A B : Type 0} (f : A → B) (xs : List A) (k : ℕ) (x y : A) → x ≡ get_or xs k x → f y ≡ f x → map f (set xs k y) ≡ map f xs
map_kept f [] k x y is same = refl
map_kept f (z ∷ xs) zero x y is same = ap (λ v. v ∷ map f xs) (same ∙ ap f is)
map_kept f (z ∷ xs) (suc k) x y is same = ap (λ l. f z ∷ l) (map_kept f xs k x y is same)

pub above_at : {B : Type 0} (f : Node → B) (nodes : List Node) (k : ℕ) (node : Node) (d : B) → k < length nodes → node ≡ get_or nodes k node → get_or (map f nodes) k d ≡ f node
above_at f [] k node d l is = absurd (omega arith)
above_at f (x ∷ nodes) zero node d l is = ap f (sym is)
above_at f (x ∷ nodes) (suc k) node d l is = above_at f nodes k node d (omega arith) is

above_some : (number : ℕ) → 0 < number → above_of number ≡ Some number
above_some zero h = absurd (omega arith)
above_some (suc number) h = refl

differ : Int ≢ Boolean
differ e = cc

-- what is noted of a kind, of the lists with one more
above_longer : (q : BaseType) (lists : List (List BaseType)) (kind : BaseType) (below : ℕ) → below < length lists → ((k : ℕ) → k < length lists → list_of lists k ≢ kind ∷ list_of lists below) → (above noted : List (Option ℕ)) → (kind ≡ q → noted ≡ set (above ++ None ∷ []) below (Some (length lists))) → (kind ≢ q → noted ≡ above ++ None ∷ []) → HasTails lists → ((a b : ℕ) → a < length lists → b < length lists → list_of lists a ≡ list_of lists b → a ≡ b) → HasAbove q lists above → HasAbove q (lists ++ (kind ∷ list_of lists below) ∷ []) noted
above_longer Int lists Int below there fresh above noted same other tails distinct h = subst (HasAbove Int (lists ++ (Int ∷ list_of lists below) ∷ [])) (sym (same refl)) (above_same lists Int below there fresh above tails distinct h)
above_longer Boolean lists Boolean below there fresh above noted same other tails distinct h = subst (HasAbove Boolean (lists ++ (Boolean ∷ list_of lists below) ∷ [])) (sym (same refl)) (above_same lists Boolean below there fresh above tails distinct h)
above_longer Int lists Boolean below there fresh above noted same other tails distinct h = subst (HasAbove Int (lists ++ (Boolean ∷ list_of lists below) ∷ [])) (sym (other (λ e. differ (sym e)))) (above_other lists Boolean below there fresh Int above (λ e. differ (sym e)) tails h)
above_longer Boolean lists Int below there fresh above noted same other tails distinct h = subst (HasAbove Boolean (lists ++ (Int ∷ list_of lists below) ∷ [])) (sym (other differ)) (above_other lists Int below there fresh Boolean above differ tails h)

-- ---- one more list

module _ (lists : List (List BaseType)) (nodes : List Node) (below above : ℕ) (kind : BaseType) (node more : Node) where
  the_other : (kind : BaseType) → kind ≢ Int → kind ≡ Boolean
  the_other Int ne = absurd (ne refl)
  the_other Boolean ne = refl

  the_one : (kind : BaseType) → kind ≢ Boolean → kind ≡ Int
  the_one Int ne = refl
  the_one Boolean ne = absurd (ne refl)

  ints_noted : kind ≡ Int → more.int ≡ 0 → 0 < above → ints_of (set (nodes ++ more ∷ []) below (noted kind above node)) ≡ set (ints_of nodes ++ None ∷ []) below (Some above)
  ints_noted is fresh some =
      rw is (map_set (λ (n : Node). above_of n.int) (nodes ++ more ∷ []) below (noted Int above node)
      ∙ ap (λ l. set l below (above_of above)) (map_last (λ (n : Node). above_of n.int) nodes more ∙ ap (λ (n : ℕ). ints_of nodes ++ above_of n ∷ []) fresh)
      ∙ ap (set (ints_of nodes ++ None ∷ []) below) (above_some above some))

  ints_kept : kind ≡ Boolean → more.int ≡ 0 → node ≡ get_or (nodes ++ more ∷ []) below node → ints_of (set (nodes ++ more ∷ []) below (noted kind above node)) ≡ ints_of nodes ++ None ∷ []
  ints_kept is fresh at =
      rw is (map_kept (λ (n : Node). above_of n.int) (nodes ++ more ∷ []) below node (noted Boolean above node) at refl
      ∙ map_last (λ (n : Node). above_of n.int) nodes more ∙ ap (λ (n : ℕ). ints_of nodes ++ above_of n ∷ []) fresh)

  booleans_noted : kind ≡ Boolean → more.boolean ≡ 0 → 0 < above → booleans_of (set (nodes ++ more ∷ []) below (noted kind above node)) ≡ set (booleans_of nodes ++ None ∷ []) below (Some above)
  booleans_noted is fresh some =
      rw is (map_set (λ (n : Node). above_of n.boolean) (nodes ++ more ∷ []) below (noted Boolean above node)
      ∙ ap (λ l. set l below (above_of above)) (map_last (λ (n : Node). above_of n.boolean) nodes more ∙ ap (λ (n : ℕ). booleans_of nodes ++ above_of n ∷ []) fresh)
      ∙ ap (set (booleans_of nodes ++ None ∷ []) below) (above_some above some))

  booleans_kept : kind ≡ Int → more.boolean ≡ 0 → node ≡ get_or (nodes ++ more ∷ []) below node → booleans_of (set (nodes ++ more ∷ []) below (noted kind above node)) ≡ booleans_of nodes ++ None ∷ []
  booleans_kept is fresh at =
      rw is (map_kept (λ (n : Node). above_of n.boolean) (nodes ++ more ∷ []) below node (noted Int above node) at refl
      ∙ map_last (λ (n : Node). above_of n.boolean) nodes more ∙ ap (λ (n : ℕ). booleans_of nodes ++ above_of n ∷ []) fresh)

  pub shared_longer : IsShared lists nodes (ints_of nodes) (booleans_of nodes) → below < length lists → ((k : ℕ) → k < length lists → list_of lists k ≢ kind ∷ list_of lists below) → node ≡ get_or nodes below node → above ≡ length nodes → ((kinds : List BaseType) → on_top more.top kinds ≡ kind ∷ kinds) → more.below ≡ below → more.depth ≡ node.depth + 1 → more.bits ≡ packed 64 (kind ∷ list_of lists below) → list_of lists more.skip ≡ drop 63 (list_of lists below) → more.skip < length lists → more.int ≡ 0 → more.boolean ≡ 0 → IsShared (lists ++ (kind ∷ list_of lists below) ∷ []) (set (nodes ++ more ∷ []) below (noted kind above node)) (ints_of (set (nodes ++ more ∷ []) below (noted kind above node))) (booleans_of (set (nodes ++ more ∷ []) below (noted kind above node)))
  shared_longer s there fresh node_is above_is top_is below_is depth_is bits_is skip_is skip_there int_is boolean_is =
      let n : List BaseType = kind ∷ list_of lists below in
      let inside : below < length nodes = omega (arith, s.long) in
      let h : IsNode lists below node = subst (IsNode lists below) (sym node_is) (s.node below node inside) in
      let deep : more.depth ≡ length n = omega (arith, depth_is, h.depth) in
      let long : length (nodes ++ more ∷ []) ≡ length nodes + 1 = omega (arith, length-append nodes (more ∷ [])) in
      let at : node ≡ get_or (nodes ++ more ∷ []) below node = node_is ∙ sym (get_or_append_left nodes (more ∷ []) node below inside) in
      let some : 0 < above = omega (arith, s.some, s.long) in
      let number : above ≡ length lists = omega (arith, s.long) in
      let tails = tails_of lists nodes (ints_of nodes) (booleans_of nodes) s in
      record {
        some = omega (arith, longer_one lists n);
        root = old lists n 0 s.some ∙ s.root;
        long = omega (arith, longer_one lists n, length-set (nodes ++ more ∷ []) below (noted kind above node), long, s.long);
        node = λ k d l. nodes_noted (lists ++ n ∷ []) (nodes ++ more ∷ []) below above kind node at (omega (arith, long))
            (λ j e m. node_more lists nodes n more s.long s.node (omega (arith, below_is)) (sym (top_is (list_of lists below)) ∙ ap (λ (j : ℕ). on_top more.top (list_of lists j)) (sym below_is)) deep (omega (arith, depth_is, h.few)) bits_is skip_is skip_there j e (omega (arith, m, long)))
            k d (omega (arith, l, length-set (nodes ++ more ∷ []) below (noted kind above node)));
        int_above = above_longer Int lists kind below there fresh (ints_of nodes) _ (λ e. ints_noted e int_is some ∙ ap (λ (j : ℕ). set (ints_of nodes ++ None ∷ []) below (Some j)) number) (λ ne. ints_kept (the_other kind ne) int_is at) tails s.distinct s.int_above;
        boolean_above = above_longer Boolean lists kind below there fresh (booleans_of nodes) _ (λ e. booleans_noted e boolean_is some ∙ ap (λ (j : ℕ). set (booleans_of nodes ++ None ∷ []) below (Some j)) number) (λ ne. booleans_kept (the_one kind ne) boolean_is at) tails s.distinct s.boolean_above;
        distinct = λ a b la lb. distinct_more lists kind below there fresh s.distinct a b (omega (arith, la, longer_one lists n)) (omega (arith, lb, longer_one lists n));
      }

-- the lists after a push
pub pushed : (lists : List (List BaseType)) (nodes : List Node) (kind : BaseType) (below above : ℕ) (node more : Node) → spelled [] nodes ≡ lists → node ≡ get_or nodes below node → below < length nodes → ((kinds : List BaseType) → on_top more.top kinds ≡ kind ∷ kinds) → more.below ≡ below → spelled [] (set (nodes ++ more ∷ []) below (noted kind above node)) ≡ lists ++ (kind ∷ list_of lists below) ∷ []
pushed lists nodes kind below above node more view node_is inside top_is below_is =
    spelled_noted [] (nodes ++ more ∷ []) below above kind node (node_is ∙ sym (get_or_append_left nodes (more ∷ []) node below inside))
    ∙ spelled_push [] nodes more ∙ ap (λ ls. ls ++ on_top more.top (list_of ls more.below) ∷ []) view
    ∙ ap (λ t. lists ++ t ∷ []) (top_is (list_of lists more.below) ∙ ap (λ (j : ℕ). kind ∷ list_of lists j) below_is)

-- and what is known of them
pub list_made : (lists more : List (List BaseType)) (n : List BaseType) (above : ℕ) → more ≡ lists ++ n ∷ [] → above ≡ length lists → (length more ≡ length lists + 1) × ((list_of more above ≡ n) × ((k : ℕ) → length lists ≤ k → k < length more → list_of more k ≡ n))
list_made lists more n above e is = (
  ap length e ∙ longer_one lists n,
  (
    ap (λ l. list_of l above) e ∙ ap (list_of (lists ++ n ∷ [])) is ∙ new lists n,
    λ k low high.
        let last : k ≡ length lists = omega (arith, ap length e, longer_one lists n) in
        ap (λ l. list_of l k) e ∙ ap (list_of (lists ++ n ∷ [])) last ∙ new lists n,
  ),
)

-- a node is put after the others, and noted at the one below it: the nodes then, and what is known of the lists
pub added : (lists : List (List BaseType)) (nodes longer new : List Node) (kind : BaseType) (list above : ℕ) (node more : Node) → spelled [] nodes ≡ lists → length lists ≡ length nodes → list < length lists → node ≡ get_or nodes list node → above ≡ length nodes → longer ≡ nodes ++ more ∷ [] → new ≡ set longer list (noted kind above (get_or longer list node)) → ((kinds : List BaseType) → on_top more.top kinds ≡ kind ∷ kinds) → more.below ≡ list → (new ≡ set (nodes ++ more ∷ []) list (noted kind above node)) × ((spelled [] new ≡ lists ++ (kind ∷ list_of lists list) ∷ []) × ((length (spelled [] new) ≡ length lists + 1) × ((list_of (spelled [] new) above ≡ kind ∷ list_of lists list) × ((k : ℕ) → length lists ≤ k → k < length (spelled [] new) → list_of (spelled [] new) k ≡ kind ∷ list_of lists list))))
added lists nodes longer new kind list above node more view long there node_is above_is longer_is new_is top_is below_is =
    let at : node ≡ get_or (nodes ++ more ∷ []) list node = node_is ∙ sym (get_or_append_left nodes (more ∷ []) node list (omega (arith, there, long))) in
    let items : new ≡ set (nodes ++ more ∷ []) list (noted kind above node) = new_is ∙ ap (λ (l : List Node). set l list (noted kind above (get_or l list node))) longer_is ∙ ap (λ (n : Node). set (nodes ++ more ∷ []) list (noted kind above n)) (sym at) in
    let spelling : spelled [] new ≡ lists ++ (kind ∷ list_of lists list) ∷ [] = ap (spelled []) items ∙ pushed lists nodes kind list above node more view node_is (omega (arith, there, long)) top_is below_is in
    (items, (spelling, list_made lists (spelled [] new) (kind ∷ list_of lists list) above spelling (omega (arith, above_is, long))))

pub any_default : {A : Type 0} (xs : List A) (k : ℕ) (d e : A) → k < length xs → get_or xs k d ≡ get_or xs k e
any_default [] k d e h = absurd (omega arith)
any_default (x ∷ xs) zero d e h = refl
any_default (x ∷ xs) (suc k) d e h = any_default xs k d e (omega arith)

-- what is found of a kind above a list
pub above_found : (kind : BaseType) (lists : List (List BaseType)) (above : List (Option ℕ)) (k : ℕ) (found : Option ℕ) → HasAbove kind lists above → k < length lists → get_or above k None ≡ found → (IfSome found (λ r. r < length lists)) × ((IfSome found (λ r. list_of lists r ≡ kind ∷ list_of lists k)) × (IfNone found ((r : ℕ) → r < length lists → list_of lists r ≢ kind ∷ list_of lists k)))
above_found kind lists above k None h l e = (tt, (tt, λ r lr. h.none k l e r lr))
above_found kind lists above k (Some r) h l e = let s = h.some k r l e in (s.0, (s.1, tt))

-- ---- the list below the topmost 64

-- what is below this many operands is there
pub tails_drop : (lists : List (List BaseType)) → HasTails lists → (n r : ℕ) → r < length lists → n ≤ length (list_of lists r) → (b : ℕ) × (b < length lists) × (list_of lists b ≡ drop n (list_of lists r))
tails_drop lists tails n r l long = along n r (list_of lists r) l refl long
  where
    along : (n r : ℕ) (kinds : List BaseType) → r < length lists → list_of lists r ≡ kinds → n ≤ length kinds → (b : ℕ) × (b < length lists) × (list_of lists b ≡ drop n kinds)
    along zero r kinds l is h = (r, l, is)
    along (suc n) r [] l is h = absurd (omega arith)
    along (suc n) r (q ∷ kinds) l is h = let t = tails r q kinds l is in along n t.0 kinds t.1 t.2 (omega arith)

module _ (lists : List (List BaseType)) (nodes : List Node) (ints booleans : List (Option ℕ)) (s : IsShared lists nodes ints booleans) where
  pub node_at : (list : ℕ) (node : Node) → list < length lists → node ≡ get_or nodes list node → IsNode lists list node
  node_at list node l is = subst (IsNode lists list) (sym is) (s.node list node (omega (arith, s.long)))

  pub skip_short : (list : ℕ) (node : Node) → IsNode lists list node → node.depth < 64 → list_of lists 0 ≡ drop 63 (list_of lists list)
  skip_short list node h short = s.root ∙ sym (drop_all 63 (list_of lists list) (omega (arith, h.depth)))

  pub skip_missing : (list : ℕ) (node : Node) (kind : BaseType) → IsNode lists list node → list < length lists → 64 ≤ node.depth → drop 63 (list_of lists list) ≡ kind ∷ drop 64 (list_of lists list) → ((k : ℕ) → k < length lists → list_of lists k ≢ kind ∷ list_of lists node.skip) → ⊥
  skip_missing list node kind h l long last none =
      let t = tails_drop lists (tails_of lists nodes ints booleans s) 63 list l (omega (arith, h.depth)) in
      none t.0 t.1 (t.2 ∙ last ∙ ap (λ ks. kind ∷ ks) (sym h.skip))
