-- What decides whether an expression raises an exception, each part of it once: the same parts as the rules' label has.
use Rattle.std.proofs.Common.{◌≡◌, subst, ℕ, Bool, true, false, List, [], ◌∷◌, ◌++◌, ◌&&◌, ⊎_elim}
use Rattle.std.specs.Prelude.{Contains, if◌then◌else◌, flat_map}
use Rattle.std.proofs.lemmas.List.Elements.{Contains-append_cases, Contains-append_left, Contains-append_right}
use Rattle.common.proofs.Elements.{none_in_nil}
use Rattle.resolved.specs.declared.statement.Exit.{Exit}
use Rattle.resolved.specs.declared.statement.Exit.TheVariants.{Normal, Return, Break, Continue, Throw}
use Rattle.resolved.specs.declared.target.Target.TheVariants.{ToEnd, ToThrown}
use Rattle.resolved.specs.Tree.{Expression, Integer, Logical, Read, Element, Unary, Binary, Short}
use Rattle.resolved.specs.Program.{Program, procedure_at}
use Rattle.resolved.specs.Exits.{index_can_raise, divisor_can_raise, is_division, raises, list_if}
use Rattle.resolved.specs.Labelled.{Scope, Join, LabelAtom, one, label_of, variable_label, value_label, raise_label, any_of, call_exit_labels}
use Rattle.gathering.specs.Walk.{raise_atoms, raise_atoms_all, store_atoms, call_atoms}

abbrev pub Sub : Join → Join → Type 0
Sub x y = (a : LabelAtom) → Contains x a → Contains y a

-- the same parts
abbrev pub Alike : Join → Join → Type 0
Alike x y = Sub x y × Sub y x

pub sub-same : (x y : Join) → x ≡ y → Sub x y
sub-same x y e a h = subst (λ z. Contains z a) e h

pub sub-nil : (x : Join) → Sub [] x
sub-nil x a h = absurd (none_in_nil a h)

pub sub-left : (x y : Join) → Sub x (x ++ y)
sub-left x y a h = Contains-append_left x y a h

pub sub-right : (x y : Join) → Sub y (x ++ y)
sub-right x y a h = Contains-append_right x y a h

pub sub-both : (x y z : Join) → Sub x z → Sub y z → Sub (x ++ y) z
sub-both x y z f g a h = ⊎_elim (λ t. f a t) (λ t. g a t) (Contains-append_cases x y a h)

-- into one of the sides
sub-first : (x y z : Join) → Sub x y → Sub x (y ++ z)
sub-first x y z f a h = Contains-append_left y z a (f a h)

sub-second : (x y z : Join) → Sub x z → Sub x (y ++ z)
sub-second x y z f a h = Contains-append_right y z a (f a h)

sub-itself : (x : Join) → Sub x x
sub-itself x a h = h

list_if-below : (b : Bool) (x : Join) → Sub (list_if b x) x
list_if-below true x = sub-itself x
list_if-below false x = sub-nil x

-- a label that counts under a test, in place of what lies within it
swapped-below : (b : Bool) (v r r' : Join) → Sub r' r → Sub (if b then v else r') (r ++ list_if b v)
swapped-below true v r r' f = sub-right r v
swapped-below false v r r' f = sub-first r' r [] f

swapped-all : (b : Bool) (v r r' : Join) → Sub r v → Sub r r' → Sub (r ++ list_if b v) (if b then v else r')
swapped-all true v r r' f g = sub-both r v v f (sub-itself v)
swapped-all false v r r' f g = sub-both r [] r' g (sub-nil r')

module _ (scope : Scope) where
  pub raise-value : (e : Expression) → Sub (raise_label scope e) (value_label scope e)
  raise-value (Integer n) = sub-nil []
  raise-value (Logical b) = sub-nil []
  raise-value (Read x) = sub-nil (variable_label scope x)
  raise-value (Element array length index) =
      let v : Join = value_label scope index in
      sub-both (raise_label scope index) (list_if (index_can_raise index length) v) (variable_label scope array ++ v)
      (sub-second (raise_label scope index) (variable_label scope array) v (raise-value index))
      (sub-second (list_if (index_can_raise index length) v) (variable_label scope array) v (list_if-below (index_can_raise index length) v))
  raise-value (Unary prefix e) = raise-value e
  raise-value (Binary operator d e) =
      let u : Join = value_label scope d in
      let v : Join = value_label scope e in
      let last : Join = list_if (is_division operator && divisor_can_raise e) v in
      sub-both (raise_label scope d ++ raise_label scope e) last (u ++ v)
      (sub-both (raise_label scope d) (raise_label scope e) (u ++ v)
      (sub-first (raise_label scope d) u v (raise-value d)) (sub-second (raise_label scope e) u v (raise-value e)))
      (sub-second last u v (list_if-below (is_division operator && divisor_can_raise e) v))
  raise-value (Short connective d e) =
      let u : Join = value_label scope d in
      let v : Join = value_label scope e in
      let last : Join = list_if (any_of (raises e)) u in
      sub-both (raise_label scope d ++ raise_label scope e) last (u ++ v)
      (sub-both (raise_label scope d) (raise_label scope e) (u ++ v)
      (sub-first (raise_label scope d) u v (raise-value d)) (sub-second (raise_label scope e) u v (raise-value e)))
      (sub-first last u v (list_if-below (any_of (raises e)) u))

  pub atoms-below : (e : Expression) → Sub (raise_atoms scope e) (raise_label scope e)
  atoms-below (Integer n) = sub-nil []
  atoms-below (Logical b) = sub-nil []
  atoms-below (Read x) = sub-nil []
  atoms-below (Element array length index) =
      swapped-below (index_can_raise index length) (value_label scope index) (raise_label scope index) (raise_atoms scope index) (atoms-below index)
  atoms-below (Unary prefix e) = atoms-below e
  atoms-below (Binary operator d e) =
      let b : Bool = is_division operator && divisor_can_raise e in
      let r : Join = raise_label scope d in
      let s : Join = raise_label scope e in
      let v : Join = value_label scope e in
      let own : Join = if b then v else raise_atoms scope e in
      λ a h. ⊎_elim
      (λ t. sub-left (r ++ s) (list_if b v) a (sub-left r s a (atoms-below d a t)))
      (λ t. ⊎_elim (λ i. sub-left (r ++ s) (list_if b v) a (sub-right r s a i)) (λ i. sub-right (r ++ s) (list_if b v) a i)
      (Contains-append_cases s (list_if b v) a (swapped-below b v s (raise_atoms scope e) (atoms-below e) a t)))
      (Contains-append_cases (raise_atoms scope d) own a h)
  atoms-below (Short connective d e) =
      let b : Bool = any_of (raises e) in
      let r : Join = raise_label scope d in
      let s : Join = raise_label scope e in
      let u : Join = value_label scope d in
      let own : Join = if b then u else raise_atoms scope d in
      λ a h. ⊎_elim
      (λ t. sub-left (r ++ s) (list_if b u) a (sub-right r s a (atoms-below e a t)))
      (λ t. ⊎_elim (λ i. sub-left (r ++ s) (list_if b u) a (sub-left r s a i)) (λ i. sub-right (r ++ s) (list_if b u) a i)
      (Contains-append_cases r (list_if b u) a (swapped-below b u r (raise_atoms scope d) (atoms-below d) a t)))
      (Contains-append_cases (raise_atoms scope e) own a h)

  pub atoms-all : (e : Expression) → Sub (raise_label scope e) (raise_atoms scope e)
  atoms-all (Integer n) = sub-nil []
  atoms-all (Logical b) = sub-nil []
  atoms-all (Read x) = sub-nil []
  atoms-all (Element array length index) =
      swapped-all (index_can_raise index length) (value_label scope index) (raise_label scope index) (raise_atoms scope index) (raise-value index) (atoms-all index)
  atoms-all (Unary prefix e) = atoms-all e
  atoms-all (Binary operator d e) =
      let b : Bool = is_division operator && divisor_can_raise e in
      let r : Join = raise_label scope d in
      let s : Join = raise_label scope e in
      let v : Join = value_label scope e in
      let own : Join = if b then v else raise_atoms scope e in
      let within : Sub (s ++ list_if b v) own = swapped-all b v s (raise_atoms scope e) (raise-value e) (atoms-all e) in
      λ a h. ⊎_elim
      (λ t. ⊎_elim (λ i. sub-left (raise_atoms scope d) own a (atoms-all d a i)) (λ i. sub-right (raise_atoms scope d) own a (within a (sub-left s (list_if b v) a i)))
      (Contains-append_cases r s a t))
      (λ t. sub-right (raise_atoms scope d) own a (within a (sub-right s (list_if b v) a t)))
      (Contains-append_cases (r ++ s) (list_if b v) a h)
  atoms-all (Short connective d e) =
      let b : Bool = any_of (raises e) in
      let r : Join = raise_label scope d in
      let s : Join = raise_label scope e in
      let u : Join = value_label scope d in
      let own : Join = if b then u else raise_atoms scope d in
      let within : Sub (r ++ list_if b u) own = swapped-all b u r (raise_atoms scope d) (raise-value d) (atoms-all d) in
      λ a h. ⊎_elim
      (λ t. ⊎_elim (λ i. sub-right (raise_atoms scope e) own a (within a (sub-left r (list_if b u) a i))) (λ i. sub-left (raise_atoms scope e) own a (atoms-all e a i))
      (Contains-append_cases r s a t))
      (λ t. sub-right (raise_atoms scope e) own a (within a (sub-right r (list_if b u) a t)))
      (Contains-append_cases (r ++ s) (list_if b u) a h)

  -- what is gathered of a statement's own expressions, after pc, and what the rules say
  pub alike-raise : (pc : Join) (e : Expression) → Alike (pc ++ raise_atoms scope e) (pc ++ raise_label scope e)
  alike-raise pc e = (
    sub-both pc (raise_atoms scope e) (pc ++ raise_label scope e) (sub-left pc (raise_label scope e)) (sub-second (raise_atoms scope e) pc (raise_label scope e) (atoms-below e)),
    sub-both pc (raise_label scope e) (pc ++ raise_atoms scope e) (sub-left pc (raise_atoms scope e)) (sub-second (raise_label scope e) pc (raise_atoms scope e) (atoms-all e)),
  )

  absorbed : (pc r v : Join) → Sub r v → Alike (pc ++ v) ((pc ++ r) ++ v)
  absorbed pc r v f = (
    sub-both pc v ((pc ++ r) ++ v) (sub-first pc (pc ++ r) v (sub-left pc r)) (sub-right (pc ++ r) v),
    sub-both (pc ++ r) v (pc ++ v) (sub-both pc r (pc ++ v) (sub-left pc v) (sub-second r pc v f)) (sub-right pc v),
  )

  pub alike-value : (pc : Join) (e : Expression) → Alike (pc ++ value_label scope e) ((pc ++ raise_label scope e) ++ value_label scope e)
  alike-value pc e = absorbed pc (raise_label scope e) (value_label scope e) (raise-value e)

  pub atoms_all-below : (es : List Expression) → Sub (raise_atoms_all scope es) (flat_map (raise_label scope) es)
  atoms_all-below [] = sub-nil []
  atoms_all-below (e ∷ rest) =
      sub-both (raise_atoms scope e) (raise_atoms_all scope rest) (raise_label scope e ++ flat_map (raise_label scope) rest)
      (sub-first (raise_atoms scope e) (raise_label scope e) (flat_map (raise_label scope) rest) (atoms-below e))
      (sub-second (raise_atoms_all scope rest) (raise_label scope e) (flat_map (raise_label scope) rest) (atoms_all-below rest))

  pub atoms_all-all : (es : List Expression) → Sub (flat_map (raise_label scope) es) (raise_atoms_all scope es)
  atoms_all-all [] = sub-nil []
  atoms_all-all (e ∷ rest) =
      sub-both (raise_label scope e) (flat_map (raise_label scope) rest) (raise_atoms scope e ++ raise_atoms_all scope rest)
      (sub-first (raise_label scope e) (raise_atoms scope e) (raise_atoms_all scope rest) (atoms-all e))
      (sub-second (flat_map (raise_label scope) rest) (raise_atoms scope e) (raise_atoms_all scope rest) (atoms_all-all rest))

  pub alike-arguments : (pc : Join) (es : List Expression) → Alike (pc ++ raise_atoms_all scope es) (pc ++ flat_map (raise_label scope) es)
  alike-arguments pc es = (
    sub-both pc (raise_atoms_all scope es) (pc ++ flat_map (raise_label scope) es) (sub-left pc (flat_map (raise_label scope) es)) (sub-second (raise_atoms_all scope es) pc (flat_map (raise_label scope) es) (atoms_all-below es)),
    sub-both pc (flat_map (raise_label scope) es) (pc ++ raise_atoms_all scope es) (sub-left pc (raise_atoms_all scope es)) (sub-second (flat_map (raise_label scope) es) pc (raise_atoms_all scope es) (atoms_all-all es)),
  )

  -- a store
  abbrev pub store_label : Join → (length : ℕ) → (index e : Expression) → Join
  store_label pc length index e =
      ((pc ++ raise_label scope index) ++ raise_label scope e) ++ list_if (index_can_raise index length) (value_label scope index)

  pub alike-store : (pc : Join) (length : ℕ) (index e : Expression) → Alike (pc ++ store_atoms scope length index e) (store_label pc length index e)
  alike-store pc length index e =
      let b : Bool = index_can_raise index length in
      let v : Join = value_label scope index in
      let c : Join = list_if b v in
      let r : Join = raise_label scope index in
      let s : Join = raise_label scope e in
      let access : Join = if b then v else raise_atoms scope index in
      let last : Join = raise_atoms scope e in
      let below : Sub access (r ++ c) = swapped-below b v r (raise_atoms scope index) (atoms-below index) in
      let all : Sub (r ++ c) access = swapped-all b v r (raise_atoms scope index) (raise-value index) (atoms-all index) in
      let whole : Join = ((pc ++ r) ++ s) ++ c in
      let in_r : Sub r whole = λ a h. sub-left ((pc ++ r) ++ s) c a (sub-left (pc ++ r) s a (sub-right pc r a h)) in
      let in_c : Sub c whole = sub-right ((pc ++ r) ++ s) c in (
        sub-both pc (access ++ last) whole (λ a h. sub-left ((pc ++ r) ++ s) c a (sub-left (pc ++ r) s a (sub-left pc r a h)))
            (sub-both access last whole (λ a h. sub-both r c whole in_r in_c a (below a h)) (λ a h. sub-left ((pc ++ r) ++ s) c a (sub-right (pc ++ r) s a (atoms-below e a h)))),
        sub-both ((pc ++ r) ++ s) c (pc ++ (access ++ last))
            (sub-both (pc ++ r) s (pc ++ (access ++ last))
            (sub-both pc r (pc ++ (access ++ last)) (sub-left pc (access ++ last)) (λ a h. sub-right pc (access ++ last) a (sub-left access last a (all a (sub-left r c a h)))))
            (λ a h. sub-right pc (access ++ last) a (sub-right access last a (atoms-all e a h))))
            (λ a h. sub-right pc (access ++ last) a (sub-left access last a (all a (sub-right r c a h)))),
      )

  pub alike-stored : (pc : Join) (length : ℕ) (index e : Expression) →
      Alike (pc ++ (value_label scope index ++ value_label scope e)) ((store_label pc length index e ++ value_label scope index) ++ value_label scope e)
  alike-stored pc length index e =
      let b : Bool = index_can_raise index length in
      let v : Join = value_label scope index in
      let w : Join = value_label scope e in
      let c : Join = list_if b v in
      let r : Join = raise_label scope index in
      let s : Join = raise_label scope e in
      let own : Join = ((pc ++ r) ++ s) ++ c in
      let whole : Join = pc ++ (v ++ w) in
      let in_v : Sub v whole = λ a h. sub-right pc (v ++ w) a (sub-left v w a h) in
      let in_w : Sub w whole = λ a h. sub-right pc (v ++ w) a (sub-right v w a h) in (
        sub-both pc (v ++ w) ((own ++ v) ++ w)
            (λ a h. sub-left (own ++ v) w a (sub-left own v a (sub-left ((pc ++ r) ++ s) c a (sub-left (pc ++ r) s a (sub-left pc r a h)))))
            (sub-both v w ((own ++ v) ++ w) (λ a h. sub-left (own ++ v) w a (sub-right own v a h)) (sub-right (own ++ v) w)),
        sub-both (own ++ v) w whole
            (sub-both own v whole
            (sub-both ((pc ++ r) ++ s) c whole
            (sub-both (pc ++ r) s whole (sub-both pc r whole (sub-left pc (v ++ w)) (λ a h. in_v a (raise-value index a h))) (λ a h. in_w a (raise-value e a h)))
            (λ a h. in_v a (list_if-below b v a h)))
            in_v)
            in_w,
      )

-- ---- calls
pub alike-call : (program : Program) (callee : ℕ) (j : Join) (e : Exit) → Alike (j ++ call_atoms program callee e) (call_exit_labels program callee j e)
alike-call program callee j Normal =
    let x : Join = list_if (any_of (procedure_at program callee).throws) (one (label_of program (ToEnd callee))) in (sub-itself (j ++ x), sub-itself (j ++ x))
alike-call program callee j Return = (sub-both j [] j (sub-itself j) (sub-nil j), sub-left j [])
alike-call program callee j Break = (sub-both j [] j (sub-itself j) (sub-nil j), sub-left j [])
alike-call program callee j Continue = (sub-both j [] j (sub-itself j) (sub-nil j), sub-left j [])
alike-call program callee j (Throw x) =
    let y : Join = one (label_of program (ToThrown callee x)) in (sub-itself (j ++ y), sub-itself (j ++ y))

pub alike-three : (j x v : Join) → Alike (j ++ (x ++ v)) ((j ++ x) ++ v)
alike-three j x v = (
  sub-both j (x ++ v) ((j ++ x) ++ v) (λ a h. sub-left (j ++ x) v a (sub-left j x a h))
      (sub-both x v ((j ++ x) ++ v) (λ a h. sub-left (j ++ x) v a (sub-right j x a h)) (sub-right (j ++ x) v)),
  sub-both (j ++ x) v (j ++ (x ++ v)) (sub-both j x (j ++ (x ++ v)) (sub-left j (x ++ v)) (λ a h. sub-right j (x ++ v) a (sub-left x v a h)))
      (λ a h. sub-right j (x ++ v) a (sub-right x v a h)),
)

pub alike-itself : (x : Join) → Alike x x
alike-itself x = (sub-itself x, sub-itself x)
