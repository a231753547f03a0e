-- An observer, apart from principals: a reader of labels, what it reads of a state, and states that are the same for it.
use Rattle.common.specs.Functions.{updated}
use Rattle.std.proofs.Common.{◌≡◌, refl, sym, ap, ◌∙◌, ℕ, Bool, true, false, ◌&&◌, List, [], ◌∷◌, ◌++◌, filter, arith}
use Rattle.std.specs.Prelude.{IsTrue, ◌==◌, ℤ}
use Rattle.std.proofs.lemmas.Bool.{and_parts, and_left, and_right}
use Rattle.std.proofs.lemmas.List.{append-nil}
use Rattle.lattices.proofs.Constraints.{join_of-append}
use Rattle.std.proofs.lemmas.List.Elements.{filter-append}
use Rattle.principals.specs.ActsFor.{PrincipalHierarchy}
use Rattle.common.specs.declared.sent.Pair.{Pair}
use Rattle.labels.specs.Label.{Label, flows}
use Rattle.resolved.specs.declared.expression.Variable.{Variable}
use Rattle.resolved.specs.declared.expression.Variable.TheVariants.{Global, Local}
use Rattle.common.specs.declared.value.Value.{Value}
use Rattle.resolved.specs.SourceState.{SourceState, cells, with_cells}
use Rattle.common.specs.Values.{number_in}
use Rattle.resolved.specs.Meaning.{sending}
use Rattle.resolved.specs.Labelled.{Scope, Join, one, Labelling, label_under, join_under, variable_label, channel_label, LabelAtom}
use Rattle.lattices.specs.Constraints.{Written}

-- who reads labels: a test that the empty label passes, and a join where both its sides do. Where a label flows to another one,
-- a reader of the other one reads it
pub record LabelReader (h : PrincipalHierarchy) : Type 0 where
  pub reads : Label → Bool
  pub nothing : reads [] ≡ true
  pub joined : (a b : Label) → reads (a ++ b) ≡ (reads a && reads b)
  pub flowing : (a b : Label) → IsTrue (flows h a b) → reads b ≡ true → reads a ≡ true

-- the same for joins under a labelling
pub record Reader (h : PrincipalHierarchy) (labelling : Labelling) : Type 0 where
  pub reads : Join → Bool
  pub label : Label → Bool
  pub written : (label_ : Label) → reads (one (Written label_)) ≡ label label_
  pub nothing : reads [] ≡ true
  pub joined : (a b : Join) → reads (a ++ b) ≡ (reads a && reads b)
  pub flowing : (a : Join) (b : LabelAtom) → IsTrue (flows h (join_under labelling a) (label_under labelling b)) →
      reads (one b) ≡ true → reads a ≡ true

and-true : (a b : Bool) → b ≡ true → (a && b) ≡ a
and-true true b e = e
and-true false b e = refl

pub reads-one : {h : PrincipalHierarchy} (base : LabelReader h) (label : Label) → base.reads (label ++ []) ≡ base.reads label
reads-one base label = base.joined label [] ∙ and-true (base.reads label) (base.reads []) base.nothing

abbrev pub under : {h : PrincipalHierarchy} → LabelReader h → (labelling : Labelling) → Reader h labelling
under {h} base labelling = record {
  reads = λ join. base.reads (join_under labelling join);
  label = base.reads;
  written = λ label. reads-one base label;
  nothing = base.nothing;
  joined = λ a b. ap base.reads (join_of-append labelling a b) ∙ base.joined (join_under labelling a) (join_under labelling b);
  flowing = λ a b flow e. base.flowing (join_under labelling a) (label_under labelling b) flow (sym (reads-one base (label_under labelling b)) ∙ e);
}

-- what follows from reading a join, and from not reading a side of it
module _ {h : PrincipalHierarchy} {labelling : Labelling} (reader : Reader h labelling) (a b : Join) where
  pub read-left : reader.reads (a ++ b) ≡ true → reader.reads a ≡ true
  read-left e = (and_parts (reader.reads a) (reader.reads b) (sym (reader.joined a b) ∙ e)).0

  pub read-right : reader.reads (a ++ b) ≡ true → reader.reads b ≡ true
  read-right e = (and_parts (reader.reads a) (reader.reads b) (sym (reader.joined a b) ∙ e)).1

  pub unread-left : reader.reads a ≡ false → reader.reads (a ++ b) ≡ false
  unread-left e = reader.joined a b ∙ and_left (reader.reads a) (reader.reads b) e

  pub unread-right : reader.reads b ≡ false → reader.reads (a ++ b) ≡ false
  unread-right e = reader.joined a b ∙ and_right (reader.reads a) (reader.reads b) e

-- where a join flows to a label, who does not read it does not read the label
module _ {h : PrincipalHierarchy} {labelling : Labelling} (reader : Reader h labelling) (a : Join) (b : LabelAtom) where
  pub unread-flowing : IsTrue (flows h (join_under labelling a) (label_under labelling b)) → reader.reads a ≡ false →
      reader.reads (one b) ≡ false
  unread-flowing e f = go (reader.reads (one b)) refl
    where
      go : (x : Bool) → reader.reads (one b) ≡ x → reader.reads (one b) ≡ false
      go false g = g
      go true g = let i : true ≡ false = sym (reader.flowing a b e g) ∙ f in absurd (cc)

-- what an observer reads: which variables and which channels
pub record View : Type 0 where
  pub variable : Variable → Bool
  pub channel : ℕ → Bool

abbrev pub view_of : {h : PrincipalHierarchy} {labelling : Labelling} → Reader h labelling → Scope → View
view_of reader scope = record {
  variable = λ x. reader.reads (variable_label scope x);
  channel = λ n. reader.label (channel_label scope.program n);
}

-- what it sees of what was sent
abbrev pub shown : View → List Pair → List Pair
shown view sent = filter (λ (pair : Pair). view.channel pair.channel) sent

-- two states that are the same for it
pub record AgreeFor (view : View) (s t : SourceState) : Type 0 where
  pub variables : (x : Variable) → view.variable x ≡ true → cells s x ≡ cells t x
  pub inputs : (n : ℕ) → view.channel n ≡ true → s.inputs n ≡ t.inputs n
  pub sent : shown view s.sent ≡ shown view t.sent

pub agree-itself : (view : View) (s : SourceState) → AgreeFor view s s
agree-itself view s = record { variables = λ x e. refl; inputs = λ n e. refl; sent = refl }

pub agree-back : (view : View) (s t : SourceState) → AgreeFor view s t → AgreeFor view t s
agree-back view s t h = record {
  variables = λ x e. sym (h.variables x e);
  inputs = λ n e. sym (h.inputs n e);
  sent = sym h.sent;
}

pub agree-through : (view : View) (s t u : SourceState) → AgreeFor view s t → AgreeFor view t u → AgreeFor view s u
agree-through view s t u h i = record {
  variables = λ x e. h.variables x e ∙ i.variables x e;
  inputs = λ n e. h.inputs n e ∙ i.inputs n e;
  sent = h.sent ∙ i.sent;
}

-- two runs that leave states alone
pub agree-across : (view : View) (s t s' t' : SourceState) → AgreeFor view s t → AgreeFor view s s' → AgreeFor view t t' →
    AgreeFor view s' t'
agree-across view s t s' t' h i j =
    agree-through view s' s t' (agree-back view s s' i) (agree-through view s t t' h j)

updated-alike : {A : Type 0} (f g : ℕ → A) (n : ℕ) (a b : A) (m : ℕ) → (m ≡ n → a ≡ b) → f m ≡ g m →
    updated f n a m ≡ updated g n b m
updated-alike f g n a b m here there = go (m == n) refl
  where
    go : (x : Bool) → (m == n) ≡ x → updated f n a m ≡ updated g n b m
    go true e = let same : m ≡ n = grind (arith, e) in rw e (here same)
    go false e = rw e there

updated-elsewhere : {A : Type 0} (f : ℕ → A) (n : ℕ) (a : A) (m : ℕ) → (m ≡ n → ⊥) → f m ≡ updated f n a m
updated-elsewhere f n a m h = go (m == n) refl
  where
    go : (x : Bool) → (m == n) ≡ x → f m ≡ updated f n a m
    go true e = let same : m ≡ n = grind (arith, e) in absurd (h same)
    go false e = rw e refl

cells-alike : (view : View) (s t : SourceState) (x : Variable) (vs ws : List Value) → AgreeFor view s t →
    (view.variable x ≡ true → vs ≡ ws) → (y : Variable) → view.variable y ≡ true →
    cells (with_cells s x vs) y ≡ cells (with_cells t x ws) y
cells-alike view s t (Global n) vs ws h same (Global m) e =
    updated-alike s.globals t.globals n vs ws m (λ here. same (rw (← here) e)) (h.variables (Global m) e)
cells-alike view s t (Local n) vs ws h same (Local m) e =
    updated-alike s.locals t.locals n vs ws m (λ here. same (rw (← here) e)) (h.variables (Local m) e)
cells-alike view s t (Global n) vs ws h same (Local m) e = h.variables (Local m) e
cells-alike view s t (Local n) vs ws h same (Global m) e = h.variables (Global m) e

-- the same variable has other cells in both, the same ones if the observer reads it
pub agree-with_cells : (view : View) (s t : SourceState) (x : Variable) (vs ws : List Value) → AgreeFor view s t →
    (view.variable x ≡ true → vs ≡ ws) → AgreeFor view (with_cells s x vs) (with_cells t x ws)
agree-with_cells view s t (Global n) vs ws h same = record {
  variables = cells-alike view s t (Global n) vs ws h same;
  inputs = h.inputs;
  sent = h.sent;
}
agree-with_cells view s t (Local n) vs ws h same = record {
  variables = cells-alike view s t (Local n) vs ws h same;
  inputs = h.inputs;
  sent = h.sent;
}

cells-kept : (view : View) (s : SourceState) (x : Variable) (vs : List Value) → view.variable x ≡ false → (y : Variable) →
    view.variable y ≡ true → cells s y ≡ cells (with_cells s x vs) y
cells-kept view s (Global n) vs unread (Global m) e =
    updated-elsewhere s.globals n vs m (λ here. let i : true ≡ false = sym (rw (← here) e) ∙ unread in absurd (cc))
cells-kept view s (Local n) vs unread (Local m) e =
    updated-elsewhere s.locals n vs m (λ here. let i : true ≡ false = sym (rw (← here) e) ∙ unread in absurd (cc))
cells-kept view s (Global n) vs unread (Local m) e = refl
cells-kept view s (Local n) vs unread (Global m) e = refl

-- a variable that the observer does not read has other cells
pub agree-unread : (view : View) (s : SourceState) (x : Variable) (vs : List Value) → view.variable x ≡ false →
    AgreeFor view s (with_cells s x vs)
agree-unread view s (Global n) vs unread = record {
  variables = cells-kept view s (Global n) vs unread;
  inputs = λ m e. refl;
  sent = refl;
}
agree-unread view s (Local n) vs unread = record {
  variables = cells-kept view s (Local n) vs unread;
  inputs = λ m e. refl;
  sent = refl;
}

-- the numbers that are left of an input
abbrev pub with_input : SourceState → ℕ → List ℤ → SourceState
with_input s channel numbers = record s { inputs = updated s.inputs channel numbers }

pub agree-with_input : (view : View) (s t : SourceState) (channel : ℕ) (numbers : List ℤ) → AgreeFor view s t →
    AgreeFor view (with_input s channel numbers) (with_input t channel numbers)
agree-with_input view s t channel numbers h = record {
  variables = λ where_ e. same-variables view s t h channel numbers where_ e;
  inputs = λ m e. updated-alike s.inputs t.inputs channel numbers numbers m (λ here. refl) (h.inputs m e);
  sent = h.sent;
}
  where
    same-variables : (view : View) (s t : SourceState) → AgreeFor view s t → (channel : ℕ) (numbers : List ℤ) (x : Variable) →
        view.variable x ≡ true → cells (with_input s channel numbers) x ≡ cells (with_input t channel numbers) x
    same-variables view s t h channel numbers (Global n) e = h.variables (Global n) e
    same-variables view s t h channel numbers (Local n) e = h.variables (Local n) e

pub agree-unread_input : (view : View) (s : SourceState) (channel : ℕ) (numbers : List ℤ) → view.channel channel ≡ false →
    AgreeFor view s (with_input s channel numbers)
agree-unread_input view s channel numbers unread = record {
  variables = kept s channel numbers;
  inputs = λ m e. updated-elsewhere s.inputs channel numbers m (λ here. let i : true ≡ false = sym (rw (← here) e) ∙ unread in absurd (cc));
  sent = refl;
}
  where
    kept : (s : SourceState) (channel : ℕ) (numbers : List ℤ) (x : Variable) → view.variable x ≡ true →
        cells s x ≡ cells (with_input s channel numbers) x
    kept s channel numbers (Global n) e = refl
    kept s channel numbers (Local n) e = refl

shown-one : (view : View) (channel : ℕ) (v w : Value) → (view.channel channel ≡ true → v ≡ w) →
    shown view (record { channel = channel; number = number_in v } ∷ []) ≡ shown view (record { channel = channel; number = number_in w } ∷ [])
shown-one view channel v w same = go (view.channel channel) refl
  where
    go : (b : Bool) → view.channel channel ≡ b →
        shown view (record { channel = channel; number = number_in v } ∷ []) ≡ shown view (record { channel = channel; number = number_in w } ∷ [])
    go true e = rw (same e) refl
    go false e = rw e refl

shown-none : (view : View) (channel : ℕ) (v : Value) → view.channel channel ≡ false →
    shown view (record { channel = channel; number = number_in v } ∷ []) ≡ []
shown-none view channel v unread = rw unread refl

-- a pair is sent in both, the same one if the observer reads its channel
pub agree-sending : (view : View) (s t : SourceState) (channel : ℕ) (v w : Value) → AgreeFor view s t →
    (view.channel channel ≡ true → v ≡ w) → AgreeFor view (sending channel v s) (sending channel w t)
agree-sending view s t channel v w h same = record {
  variables = variables-kept (sending channel v s) (sending channel w t);
  inputs = h.inputs;
  sent =
      filter-append (λ (pair : Pair). view.channel pair.channel) s.sent (record { channel = channel; number = number_in v } ∷ [])
      ∙ ap (λ l. l ++ shown view (record { channel = channel; number = number_in v } ∷ [])) h.sent
      ∙ ap (λ l. shown view t.sent ++ l) (shown-one view channel v w same)
      ∙ sym (filter-append (λ (pair : Pair). view.channel pair.channel) t.sent (record { channel = channel; number = number_in w } ∷ []));
}
  where
    variables-kept : (s' t' : SourceState) → (x : Variable) → view.variable x ≡ true →
        cells (sending channel v s) x ≡ cells (sending channel w t) x
    variables-kept s' t' (Global n) e = h.variables (Global n) e
    variables-kept s' t' (Local n) e = h.variables (Local n) e

pub agree-unread_sending : (view : View) (s : SourceState) (channel : ℕ) (v : Value) → view.channel channel ≡ false →
    AgreeFor view s (sending channel v s)
agree-unread_sending view s channel v unread = record {
  variables = variables-kept;
  inputs = λ m e. refl;
  sent =
      sym (append-nil (shown view s.sent))
      ∙ sym (ap (λ l. shown view s.sent ++ l) (shown-none view channel v unread))
      ∙ sym (filter-append (λ (pair : Pair). view.channel pair.channel) s.sent (record { channel = channel; number = number_in v } ∷ []));
}
  where
    variables-kept : (x : Variable) → view.variable x ≡ true → cells s x ≡ cells (sending channel v s) x
    variables-kept (Global n) e = refl
    variables-kept (Local n) e = refl
