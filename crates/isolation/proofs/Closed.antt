-- The rule of the single path: what a rule says of the exits becomes the labels of the possible exits.
use Rattle.std.proofs.Common.{◌≡◌, refl, sym, ◌∙◌, Bool, true, false, List, [], ◌∷◌, ⊎_elim}
use Rattle.std.specs.Prelude.{None}
use Rattle.std.proofs.lemmas.Bool.{or_cases}
use Rattle.principals.specs.ActsFor.{PrincipalHierarchy}
use Rattle.resolved.specs.declared.statement.Exit.{Exit}
use Rattle.resolved.specs.declared.statement.Exit.TheVariants.{Return}
use Rattle.resolved.specs.SourceState.{SourceState}
use Rattle.resolved.specs.Meaning.{Outcome, state_after}
use Rattle.resolved.specs.Exits.{same_exit, has_exit, one_exit}
use Rattle.resolved.specs.Labelled.{ExitLabels, Labelling, Join, one}
use Rattle.resolved.specs.LabelRules.{at_exits}
use Rattle.isolation.proofs.Among.{Among}
use Rattle.isolation.proofs.Observer.{Reader, View, AgreeFor, agree-back}
use Rattle.isolation.proofs.Unseen.{Hidden, hidden_exit, hidden_return, hidden_stop, Unseen}
use Rattle.isolation.proofs.Related.{Related, agreed_exit, same_return, apart, first_stops, second_stops, agree-prefix}
use Rattle.resolved.proofs.Exits.{same-exit, all-has}

-- which labels an observer reads
abbrev pub read_exits : {h : PrincipalHierarchy} {labelling : Labelling} → Reader h labelling → ExitLabels → Exit → Bool
read_exits reader exits exit = reader.reads (exits exit)

-- two exits of a list of one are the same
pub one-same : (ends : List Exit) (a b : Exit) → one_exit ends ≡ true → has_exit ends a ≡ true → has_exit ends b ≡ true → a ≡ b
one-same [] a b one h i = let e : true ≡ false = sym h in absurd (cc)
one-same (first ∷ rest) a b one h i = sym (each a h) ∙ each b i
  where
    each : (e : Exit) → has_exit (first ∷ rest) e ≡ true → first ≡ e
    each e f = ⊎_elim (λ g. sym (same-exit e first g)) (λ g. same-exit first e (all-has (same_exit first) rest e one g))
        (or_cases (same_exit e first) (has_exit rest e) f)

pub closed-unread : {h : PrincipalHierarchy} {labelling : Labelling} (reader : Reader h labelling) (ends : List Exit) (pc : Join) (exits : ExitLabels) (exit : Exit) →
    (one_exit ends ≡ true → reader.reads pc ≡ false) → has_exit ends exit ≡ true → reader.reads (exits exit) ≡ false →
    reader.reads (at_exits ends pc exits exit) ≡ false
closed-unread reader ends pc exits exit single among unread = go (one_exit ends) refl
  where
    go : (b : Bool) → one_exit ends ≡ b → reader.reads (at_exits ends pc exits exit) ≡ false
    go true e = rw (among, e) (single e)
    go false e = rw (among, e) unread

hidden-closed : {h : PrincipalHierarchy} {labelling : Labelling} (reader : Reader h labelling) (value : Bool) (ends : List Exit) (pc : Join) (exits : ExitLabels) (o : Outcome) →
    (one_exit ends ≡ true → reader.reads pc ≡ false) → Among ends o → Hidden value (read_exits reader exits) o →
    Hidden value (read_exits reader (at_exits ends pc exits)) o
hidden-closed reader value ends pc exits o single among (hidden_exit exit t m) =
    hidden_exit exit t (closed-unread reader ends pc exits exit single among.among m)
hidden-closed reader value ends pc exits o single among (hidden_return r t m none) =
    hidden_return r t (closed-unread reader ends pc exits Return single among.among m) none
hidden-closed reader value ends pc exits o single among (hidden_stop stop t) = hidden_stop stop t

pub unseen-closed : {h : PrincipalHierarchy} {labelling : Labelling} (reader : Reader h labelling) (view : View) (value : Bool) (ends : List Exit) (pc : Join) (exits : ExitLabels) (s : SourceState) (o : Outcome) → reader.reads pc ≡ false → Among ends o → Unseen view value (read_exits reader exits) s o → Unseen view value (read_exits reader (at_exits ends pc exits)) s o
unseen-closed reader view value ends pc exits s o unread among h =
    record { agree = h.agree; hidden = hidden-closed reader value ends pc exits o (λ one. unread) among h.hidden }

-- two hidden exits of a list of one
related-one : (view : View) (value : Bool) (exits more : Exit → Bool) (ends : List Exit) (o p : Outcome) → one_exit ends ≡ true →
    Among ends o → Among ends p → Hidden value exits o → Hidden value exits p → AgreeFor view (state_after o) (state_after p) →
    Related view value more o p
related-one view value exits more ends o p one among among' (hidden_exit exit s m) (hidden_exit exit' t m') agree =
    rw (one-same ends exit exit' one among.among among'.among) (agreed_exit exit' s t agree)
related-one view value exits more ends o p one among among' (hidden_exit exit s m) (hidden_return r t m' none) agree =
    rw (one-same ends exit Return one among.among among'.among) (same_return None r s t agree (λ e. sym (none e)))
related-one view value exits more ends o p one among among' (hidden_return r s m none) (hidden_exit exit t m') agree =
    rw (one-same ends exit Return one among'.among among.among) (same_return r None s t agree none)
related-one view value exits more ends o p one among among' (hidden_return r s m none) (hidden_return q t m' none') agree =
    same_return r q s t agree (λ e. none e ∙ sym (none' e))
related-one view value exits more ends o p one among among' (hidden_stop stop s) h agree =
    first_stops stop s p (agree-prefix view s (state_after p) agree)
related-one view value exits more ends o p one among among' h (hidden_stop stop t) agree =
    second_stops o stop t (agree-prefix view t (state_after o) (agree-back view (state_after o) t agree))

pub related-closed : {h : PrincipalHierarchy} {labelling : Labelling} (reader : Reader h labelling) (view : View) (value : Bool) (ends : List Exit) (pc : Join) (exits : ExitLabels) (o p : Outcome) → Among ends o → Among ends p → Related view value (read_exits reader exits) o p → Related view value (read_exits reader (at_exits ends pc exits)) o p
related-closed reader view value ends pc exits o p among among' (agreed_exit exit s t h) = agreed_exit exit s t h
related-closed reader view value ends pc exits o p among among' (same_return r q s t h i) = same_return r q s t h i
related-closed reader view value ends pc exits o p among among' (apart _ _ h i j) = go (one_exit ends) refl
  where
    go : (b : Bool) → one_exit ends ≡ b → Related view value (read_exits reader (at_exits ends pc exits)) o p
    go true e = related-one view value (read_exits reader exits) (read_exits reader (at_exits ends pc exits)) ends o p e among among' h i j
    go false e = apart o p
        (hidden-closed reader value ends pc exits o (λ f. let g : true ≡ false = sym f ∙ e in absurd (cc)) among h)
        (hidden-closed reader value ends pc exits p (λ f. let g : true ≡ false = sym f ∙ e in absurd (cc)) among' i) j
related-closed reader view value ends pc exits o p among among' (first_stops stop s _ h) = first_stops stop s p h
related-closed reader view value ends pc exits o p among among' (second_stops _ stop t h) = second_stops o stop t h
