-- Two runs from states that are the same for an observer: they end in the same way in such states, or it reads the label of
-- neither exit; and what it sees of a run that was stopped is a prefix of what it sees of the other.
use Rattle.std.proofs.Common.{◌≡◌, refl, sym, ap, ◌∙◌, ℕ, zero, suc, Bool, true, false, List, []}
use Rattle.std.specs.Prelude.{Option, None, if◌then◌else◌}
use Rattle.std.proofs.lemmas.List.{append-nil}
use Rattle.std.proofs.lemmas.List.Elements.{filter-append}
use Rattle.common.specs.declared.sent.Pair.{Pair}
use Rattle.labels.specs.Sent.{IsPrefix}
use Rattle.common.specs.declared.value.Value.{Value}
use Rattle.resolved.specs.declared.statement.Exit.{Exit}
use Rattle.resolved.specs.declared.statement.Exit.TheVariants.{Normal, Return, Break, Continue, Throw}
use Rattle.resolved.specs.Tree.{Handlers}
use Rattle.common.specs.Values.{truth_in}
use Rattle.resolved.specs.Value.{Evaluated, Yields, Raises}
use Rattle.resolved.specs.SourceState.{SourceState}
use Rattle.resolved.specs.Meaning.{Stop, OutOfFuel, Outcome, Ended, Stopped, normally, thrown, after, evaluated, looped, fuel, caught, state_after}
use Rattle.resolved.specs.Exits.{same_exit, passes}
use Rattle.labels.proofs.Prefixes.{prefix-through}
use Rattle.isolation.proofs.Grows.{Grows, grows-itself, grows-after, grows-looped, grows-fuel, grows-caught}
use Rattle.isolation.proofs.Observer.{View, shown, AgreeFor, agree-across, agree-back}
use Rattle.isolation.proofs.Values.{Alike, both_give, both_raise, SameIf}
use Rattle.isolation.proofs.Unseen.{Hidden, hidden-weaker, Unseen, LoopExitLabels, unseen-after, unseen-looped, unseen-turn_zero, unseen-turn_suc, unseen-caught}

pub data Related (view : View) (value : Bool) (exits : Exit → Bool) : Outcome → Outcome → Type 0 where
  agreed_exit : (exit : Exit) (s t : SourceState) → AgreeFor view s t → Related view value exits (Ended exit None s) (Ended exit None t)
  same_return : (r q : Option Value) (s t : SourceState) → AgreeFor view s t → (value ≡ true → r ≡ q) →
      Related view value exits (Ended Return r s) (Ended Return q t)
  apart : (o p : Outcome) → Hidden value exits o → Hidden value exits p → AgreeFor view (state_after o) (state_after p) →
      Related view value exits o p
  first_stops : (stop : Stop) (s : SourceState) (p : Outcome) → IsPrefix (shown view s.sent) (shown view (state_after p).sent) →
      Related view value exits (Stopped stop s) p
  second_stops : (o : Outcome) (stop : Stop) (t : SourceState) → IsPrefix (shown view t.sent) (shown view (state_after o).sent) →
      Related view value exits o (Stopped stop t)

-- what is seen of what was sent grows with it
pub shown-prefix : (view : View) (xs ys : List Pair) → IsPrefix xs ys → IsPrefix (shown view xs) (shown view ys)
shown-prefix view xs ys h =
    (shown view h.0, sym (filter-append (λ (pair : Pair). view.channel pair.channel) xs h.0) ∙ ap (λ l. shown view l) h.1)

-- what was sent up to a stop is a prefix of what the other run goes on to send
pub stopped-prefix : (view : View) (s : SourceState) (p q : Outcome) → IsPrefix (shown view s.sent) (shown view (state_after p).sent) →
    Grows (state_after p) q → IsPrefix (shown view s.sent) (shown view (state_after q).sent)
stopped-prefix view s p q h grows =
    prefix-through (shown view s.sent) (shown view (state_after p).sent) (shown view (state_after q).sent) h
    (shown-prefix view (state_after p).sent (state_after q).sent grows.sent)

pub agree-prefix : (view : View) (s t : SourceState) → AgreeFor view s t → IsPrefix (shown view s.sent) (shown view t.sent)
agree-prefix view s t h = ([], append-nil (shown view s.sent) ∙ h.sent)

-- two runs of which nothing is seen
pub both-unseen : (view : View) (value : Bool) (exits : Exit → Bool) (s t : SourceState) (o p : Outcome) → AgreeFor view s t →
    Unseen view value exits s o → Unseen view value exits t p → Related view value exits o p
both-unseen view value exits s t o p h i j =
    apart o p i.hidden j.hidden (agree-across view s t (state_after o) (state_after p) h i.agree j.agree)

pub related-evaluated : {A B : Type 0} (P : A → B → Type 0) (view : View) (value : Bool) (exits : Exit →
    Bool) (s t : SourceState) (e : Evaluated A) (f : Evaluated B) (next : A → Outcome) (further : B → Outcome) → AgreeFor view s t →
    Alike P e f → ((v : A) (w : B) → e ≡ Yields v → f ≡ Yields w → P v w → Related view value exits (next v) (further w)) →
    Related view value exits (evaluated e s next) (evaluated f t further)
related-evaluated P view value exits s t e f next further agree (both_give v w h) rest = rest v w refl refl h
related-evaluated P view value exits s t e f next further agree (both_raise x) rest = agreed_exit (Throw x) s t agree

pub related-if : (view : View) (value : Bool) (exits : Exit → Bool) (b c : Bool) (x y x' y' : Outcome) → b ≡ c →
    Related view value exits x x' → Related view value exits y y' →
    Related view value exits (if b then x else y) (if c then x' else y')
related-if view value exits true c x y x' y' e h i = rw (← e) h
related-if view value exits false c x y x' y' e h i = rw (← e) i

pub related-weaker : (view : View) (value : Bool) (exits more : Exit → Bool) (o p : Outcome) → Related view value exits o p →
    ((exit : Exit) → exits exit ≡ false → more exit ≡ false) → Related view value more o p
related-weaker view value exits more o p (agreed_exit exit s t h) weaker = agreed_exit exit s t h
related-weaker view value exits more o p (same_return r q s t h i) weaker = same_return r q s t h i
related-weaker view value exits more o p (apart _ _ h i j) weaker =
    apart o p (hidden-weaker value exits more o h weaker) (hidden-weaker value exits more p i weaker) j
related-weaker view value exits more o p (first_stops stop s _ h) weaker = first_stops stop s p h
related-weaker view value exits more o p (second_stops _ stop t h) weaker = second_stops o stop t h

-- ways on from two states that are the same for the observer
pub record WaysOn (view : View) (value : Bool) (exits : Exit → Bool) (next further : SourceState → Outcome) : Type 0 where
  pub related : (s t : SourceState) → AgreeFor view s t → Related view value exits (next s) (further t)
  pub grows_first : (s : SourceState) → Grows s (next s)
  pub grows_second : (s : SourceState) → Grows s (further s)

grown-after : (o : Outcome) (next : SourceState → Outcome) → ((s : SourceState) → Grows s (next s)) → Grows (state_after o) (after o next)
grown-after o next h = grows-after (state_after o) o next (grows-itself (state_after o) (state_after o) refl o refl) h

pub related-after : (view : View) (value : Bool) (exits more : Exit → Bool) (o p : Outcome) (next further : SourceState → Outcome) →
    Related view value exits o p → ((exit : Exit) → same_exit Normal exit ≡ false → exits exit ≡ false → more exit ≡ false) →
    (exits Normal ≡ false → (t : SourceState) → Unseen view value more t (next t)) →
    (exits Normal ≡ false → (t : SourceState) → Unseen view value more t (further t)) → WaysOn view value more next further →
    Related view value more (after o next) (after p further)
related-after view value exits more o p next further (agreed_exit Normal s t h) others first second ways = ways.related s t h
related-after view value exits more o p next further (agreed_exit Return s t h) others first second ways = agreed_exit Return s t h
related-after view value exits more o p next further (agreed_exit Break s t h) others first second ways = agreed_exit Break s t h
related-after view value exits more o p next further (agreed_exit Continue s t h) others first second ways = agreed_exit Continue s t h
related-after view value exits more o p next further (agreed_exit (Throw x) s t h) others first second ways = agreed_exit (Throw x) s t h
related-after view value exits more o p next further (same_return r q s t h i) others first second ways = same_return r q s t h i
related-after view value exits more o p next further (apart _ _ h i j) others first second ways =
    both-unseen view value more (state_after o) (state_after p) (after o next) (after p further) j
    (unseen-after view value exits more o next h others (λ t m. first m t))
    (unseen-after view value exits more p further i others (λ t m. second m t))
related-after view value exits more o p next further (first_stops stop s _ h) others first second ways =
    first_stops stop s (after p further) (stopped-prefix view s p (after p further) h (grown-after p further ways.grows_second))
related-after view value exits more o p next further (second_stops _ stop t h) others first second ways =
    second_stops (after o next) stop t (stopped-prefix view t o (after o next) h (grown-after o next ways.grows_first))

grown-looped : (o : Outcome) (next : SourceState → Outcome) → ((s : SourceState) → Grows s (next s)) → Grows (state_after o) (looped o next)
grown-looped o next h = grows-looped (state_after o) o next (grows-itself (state_after o) (state_after o) refl o refl) h

-- the body of a loop whose label the observer reads, which cannot come back where it does not read how
pub related-looped : (view : View) (value : Bool) (inner more : Exit → Bool) (o p : Outcome) (again further : SourceState → Outcome) →
    Related view value inner o p → LoopExitLabels inner more → (inner Normal ≡ false → ⊥) → (inner Continue ≡ false → ⊥) →
    WaysOn view value more again further → Related view value more (looped o again) (looped p further)
related-looped view value inner more o p again further (agreed_exit Normal s t h) loop normal continued ways = ways.related s t h
related-looped view value inner more o p again further (agreed_exit Return s t h) loop normal continued ways = agreed_exit Return s t h
related-looped view value inner more o p again further (agreed_exit Break s t h) loop normal continued ways = agreed_exit Normal s t h
related-looped view value inner more o p again further (agreed_exit Continue s t h) loop normal continued ways = ways.related s t h
related-looped view value inner more o p again further (agreed_exit (Throw x) s t h) loop normal continued ways = agreed_exit (Throw x) s t h
related-looped view value inner more o p again further (same_return r q s t h i) loop normal continued ways = same_return r q s t h i
related-looped view value inner more o p again further (apart _ _ h i j) loop normal continued ways =
    both-unseen view value more (state_after o) (state_after p) (looped o again) (looped p further) j
    (unseen-looped view value inner more o again h loop (λ t m. absurd (normal m)) (λ t m. absurd (continued m)))
    (unseen-looped view value inner more p further i loop (λ t m. absurd (normal m)) (λ t m. absurd (continued m)))
related-looped view value inner more o p again further (first_stops stop s _ h) loop normal continued ways =
    first_stops stop s (looped p further) (stopped-prefix view s p (looped p further) h (grown-looped p further ways.grows_second))
related-looped view value inner more o p again further (second_stops _ stop t h) loop normal continued ways =
    second_stops (looped o again) stop t (stopped-prefix view t o (looped o again) h (grown-looped o again ways.grows_first))

-- a run that is out of fuel
out-first : (view : View) (value : Bool) (exits : Exit → Bool) (s t : SourceState) (p : Outcome) → AgreeFor view s t → Grows t p →
    Related view value exits (Stopped OutOfFuel s) p
out-first view value exits s t p h grows =
    first_stops OutOfFuel s p (stopped-prefix view s (normally t) p (agree-prefix view s t h) grows)

out-second : (view : View) (value : Bool) (exits : Exit → Bool) (s t : SourceState) (o : Outcome) → AgreeFor view s t → Grows s o →
    Related view value exits o (Stopped OutOfFuel t)
out-second view value exits s t o h grows =
    second_stops o OutOfFuel t (stopped-prefix view t (normally s) o (agree-prefix view t s (agree-back view s t h)) grows)

-- a loop whose condition and label the observer reads
pub record LoopRead (view : View) (value : Bool) (inner more : Exit → Bool) (condition : SourceState → Evaluated Value)
    (body further : SourceState → Outcome) : Type 0 where
  pub condition_alike : (s t : SourceState) → AgreeFor view s t → Alike (SameIf true) (condition s) (condition t)
  pub loop : LoopExitLabels inner more
  pub normal : inner Normal ≡ false → ⊥
  pub continued : inner Continue ≡ false → ⊥
  pub ways : WaysOn view value inner body further

pub related-fuel : (view : View) (value : Bool) (inner more : Exit → Bool) (condition : SourceState →
    Evaluated Value) (body further : SourceState → Outcome) → LoopRead view value inner more condition body further →
    (k m : ℕ) (s t : SourceState) → AgreeFor view s t → Related view value more (fuel k condition body s) (fuel m condition further t)
related-fuel view value inner more condition body further h zero zero s t agree =
    related-evaluated (SameIf true) view value more s t (condition s) (condition t)
    (λ v. if truth_in v then Stopped OutOfFuel s else normally s) (λ v. if truth_in v then Stopped OutOfFuel t else normally t)
    agree (h.condition_alike s t agree) (λ v w e f same.
    related-if view value more (truth_in v) (truth_in w) (Stopped OutOfFuel s) (normally s) (Stopped OutOfFuel t) (normally t)
    (ap (λ x. truth_in x) (same refl))
    (out-first view value more s t (Stopped OutOfFuel t) agree (grows-itself t t refl (Stopped OutOfFuel t) refl))
    (agreed_exit Normal s t agree))
related-fuel view value inner more condition body further h zero (suc m) s t agree =
    related-evaluated (SameIf true) view value more s t (condition s) (condition t)
    (λ v. if truth_in v then Stopped OutOfFuel s else normally s)
    (λ v. if truth_in v then looped (further t) (fuel m condition further) else normally t)
    agree (h.condition_alike s t agree) (λ v w e f same.
    related-if view value more (truth_in v) (truth_in w) (Stopped OutOfFuel s) (normally s)
    (looped (further t) (fuel m condition further)) (normally t) (ap (λ x. truth_in x) (same refl))
    (out-first view value more s t (looped (further t) (fuel m condition further)) agree
    (grows-looped t (further t) (fuel m condition further) (h.ways.grows_second t)
    (grows-fuel m condition further h.ways.grows_second)))
    (agreed_exit Normal s t agree))
related-fuel view value inner more condition body further h (suc k) zero s t agree =
    related-evaluated (SameIf true) view value more s t (condition s) (condition t)
    (λ v. if truth_in v then looped (body s) (fuel k condition body) else normally s) (λ v. if truth_in v then Stopped OutOfFuel t else normally t)
    agree (h.condition_alike s t agree) (λ v w e f same.
    related-if view value more (truth_in v) (truth_in w) (looped (body s) (fuel k condition body)) (normally s) (Stopped OutOfFuel t)
    (normally t) (ap (λ x. truth_in x) (same refl))
    (out-second view value more s t (looped (body s) (fuel k condition body)) agree
    (grows-looped s (body s) (fuel k condition body) (h.ways.grows_first s) (grows-fuel k condition body h.ways.grows_first)))
    (agreed_exit Normal s t agree))
related-fuel view value inner more condition body further h (suc k) (suc m) s t agree =
    related-evaluated (SameIf true) view value more s t (condition s) (condition t)
    (λ v. if truth_in v then looped (body s) (fuel k condition body) else normally s)
    (λ v. if truth_in v then looped (further t) (fuel m condition further) else normally t)
    agree (h.condition_alike s t agree) (λ v w e f same.
    related-if view value more (truth_in v) (truth_in w) (looped (body s) (fuel k condition body)) (normally s)
    (looped (further t) (fuel m condition further)) (normally t) (ap (λ x. truth_in x) (same refl))
    (related-looped view value inner more (body s) (further t) (fuel k condition body) (fuel m condition further)
    (h.ways.related s t agree) h.loop h.normal h.continued
    (record {
      related = related-fuel view value inner more condition body further h k m;
      grows_first = grows-fuel k condition body h.ways.grows_first;
      grows_second = grows-fuel m condition further h.ways.grows_second;
    }))
    (agreed_exit Normal s t agree))

-- a loop whose condition the observer does not read although it reads the loop's label and whether the condition raises an
-- exception: its body cannot come back
pub record LoopUnread (view : View) (value : Bool) (inner more : Exit → Bool) (b : Bool) (condition : SourceState → Evaluated Value)
    (body : SourceState → Outcome) : Type 0 where
  pub loop : LoopExitLabels inner more
  pub over : more Normal ≡ false
  pub normal : inner Normal ≡ false → ⊥
  pub continued : inner Continue ≡ false → ⊥
  pub each : (t : SourceState) → Unseen view value inner t (body t)

pub unseen-once : (view : View) (value : Bool) (inner more : Exit → Bool) (b : Bool) (condition : SourceState →
    Evaluated Value) (body : SourceState → Outcome) → LoopUnread view value inner more b condition body →
    (k : ℕ) (s : SourceState) (v : Value) → condition s ≡ Yields v → Unseen view value more s (fuel k condition body s)
unseen-once view value inner more b condition body h zero s v e =
    unseen-turn_zero view value more condition body s (λ x f. absurd (cc)) h.over
unseen-once view value inner more b condition body h (suc k) s v e =
    unseen-turn_suc view value inner more k condition body s (λ x f. absurd (cc)) h.over h.loop (h.each s)
    (λ t m. absurd (h.normal m)) (λ t m. absurd (h.continued m))

fuel-raised : (k : ℕ) (condition : SourceState → Evaluated Value) (body : SourceState → Outcome) (s : SourceState) (x : ℕ) → condition s ≡ Raises x →
    fuel k condition body s ≡ thrown x s
fuel-raised zero condition body s x e = rw e refl
fuel-raised (suc k) condition body s x e = rw e refl

pub related-once : (view : View) (value : Bool) (inner more : Exit → Bool) (b : Bool) (condition : SourceState →
    Evaluated Value) (body further : SourceState → Outcome) → LoopUnread view value inner more b condition body →
    LoopUnread view value inner more b condition further → (k m : ℕ) (s t : SourceState) → AgreeFor view s t →
    Alike (SameIf b) (condition s) (condition t) → Related view value more (fuel k condition body s) (fuel m condition further t)
related-once view value inner more b condition body further h i k m s t agree alike = go (condition s) (condition t) refl refl alike
  where
    go : (o p : Evaluated Value) → condition s ≡ o → condition t ≡ p → Alike (SameIf b) o p →
        Related view value more (fuel k condition body s) (fuel m condition further t)
    go o p e f (both_give v w same) =
        both-unseen view value more s t (fuel k condition body s) (fuel m condition further t) agree
        (unseen-once view value inner more b condition body h k s v e) (unseen-once view value inner more b condition further i m t w f)
    go o p e f (both_raise x) =
        rw (fuel-raised k condition body s x e, fuel-raised m condition further t x f) (agreed_exit (Throw x) s t agree)

grown-caught : (o : Outcome) (handle : ℕ → SourceState → Outcome) → ((x : ℕ) (s : SourceState) → Grows s (handle x s)) →
    Grows (state_after o) (caught o handle)
grown-caught o handle h = grows-caught (state_after o) o handle (grows-itself (state_after o) (state_after o) refl o refl) h

-- handlers from two states that are the same for the observer
pub record HandlersOn (view : View) (value : Bool) (exits : Exit → Bool) (handle further : ℕ → SourceState → Outcome) : Type 0 where
  pub related : (x : ℕ) (s t : SourceState) → AgreeFor view s t → Related view value exits (handle x s) (further x t)
  pub grows_first : (x : ℕ) (s : SourceState) → Grows s (handle x s)
  pub grows_second : (x : ℕ) (s : SourceState) → Grows s (further x s)

pub related-caught : (view : View) (value : Bool) (handlers : Handlers) (inner more : Exit →
    Bool) (o p : Outcome) (handle further : ℕ → SourceState → Outcome) → Related view value inner o p →
    ((exit : Exit) → passes handlers exit ≡ true → inner exit ≡ false → more exit ≡ false) →
    ((x : ℕ) (t : SourceState) → inner (Throw x) ≡ false → Unseen view value more t (handle x t)) →
    ((x : ℕ) (t : SourceState) → inner (Throw x) ≡ false → Unseen view value more t (further x t)) →
    HandlersOn view value more handle further → Related view value more (caught o handle) (caught p further)
related-caught view value handlers inner more o p handle further (agreed_exit Normal s t h) others first second ways = agreed_exit Normal s t h
related-caught view value handlers inner more o p handle further (agreed_exit Return s t h) others first second ways = agreed_exit Return s t h
related-caught view value handlers inner more o p handle further (agreed_exit Break s t h) others first second ways = agreed_exit Break s t h
related-caught view value handlers inner more o p handle further (agreed_exit Continue s t h) others first second ways = agreed_exit Continue s t h
related-caught view value handlers inner more o p handle further (agreed_exit (Throw x) s t h) others first second ways = ways.related x s t h
related-caught view value handlers inner more o p handle further (same_return r q s t h i) others first second ways = same_return r q s t h i
related-caught view value handlers inner more o p handle further (apart _ _ h i j) others first second ways =
    both-unseen view value more (state_after o) (state_after p) (caught o handle) (caught p further) j
    (unseen-caught view value handlers inner more o handle h others first)
    (unseen-caught view value handlers inner more p further i others second)
related-caught view value handlers inner more o p handle further (first_stops stop s _ h) others first second ways =
    first_stops stop s (caught p further) (stopped-prefix view s p (caught p further) h (grown-caught p further ways.grows_second))
related-caught view value handlers inner more o p handle further (second_stops _ stop t h) others first second ways =
    second_stops (caught o handle) stop t (stopped-prefix view t o (caught o handle) h (grown-caught o handle ways.grows_first))
