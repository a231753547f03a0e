-- One run that an observer cannot see: it changes nothing that the observer reads, and ends at labels that it does not read.
use Rattle.std.proofs.Common.{◌≡◌, refl, ℕ, zero, suc, Bool, true, false}
use Rattle.std.specs.Prelude.{Option, None, if◌then◌else◌}
use Rattle.common.specs.declared.value.Value.{Value}
use Rattle.resolved.specs.declared.statement.Exit.{Exit}
use Rattle.resolved.specs.declared.statement.Exit.TheVariants.{Normal, Return, Break, Continue, Throw}
use Rattle.resolved.specs.Tree.{Handlers}
use Rattle.common.specs.Values.{truth_in}
use Rattle.resolved.specs.Value.{Evaluated, Yields, Raises}
use Rattle.resolved.specs.SourceState.{SourceState}
use Rattle.resolved.specs.Meaning.{Stop, OutOfFuel, Outcome, Ended, Stopped, normally, after, evaluated, looped, fuel, caught, state_after}
use Rattle.resolved.specs.Exits.{same_exit, leaves_loop, passes}
use Rattle.isolation.proofs.Observer.{View, AgreeFor, agree-itself, agree-through}

-- An outcome of which the observer does not read the label, where `exits` says which labels of exits it reads, and `value`
-- whether it reads that of a returned value: then none was returned. Only a return gives a value
pub data Hidden (value : Bool) (exits : Exit → Bool) : Outcome → Type 0 where
  hidden_exit : (exit : Exit) (t : SourceState) → exits exit ≡ false → Hidden value exits (Ended exit None t)
  hidden_return : (r : Option Value) (t : SourceState) → exits Return ≡ false → (value ≡ true → r ≡ None) →
      Hidden value exits (Ended Return r t)
  hidden_stop : (stop : Stop) (t : SourceState) → Hidden value exits (Stopped stop t)

-- such an outcome whose state is the same for the observer as the one before
pub record Unseen (view : View) (value : Bool) (exits : Exit → Bool) (s : SourceState) (o : Outcome) : Type 0 where
  pub agree : AgreeFor view s (state_after o)
  pub hidden : Hidden value exits o

pub hidden-weaker : (value : Bool) (exits more : Exit → Bool) (o : Outcome) → Hidden value exits o →
    ((exit : Exit) → exits exit ≡ false → more exit ≡ false) → Hidden value more o
hidden-weaker value exits more o (hidden_exit exit t m) weaker = hidden_exit exit t (weaker exit m)
hidden-weaker value exits more o (hidden_return r t m none) weaker = hidden_return r t (weaker Return m) none
hidden-weaker value exits more o (hidden_stop stop t) weaker = hidden_stop stop t

pub unseen-weaker : (view : View) (value : Bool) (exits more : Exit → Bool) (s : SourceState) (o : Outcome) → Unseen view value exits s o →
    ((exit : Exit) → exits exit ≡ false → more exit ≡ false) → Unseen view value more s o
unseen-weaker view value exits more s o h weaker = record { agree = h.agree; hidden = hidden-weaker value exits more o h.hidden weaker }

pub unseen-from : (view : View) (value : Bool) (exits : Exit → Bool) (s t : SourceState) (o : Outcome) → AgreeFor view s t →
    Unseen view value exits t o → Unseen view value exits s o
unseen-from view value exits s t o h i = record { agree = agree-through view s t (state_after o) h i.agree; hidden = i.hidden }

pub unseen-end : (view : View) (value : Bool) (exits : Exit → Bool) (s : SourceState) (exit : Exit) → exits exit ≡ false →
    Unseen view value exits s (Ended exit None s)
unseen-end view value exits s exit m = record { agree = agree-itself view s; hidden = hidden_exit exit s m }

pub unseen-stop : (view : View) (value : Bool) (exits : Exit → Bool) (s : SourceState) (stop : Stop) →
    Unseen view value exits s (Stopped stop s)
unseen-stop view value exits s stop = record { agree = agree-itself view s; hidden = hidden_stop stop s }

pub unseen-evaluated : {A : Type 0} (view : View) (value : Bool) (exits : Exit → Bool) (s : SourceState) (e : Evaluated A) (next : A →
    Outcome) → ((x : ℕ) → e ≡ Raises x → exits (Throw x) ≡ false) → ((v : A) → e ≡ Yields v → Unseen view value exits s (next v)) →
    Unseen view value exits s (evaluated e s next)
unseen-evaluated view value exits s (Yields v) next raised rest = rest v refl
unseen-evaluated view value exits s (Raises x) next raised rest = unseen-end view value exits s (Throw x) (raised x refl)

pub unseen-if : (view : View) (value : Bool) (exits : Exit → Bool) (s : SourceState) (b : Bool) (x y : Outcome) →
    Unseen view value exits s x → Unseen view value exits s y → Unseen view value exits s (if b then x else y)
unseen-if view value exits s true x y h i = h
unseen-if view value exits s false x y h i = i

pub unseen-after : (view : View) (value : Bool) (exits more : Exit → Bool) (o : Outcome) (next : SourceState → Outcome) →
    Hidden value exits o → ((exit : Exit) → same_exit Normal exit ≡ false → exits exit ≡ false → more exit ≡ false) →
    ((t : SourceState) → exits Normal ≡ false → Unseen view value more t (next t)) → Unseen view value more (state_after o) (after o next)
unseen-after view value exits more o next (hidden_exit Normal t m) others rest = rest t m
unseen-after view value exits more o next (hidden_exit Return t m) others rest = unseen-end view value more t Return (others Return refl m)
unseen-after view value exits more o next (hidden_exit Break t m) others rest = unseen-end view value more t Break (others Break refl m)
unseen-after view value exits more o next (hidden_exit Continue t m) others rest = unseen-end view value more t Continue (others Continue refl m)
unseen-after view value exits more o next (hidden_exit (Throw x) t m) others rest = unseen-end view value more t (Throw x) (others (Throw x) refl m)
unseen-after view value exits more o next (hidden_return r t m none) others rest =
    record { agree = agree-itself view t; hidden = hidden_return r t (others Return refl m) none }
unseen-after view value exits more o next (hidden_stop stop t) others rest = unseen-stop view value more t stop

-- the body of a loop, by the exits of its body: what leaves the loop, what ends it, and what comes back
pub record LoopExitLabels (body more : Exit → Bool) : Type 0 where
  pub leaving : (exit : Exit) → leaves_loop exit ≡ true → body exit ≡ false → more exit ≡ false
  pub broken : body Break ≡ false → more Normal ≡ false

pub unseen-looped : (view : View) (value : Bool) (body more : Exit → Bool) (o : Outcome) (again : SourceState → Outcome) →
    Hidden value body o → LoopExitLabels body more → ((t : SourceState) → body Normal ≡ false → Unseen view value more t (again t)) →
    ((t : SourceState) → body Continue ≡ false → Unseen view value more t (again t)) → Unseen view value more (state_after o) (looped o again)
unseen-looped view value body more o again (hidden_exit Normal t m) loop normal continued = normal t m
unseen-looped view value body more o again (hidden_exit Return t m) loop normal continued = unseen-end view value more t Return
    (loop.leaving Return refl m)
unseen-looped view value body more o again (hidden_exit Break t m) loop normal continued = unseen-end view value more t Normal (loop.broken m)
unseen-looped view value body more o again (hidden_exit Continue t m) loop normal continued = continued t m
unseen-looped view value body more o again (hidden_exit (Throw x) t m) loop normal continued = unseen-end view value more t (Throw x)
    (loop.leaving (Throw x) refl m)
unseen-looped view value body more o again (hidden_return r t m none) loop normal continued =
    record { agree = agree-itself view t; hidden = hidden_return r t (loop.leaving Return refl m) none }
unseen-looped view value body more o again (hidden_stop stop t) loop normal continued = unseen-stop view value more t stop

-- one round
pub unseen-turn_zero : (view : View) (value : Bool) (more : Exit → Bool) (condition : SourceState → Evaluated Value) (body : SourceState →
    Outcome) (s : SourceState) → ((x : ℕ) → condition s ≡ Raises x → more (Throw x) ≡ false) → more Normal ≡ false →
    Unseen view value more s (fuel zero condition body s)
unseen-turn_zero view value more condition body s raised over =
    unseen-evaluated view value more s (condition s) (λ v. if truth_in v then Stopped OutOfFuel s else normally s) raised (λ v e.
    unseen-if view value more s (truth_in v) (Stopped OutOfFuel s) (normally s) (unseen-stop view value more s OutOfFuel)
    (unseen-end view value more s Normal over))

pub unseen-turn_suc : (view : View) (value : Bool) (inner more : Exit → Bool) (k : ℕ) (condition : SourceState →
    Evaluated Value) (body : SourceState → Outcome) (s : SourceState) → ((x : ℕ) → condition s ≡ Raises x → more (Throw x) ≡ false) →
    more Normal ≡ false → LoopExitLabels inner more → Unseen view value inner s (body s) →
    ((t : SourceState) → inner Normal ≡ false → Unseen view value more t (fuel k condition body t)) →
    ((t : SourceState) → inner Continue ≡ false → Unseen view value more t (fuel k condition body t)) →
    Unseen view value more s (fuel (suc k) condition body s)
unseen-turn_suc view value inner more k condition body s raised over loop once normal continued =
    unseen-evaluated view value more s (condition s) (λ v. if truth_in v then looped (body s) (fuel k condition body) else normally s) raised (λ v e.
    unseen-if view value more s (truth_in v) (looped (body s) (fuel k condition body)) (normally s)
    (unseen-from view value more s (state_after (body s)) (looped (body s) (fuel k condition body)) once.agree
    (unseen-looped view value inner more (body s) (fuel k condition body) once.hidden loop normal continued))
    (unseen-end view value more s Normal over))

-- a loop of which nothing is seen, its condition included
pub unseen-fuel : (view : View) (value : Bool) (inner more : Exit → Bool) (k : ℕ) (condition : SourceState →
    Evaluated Value) (body : SourceState → Outcome) → ((t : SourceState) (x : ℕ) → condition t ≡ Raises x → more (Throw x) ≡ false) →
    more Normal ≡ false → LoopExitLabels inner more → ((t : SourceState) → Unseen view value inner t (body t)) → (s : SourceState) →
    Unseen view value more s (fuel k condition body s)
unseen-fuel view value inner more zero condition body raised over loop each s =
    unseen-turn_zero view value more condition body s (raised s) over
unseen-fuel view value inner more (suc k) condition body raised over loop each s =
    unseen-turn_suc view value inner more k condition body s (raised s) over loop (each s)
    (λ t m. unseen-fuel view value inner more k condition body raised over loop each t)
    (λ t m. unseen-fuel view value inner more k condition body raised over loop each t)

pub unseen-caught : (view : View) (value : Bool) (handlers : Handlers) (inner more : Exit → Bool) (o : Outcome) (handle : ℕ → SourceState →
    Outcome) → Hidden value inner o → ((exit : Exit) → passes handlers exit ≡ true → inner exit ≡ false → more exit ≡ false) →
    ((x : ℕ) (t : SourceState) → inner (Throw x) ≡ false → Unseen view value more t (handle x t)) →
    Unseen view value more (state_after o) (caught o handle)
unseen-caught view value handlers inner more o handle (hidden_exit Normal t m) others rest = unseen-end view value more t Normal (others Normal refl m)
unseen-caught view value handlers inner more o handle (hidden_exit Return t m) others rest = unseen-end view value more t Return (others Return refl m)
unseen-caught view value handlers inner more o handle (hidden_exit Break t m) others rest = unseen-end view value more t Break (others Break refl m)
unseen-caught view value handlers inner more o handle (hidden_exit Continue t m) others rest = unseen-end view value more t Continue
    (others Continue refl m)
unseen-caught view value handlers inner more o handle (hidden_exit (Throw x) t m) others rest = rest x t m
unseen-caught view value handlers inner more o handle (hidden_return r t m none) others rest =
    record { agree = agree-itself view t; hidden = hidden_return r t (others Return refl m) none }
unseen-caught view value handlers inner more o handle (hidden_stop stop t) others rest = unseen-stop view value more t stop
