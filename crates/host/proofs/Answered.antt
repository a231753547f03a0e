-- A list of events and one more.
use Rattle.std.proofs.Common.{◌≡◌, ℕ, ◌+◌, ◌<◌, List, [], ◌∷◌, ◌++◌, length, get_or, map, take, refl, sym, ap, ◌∙◌, subst}
use Rattle.std.proofs.lemmas.List.{map-append, take_more}
use Rattle.host.specs.Meaning.{HostContents, HostEvent, HostAnswer, MayAnswer, Answered}
use Rattle.host.specs.Values.{event_of, answer_of}
use Rattle.host.specs.declared.event.Event.{Event}
use Rattle.host.specs.declared.event.Answer.{Answer}

pub one_more : (limit : ℕ) (old mid new : HostContents) (events : List HostEvent) (answers : List HostAnswer) (event : HostEvent) (answer : HostAnswer)
    → Answered limit old events answers mid → MayAnswer limit mid event answer new
    → Answered limit old (events ++ event ∷ []) (answers ++ answer ∷ []) new
one_more limit old mid new [] [] event answer before last =
    (new, subst (λ h. MayAnswer limit h event answer new) before last, refl)
one_more limit old mid new [] (a ∷ answers) event answer before last = absurd before
one_more limit old mid new (e ∷ events) [] event answer before last = absurd before
one_more limit old mid new (e ∷ events) (a ∷ answers) event answer before last =
    (before.0, before.1, one_more limit before.0 mid new events answers event answer before.2 last)

-- the events so far and the next one
pub so_far : (limit : ℕ) (old mid new : HostContents) (events : List Event) (answers after : List Answer) (n m : ℕ) (event : Event) (answer : Answer)
    → n < length events → event ≡ get_or events n event → m ≡ n + 1 → after ≡ answers ++ answer ∷ []
    → Answered limit old (map event_of (take n events)) (map answer_of answers) mid
    → MayAnswer limit mid (event_of event) (answer_of answer) new
    → Answered limit old (map event_of (take m events)) (map answer_of after) new
so_far limit old mid new events answers after n m event answer inside is next longer before last =
    let taken : take m events ≡ take n events ++ event ∷ [] =
    ap (λ k. take k events) next ∙ take_more events n event inside ∙ ap (λ e. take n events ++ e ∷ []) (sym is) in
    let asked : map event_of (take m events) ≡ map event_of (take n events) ++ event_of event ∷ [] =
    ap (map event_of) taken ∙ map-append event_of (take n events) (event ∷ []) in
    let reported : map answer_of after ≡ map answer_of answers ++ answer_of answer ∷ [] =
    ap (map answer_of) longer ∙ map-append answer_of answers (answer ∷ []) in
    rw (asked, reported) (one_more limit old mid new (map event_of (take n events)) (map answer_of answers) (event_of event) (answer_of answer) before last)
