-- Sessions of isolated bytes are isolated.
use Rattle.labels.specs.Sent.{OneIsPrefix}
use Rattle.std.proofs.Common.{◌≡◌, ℕ, List, sym, subst}
use Rattle.modules.specs.Contents.{ModuleContents}
use Rattle.modules.specs.ByteFormat.{Spells}
use Rattle.modules.specs.Format.{module_file}
use Rattle.modules.specs.Machine.{sent_after}
use Rattle.channels.specs.World.{numbers_of_channel}
use Rattle.modules.specs.Isolated.{module_view}
use Rattle.modules.proofs.Isolated.{isolated-by_views}
use Rattle.host.specs.Laws.{SessionsAreFreshRuns, SessionsCanBeOpened, SessionsEndAsReported, SessionsAreIsolated, SessionsStandAsReported, SessionsGoOn, SessionsShowOn, TranscriptsJoin, StepsAddUp, IdsGoUp, steps_of}
use Rattle.host.specs.Meaning.{hierarchy_under}
use Rattle.host.proofs.Lives.{shown_fresh, ended_fresh, opened_can, stands, goes_on, shows_on, joined, steps_add_up, ids_go_up}

-- bytes spell one module at most
module _ (one : (m n : ModuleContents) (bytes : List ℕ) → Spells module_file m bytes → Spells module_file n bytes → m ≡ n) where
  pub fresh_runs : SessionsAreFreshRuns
  fresh_runs bytes world under p pairs m spelled shows =
      shown_fresh shows.limit shows.id p pairs bytes world under m (λ n h. one n m bytes h spelled) shows.events shows.answers shows.old shows.new shows.answered shows.opened shows.viewed shows.later shows.opens shows.opened_so shows.views shows.viewed_so

  pub can_be_opened : SessionsCanBeOpened
  can_be_opened bytes world under p pairs shows =
      opened_can shows.limit bytes world under shows.id shows.events shows.answers shows.old shows.new shows.answered shows.opened shows.opens shows.opened_so

  pub end_as_reported : SessionsEndAsReported
  end_as_reported bytes world under p pairs m spelled shows ending reports =
      ended_fresh shows.limit shows.id reports.steps reports.taken reports.status ending reports.ended bytes world under m (λ n h. one n m bytes h spelled)
      shows.events shows.answers shows.old shows.new shows.answered shows.opened reports.turn shows.viewed reports.later reports.before
      shows.opens shows.opened_so reports.asks reports.answers

  pub isolated : SessionsAreIsolated
  isolated bytes m under spelled isolated_module p first second agree pairs others shown other_shown =
      let i = steps_of shown in
      let j = steps_of other_shown in
      subst (λ xs. OneIsPrefix xs others) (sym (fresh_runs bytes first under p pairs m spelled shown))
      (subst (λ ys. OneIsPrefix (module_view (hierarchy_under under m) m p (sent_after m (numbers_of_channel m first) i)) ys)
      (sym (fresh_runs bytes second under p others m spelled other_shown))
      ((isolated-by_views (hierarchy_under under m) m).0 isolated_module p (numbers_of_channel m first) (numbers_of_channel m second) agree i j))

  pub stand_as_reported : SessionsStandAsReported
  stand_as_reported bytes world under m spelled limit old events answers new by id opened opens opened_so session there =
      stands limit id bytes world under m (λ n h. one n m bytes h spelled) events answers old new by opened opens opened_so session there

pub go_on : SessionsGoOn
go_on limit old events answers new by id session later given there after =
    goes_on limit events answers old new by id session given there later after

pub show_on : SessionsShowOn
show_on limit old events answers new by id session given there viewed p pairs views viewed_so =
    shows_on limit events answers old new by id session given there viewed p pairs views viewed_so

pub join : TranscriptsJoin
join limit old middle new events more answers others before after = joined limit events more answers others old middle new before after

pub add_up : StepsAddUp
add_up limit old middle events more answers others before id = steps_add_up limit events more answers others old middle before id

pub go_up : IdsGoUp
go_up limit old events answers new by i j first second later one other =
    ids_go_up limit events answers old new by i j first second later one other
