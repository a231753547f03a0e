use Rattle.std.proofs.Common.{◌∙◌, ap, subst, ◌≡◌, ℕ, List, map, filter}
use Rattle.labels.specs.Channel.{ChannelContents}
use Rattle.channels.specs.Table.{table_of}
use Rattle.channels.specs.World.{input_names, is_input}
use Rattle.channels.specs.WorldText.{IsWorldText, input_of, lines_of, table_after, texts_of}
use Rattle.channels.proofs.Tables.{world_is}
use Rattle.channels.proofs.world.World.read.Goals as goal

pub returns-clause-exact : goal.returns-clause-exact
returns-clause-exact c =
    let names = input_names c.args.program.now in
    let lines = lines_of c.args.text.now in
    let table = table_of c.in_ok-table.table in
    let found = c.in_ok-names.ensures ∙ ap (λ (cs : List ChannelContents). map (λ (k : ChannelContents). k.name) (filter (λ (k : ChannelContents). is_input k.direction) cs)) c.channels.ensures in
    let first : texts_of c.deref.result.now ≡ names = ap texts_of c.deref.ensures.value ∙ found in
    let second : texts_of c.deref-2.result.now ≡ names = ap texts_of c.deref-2.ensures.value ∙ found in
    c.in_ok-inputs.ensures ∙ ap (map (input_of table)) second
    ∙ world_is names lines table (λ (name : List ℕ). c.in_ok-table.ensures.table name ∙ ap (λ (ns : List (List ℕ)). table_after ns lines name) first)

pub returns-clause-accepted : goal.returns-clause-accepted
returns-clause-accepted c =
    let names = ap (λ (cs : List ChannelContents). map (λ (k : ChannelContents). k.name) (filter (λ (k : ChannelContents). is_input k.direction) cs)) c.channels.ensures in
    subst (λ (ns : List (List ℕ)). IsWorldText ns (lines_of c.args.text.now)) (ap texts_of c.deref.ensures.value ∙ c.in_ok-names.ensures ∙ names) c.in_ok-table.ensures.accepted
