use Rattle.std.proofs.Common.{◌∙◌}
use Rattle.channels.proofs.Numbers.{number_gives}
use Rattle.channels.proofs.world_text.number_of.Goals as goal

pub returns : goal.returns
returns c = c.ok.ensures.value ∙ number_gives c.args.word.now c.parse.result c.requires c.parse.ensures.value.0
