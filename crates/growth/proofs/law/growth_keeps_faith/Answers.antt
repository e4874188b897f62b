use Rattle.growth.proofs.Faithfulness.{entry_faithful}
use Rattle.growth.proofs.law.growth_keeps_faith.Goals as goal

pub returns : goal.returns
returns c = entry_faithful
