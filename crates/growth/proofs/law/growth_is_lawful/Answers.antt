use Rattle.growth.proofs.Fetching.{entry_lawful}
use Rattle.growth.proofs.law.growth_is_lawful.Goals as goal

pub returns : goal.returns
returns c = entry_lawful
