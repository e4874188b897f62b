use Rattle.growth.proofs.Sizing.{levels_few}
use Rattle.growth.proofs.law.levels_are_few.Goals as goal

pub returns : goal.returns
returns c = levels_few
