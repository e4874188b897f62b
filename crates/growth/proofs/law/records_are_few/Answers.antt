use Rattle.growth.proofs.Sizing.{records_few}
use Rattle.growth.proofs.law.records_are_few.Goals as goal

pub returns : goal.returns
returns c = records_few
