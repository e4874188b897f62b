use Rattle.growth.proofs.Counting.{levels_bound}
use Rattle.growth.proofs.law.levels_want_records.Goals as goal

pub returns : goal.returns
returns c = levels_bound
