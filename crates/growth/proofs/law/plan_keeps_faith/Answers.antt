use Rattle.growth.proofs.Joining.{table_faithful}
use Rattle.growth.proofs.law.plan_keeps_faith.Goals as goal

pub returns : goal.returns
returns c = table_faithful
