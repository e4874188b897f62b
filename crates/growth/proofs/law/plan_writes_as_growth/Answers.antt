use Rattle.growth.proofs.Tracing.{plan_builds, plan_stands}
use Rattle.growth.proofs.law.plan_writes_as_growth.Goals as goal

pub returns : goal.returns
returns c = record { below = plan_builds; whole = plan_stands }
