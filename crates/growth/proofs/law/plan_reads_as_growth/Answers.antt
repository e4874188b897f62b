use Rattle.growth.proofs.Tracing.{plan_traces}
use Rattle.growth.proofs.law.plan_reads_as_growth.Goals as goal

pub returns : goal.returns
returns c = plan_traces
