use Rattle.std.proofs.Common.{rules}
use Rattle.stores.specs.PlanLaw.{length_plan}
use Rattle.stores.proofs.plan.PlanReadingStore.held.Goals as goal

pub returns : goal.returns
returns c = search (rules, length_plan)
