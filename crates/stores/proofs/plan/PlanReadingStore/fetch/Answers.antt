use Rattle.std.proofs.Common.{arith}
use Rattle.std.proofs.lemmas.Grind.{common_steps}
use Rattle.stores.specs.PlanLaw.{length_plan, getD_plan}
use Rattle.stores.specs.Plans.{plan_of}
use Rattle.stores.proofs.plan.PlanReadingStore.fetch.Goals as goal

pub returns-in_err-check_fetch : goal.returns-in_err-check_fetch
returns-in_err-check_fetch c =
    let s = c.args.self.now in
    let h = c.in_err-check_fetch.ensures (plan_of s.classes s.tally) in
    grind (arith, common_steps)

pub overflow_cast-number : goal.overflow_cast-number
overflow_cast-number c = grind (arith, common_steps, length_plan)

pub returns : goal.returns
returns c = grind (arith, common_steps, length_plan, getD_plan)
