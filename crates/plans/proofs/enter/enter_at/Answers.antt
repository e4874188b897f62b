use Rattle.std.proofs.Common.{◌≡◌, arith, rules, tests}
use Rattle.plans.proofs.Entering.{Placed, done, knows, made_err, made_ok, needs, passes, refused_missing, refused_spent}
use Rattle.plans.proofs.enter.enter_at.Goals as goal
use Rattle.plans.proofs.enter.enter_at.Goals.{Start}
use Rattle.plans.proofs.enter.enter_at.Given as given
use Rattle.store.specs.declared.refusal.Refusal.TheVariants.{PartialKeyMissing}

placed : (g : given.Over) (c : Start g) → Placed c.args.table.now c.args.top c.args.path.now
placed g c = record { ready = c.requires.ready; trail = c.requires.trail; long = c.requires.path }

pub need_nodes-requires-clause-known : goal.need_nodes-requires-clause-known
need_nodes-requires-clause-known g c = knows (placed g (goal.at.need_nodes-requires-clause-known g c).Start)

pub returns-then-wanted-from : goal.returns-then-wanted-from
returns-then-wanted-from g c =
    refused_spent (placed g (goal.at.returns-then-wanted-from g c).Start) c.args.entering (g.S.ReadingStore.meaning c.args.store.now) c.need_nodes.ensures.value
    (omega (arith, c.from.ensures, c.from-2.ensures, c.from-3.ensures, c.if-wanted-from.true)) (g.S.ReadingStore.lawful c.args.store.now).wraps

pub make_plan-planned-requires-clause-way : goal.make_plan-planned-requires-clause-way
make_plan-planned-requires-clause-way g c = passes (placed g (goal.at.make_plan-planned-requires-clause-way g c).Start)

pub returns-in_err-plan : goal.returns-in_err-plan
returns-in_err-plan g c =
    let q = made_err _ c.make_plan-planned.result c.map_err.result c.in_err-plan.field-0.0 c.map_err.ensures.cases c.in_err-plan.was in
    let named : c.in_err-plan.field-0.0 ≡ PartialKeyMissing q.missing.number = search (rules, tests) in
    refused_missing (placed g (goal.at.returns-in_err-plan g c).Start) c.args.entering (g.S.ReadingStore.meaning c.args.store.now) c.need_nodes.ensures.value
    (omega (arith, c.from.ensures, c.from-2.ensures, c.from-3.ensures, c.if-wanted-from.false)) c.make_plan-planned.result q.missing c.in_err-plan.field-0.0 (g.S.ReadingStore.meaning c.make_plan-planned.new.store) c.from_residual.result
    q.is named c.make_plan-planned.ensures c.from_residual.ensures.1

pub commit-requires-clause-room : goal.commit-requires-clause-room
commit-requires-clause-room g c =
    let n = needs (placed g (goal.at.commit-requires-clause-room g c).Start) c.need_nodes.ensures.value in
    omega (arith, n, c.from.ensures, c.from-2.ensures, c.from-3.ensures, c.if-wanted-from.false, c.requires.limit)

pub returns : goal.returns
returns g c =
    let w = c.commit.ensures in
    done (placed g (goal.at.returns g c).Start) c.args.entering (g.S.ReadingStore.meaning c.args.store.now) c.need_nodes.ensures.value
    (omega (arith, c.from.ensures, c.from-2.ensures, c.from-3.ensures, c.if-wanted-from.false)) c.make_plan-planned.result c.in_ok-plan.plan (g.S.ReadingStore.meaning c.make_plan-planned.new.store) c.commit.new.table c.commit.result
    (g.S.ReadingStore.lawful c.args.store.now) (made_ok _ c.make_plan-planned.result c.map_err.result c.in_ok-plan.plan c.map_err.ensures.cases c.in_ok-plan.was) c.make_plan-planned.ensures (record { written = w.written; once = w.once; shape = w.shape; growth = w.growth; faith = w.faith })
