use Rattle.std.proofs.Common.{◌≡◌, length, get_or, sym, refl, ◌∙◌, arith}
use Rattle.growth.proofs.Pathing.{no_line, node_at, place_at}
use Rattle.nodes.specs.Tables.{no_node}
use Rattle.plans.proofs.Climbing.{Lined, going_end, going_lost, going_miss, going_step, going_stop}
use Rattle.plans.proofs.plan.make_plan.Goals as goal
use Rattle.plans.proofs.plan.make_plan.Goals.{In_ok-follower}
use Rattle.plans.proofs.plan.make_plan.Given as given

-- what is known of a node once its line is planned
lined : (g : given.Over) (c : In_ok-follower g) → Lined c.loop-h.invariant (length c.args.path.now) (g.S.ReadingStore.meaning c.following.new.store) (get_or c.args.table.now c.from.result no_node) c.from-i.result c.entry_at-entry.result c.in_ok-follower.follower
lined g c =
    let n = c.from.ensures ∙ node_at c.args.path.now refl in
    let i = c.from-i.ensures ∙ place_at c.args.path.now refl in
    let at = c.requires.way c.loop-h.h c.loop-h-test.true in
    record {
      below = c.loop-h-test.true;
      deep = c.requires.deep;
      node = rw n refl;
      few = rw n at.1.0;
      counted = rw n (sym at.1.1.0);
      place = i;
      within = rw (n, i) at.1.1.1;
      made = c.entry_at-entry.ensures;
      next = rw (c.from-in-loop-h.ensures, n, i) at c.in_ok-follower.ensures;
    }

pub returns-in_err-follower : goal.returns-in_err-follower
returns-in_err-follower g c =
    let n = c.from.ensures ∙ node_at c.args.path.now refl in
    let i = c.from-i.ensures ∙ place_at c.args.path.now refl in
    going_miss c.loop-h.invariant (length c.args.path.now) _ _ c.from_residual.result c.loop-h-test.true c.from_residual.ensures.1 (rw (c.from-in-loop-h.ensures, n, i) at c.in_err-follower.ensures)

pub returns-then-n-lt-FULL : goal.returns-then-n-lt-FULL
returns-then-n-lt-FULL g c = going_stop _ (lined g (goal.at.returns-then-n-lt-FULL g c).In_ok-follower) _ c.if-n-lt-FULL.true refl

pub returns-in_err-refill : goal.returns-in_err-refill
returns-in_err-refill g c =
    going_lost _ (lined g (goal.at.returns-in_err-refill g c).In_ok-follower) c.refill.new.key c.from_residual-in_err-refill.result c.if-n-lt-FULL.false c.moved_up-up.ensures.long c.moved_up-up.ensures.number
    c.in_err-refill.ensures c.from_residual-in_err-refill.ensures.1

pub loop-h-preserved : goal.loop-h-preserved
loop-h-preserved g c =
    going_step _ (lined g (goal.at.loop-h-preserved g c).In_ok-follower) tt c.if-n-lt-FULL.false c.moved_up-up.ensures.long c.moved_up-up.ensures.number c.moved_up-up.ensures.offset c.in_ok-refill.ensures c.refill.auto.key

pub returns : goal.returns
returns g c =
    let there : c.loop-h.h ≡ length c.args.path.now = omega (arith, c.loop-h.auto.h-end, c.loop-h-test.false) in
    going_end c.loop-h.invariant (length c.args.path.now) c.entry_at.result (get_or c.loop-h.plan.lines (length c.args.path.now) no_line).follower _ c.requires.deep there c.entry_at.ensures refl
