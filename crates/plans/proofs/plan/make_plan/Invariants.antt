use Rattle.growth.specs.Paths.{nodes_of, places_of}
use Rattle.growth.specs.Routes.{way}
use Rattle.plans.proofs.Climbing.{Going}
use Rattle.plans.proofs.plan.make_plan.Given as goal

abbrev pub invariant-loop-h : goal.invariant-loop-h
invariant-loop-h g l = Going l.entering.shape.partial (g.S.ReadingStore.meaning l.initial.store) l.entering.number l.entering.offset (way l.table (nodes_of l.path)) (places_of l.path) l.h l.up.number l.up.offset l.key l.plan.lines (g.S.ReadingStore.meaning l.store)
