use Rattle.descent.proofs.Climbing.{climb}
use Rattle.descent.specs.Reading.{Adds}
use Rattle.growth.specs.Paths.{nodes_of, places_of}
use Rattle.descent.proofs.walk.walk.Given as goal

abbrev pub invariant-loop-h : goal.invariant-loop-h
invariant-loop-h l = Adds (climb l.table (nodes_of l.descent.path) (places_of l.descent.path) l.descent.bottom l.h) l.initial.list l.initial.walked l.list l.walked
