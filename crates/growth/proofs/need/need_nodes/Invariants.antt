use Rattle.std.proofs.Common.{◌≡◌, true}
use Rattle.growth.proofs.need.need_nodes.Given as goal
use Rattle.growth.specs.Commits.{row_way}
use Rattle.growth.specs.Paths.{nodes_of}
use Rattle.growth.specs.Routes.{way}

abbrev pub invariant-loop-h : goal.invariant-loop-h
invariant-loop-h l = row_way (way l.table (nodes_of l.path)) l.h ≡ record { nodes = l.h; whole = true }
