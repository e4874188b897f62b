use Rattle.std.proofs.Common.{◌≡◌}
use Rattle.descent.proofs.Going.{Going}
use Rattle.descent.proofs.descent.descend.Given as goal

abbrev pub invariant-loop-level : goal.invariant-loop-level
invariant-loop-level g l = record {
  going : Going (g.S.ReadingStore.meaning l.fn.store) (g.S.ReadingStore.meaning l.store) l.table l.key l.fn.top.levels l.fn.top.root l.level l.at l.below l.descent.offset l.above l.descent.path;
  bottom : l.descent.bottom ≡ 0;
}
