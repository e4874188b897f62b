use Rattle.std.proofs.Common.{◌≡◌, take}
use Rattle.std.specs.List.{insert}
use Rattle.growth.proofs.shift.shift_in.Given as goal

abbrev pub invariant-loop-k : goal.invariant-loop-k
invariant-loop-k g l = take l.k l.out ≡ take l.k (insert l.src l.i l.x)
