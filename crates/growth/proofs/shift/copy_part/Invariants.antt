use Rattle.std.proofs.Common.{◌≡◌, ◌-◌, ◌++◌, length, take, drop, replicate}
use Rattle.growth.proofs.shift.copy_part.Given as goal

abbrev pub invariant-loop-k : goal.invariant-loop-k
invariant-loop-k g l = take l.k l.out ≡ take l.k (take l.n (drop l.from l.src) ++ replicate (length l.initial.out - l.n) l.pad)
