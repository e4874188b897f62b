use Rattle.std.proofs.Common.{◌≡◌, ◌+◌, ◌-◌}
use Rattle.keys.specs.Bits.{bits}
use Rattle.search.specs.Parts.{parts_of}
use Rattle.search.specs.Placing.{candidate, candidate_of}
use Rattle.search.proofs.candidate.candidate.Given as goal

abbrev pub invariant-loop-i : goal.invariant-loop-i
invariant-loop-i l = candidate_of (bits l.key) (parts_of l.entries) l.low l.high ≡ candidate (bits l.key) (parts_of l.entries) (l.high - (l.low + 1 + l.i)) (l.low + 1 + l.i) l.chosen l.passed
