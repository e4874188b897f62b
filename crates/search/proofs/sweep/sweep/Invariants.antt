use Rattle.std.proofs.Common.{◌≡◌, ◌-◌, length}
use Rattle.keys.specs.Bits.{bits}
use Rattle.search.specs.Parts.{parts_of}
use Rattle.search.specs.Sweeping.{sweep, swept}
use Rattle.search.proofs.Reach.{Upto}
use Rattle.search.proofs.sweep.sweep.Given as goal

abbrev pub invariant-loop-i : goal.invariant-loop-i
invariant-loop-i l =
    (swept (bits l.key) (parts_of l.entries) (length l.entries) l.offset ≡ sweep (bits l.key) (parts_of l.entries) (length l.entries - l.i) l.i l.low l.nearest l.order) ×
    Upto 65535 l.order
