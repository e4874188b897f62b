use Rattle.std.proofs.Common.{◌≡◌, ◌-◌, ◌∷◌, drop}
use Rattle.keys.specs.Bits.{bits}
use Rattle.search.specs.Parts.{low_bits}
use Rattle.search.specs.Sweeping.{against}
use Rattle.search.proofs.order.against_kept.Given as goal

abbrev pub invariant-loop-place : goal.invariant-loop-place
invariant-loop-place l =
    against (bits l.key) l.partial.offset (1 ∷ low_bits l.partial.length l.partial.bits) ≡
    against (bits l.key) l.place (drop (l.place - l.partial.offset) (1 ∷ low_bits l.partial.length l.partial.bits))
