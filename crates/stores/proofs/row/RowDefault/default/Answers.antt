use Rattle.std.proofs.Common.{ℕ, ◌<◌, get_or, replicate, refl, arith}
use Rattle.std.proofs.lemmas.Grind.{common_steps}
use Rattle.stores.proofs.row.RowDefault.default.Goals as goal

zeros : (n i : ℕ) → get_or (replicate n 0) i 0 < 256
zeros n i = grind (arith, common_steps)

pub invariant_of-result : goal.invariant_of-result
invariant_of-result c = record { long = refl; each = zeros 32 }
