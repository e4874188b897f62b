-- A store of one record, the byte 7.
use Rattle.std.specs.Prelude.{ℕ, ◌^◌, ◌<◌, [], ◌∷◌, refl}
use Rattle.std.proofs.Common.{arith}
use Rattle.store.specs.Meaning.{Lawful, Meaning}

abbrev pub worn_of : (tally : ℕ) → Meaning
worn_of t = record { width = 1; keys = (7 ∷ []) ∷ []; capacity = 1; tally = t }

pub worn_lawful : (t : ℕ) → t < 2 ^ 32 → Lawful (worn_of t)
worn_lawful t h = record { narrowest = omega arith; widest = omega arith; each = ((refl, (omega arith, tt)), tt); room = omega arith; most = omega arith; wraps = h }
