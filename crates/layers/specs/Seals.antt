-- A store sealed: full as it stands.
use Rattle.std.proofs.Common.{arith}
use Rattle.std.specs.Prelude.{length}
use Rattle.store.specs.Meaning.{Lawful, Meaning}

-- the store below with room for what it holds and no more; width, keys and tally are those below
abbrev pub sealed : Meaning → Meaning
sealed m = record { width = m.width; keys = m.keys; capacity = length m.keys; tally = m.tally }

pub sealed_lawful : (m : Meaning) → Lawful m → Lawful (sealed m)
sealed_lawful m h =
    record {
      narrowest = h.narrowest;
      widest = h.widest;
      each = h.each;
      room = omega arith;
      most = omega (arith, h.room, h.most);
      wraps = h.wraps;
    }
