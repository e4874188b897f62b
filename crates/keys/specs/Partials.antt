-- Partial keys.
use Rattle.std.specs.Prelude.{◌≡◌, ℕ, suc, ◌+◌, ◌-◌, ◌*◌, ◌/◌, ◌%◌, ◌^◌, ◌<◌, ◌≤◌, min, List, length, Some, None, Option}
use Rattle.keys.specs.Digits.{Digits, worth}
use Rattle.keys.specs.Bits.{bits}
use Rattle.keys.specs.declared.partial.PartialKey.{PartialKey}

-- the partial key, at an offset, of digits whose last place is `last`: the offset, the length l or as many as there still
-- are, and that many bits after the offset, the first highest
abbrev pub partial_at : (l last : ℕ) → Digits → (offset : ℕ) → PartialKey
partial_at l last a o = record { offset = o; length = min l (last - o); bits = worth 2 a (suc o) (min l (last - o)) }

-- the partial key of a key of bytes
abbrev pub partial_of : (l : ℕ) → List ℕ → (offset : ℕ) → PartialKey
partial_of l key o = partial_at l (8 * length key) (bits key) o

-- a key of 1 to 32 bytes, an offset in it, and a partial length up to 16
abbrev pub HasPartial : (l : ℕ) → List ℕ → (offset : ℕ) → Type 0
HasPartial l key o = (1 ≤ length key) × (length key ≤ 32) × (o ≤ 8 * length key) × (l ≤ 16)

-- The law: the kept bits are those of the key right after the offset, one by one, and nothing else.
pub record Keeps (key : List ℕ) (p : PartialKey) : Type 0 where
  pub each : (i : ℕ) → i < p.length → (p.bits / 2 ^ (p.length - suc i)) % 2 ≡ bits key (p.offset + suc i)
  pub only : p.bits < 2 ^ p.length

-- a partial key is given exactly where there is one: it is the one defined, and keeps the law
abbrev pub PartialGiven : (l : ℕ) → List ℕ → (offset : ℕ) → Option PartialKey → Type 0
PartialGiven l key o None = HasPartial l key o → ⊥
PartialGiven l key o (Some p) = HasPartial l key o × (p ≡ partial_of l key o) × Keeps key p
