-- A key of bytes as bits, and the zero bits before a byte's first one bit.
use Rattle.std.specs.Prelude.{ℕ, zero, suc, ◌-◌, ◌/◌, ◌%◌, ◌^◌, cond, List, ◌==◌, slice_index}
use Rattle.keys.specs.Digits.{Digits}

-- Bit 0 is always 1. Bit 1 is the first byte's top bit, bit 8W the last byte's lowest, and past the key every bit is 0.
abbrev pub bits : List ℕ → Digits
bits key zero = 1
bits key (suc i) = (slice_index key (i / 8) / 2 ^ (7 - i % 8)) % 2

-- of the lowest n bits of v, how many zeros stand before the first one: n where all are zero
abbrev pub zeros_before_one : (n v : ℕ) → ℕ
zeros_before_one zero v = 0
zeros_before_one (suc n) v = cond ((v / 2 ^ n) % 2 == 0) (suc (zeros_before_one n v)) 0
