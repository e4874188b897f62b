-- The bits of a key, place by place.
use Rattle.std.proofs.Common.{◌≡◌, ℕ, zero, suc, ◌+◌, ◌-◌, ◌*◌, ◌/◌, ◌%◌, ◌^◌, ◌<◌, ◌≤◌, List, length, get_or, refl, ap, ◌∙◌, arith}
use lib.Bits.{bit_and, and_mask}
use Rattle.std.proofs.lemmas.List.{get_or_past}
use Rattle.keys.specs.Bits.{bits}

pub lowest_bit : (x : ℕ) → bit_and x 1 ≡ x % 2
lowest_bit x = and_mask x 1

pub bit_small : (key : List ℕ) (i : ℕ) → bits key i ≤ 1
bit_small key zero = omega arith
bit_small key (suc i) = omega arith

pub bit_after : (key : List ℕ) (i : ℕ) → 0 < i → bits key i ≡ (get_or key ((i - 1) / 8) 0 / 2 ^ (7 - (i - 1) % 8)) % 2
bit_after key zero h = absurd (omega arith)
bit_after key (suc i) h = let e : suc i - 1 ≡ i = omega arith in rw e refl

zero_over : (n : ℕ) → (0 / n) % 2 ≡ 0
zero_over zero = refl
zero_over (suc n) = omega arith

pub bit_past : (key : List ℕ) (i : ℕ) → 0 < i → length key ≤ (i - 1) / 8 → bits key i ≡ 0
bit_past key i h l = bit_after key i h ∙ ap (λ x. (x / 2 ^ (7 - (i - 1) % 8)) % 2) (get_or_past key ((i - 1) / 8) 0 l) ∙ zero_over (2 ^ (7 - (i - 1) % 8))

-- bit z of byte j
pub bit_in_byte : (key : List ℕ) (j z : ℕ) → z < 8 → bits key (8 * j + z + 1) ≡ (get_or key j 0 / 2 ^ (7 - z)) % 2
bit_in_byte key j z h =
    let e : 8 * j + z + 1 ≡ suc (8 * j + z) = omega arith in
    let d : (8 * j + z) / 8 ≡ j = omega arith in
    let m : (8 * j + z) % 8 ≡ z = omega arith in
    rw (e, d, m) refl
