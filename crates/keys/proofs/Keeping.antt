-- What a partial key keeps.
use Rattle.std.proofs.Common.{◌≡◌, ℕ, zero, suc, ◌+◌, ◌-◌, ◌*◌, ◌/◌, ◌%◌, ◌^◌, ◌<◌, ◌≤◌, min, List, length, sym, ap, ◌∙◌, inl, inr, mul_comm, pow-suc, arith}
use native.Mathlib.Nat.{div-div-eq-div-mul}
use Rattle.std.proofs.lemmas.Bool.{cases_lt}
use Rattle.keys.specs.Digits.{Digits, worth}
use Rattle.keys.specs.Bits.{bits}
use Rattle.keys.specs.Partials.{Keeps, partial_of}
use Rattle.keys.proofs.Places.{bit_small}

-- n bits make a number below 2^n
pub worth_small : (a : Digits) (i n : ℕ) → ((j : ℕ) → a j ≤ 1) → worth 2 a i n < 2 ^ n
worth_small a i zero s = omega arith
worth_small a i (suc n) s = omega (arith, worth_small a i n s, s (i + n), pow-suc 2 n)

-- and each can be read from it again
pub worth_bit : (a : Digits) (i n : ℕ) → ((j : ℕ) → a j ≤ 1) → (k : ℕ) → k < n → (worth 2 a i n / 2 ^ (n - suc k)) % 2 ≡ a (i + k)
worth_bit a i zero s k h = absurd (omega arith)
worth_bit a i (suc n) s k h = elim (cases_lt k n) [
  | inl l ↦
      let e : suc n - suc k ≡ suc (n - suc k) = omega arith in
      let q : (worth 2 a i n * 2 + a (i + n)) / 2 ≡ worth 2 a i n = omega (arith, s (i + n)) in
      let d : (worth 2 a i n * 2 + a (i + n)) / 2 ^ suc (n - suc k) ≡ worth 2 a i n / 2 ^ (n - suc k) =
      ap (λ x. (worth 2 a i n * 2 + a (i + n)) / x) (pow-suc 2 (n - suc k) ∙ mul_comm (2 ^ (n - suc k)) 2)
      ∙ sym (div-div-eq-div-mul (worth 2 a i n * 2 + a (i + n)) 2 (2 ^ (n - suc k)))
      ∙ ap (λ x. x / 2 ^ (n - suc k)) q in
      rw (e, d) (worth_bit a i n s k l)
  | inr l ↦
      let e : k ≡ n = omega arith in
      let z : suc n - suc n ≡ 0 = omega arith in
      rw (e, z) (omega (arith, s (i + n)))
]

pub keeps : (l : ℕ) (key : List ℕ) (o : ℕ) → Keeps key (partial_of l key o)
keeps l key o =
    let n = min l (8 * length key - o) in
    record {
      each = λ i h. let e : suc o + i ≡ o + suc i = omega arith in worth_bit (bits key) (suc o) n (bit_small key) i h ∙ ap (bits key) e;
      only = worth_small (bits key) (suc o) n (bit_small key);
    }
