-- Bits of a key that lie next to each other, as a number.
use Rattle.std.proofs.Common.{◌≡◌, ℕ, zero, suc, ◌+◌, ◌-◌, ◌*◌, ◌/◌, ◌%◌, ◌^◌, ◌<◌, ◌≤◌, List, get_or, sym, ap, ◌∙◌, pow-suc, arith}
use Rattle.std.proofs.lemmas.Nat.{mod_low, shr_high}
use Rattle.keys.specs.Digits.{Digits, worth}
use Rattle.keys.specs.Bits.{bits}
use Rattle.keys.proofs.Differing.{halves}
use Rattle.keys.proofs.Keeping.{worth_small}
use Rattle.keys.proofs.Places.{bit_in_byte, bit_small}

-- n bits and the m after them
pub worth-join : (a : Digits) (i n m : ℕ) → worth 2 a i (n + m) ≡ worth 2 a i n * 2 ^ m + worth 2 a (i + n) m
worth-join a i n zero = let e : n + 0 ≡ n = omega arith in rw e (omega arith)
worth-join a i n (suc m) =
    let e : n + suc m ≡ suc (n + m) = omega arith in
    let d : a (i + (n + m)) ≡ a (i + n + m) = ap a (omega arith) in
    rw e (omega (arith, worth-join a i n m, d, ap (λ p. worth 2 a i n * p) (pow-suc 2 m)))

-- the first n of so many more bits
pub worth_first : (a : Digits) (i n m : ℕ) → ((j : ℕ) → a j ≤ 1) → worth 2 a i (n + m) / 2 ^ m ≡ worth 2 a i n
worth_first a i n m s = rw (worth-join a i n m) (shr_high (worth 2 a i n) m (worth 2 a (i + n) m) (worth_small a (i + n) m s))

-- the last m of them
pub worth_last : (a : Digits) (i n m : ℕ) → ((j : ℕ) → a j ≤ 1) → worth 2 a i (n + m) % 2 ^ m ≡ worth 2 a (i + n) m
worth_last a i n m s = rw (worth-join a i n m) (mod_low (worth 2 a i n) m (worth 2 a (i + n) m) (worth_small a (i + n) m s))

-- the first j bits of a byte
byte_head : (key : List ℕ) (i : ℕ) → get_or key i 0 < 256 → (j : ℕ) → j ≤ 8 → worth 2 (bits key) (suc (8 * i)) j ≡ get_or key i 0 / 2 ^ (8 - j)
byte_head key i f zero l = omega arith
byte_head key i f (suc j) l =
    let v = get_or key i 0 in
    let e : 8 - j ≡ suc (8 - suc j) = omega arith in
    let h : worth 2 (bits key) (suc (8 * i)) j ≡ v / 2 ^ suc (8 - suc j) = rw e at (byte_head key i f j (omega arith)) in
    let p : suc (8 * i) + j ≡ 8 * i + j + 1 = omega arith in
    let d : 7 - j ≡ 8 - suc j = omega arith in
    let b : bits key (suc (8 * i) + j) ≡ (v / 2 ^ (8 - suc j)) % 2 = ap (bits key) p ∙ (rw d at (bit_in_byte key i j (omega arith))) in
    omega (arith, h, b, halves v (8 - suc j))

module _ (key : List ℕ) (f : (i : ℕ) → get_or key i 0 < 256) where
  two_bytes : (i : ℕ) → worth 2 (bits key) (suc (8 * i)) 16 ≡ 256 * get_or key i 0 + get_or key (i + 1) 0
  two_bytes i =
      let e : suc (8 * i) + 8 ≡ suc (8 * (i + 1)) = omega arith in
      let x : worth 2 (bits key) (suc (8 * i)) 8 ≡ get_or key i 0 / 2 ^ (8 - 8) = byte_head key i (f i) 8 (omega arith) in
      let y : worth 2 (bits key) (suc (8 * (i + 1))) 8 ≡ get_or key (i + 1) 0 / 2 ^ (8 - 8) = byte_head key (i + 1) (f (i + 1)) 8 (omega arith) in
      let j : worth 2 (bits key) (suc (8 * i)) 16 ≡ worth 2 (bits key) (suc (8 * i)) 8 * 256 + worth 2 (bits key) (suc (8 * i) + 8) 8 = worth-join (bits key) (suc (8 * i)) 8 8 in
      omega (arith, j, x, ap (λ z. worth 2 (bits key) z 8) e, y)

  -- eight bits after a place, from the two bytes that they lie in
  pub in_two_bytes : (place : ℕ) → ((256 * get_or key (place / 8) 0 + get_or key (place / 8 + 1) 0) / 2 ^ (8 - place % 8)) % 256 ≡ worth 2 (bits key) (suc place) 8
  in_two_bytes place =
      let s = place % 8 in
      let t = 8 - place % 8 in
      let a = bits key in
      let i = suc (8 * (place / 8)) in
      let e : 16 ≡ (s + 8) + t = omega arith in
      let d : i + s ≡ suc place = omega arith in
      let w : (worth 2 a i 16 / 2 ^ t) ≡ worth 2 a i (s + 8) = ap (λ n. worth 2 a i n / 2 ^ t) e ∙ worth_first a i (s + 8) t (bit_small key) in
      ap (λ n. (n / 2 ^ t) % 256) (sym (two_bytes (place / 8))) ∙ (ap (λ n. n % 256) w ∙ (worth_last a i s 8 (bit_small key) ∙ ap (λ n. worth 2 a n 8) d))

-- the first n of sixteen bits, from two bytes of them
pub in_sixteen : (a : Digits) (i n : ℕ) → ((j : ℕ) → a j ≤ 1) → n ≤ 16 → (256 * worth 2 a i 8 + worth 2 a (i + 8) 8) / 2 ^ (16 - n) ≡ worth 2 a i n
in_sixteen a i n s l =
    let e : 16 ≡ n + (16 - n) = omega arith in
    let j : worth 2 a i 16 ≡ worth 2 a i 8 * 256 + worth 2 a (i + 8) 8 = worth-join a i 8 8 in
    let w : 256 * worth 2 a i 8 + worth 2 a (i + 8) 8 ≡ worth 2 a i 16 = omega (arith, j) in
    ap (λ x. x / 2 ^ (16 - n)) w ∙ (ap (λ m. worth 2 a i m / 2 ^ (16 - n)) e ∙ worth_first a i n (16 - n) s)
