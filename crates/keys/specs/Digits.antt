-- Order, agreement and offset, over ordered digits of any kind: bits are one kind.
use Rattle.std.specs.Prelude.{◌≡◌, ℕ, zero, suc, ◌+◌, ◌*◌, ◌<◌, cond, ◌==◌}

-- A key read as digits: place ↦ digit, place 0 the weightiest.
abbrev pub Digits : Type 0
Digits = ℕ → ℕ

-- The floor: every digit 0. It lies below every key, whose digit at place 0 is 1.
abbrev pub floor : Digits
floor i = 0

-- a and b have the same digits before place n
abbrev pub Agree : Digits → Digits → ℕ → Type 0
Agree a b n = (i : ℕ) → i < n → a i ≡ b i

-- a is greater than b, and their offset, the first place where they differ, is o
pub record Above (a b : Digits) (o : ℕ) : Type 0 where
  pub same : Agree a b o
  pub more : b o < a o

-- b is smaller than a
abbrev pub Below : Digits → Digits → Type 0
Below b a = (o : ℕ) × Above a b o

-- the first of n places from i on where a and b differ, or the place after them
abbrev pub first_gap_of : (n i : ℕ) → Digits → Digits → ℕ
first_gap_of zero i a b = i
first_gap_of (suc n) i a b = cond (a i == b i) (first_gap_of n (suc i) a b) i

-- the number that n digits from place i on make in a base, the first highest
abbrev pub worth : (base : ℕ) → Digits → (i n : ℕ) → ℕ
worth base a i zero = 0
worth base a i (suc n) = worth base a i n * base + a (i + n)
