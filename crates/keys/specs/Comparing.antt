-- What a comparison of two keys of one width tells.
use Rattle.std.specs.Prelude.{◌≡◌, ℕ, ◌+◌, ◌*◌, ◌≤◌, cond, ◌↔◌, List, length, Some, None, Option, nat_lt}
use Rattle.keys.specs.Digits.{Above, Below, Digits, first_gap_of}
use Rattle.keys.specs.Bits.{bits}
use Rattle.keys.specs.Bytes.{Smaller}
use Rattle.keys.specs.declared.comparison.Comparison.{Comparison}
use Rattle.keys.specs.declared.comparison.Comparison.TheVariants.{Equal, Greater, Less}

-- two keys of one width, 1 to 32 bytes
abbrev pub OneWidth : List ℕ → List ℕ → Type 0
OneWidth a b = (1 ≤ length a) × (length a ≤ 32) × (length b ≡ length a)

-- a against b by their digits at the place o
abbrev pub compared_at : ℕ → Digits → Digits → Comparison
compared_at o a b = cond (nat_lt (b o) (a o)) (Greater o) (cond (nat_lt (a o) (b o)) (Less o) Equal)

-- a against b, of n digits each, by the first that differs
abbrev pub compared : (n : ℕ) → Digits → Digits → Comparison
compared n a b = cond (nat_lt (first_gap_of n 0 a b) n) (compared_at (first_gap_of n 0 a b) a b) Equal

-- a key against another of its width, by its bits
abbrev pub comparison : List ℕ → List ℕ → Comparison
comparison a b = compared (8 * length a + 1) (bits a) (bits b)

-- Equal, the bytes are the same; else the offset is the first bit in which the two differ, the one with 1 there is greater,
-- and so it is by its bytes.
abbrev pub Stands : List ℕ → List ℕ → Comparison → Type 0
Stands a b Equal = a ≡ b
Stands a b (Greater o) = (o ≤ 8 * length a) × Above (bits a) (bits b) o × Smaller b a
Stands a b (Less o) = (o ≤ 8 * length a) × Above (bits b) (bits a) o × Smaller a b

-- what a comparison c of a and b owes: it is the one defined; equal exactly if the bytes are the same; and the order of the bits
-- is the order of the bytes
pub record Compares (a b : List ℕ) (c : Comparison) : Type 0 where
  pub width : OneWidth a b
  pub value : c ≡ comparison a b
  pub equal : (c ≡ Equal) ↔ (a ≡ b)
  pub stands : Stands a b c
  pub bytes : Below (bits a) (bits b) ↔ Smaller a b

-- a comparison is made exactly of two keys of one width
abbrev pub Compared : List ℕ → List ℕ → Option Comparison → Type 0
Compared a b None = OneWidth a b → ⊥
Compared a b (Some c) = Compares a b c

-- the offset, if the two differ
abbrev pub offset_of : Comparison → Option ℕ
offset_of Equal = None
offset_of (Greater o) = Some o
offset_of (Less o) = Some o
