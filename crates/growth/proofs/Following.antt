-- What a new key does to the partial key after it.
use Rattle.std.proofs.Common.{◌≡◌, ℕ, ◌<◌, ◌≤◌, sym, inl, inr, arith}
use Rattle.std.proofs.lemmas.Bool.{cases_lt, cases_order}
use Rattle.keys.proofs.Offsets.{gap_is, lower_wins}
use Rattle.keys.specs.Digits.{Above, Below, Digits, first_gap_of}

-- The following key's offset is at most the new one's.
pub next_offset : (s a b : Digits) (o e : ℕ) → Above s a o → Above b a e → Below s b → e ≤ o
next_offset s a b o e p q z = elim (cases_lt o e) [
  | inr h ↦ h
  | inl h ↦ absurd (let g = z.1 in grind (arith, cases_order z.0 o))
]

-- Where it is another, it is the offset to the new key too: the following partial key stays true.
pub next_kept : (s a b : Digits) (o e : ℕ) → Above s a o → Above b a e → Below s b → (e ≡ o → ⊥) → Above b s e
next_kept s a b o e p q z d = let h : e ≤ o = next_offset s a b o e p q z in let u : e < o = omega arith in lower_wins s b a o e p.same q u

-- the first gap of two keys is their offset
pub gap_at : (n : ℕ) (a b : Digits) (o : ℕ) → Above b a o → o ≤ n → first_gap_of n 0 a b ≡ o
gap_at n a b o p le = gap_is n 0 a b o (λ i h. sym (p.same i h)) (λ e. omega (arith, p.more)) (omega arith) (omega arith)

pub gap_back : (n : ℕ) (a b : Digits) (o : ℕ) → Above b a o → o ≤ n → first_gap_of n 0 b a ≡ o
gap_back n a b o p le = gap_is n 0 b a o p.same (λ e. omega (arith, p.more)) (omega arith) (omega arith)
