-- The laws of offsets, over any ordered digits.
use Rattle.std.proofs.Common.{◌≡◌, ℕ, zero, suc, ◌+◌, ◌<◌, ◌≤◌, min, sym, ◌∙◌, inl, inr, arith}
use Rattle.std.proofs.lemmas.Bool.{cases_order, cases_lt}
use Rattle.std.proofs.lemmas.Bool.Decides.{nat_tests}
use Rattle.keys.specs.Digits.{Digits, Agree, Above, Below, first_gap_of}
use Rattle.keys.specs.Comparing.{compared, compared_at}
use Rattle.keys.specs.declared.comparison.Comparison.TheVariants.{Equal, Greater, Less}

-- s agrees with b up to o, and a parts from b before that: a parts from s there too
pub lower_wins : (s a b : Digits) (o e : ℕ) → Agree s b o → Above a b e → e < o → Above a s e
lower_wins s a b o e p q l = omega arith

-- s and a are both above b, and s parts from it first: there it parts from a
pub higher_stays : (s a b : Digits) (o e : ℕ) → Above s b o → Above a b e → o < e → Above s a o
higher_stays s a b o e p q l = omega arith

-- offsets along a chain of two: the smaller one
pub chain_low : (c b a : Digits) (o e : ℕ) → Above c b o → Above b a e → o ≤ e → Above c a o
chain_low c b a o e p q l = record { same = λ i h. omega arith; more = grind (arith, cases_order o e) }

pub chain_high : (c b a : Digits) (o e : ℕ) → Above c b o → Above b a e → e ≤ o → Above c a e
chain_high c b a o e p q l = record { same = λ i h. omega arith; more = grind (arith, cases_order o e) }

pub chain_two : (c b a : Digits) (o e : ℕ) → Above c b o → Above b a e → Above c a (min o e)
chain_two c b a o e p q = elim (cases_lt o e) [
  | inl h ↦ let m : min o e ≡ o = omega arith in rw m (chain_low c b a o e p q (omega arith))
  | inr h ↦ let m : min o e ≡ e = omega arith in rw m (chain_high c b a o e p q h)
]

pub below_trans : (a b c : Digits) → Below a b → Below b c → Below a c
below_trans a b c p q = (min q.0 p.0, chain_two c b a q.0 p.0 q.1 p.1)

-- one offset only, and one order
pub offset_one : (a b : Digits) (o e : ℕ) → Above a b o → Above a b e → o ≡ e
offset_one a b o e p q = grind (arith, cases_order o e)

pub not_both : (a b : Digits) (o e : ℕ) → Above a b o → Above b a e → ⊥
not_both a b o e p q = grind (arith, cases_order o e)

pub not_itself : (a : Digits) (o : ℕ) → Above a a o → ⊥
not_itself a o p = omega (arith, p.more)

-- the first gap is the place before which two keys agree and at which they differ, if that is among the places looked at
pub gap_is : (n i : ℕ) (a b : Digits) (o : ℕ) → Agree a b o → (a o ≡ b o → ⊥) → i ≤ o → o ≤ i + n → first_gap_of n i a b ≡ o
gap_is zero i a b o p d le lt = omega arith
gap_is (suc n) i a b o p d le lt = elim (cases_lt i o) [
  | inl h ↦ let s = p i h in let r = gap_is n (suc i) a b o p d (omega arith) (omega arith) in grind (arith, nat_tests)
  | inr h ↦ let e : i ≡ o = omega arith in rw e (grind (arith, nat_tests))
]

-- and the end of those places, if they all agree
pub gap_none : (n i : ℕ) (a b : Digits) → ((j : ℕ) → i ≤ j → j < i + n → a j ≡ b j) → first_gap_of n i a b ≡ i + n
gap_none zero i a b p = omega arith
gap_none (suc n) i a b p =
    let s = p i (omega arith) (omega arith) in
    let r = gap_none n (suc i) a b (λ j h l. p j (omega arith) (omega arith)) in
    grind (arith, nat_tests)

pub at_greater : (o : ℕ) (a b : Digits) → b o < a o → compared_at o a b ≡ Greater o
at_greater o a b h = grind (arith, nat_tests)

pub at_less : (o : ℕ) (a b : Digits) → a o < b o → compared_at o a b ≡ Less o
at_less o a b h = grind (arith, nat_tests)

-- a comparison by a gap that is among the places compared
compared_by : (n : ℕ) (a b : Digits) (o : ℕ) → first_gap_of n 0 a b ≡ o → o < n → compared n a b ≡ compared_at o a b
compared_by n a b o e l = rw e (grind (arith, nat_tests))

pub compared_greater : (n : ℕ) (a b : Digits) (o : ℕ) → Above a b o → o < n → compared n a b ≡ Greater o
compared_greater n a b o p l =
    compared_by n a b o (gap_is n 0 a b o p.same (λ e. omega (arith, p.more)) (omega arith) (omega arith)) l ∙ at_greater o a b p.more

pub compared_less : (n : ℕ) (a b : Digits) (o : ℕ) → Above b a o → o < n → compared n a b ≡ Less o
compared_less n a b o p l =
    compared_by n a b o (gap_is n 0 a b o (λ i h. sym (p.same i h)) (λ e. omega (arith, p.more)) (omega arith) (omega arith)) l ∙ at_less o a b p.more

pub compared_equal : (n : ℕ) (a b : Digits) → Agree a b n → compared n a b ≡ Equal
compared_equal n a b p = let e : first_gap_of n 0 a b ≡ 0 + n = gap_none n 0 a b (λ j h l. p j (omega arith)) in grind (arith, nat_tests)
