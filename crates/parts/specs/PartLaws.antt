-- Why each part is one: the proofs that the impls give as `lawful`. They stand here since a ghost member takes its names
-- from `specs`.
use Rattle.std.specs.Prelude.{◌≡◌, ℕ, ◌+◌, ◌*◌, ◌^◌, ◌<◌, ◌≤◌, ◌⊎◌, ◌↔◌, ℤ, pos, negsuc, ◌<ℤ◌}
use Rattle.std.proofs.Common.{ap, inl, inr, ⊎_elim, mul-le-mul_right, add-mul, arith, ltb→lt, lt→ltb}
use Rattle.std.proofs.Math.Logic.{⊎_map}
use Rattle.std.proofs.Math.Logic.Iff
use Rattle.std.specs.Int.Signed.{mag}
use Rattle.std.proofs.lemmas.Nat.{pow-add}
use Rattle.std.proofs.lemmas.Bool.{cases_lt}
use Rattle.parts.specs.Parts.{Ranks}
use Rattle.parts.specs.Days.{day_rank}
use Rattle.parts.specs.declared.pair.Pair.{Pair}

pub pair_back : {F S : Type 0} (p q : Pair F S) → p.first ≡ q.first → p.second ≡ q.second → p ≡ q
pair_back p q e d j = record { first = e j; second = d j }

-- a number is its own rank, if the greatest one fits the width
pub number_ranks : {V : Type 0} (w most : ℕ) (number : V → ℕ) → 1 ≤ w → most < 256 ^ w → ((x : V) → number x ≤ most) → ((x y : V) → number x ≡ number y → x ≡ y) → Ranks w number (λ x y. number x < number y)
number_ranks w most number h l f back = record {
  wide = h;
  ranked = λ x. omega (arith, f x);
  ordered = λ x y. Iff.rfl;
  matched = λ x y. (ap number, back x y);
}

-- days by their ranks
day_ordered : (i j : ℤ) → mag i < 2 ^ 31 → mag j < 2 ^ 31 → (i <ℤ j) ↔ (day_rank i < day_rank j)
day_ordered (pos a) (pos b) h k = (λ l. omega (arith, ltb→lt a b l.lt), λ l. record { lt = lt→ltb a b (omega arith) })
day_ordered (pos a) (negsuc b) h k = (λ l. absurd l.lt, λ l. absurd (omega arith))
day_ordered (negsuc a) (pos b) h k = (λ l. omega arith, λ l. record { lt = tt })
day_ordered (negsuc a) (negsuc b) h k = (λ l. omega (arith, ltb→lt b a l.lt), λ l. record { lt = lt→ltb b a (omega arith) })

day_back : (i j : ℤ) → mag i < 2 ^ 31 → mag j < 2 ^ 31 → day_rank i ≡ day_rank j → i ≡ j
day_back (pos a) (pos b) h k e = ap pos (omega arith)
day_back (pos a) (negsuc b) h k e = absurd (omega arith)
day_back (negsuc a) (pos b) h k e = absurd (omega arith)
day_back (negsuc a) (negsuc b) h k e = ap negsuc (omega arith)

pub day_ranked : (i : ℤ) → mag i < 2 ^ 31 → day_rank i < 256 ^ 4
day_ranked (pos a) h = omega arith
day_ranked (negsuc a) h = omega arith

pub day_ranks : {V : Type 0} (number : V → ℤ) → ((x : V) → mag (number x) < 2 ^ 31) → ((x y : V) → number x ≡ number y → x ≡ y) → Ranks 4 (λ x. day_rank (number x)) (λ x y. number x <ℤ number y)
day_ranks number f back = record {
  wide = omega arith;
  ranked = λ x. day_ranked (number x) (f x);
  ordered = λ x y. day_ordered (number x) (number y) (f x) (f y);
  matched = λ x y. (ap (λ v. day_rank (number v)), λ e. back x y (day_back (number x) (number y) (f x) (f y) e));
}

-- two digits in base k, the first weightier
first_wins : (a a' b b' k : ℕ) → b < k → a < a' → a * k + b < a' * k + b'
first_wins a a' b b' k h l = let q : a + 1 ≤ a' = omega arith in omega (arith, mul-le-mul_right k q, add-mul a 1 k)

same_first : (a a' k : ℕ) → a ≡ a' → a * k ≡ a' * k
same_first a a' k = ap (λ x. x * k)

first_kept : (a a' b b' k : ℕ) → b' < k → a * k + b ≤ a' * k + b' → a ≤ a'
first_kept a a' b b' k h l = elim (cases_lt a' a) [ inl g ↦ absurd (omega (arith, first_wins a' a b' b k h g)) | inr g ↦ g ]

module _ (a a' b b' k : ℕ) (h : b < k) (h' : b' < k) where
  digits_same : ((a ≡ a') × (b ≡ b')) ↔ (a * k + b ≡ a' * k + b')
  digits_same = (
    λ e. omega (arith, same_first a a' k e.0, e.1),
    λ l. let e : a ≡ a' = omega (arith, first_kept a a' b b' k h' (omega arith), first_kept a' a b' b k h (omega arith)) in
        (e, omega (arith, same_first a a' k e)),
  )

  digits_less : ((a < a') ⊎ ((a ≡ a') × (b < b'))) ↔ (a * k + b < a' * k + b')
  digits_less = (
    ⊎_elim (first_wins a a' b b' k h) (λ e. omega (arith, same_first a a' k e.0, e.1)),
    λ l. elim (cases_lt a a') [
      | inl g ↦ inl g
      | inr g ↦
          let e : a ≡ a' = omega (arith, first_kept a a' b b' k h' (omega arith)) in
          inr (e, omega (arith, same_first a a' k e))
    ],
  )

pair_ranked : (w v a b : ℕ) → a < 256 ^ w → b < 256 ^ v → a * 256 ^ v + b < 256 ^ (w + v)
pair_ranked w v a b h l = rw (pow-add 256 w v) (omega (arith, first_wins a (256 ^ w) b 0 (256 ^ v) l h))

either_of : {F G X Y : Type 0} → F ↔ X → G ↔ Y → (F ⊎ G) ↔ (X ⊎ Y)
either_of h k = (⊎_map h.0 k.0, ⊎_map h.1 k.1)

-- Two parts make a part, ordered by the first, then the second.
pub pair_ranks : {P F S : Type 0} (first : P → F) (second : P → S) {w v : ℕ} {r : F → ℕ} {s : S → ℕ} {l : F → F → Type 0} {k : S → S → Type 0} → ((p q : P) → first p ≡ first q → second p ≡ second q → p ≡ q) → Ranks w r l → Ranks v s k →
    Ranks (w + v) (λ p. r (first p) * 256 ^ v + s (second p)) (λ p q. l (first p) (first q) ⊎ ((first p ≡ first q) × k (second p) (second q)))
pair_ranks first second {w} {v} {r} {s} back f g = record {
  wide = omega (arith, f.wide);
  ranked = λ p. pair_ranked w v (r (first p)) (s (second p)) (f.ranked (first p)) (g.ranked (second p));
  ordered = λ p q.
      Iff.trans (either_of (f.ordered (first p) (first q)) (Iff.and (f.matched (first p) (first q)) (g.ordered (second p) (second q))))
      (digits_less (r (first p)) (r (first q)) (s (second p)) (s (second q)) (256 ^ v) (g.ranked (second p)) (g.ranked (second q)));
  matched = λ p q.
      Iff.trans (λ e. (ap first e, ap second e), λ e. back p q e.0 e.1) (Iff.trans (Iff.and (f.matched (first p) (first q)) (g.matched (second p) (second q)))
      (digits_same (r (first p)) (r (first q)) (s (second p)) (s (second q)) (256 ^ v) (g.ranked (second p)) (g.ranked (second q))));
}
