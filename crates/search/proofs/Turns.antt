-- What one turn of each loop does to the definition that it computes.
use Rattle.std.proofs.Common.{◌≡◌, ℕ, zero, suc, ◌+◌, ◌-◌, ◌/◌, ◌%◌, ◌^◌, ◌<◌, ◌≤◌, Option, Some, None, true, false, List, [], ◌∷◌, drop, length, slice_index, sym, refl, ap, ◌∙◌, add-one, arith, drop-cons, pow_mono}
use Rattle.std.proofs.Math.ListN.{drop_of_length-le}
use native.Mathlib.Nat.{div-eq_of_lt}
use Rattle.std.proofs.lemmas.Bool.{cond-false, cond-true, le-leb, le-ltb, lt-leb, lt-ltb}
use Rattle.keys.specs.Digits.{Digits}
use Rattle.search.specs.Parts.{Parts, low_bits}
use Rattle.search.specs.Placing.{candidate, candidate_of, looked_at, step_after}
use Rattle.search.specs.Sweeping.{against, step, sweep}
use Rattle.search.specs.declared.order.Order.{Order}
use Rattle.search.specs.declared.order.Order.TheVariants.{Greater, Less, Open}
use Rattle.search.specs.declared.place.Step.TheVariants.{Ask, Known}
use Rattle.search.specs.declared.sweep.Swept.{Swept}

-- a number of 16 bits has none above them
pub none_over : (v m : ℕ) → v < 2 ^ 16 → 16 ≤ m → v / 2 ^ m ≡ 0
none_over v m h l = let p : 2 ^ 16 ≤ 2 ^ m = pow_mono {i = 16} {j = m} l in div-eq_of_lt (omega arith)

length-low_bits : (m v : ℕ) → length (low_bits m v) ≡ m
length-low_bits zero v = refl
length-low_bits (suc m) v = ap suc (length-low_bits m v)

pub kept_at : (m v n k : ℕ) → 0 < n → k + n ≡ m → slice_index (1 ∷ low_bits m v) n ≡ (v / 2 ^ k) % 2
kept_at m v zero k h e = absurd (omega arith)
kept_at zero v (suc n) k h e = absurd (omega arith)
kept_at (suc m) v (suc zero) k h e = let z : k ≡ m = omega arith in rw z
kept_at (suc m) v (suc (suc n)) k h e = kept_at m v (suc n) k (omega arith) (omega arith)

-- a turn of the comparison with kept digits at place b: own is the digit of s there, and x the one kept
module _ (s : Digits) (o m v b own x : ℕ) (is : own ≡ s b) (kept : x ≡ slice_index (1 ∷ low_bits m v) (b - o)) (from : o ≤ b) (upto : b < o + 1 + m) where
  abbrev left : ℕ → List ℕ
  left n = drop (n - o) (1 ∷ low_bits m v)

  splits : left b ≡ x ∷ drop (suc (b - o)) (1 ∷ low_bits m v)
  splits = rw kept (drop-cons (1 ∷ low_bits m v) (b - o) 0 (omega (arith, length-low_bits m v)))

  pub turn_less : own < x → against s b (left b) ≡ Less b
  turn_less h = rw splits (cond-true _ _ _ (lt-ltb (s b) x (omega arith)))

  pub turn_greater : x < own → against s b (left b) ≡ Greater b
  turn_greater h = rw splits (cond-false _ _ _ (le-ltb (s b) x (omega arith)) ∙ cond-true _ _ _ (lt-ltb x (s b) (omega arith)))

  pub turn_on : own ≡ x → against s b (left b) ≡ against s (b + 1) (left (b + 1))
  turn_on h = let e : b + 1 - o ≡ suc (b - o) = omega arith in
      rw (splits, e, add-one) (cond-false _ _ _ (le-ltb (s b) x (omega arith)) ∙ cond-false _ _ _ (le-ltb x (s b) (omega arith)))

pub turn_end : (s : Digits) (o m v b : ℕ) → b ≡ o + 1 + m → against s b (drop (b - o) (1 ∷ low_bits m v)) ≡ Open b
turn_end s o m v b e = let z : drop (b - o) (1 ∷ low_bits m v) ≡ [] = drop_of_length-le (1 ∷ low_bits m v) {i = b - o} (omega (arith, length-low_bits m v)) in rw z

-- a turn of the sweep
module _ (s : Digits) (p : Parts) (n i low off : ℕ) (r : Order) (lt : i < n) where
  turn : (t : ℕ) (z : Order) → step s r (p.offset i) (p.lead i ∷ p.rest i) ≡ z →
      sweep s p (suc t) i low off r ≡ elim z [ Greater g ↦ sweep s p t (suc i) (suc i) g (Greater g) | Less g ↦ record { low = low; offset = off; high = i } | Open g ↦ sweep s p t (suc i) low off (Open g) ]
  turn t z e = ap (λ y. elim y [ Greater g ↦ sweep s p t (suc i) (suc i) g (Greater g) | Less g ↦ record { low = low; offset = off; high = i } | Open g ↦ sweep s p t (suc i) low off (Open g) ]) e

  pub sweep_greater : (g : ℕ) → step s r (p.offset i) (p.lead i ∷ p.rest i) ≡ Greater g →
      sweep s p (n - i) i low off r ≡ sweep s p (n - (i + 1)) (i + 1) (i + 1) g (Greater g)
  sweep_greater g e = let a : n - i ≡ suc (n - (i + 1)) = omega arith in rw (a, add-one) (turn (n - suc i) (Greater g) e)

  pub sweep_open : (g : ℕ) → step s r (p.offset i) (p.lead i ∷ p.rest i) ≡ Open g →
      sweep s p (n - i) i low off r ≡ sweep s p (n - (i + 1)) (i + 1) low off (Open g)
  sweep_open g e = let a : n - i ≡ suc (n - (i + 1)) = omega arith in rw (a, add-one) (turn (n - suc i) (Open g) e)

  pub sweep_stop : (g : ℕ) → step s r (p.offset i) (p.lead i ∷ p.rest i) ≡ Less g →
      sweep s p (n - i) i low off r ≡ record { low = low; offset = off; high = i }
  sweep_stop g e = let a : n - i ≡ suc (n - (i + 1)) = omega arith in rw a (turn (n - (i + 1)) (Less g) e)

pub sweep_end : (s : Digits) (p : Parts) (n i low off : ℕ) (r : Order) → i ≡ n → sweep s p (n - i) i low off r ≡ record { low = low; offset = off; high = n }
sweep_end s p n i low off r h = let a : n - i ≡ 0 = omega arith in rw (a, h)

-- a turn of the candidate's loop
module _ (s : Digits) (p : Parts) (n i c : ℕ) (g : Option ℕ) (lt : i < n) where
  pub candidate_taken : looked_at g (p.offset i) ≡ true → p.lead i ≤ s (p.offset i) →
      candidate s p (n - i) i c g ≡ candidate s p (n - (i + 1)) (i + 1) i None
  candidate_taken z h = let a : n - i ≡ suc (n - (i + 1)) = omega arith in
      rw (a, add-one) (cond-true _ _ _ z ∙ cond-true _ _ _ (le-leb (p.lead i) (s (p.offset i)) h))

  pub candidate_passed : looked_at g (p.offset i) ≡ true → s (p.offset i) < p.lead i →
      candidate s p (n - i) i c g ≡ candidate s p (n - (i + 1)) (i + 1) c (Some (p.offset i))
  candidate_passed z h = let a : n - i ≡ suc (n - (i + 1)) = omega arith in
      rw (a, add-one) (cond-true _ _ _ z ∙ cond-false _ _ _ (lt-leb (p.lead i) (s (p.offset i)) h))

  pub candidate_skipped : looked_at g (p.offset i) ≡ false →
      candidate s p (n - i) i c g ≡ candidate s p (n - (i + 1)) (i + 1) c g
  candidate_skipped z = let a : n - i ≡ suc (n - (i + 1)) = omega arith in rw (a, add-one) (cond-false _ _ _ z)

-- what a sweep leads to
pub looks_known : (s : Digits) (p : Parts) (w : Swept) → w.high ≤ w.low → Known w.low w.offset ≡ step_after s p w
looks_known s p w l = sym (cond-false _ _ _ (le-ltb w.low w.high l))

pub looks_asks : (s : Digits) (p : Parts) (w : Swept) → w.low < w.high → Ask w.high (candidate_of s p w.low w.high) ≡ step_after s p w
looks_asks s p w l = sym (cond-true _ _ _ (lt-ltb w.low w.high l))
