-- The order of the keys is the order of the ranks.
use Rattle.std.proofs.Common.{◌≡◌, ℕ, zero, suc, ◌/◌, ◌%◌, ◌^◌, ◌<◌, ◌↔◌, List, [], ◌∷◌, ◌++◌, IfOk, Ok, Err, Result, sym, refl, ap, inl, inr, ⊎_elim, pow-suc, arith}
use mathlib.Core.Logic.Iff
use native.Mathlib.Nat.{pow-zero}
use Rattle.std.proofs.lemmas.Bool.{cases_order}
use Rattle.keys.specs.Bytes.{Smaller, big_endian}
use Rattle.store.specs.declared.refusal.Refusal.{Refusal}
use Rattle.parts.specs.Parts.{InOrder, Ranks, Written, key_of}

smaller_front : (xs ys : List ℕ) (a b : ℕ) → Smaller xs ys → Smaller (xs ++ a ∷ []) (ys ++ b ∷ [])
smaller_front [] ys a b h = absurd h
smaller_front (x ∷ xs) [] a b h = absurd h
smaller_front (x ∷ xs) (y ∷ ys) a b h = ⊎_elim (λ (l : x < y). inl l) (λ z. inr (z.0, smaller_front xs ys a b z.1)) h

smaller_last : (xs : List ℕ) (a b : ℕ) → a < b → Smaller (xs ++ a ∷ []) (xs ++ b ∷ [])
smaller_last [] a b h = inl h
smaller_last (x ∷ xs) a b h = inr (refl, smaller_last xs a b h)

smaller_not_both : (xs ys : List ℕ) → Smaller xs ys → Smaller ys xs → ⊥
smaller_not_both [] ys h k = h
smaller_not_both (x ∷ xs) [] h k = h
smaller_not_both (x ∷ xs) (y ∷ ys) h k = ⊎_elim
    (λ (l : x < y). ⊎_elim (λ (m : y < x). omega arith) (λ (z : (y ≡ x) × Smaller ys xs). omega (arith, z.0)) k)
    (λ (u : (x ≡ y) × Smaller xs ys). ⊎_elim (λ (m : y < x). omega (arith, u.0)) (λ (z : (y ≡ x) × Smaller ys xs). smaller_not_both xs ys u.1 z.1) k)
    h

smaller_not_same : (xs : List ℕ) → Smaller xs xs → ⊥
smaller_not_same xs h = smaller_not_both xs xs h h

-- smaller number, smaller bytes
smaller_bytes : (w m n : ℕ) → n < 256 ^ w → m < n → Smaller (big_endian w m) (big_endian w n)
smaller_bytes zero m n h l = absurd (omega (arith, pow-zero 256))
smaller_bytes (suc w) m n h l =
    let s : n / 256 < 256 ^ w = omega (arith, pow-suc 256 w) in
    ⊎_elim
    (λ (e : m / 256 ≡ n / 256). rw e (smaller_last (big_endian w (n / 256)) (m % 256) (n % 256) (omega arith)))
    (λ z. ⊎_elim
    (λ (g : m / 256 < n / 256). smaller_front (big_endian w (m / 256)) (big_endian w (n / 256)) (m % 256) (n % 256) (smaller_bytes w (m / 256) (n / 256) s g))
    (λ (g : n / 256 < m / 256). absurd (omega arith))
    z)
    (cases_order (m / 256) (n / 256))

other_bytes : (w m n : ℕ) → n < 256 ^ w → m < n → big_endian w m ≡ big_endian w n → ⊥
other_bytes w m n h l e = smaller_not_same (big_endian w n) (rw e at (smaller_bytes w m n h l))

-- the law, of two numbers that fit w bytes
pub key_order : (w m n : ℕ) → m < 256 ^ w → n < 256 ^ w → (m < n) ↔ Smaller (big_endian w m) (big_endian w n)
key_order w m n h k = (
  smaller_bytes w m n k,
  λ s. ⊎_elim
      (λ (e : m ≡ n). absurd (smaller_not_same (big_endian w n) (rw e at s)))
      (λ z. ⊎_elim (λ (l : m < n). l) (λ (g : n < m). absurd (smaller_not_both (big_endian w m) (big_endian w n) s (smaller_bytes w n m h g))) z)
      (cases_order m n),
)

pub key_match : (w m n : ℕ) → m < 256 ^ w → n < 256 ^ w → (m ≡ n) ↔ (big_endian w m ≡ big_endian w n)
key_match w m n h k = (
  ap (big_endian w),
  λ e. ⊎_elim
      (λ (s : m ≡ n). s)
      (λ z. ⊎_elim (λ (l : m < n). absurd (other_bytes w m n k l e)) (λ (g : n < m). absurd (other_bytes w n m h g (sym e))) z)
      (cases_order m n),
)

-- the key of a value stands as the value does
key_in_order : {V : Type 0} (size : ℕ) (rank : V → ℕ) (less : V → V → Type 0) → Ranks size rank less → (x : V) → InOrder size rank less x (key_of size rank x)
key_in_order size rank less r x = record {
  below = λ y. Iff.trans (r.ordered x y) (key_order size (rank x) (rank y) (r.ranked x) (r.ranked y));
  above = λ y. Iff.trans (r.ordered y x) (key_order size (rank y) (rank x) (r.ranked y) (r.ranked x));
  equal = λ y. Iff.trans (r.matched x y) (key_match size (rank x) (rank y) (r.ranked x) (r.ranked y));
}

-- so what was written does
pub written_in_order : {V : Type 0} (size : ℕ) (rank : V → ℕ) (less : V → V → Type 0) → Ranks size rank less → (x : V) (b b' : List ℕ) (r : Result (Unit {0}) Refusal) → Written size (rank x) b r b' → IfOk r (λ _. InOrder size rank less x b')
written_in_order size rank less l x b b' (Ok u) w = rw w.2 (key_in_order size rank less l x)
written_in_order size rank less l x b b' (Err e) w = tt
