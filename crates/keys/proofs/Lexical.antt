-- The order of the bits is the order of the bytes.
use Rattle.std.proofs.Common.{◌≡◌, ℕ, zero, suc, ◌+◌, ◌*◌, ◌<◌, ◌≤◌, ◌⊎◌, ◌↔◌, List, [], ◌∷◌, length, get_or, sym, refl, ap, subst, inl, inr, ⊎_elim, arith, Fits, w8}
use lib.Bits.{xor_comm}
use Rattle.std.proofs.lemmas.Bool.{cases_order}
use Rattle.keys.specs.Digits.{Above, Below}
use Rattle.keys.specs.Bits.{bits}
use Rattle.keys.specs.Bytes.{PartsAt, Smaller}
use Rattle.keys.specs.Comparing.{Compares, OneWidth, Stands, comparison}
use Rattle.keys.specs.declared.comparison.Comparison.{Comparison}
use Rattle.keys.specs.declared.comparison.Comparison.TheVariants.{Equal, Greater, Less}
use Rattle.keys.proofs.Offsets.{not_both, not_itself, compared_equal, compared_greater, compared_less}
use Rattle.keys.proofs.Differing.{parting, parts_above, parts_within}

-- the byte in which two keys differ first
pub record FirstByte (a b : List ℕ) : Type 0 where
  pub at : ℕ
  pub within : at < length a
  pub same : (k : ℕ) → k < at → get_or a k 0 ≡ get_or b k 0
  pub less : get_or a at 0 < get_or b at 0

later : (x : ℕ) (a b : List ℕ) (i : ℕ) → ((k : ℕ) → k < i → get_or a k 0 ≡ get_or b k 0) → (k : ℕ) → k < suc i → get_or (x ∷ a) k 0 ≡ get_or (x ∷ b) k 0
later x a b i h zero l = refl
later x a b i h (suc k) l = h k (omega arith)

pub first_byte : (a b : List ℕ) → Smaller a b → FirstByte a b
first_byte [] b s = absurd s
first_byte (x ∷ a) [] s = absurd s
first_byte (x ∷ a) (y ∷ b) (inl l) = record { at = 0; within = omega arith; same = λ k h. absurd (omega arith); less = l }
first_byte (x ∷ a) (y ∷ b) (inr s) =
    let f = first_byte a b s.1 in
    rw s.0 (record { at = suc f.at; within = omega (arith, f.within); same = later y a b f.at f.same; less = f.less })

pub smaller_at : (a b : List ℕ) (i : ℕ) → i < length a → i < length b → ((k : ℕ) → k < i → get_or a k 0 ≡ get_or b k 0) → get_or a i 0 < get_or b i 0 → Smaller a b
smaller_at [] b i h l same m = absurd (omega arith)
smaller_at (x ∷ a) [] i h l same m = absurd (omega arith)
smaller_at (x ∷ a) (y ∷ b) zero h l same m = inl m
smaller_at (x ∷ a) (y ∷ b) (suc i) h l same m = inr (same 0 (omega arith), smaller_at a b i (omega arith) (omega arith) (λ k v. same (suc k) (omega arith)) m)

-- of two keys as long as each other one is smaller, or they are the same
pub either_smaller : (a b : List ℕ) → length a ≡ length b → (a ≡ b) ⊎ (Smaller a b ⊎ Smaller b a)
either_smaller [] [] l = inl refl
either_smaller [] (y ∷ b) l = absurd (omega arith)
either_smaller (x ∷ a) [] l = absurd (omega arith)
either_smaller (x ∷ a) (y ∷ b) l = ⊎_elim
    (λ (e : x ≡ y). ⊎_elim
    (λ (f : a ≡ b). inl (rw (e, f) refl))
    (λ s. inr (⊎_elim (λ (u : Smaller a b). inl (inr (e, u))) (λ (u : Smaller b a). inr (inr (sym e, u))) s))
    (either_smaller a b (omega arith)))
    (λ s. inr (⊎_elim (λ (u : x < y). inl (inl u)) (λ (u : y < x). inr (inl u)) s))
    (cases_order x y)

smaller_below : (a b : List ℕ) → ((i : ℕ) → get_or a i 0 < 256) → ((i : ℕ) → get_or b i 0 < 256) → Smaller a b → Below (bits a) (bits b)
smaller_below a b fa fb s =
    let f = first_byte a b s in
    (_, parts_above b a f.at (λ i h. sym (f.same i h)) (fb f.at) (fa f.at) f.less)

pub order_of_bytes : (a b : List ℕ) → ((i : ℕ) → get_or a i 0 < 256) → ((i : ℕ) → get_or b i 0 < 256) → length b ≡ length a → Below (bits a) (bits b) ↔ Smaller a b
order_of_bytes a b fa fb l = (
  λ d. ⊎_elim
      (λ (e : a ≡ b). absurd (not_itself (bits b) d.0 (subst (λ x. Above (bits b) (bits x) d.0) e d.1)))
      (λ s. ⊎_elim (λ (u : Smaller a b). u) (λ (u : Smaller b a). let v = smaller_below b a fb fa u in absurd (not_both (bits b) (bits a) d.0 v.0 d.1 v.1)) s)
      (either_smaller a b (sym l)),
  smaller_below a b fa fb,
)

-- what the comparison of two keys of one width tells
module _ (a b : List ℕ) (ta : (i : ℕ) → Fits w8 (get_or a i 0)) (tb : (i : ℕ) → Fits w8 (get_or b i 0)) (w : OneWidth a b) where
  fa : (i : ℕ) → get_or a i 0 < 256
  fa i = omega (arith, ta i)

  fb : (i : ℕ) → get_or b i 0 < 256
  fb i = omega (arith, tb i)

  same : (c : Comparison) → Stands a b c → (c ≡ Equal) ↔ (a ≡ b)
  same Equal s = (λ _. s, λ _. refl)
  same (Greater o) s = (λ e. absurd (let z : ◌≡◌ {A = ℕ} 0 1 = cc in omega arith), λ e. absurd (not_itself (bits a) o (subst (λ x. Above (bits a) (bits x) o) (sym e) s.1)))
  same (Less o) s = (λ e. absurd (let z : ◌≡◌ {A = ℕ} 0 1 = cc in omega arith), λ e. absurd (not_itself (bits b) o (subst (λ x. Above (bits b) (bits x) o) e s.1)))

  compares : (c : Comparison) → c ≡ comparison a b → Stands a b c → Compares a b c
  compares c e s = record { width = w; value = e; equal = same c s; stands = s; bytes = order_of_bytes a b fa fb w.2 }

  pub tells_equal : a ≡ b → Compares a b Equal
  tells_equal e = compares Equal (sym (compared_equal (8 * length a + 1) (bits a) (bits b) (λ i _. ap (λ x. bits x i) e))) e

  -- the two part at byte i, and z is the place within it that the table tells
  module _ (i : ℕ) (h : PartsAt a b i) (z : ℕ) (is : z ≡ parting (get_or a i 0) (get_or b i 0)) where
    parts_last : 8 * i + z + 1 ≤ 8 * length a
    parts_last = omega (arith, h.within, parts_within (get_or a i 0) (get_or b i 0) (fa i) (fb i) h.differ)

    pub tells_greater : get_or b i 0 < get_or a i 0 → Compares a b (Greater (8 * i + z + 1))
    tells_greater m =
        let p : Above (bits a) (bits b) (8 * i + z + 1) = rw is (parts_above a b i h.same (fa i) (fb i) m) in
        compares _
        (sym (compared_greater (8 * length a + 1) (bits a) (bits b) _ p (omega (arith, parts_last))))
        (parts_last, p, smaller_at b a i (omega (arith, h.within)) h.within (λ k v. sym (h.same k v)) m)

    pub tells_less : get_or a i 0 < get_or b i 0 → Compares a b (Less (8 * i + z + 1))
    tells_less m =
        let p : Above (bits b) (bits a) (8 * i + z + 1) = rw (is, xor_comm (get_or a i 0) (get_or b i 0)) (parts_above b a i (λ k v. sym (h.same k v)) (fb i) (fa i) m) in
        compares _
        (sym (compared_less (8 * length a + 1) (bits a) (bits b) _ p (omega (arith, parts_last))))
        (parts_last, p, smaller_at a b i h.within (omega (arith, h.within)) h.same m)
