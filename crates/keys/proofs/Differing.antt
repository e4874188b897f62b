-- Where two keys of bytes part.
use Rattle.std.proofs.Common.{◌≡◌, ℕ, zero, suc, ◌+◌, ◌-◌, ◌*◌, ◌/◌, ◌%◌, ◌^◌, ◌<◌, ◌≤◌, Bool, true, ◌&&◌, ◌||◌, eqb, ltb, ◌⊎◌, List, get_or, sym, refl, ap, ◌∙◌, inl, inr, pow-suc, div-mul-le_self, arith, pow_pos}
use native.Mathlib.Nat.{div-div-eq-div-mul}
use Rattle.std.proofs.lemmas.Nat.{le-div}
use lib.Bits.{bit_xor, xor_shr, xor_mod, xor_lt, xor_self, xor_assoc, xor_zero_l, xor_zero_r}
use Rattle.std.proofs.lemmas.Bool.{cases_lt, cases_eq, cases_order, cond_both}
use Rattle.std.proofs.lemmas.Bool.Decides.{nat_tests, Decides-below_and, Decides-ltb, Decides-or, Decides-eqb}
use Rattle.keys.specs.Digits.{Agree, Above}
use Rattle.keys.specs.Bits.{bits, zeros_before_one}
use Rattle.keys.proofs.Places.{bit_in_byte}

-- the bits before the count are zero, and the one at it is one
zeros_before : (n v j : ℕ) → j < zeros_before_one n v → (v / 2 ^ (n - 1 - j)) % 2 ≡ 0
zeros_before zero v j h = absurd (omega arith)
zeros_before (suc n) v zero h = go (cases_eq ((v / 2 ^ n) % 2) 0)
  where
    go : ((v / 2 ^ n) % 2 ≡ 0) ⊎ ((v / 2 ^ n) % 2 ≡ 0 → ⊥) → (v / 2 ^ (suc n - 1 - 0)) % 2 ≡ 0
    go (inl e) = let a : suc n - 1 - 0 ≡ n = omega arith in rw a e
    go (inr e) = absurd (grind (arith, nat_tests))
zeros_before (suc n) v (suc j) h =
    let a : suc n - 1 - suc j ≡ n - 1 - j = omega arith in
    rw a (zeros_before n v j (grind (arith, nat_tests)))

zeros_at : (n v : ℕ) → zeros_before_one n v < n → (v / 2 ^ (n - 1 - zeros_before_one n v)) % 2 ≡ 1
zeros_at zero v h = absurd (omega arith)
zeros_at (suc n) v h = go (zeros_at n v) (cases_eq ((v / 2 ^ n) % 2) 0)
  where
    go : (zeros_before_one n v < n → (v / 2 ^ (n - 1 - zeros_before_one n v)) % 2 ≡ 1) → ((v / 2 ^ n) % 2 ≡ 0) ⊎ ((v / 2 ^ n) % 2 ≡ 0 → ⊥) → (v / 2 ^ (suc n - 1 - zeros_before_one (suc n) v)) % 2 ≡ 1
    go ih (inl e) =
        let z : zeros_before_one (suc n) v ≡ suc (zeros_before_one n v) = grind (arith, nat_tests) in
        let a : suc n - 1 - zeros_before_one (suc n) v ≡ n - 1 - zeros_before_one n v = omega arith in
        rw a (ih (omega arith))
    go ih (inr e) =
        let z : zeros_before_one (suc n) v ≡ 0 = grind (arith, nat_tests) in
        let a : suc n - 1 - zeros_before_one (suc n) v ≡ n = omega arith in
        rw a (omega arith)

zeros_most : (n v : ℕ) → zeros_before_one n v ≤ n
zeros_most zero v = omega arith
zeros_most (suc n) v = cond_both (eqb ((v / 2 ^ n) % 2) 0) _ _ (λ z. z ≤ suc n) (λ e. omega (arith, zeros_most n v)) (λ e. omega arith)

some_one : ℕ → Bool
some_one v = ltb (zeros_before_one 8 v) 8 || eqb v 0

all_some_one : ℕ → Bool
all_some_one zero = true
all_some_one (suc n) = some_one n && all_some_one n

-- every byte but 0 has a one bit
has_one : (v : ℕ) → v < 256 → (zeros_before_one 8 v < 8) ⊎ (v ≡ 0)
unfolding some_one all_some_one
has_one v h = (Decides-below_and some_one (λ v. (zeros_before_one 8 v < 8) ⊎ (v ≡ 0)) all_some_one
    (λ v. Decides-or (ltb (zeros_before_one 8 v) 8) (eqb v 0) (Decides-ltb (zeros_before_one 8 v) 8) (Decides-eqb v 0)) refl (λ _. refl) 256).0 refl v h

-- a bit of an exclusive or
xor_bit : (x y k : ℕ) → (bit_xor x y / 2 ^ k) % 2 ≡ bit_xor ((x / 2 ^ k) % 2) ((y / 2 ^ k) % 2)
xor_bit x y k = ap (λ z. z % 2) (xor_shr x y k) ∙ xor_mod (x / 2 ^ k) (y / 2 ^ k) 1

xor-bits : (a b : ℕ) → a < 2 → b < 2 → ((bit_xor a b ≡ 0) × (a ≡ b)) ⊎ ((bit_xor a b ≡ 1) × (a ≡ b → ⊥))
xor-bits zero zero h k = inl (refl, refl)
xor-bits zero (suc zero) h k = inr (refl, λ e. omega arith)
xor-bits (suc zero) zero h k = inr (refl, λ e. omega arith)
xor-bits (suc zero) (suc zero) h k = inl (refl, refl)
xor-bits zero (suc (suc b)) h k = absurd (omega arith)
xor-bits (suc zero) (suc (suc b)) h k = absurd (omega arith)
xor-bits (suc (suc a)) b h k = absurd (omega arith)

xor_none : (x y : ℕ) → bit_xor x y ≡ 0 → x ≡ y
xor_none x y e = sym (xor_zero_r x) ∙ ap (bit_xor x) (sym (xor_self y)) ∙ sym (xor_assoc x y y) ∙ ap (λ z. bit_xor z y) e ∙ xor_zero_l y

-- bit j of a byte, the top one counted as 0
abbrev pub top : (v j : ℕ) → ℕ
top v j = (v / 2 ^ (7 - j)) % 2

pub halves : (v k : ℕ) → v / 2 ^ suc k ≡ (v / 2 ^ k) / 2
halves v k = rw pow-suc (sym (div-div-eq-div-mul v (2 ^ k) 2))

quotient_less : (x y k : ℕ) → y / 2 ^ k < x / 2 ^ k → y < x
quotient_less x y k h = elim (cases_lt y x) [
  | inl l ↦ l
  | inr l ↦ absurd (omega (arith, le-div (x / 2 ^ k) y (2 ^ k) (pow_pos k) (omega (arith, div-mul-le_self x (2 ^ k)))))
]

-- the same first j bits make the same number
heads : (x y : ℕ) → x < 256 → y < 256 → (j : ℕ) → j ≤ 8 → ((i : ℕ) → i < j → top x i ≡ top y i) → x / 2 ^ (8 - j) ≡ y / 2 ^ (8 - j)
heads x y fx fy zero l h = omega arith
heads x y fx fy (suc j) l h =
    let e : 8 - j ≡ suc (8 - suc j) = omega arith in
    let d : 7 - j ≡ 8 - suc j = omega arith in
    let i : x / 2 ^ suc (8 - suc j) ≡ y / 2 ^ suc (8 - suc j) = rw e at (heads x y fx fy j (omega arith) (λ i u. h i (omega arith))) in
    let b : (x / 2 ^ (8 - suc j)) % 2 ≡ (y / 2 ^ (8 - suc j)) % 2 = rw d at (h j (omega arith)) in
    omega (arith, halves x (8 - suc j), halves y (8 - suc j))

-- the byte with the greater bit where the two part is greater
greater_byte : (x y z : ℕ) → x < 256 → y < 256 → z < 8 → ((i : ℕ) → i < z → top x i ≡ top y i) → top y z < top x z → y < x
greater_byte x y z fx fy l same m =
    let e : 8 - z ≡ suc (7 - z) = omega arith in
    let i : x / 2 ^ suc (7 - z) ≡ y / 2 ^ suc (7 - z) = rw e at (heads x y fx fy z (omega arith) same) in
    quotient_less x y (7 - z) (omega (arith, halves x (7 - z), halves y (7 - z)))

-- the place within a byte where x and y part
abbrev pub parting : (x y : ℕ) → ℕ
parting x y = zeros_before_one 8 (bit_xor x y)

module _ (x y : ℕ) where
  pub same_top : (j : ℕ) → j < parting x y → top x j ≡ top y j
  same_top j h = elim (xor-bits (top x j) (top y j) (omega arith) (omega arith)) [
    | inl e ↦ e.1
    | inr e ↦ absurd (omega (arith, sym (xor_bit x y (7 - j)) ∙ zeros_before 8 (bit_xor x y) j h, e.0))
  ]

  pub other_top : parting x y < 8 → top x (parting x y) ≡ top y (parting x y) → ⊥
  other_top h = elim (xor-bits (top x (parting x y)) (top y (parting x y)) (omega arith) (omega arith)) [
    | inl e ↦ absurd (omega (arith, sym (xor_bit x y (7 - parting x y)) ∙ zeros_at 8 (bit_xor x y) h, e.0))
    | inr e ↦ e.1
  ]

  pub parts_within : x < 256 → y < 256 → (x ≡ y → ⊥) → parting x y < 8
  parts_within h k d = elim (has_one (bit_xor x y) (xor_lt 8 x y h k)) [ inl z ↦ z | inr z ↦ absurd (d (xor_none x y z)) ]

  pub more_top : x < 256 → y < 256 → parting x y < 8 → y < x → top y (parting x y) < top x (parting x y)
  more_top fx fy l h = elim (cases_order (top x (parting x y)) (top y (parting x y))) [
    | inl e ↦ absurd (other_top l e)
    | inr s ↦ elim s [
      | inl u ↦ absurd (omega (arith, greater_byte y x (parting x y) fy fx l (λ i v. sym (same_top i v)) u))
      | inr u ↦ u
    ]
  ]

-- keys that agree before byte j
module _ (a b : List ℕ) (j : ℕ) (same : (i : ℕ) → i < j → get_or a i 0 ≡ get_or b i 0) where
  pub agree_before : Agree (bits a) (bits b) (8 * j + parting (get_or a j 0) (get_or b j 0) + 1)
  agree_before zero h = refl
  agree_before (suc t) h = elim (cases_lt (t / 8) j) [
    | inl l ↦ ap (λ z. (z / 2 ^ (7 - t % 8)) % 2) (same (t / 8) l)
    | inr l ↦
        let e : t / 8 ≡ j = omega (arith, zeros_most 8 (bit_xor (get_or a j 0) (get_or b j 0))) in
        rw e (same_top (get_or a j 0) (get_or b j 0) (t % 8) (omega arith))
  ]

  pub parts_above : get_or a j 0 < 256 → get_or b j 0 < 256 → get_or b j 0 < get_or a j 0 → Above (bits a) (bits b) (8 * j + parting (get_or a j 0) (get_or b j 0) + 1)
  parts_above fa fb h =
      let z : parting (get_or a j 0) (get_or b j 0) < 8 = parts_within (get_or a j 0) (get_or b j 0) fa fb (λ e. omega arith) in
      record { same = agree_before; more = omega (arith, bit_in_byte a j _ z, bit_in_byte b j _ z, more_top (get_or a j 0) (get_or b j 0) fa fb z h) }
