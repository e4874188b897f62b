-- A shared head, by the offset between two keys.
use Rattle.std.proofs.Common.{◌≡◌, ℕ, zero, suc, ◌+◌, ◌-◌, ◌*◌, ◌/◌, ◌%◌, ◌^◌, ◌<◌, ◌≤◌, ◌⊎◌, ◌↔◌, List, length, get_or, sym, refl, ap, inl, inr, arith}
use Rattle.std.proofs.lemmas.List.{ext_get_or}
use Rattle.std.proofs.lemmas.Bool.{cases_lt, cases_order}
use Rattle.keys.proofs.Differing.{parting, parts_above, parts_within}
use Rattle.keys.specs.Bits.{bits}
use Rattle.keys.specs.Digits.{Above, Agree}
use Rattle.search.specs.TreeLaw.{HeadLaw}
use Rattle.search.specs.Winner.{Shares}
use Rattle.search.proofs.OverStore.{byte_small}

module _ (a b : List ℕ) (fa : (i : ℕ) → get_or a i 0 < 256) (fb : (i : ℕ) → get_or b i 0 < 256) where
  same_byte : (n : ℕ) → ((j : ℕ) → j < n → get_or a j 0 ≡ get_or b j 0) → Agree (bits a) (bits b) (8 * suc n + 1) → get_or a n 0 ≡ get_or b n 0
  same_byte n ih h = elim (cases_order (get_or a n 0) (get_or b n 0)) [
    | inl e ↦ e
    | inr d ↦ elim d [
      | inl l ↦
          let z = parts_within (get_or b n 0) (get_or a n 0) (fb n) (fa n) (λ e. omega arith) in
          let u = parts_above b a n (λ i k. sym (ih i k)) (fb n) (fa n) l in
          absurd (omega (arith, u.more, h (8 * n + parting (get_or b n 0) (get_or a n 0) + 1) (omega arith)))
      | inr l ↦
          let z = parts_within (get_or a n 0) (get_or b n 0) (fa n) (fb n) (λ e. omega arith) in
          let u = parts_above a b n ih (fa n) (fb n) l in
          absurd (omega (arith, u.more, h (8 * n + parting (get_or a n 0) (get_or b n 0) + 1) (omega arith)))
    ]
  ]

  -- the same bits make the same bytes
  pub same_bytes : (n : ℕ) → Agree (bits a) (bits b) (8 * n + 1) → (i : ℕ) → i < n → get_or a i 0 ≡ get_or b i 0
  same_bytes zero h i l = absurd (omega arith)
  same_bytes (suc n) h i l = go (same_bytes n (λ j k. h j (omega arith))) (cases_lt i n)
    where
      go : ((j : ℕ) → j < n → get_or a j 0 ≡ get_or b j 0) → (i < n) ⊎ (n ≤ i) → get_or a i 0 ≡ get_or b i 0
      go ih (inl k) = ih i k
      go ih (inr k) = let e : i ≡ n = omega arith in rw e (same_byte n ih h)

  pub same_key : length a ≡ length b → Agree (bits a) (bits b) (8 * length a + 1) → a ≡ b
  same_key l h = ext_get_or 0 a b l (same_bytes (length a) h)

  shared_bit : (head : ℕ) → Shares head a b → (d : ℕ) → d ≤ 8 * head → bits a d ≡ bits b d
  shared_bit head h zero l = refl
  shared_bit head h (suc j) l = ap (λ x. (x / 2 ^ (7 - j % 8)) % 2) (h (j / 8) (omega arith))

  pub head_by_offset : (head o : ℕ) → Above (bits a) (bits b) o → Shares head a b ↔ (8 * head < o)
  head_by_offset head o u = (
    (λ h. elim (cases_lt (8 * head) o) [ inl l ↦ l | inr l ↦ absurd (omega (arith, shared_bit head h o l, u.more)) ]),
    (λ l i k. same_bytes head (λ j z. u.same j (omega arith)) i k),
  )

pub head_law : HeadLaw
head_law head w o a b ka kb u = head_by_offset a b (byte_small a ka.1) (byte_small b kb.1) head o u
