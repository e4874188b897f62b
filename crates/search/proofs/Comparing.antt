-- A comparison of two keys is true of them, and it is the one that their order gives.
use Rattle.std.proofs.Common.{◌≡◌, ℕ, zero, suc, ◌+◌, ◌<◌, cond, eqb, ltb, sym, ◌∙◌, inl, inr, arith}
use Rattle.std.proofs.lemmas.Bool.{cases_lt, cond_both, eqb-false, eqb-true, ltb-false, ltb-true}
use Rattle.keys.proofs.Offsets.{compared_equal, compared_greater, compared_less}
use Rattle.keys.specs.Comparing.{compared, compared_at}
use Rattle.keys.specs.Digits.{Above, Agree, Below, Digits, first_gap_of}
use Rattle.keys.specs.declared.comparison.Comparison.TheVariants.{Equal, Greater, Less}
use Rattle.search.specs.NodeLaw.{Tells}
use Rattle.search.proofs.Sweeping.{agree_more}

gap_agrees : (n i : ℕ) (a b : Digits) → Agree a b i → Agree a b (first_gap_of n i a b)
gap_agrees zero i a b h = h
gap_agrees (suc n) i a b h = cond_both (eqb (a i) (b i)) _ _ (λ z. Agree a b z) (λ x. gap_agrees n (suc i) a b (agree_more a b i h (eqb-true (a i) (b i) x))) (λ x. h)

gap_differs : (n i : ℕ) (a b : Digits) → first_gap_of n i a b < i + n → a (first_gap_of n i a b) ≡ b (first_gap_of n i a b) → ⊥
gap_differs zero i a b = λ l e. omega arith
gap_differs (suc n) i a b = cond_both (eqb (a i) (b i)) _ _ (λ z. z < i + suc n → a z ≡ b z → ⊥) (λ x l e. gap_differs n (suc i) a b (omega arith) e) (λ x l e. eqb-false (a i) (b i) x e)

pub compared_true : (n : ℕ) (s a : Digits) → Tells n s a (compared n s a)
compared_true n s a =
    let g = first_gap_of n 0 s a in
    let h : Agree s a g = gap_agrees n 0 s a (λ j l. absurd (omega arith)) in
    cond_both (ltb g n) (compared_at g s a) Equal (λ c. Tells n s a c)
    (λ z. cond_both (ltb (a g) (s g)) (Greater g) (cond (ltb (s g) (a g)) (Less g) Equal) (λ c. Tells n s a c)
    (λ x. record { same = h; more = ltb-true (a g) (s g) x })
    (λ x. cond_both (ltb (s g) (a g)) (Less g) Equal (λ c. Tells n s a c)
    (λ y. record { same = λ j l. sym (h j l); more = ltb-true (s g) (a g) y })
    (λ y. absurd (gap_differs n 0 s a (omega (arith, ltb-true g n z)) (omega (arith, ltb-false (a g) (s g) x, ltb-false (s g) (a g) y))))))
    (λ z j l. h j (omega (arith, ltb-false g n z)))

-- two keys with no digit past the last place
module _ (last : ℕ) (s a : Digits) (ends : (j : ℕ) → last < j → s j ≡ 0) (ends-too : (j : ℕ) → last < j → a j ≡ 0) where
  pub tells_greater : (d : ℕ) → Above s a d → compared (last + 1) s a ≡ Greater d
  tells_greater d u = compared_greater (last + 1) s a d u (elim (cases_lt last d) [ inl l ↦ absurd (omega (arith, ends d l, u.more)) | inr l ↦ omega arith ])

  pub tells_less : (d : ℕ) → Above a s d → compared (last + 1) s a ≡ Less d
  tells_less d u = compared_less (last + 1) s a d u (elim (cases_lt last d) [ inl l ↦ absurd (omega (arith, ends-too d l, u.more)) | inr l ↦ omega arith ])

  pub all_same : Agree s a (last + 1) → (j : ℕ) → s j ≡ a j
  all_same h j = elim (cases_lt last j) [ inl l ↦ ends j l ∙ sym (ends-too j l) | inr l ↦ h j (omega arith) ]

  pub tells_equal : Agree s a (last + 1) → compared (last + 1) s a ≡ Equal
  tells_equal h = compared_equal (last + 1) s a (λ j l. all_same h j)

  pub below_same : (x : Digits) → Agree s a (last + 1) → Below x a → Below x s
  below_same x h u = (u.0, record { same = λ j l. all_same h j ∙ u.1.same j l; more = omega (arith, all_same h u.0, u.1.more) })

  pub above_same : (x : Digits) → Agree s a (last + 1) → Below a x → Below s x
  above_same x h u = (u.0, record { same = λ j l. u.1.same j l ∙ sym (all_same h j); more = omega (arith, all_same h u.0, u.1.more) })
