-- The place after the fetch.
use Rattle.std.proofs.Common.{◌≡◌, ℕ, zero, suc, ◌+◌, ◌<◌, ◌≤◌, ltb, leb, sym, refl, ◌∙◌, subst, inl, inr, arith}
use Rattle.std.proofs.lemmas.Bool.{cases_eq, cases_lt, cond_both, cond-false, cond-true, le-leb, le-ltb, leb-false, leb-true, lt-leb, lt-ltb, ltb-false, ltb-true}
use Rattle.keys.specs.Digits.{Above, Agree, Below, Digits}
use Rattle.search.specs.Parts.{Parts, Placed}
use Rattle.search.specs.NodeLaw.{strictly_upward}
use Rattle.search.specs.Placing.{downward, upward}
use Rattle.search.proofs.Choosing.{Chosen}

module _ (n : ℕ) (k : ℕ → Digits) (p : Parts) (rises : (i : ℕ) → i < n → Above (k (suc i)) (k i) (p.offset i)) where
  -- keys agree before every offset between them
  pub chain_agree : (m i j : ℕ) → i ≤ j → j ≤ n → ((y : ℕ) → i ≤ y → y < j → m ≤ p.offset y) → Agree (k i) (k j) m
  chain_agree m i zero l b h = let e : i ≡ 0 = omega arith in rw e (λ x u. refl)
  chain_agree m i (suc j) l b h = elim (cases_lt j i) [
    | inl y ↦ let e : i ≡ suc j = omega arith in rw e (λ x u. refl)
    | inr y ↦ λ x u.
        let g : m ≤ p.offset j = h j y (omega arith) in
        chain_agree m i j y (omega arith) (λ z c d. h z c (omega arith)) x u ∙ sym ((rises j b).same x (omega arith))
  ]

  -- the search key greater than the candidate, at d
  pub over_placed : (s : Digits) (lo c hi d q : ℕ) → Chosen k p s lo c hi → hi ≤ n → Above s (k (suc c)) d →
      (hi < n → Below s (k (suc hi))) → c < q → q ≤ hi → ((y : ℕ) → c < y → y < q → d < p.offset y) →
      (q < hi → p.offset q ≤ d) → Placed n k s q d
  over_placed s lo c hi d q v b a end l u gap stop =
      let w : Agree (k (suc c)) (k q) (suc d) = chain_agree (suc d) (suc c) q l (omega arith) gap in
      let x : Above s (k q) d = record { same = λ i h. omega arith; more = omega (arith, w d (omega arith), a.more) } in
      record {
        within = omega arith;
        under = x;
        over = λ h. elim (cases_lt q hi) [
          | inr y ↦ let e : q ≡ hi = omega arith in subst (λ z. Below s (k (suc z))) (sym e) (end (omega arith))
          | inl y ↦ (p.offset q, high h (stop y) (v.post q l y) x)
        ];
      }
    where
      high : q < n → p.offset q ≤ d → (((y : ℕ) → c < y → y < q → p.offset q < p.offset y) → s (p.offset q) < k (suc q) (p.offset q)) →
          Above s (k q) d → Above (k (suc q)) s (p.offset q)
      high h t m x = let r = rises q h in record {
        same = λ i z. omega arith;
        more = elim (cases_lt (p.offset q) d) [
          | inl z ↦ omega arith
          | inr z ↦ m (λ y g1 g2. omega (arith, gap y g1 g2))
        ];
      }

  -- the search key less than the candidate, at d
  pub under_placed : (s : Digits) (c d q : ℕ) → c < n → Above (k (suc c)) s d →
      q ≤ c → p.offset q < d → ((y : ℕ) → q < y → y ≤ c → d < p.offset y) → Placed n k s q (p.offset q)
  under_placed s c d q b a l t gap =
      let w : Agree (k (suc q)) (k (suc c)) (suc d) = chain_agree (suc d) (suc q) (suc c) (omega arith) b (λ y g h. gap y g (omega arith)) in
      let r : Above (k (suc q)) (k q) (p.offset q) = rises q (omega arith) in
      record {
        within = omega arith;
        under = record { same = λ i h. omega (arith, r.same i h, w i (omega arith), a.same i (omega arith)); more = omega (arith, r.more, w (p.offset q) (omega arith), a.same (p.offset q) t) };
        over = λ h. (d, record { same = λ i z. omega (arith, w i (omega arith), a.same i z); more = omega (arith, a.more, w d (omega arith)) });
      }

  -- scanning up
  pub record Up (c hi d q : ℕ) : Type 0 where
    pub above : c < q
    pub upto : q ≤ hi
    pub gap : (y : ℕ) → c < y → y < q → d < p.offset y
    pub stop : q < hi → p.offset q ≤ d

  pub upward_up : (c hi d t i : ℕ) → i + t ≡ hi → c < i → ((y : ℕ) → c < y → y < i → d < p.offset y) → Up c hi d (upward p d t i)
  upward_up c hi d zero i e l gap = record { above = l; upto = omega arith; gap = gap; stop = λ h. absurd (omega arith) }
  upward_up c hi d (suc t) i e l gap =
      cond_both (leb (p.offset i) d) _ _ (λ z. Up c hi d z)
      (λ x. record { above = l; upto = omega arith; gap = gap; stop = λ h. leb-true (p.offset i) d x })
      (λ x. upward_up c hi d t (suc i) (omega arith) (omega arith)
      (λ y g h. elim (cases_lt y i) [
        | inl z ↦ gap y g z
        | inr z ↦ let w : y ≡ i = omega arith in rw w (leb-false (p.offset i) d x)
      ]))

  -- on bits the first later offset not above d is below d, so the two scans stop at one place
  pub upward_alike : (s : Digits) (lo c hi d t i : ℕ) → Chosen k p s lo c hi → Above s (k (suc c)) d → ((a j : ℕ) → k a j ≤ 1) →
      i + t ≡ hi → c < i → ((y : ℕ) → c < y → y < i → d < p.offset y) → strictly_upward p d t i ≡ upward p d t i
  upward_alike s lo c hi d zero i v a bits e l gap = refl
  upward_alike s lo c hi d (suc t) i v a bits e l gap = elim (cases_lt d (p.offset i)) [
    | inl h ↦ cond-false _ _ _ (le-ltb (p.offset i) d (omega arith)) ∙
        upward_alike s lo c hi d t (suc i) v a bits (omega arith) (omega arith)
        (λ y g z. elim (cases_lt y i) [ inl u ↦ gap y g u | inr u ↦ let w : y ≡ i = omega arith in rw w h ]) ∙
        sym (cond-false _ _ _ (lt-leb (p.offset i) d h))
    | inr h ↦ cond-true _ _ _ (lt-ltb (p.offset i) d (no_tie h)) ∙ sym (cond-true _ _ _ (le-leb (p.offset i) d h))
  ]
    where
      no_tie : p.offset i ≤ d → p.offset i < d
      no_tie h = elim (cases_eq (p.offset i) d) [
        | inr z ↦ omega arith
        | inl z ↦
            let m : s (p.offset i) < k (suc i) (p.offset i) = v.post i l (omega arith) (λ y g1 g2. omega (arith, gap y g1 g2)) in
            let m2 : s d < k (suc i) d = subst (λ x. s x < k (suc i) x) z m in
            absurd (omega (arith, bits (suc i) d, a.more))
      ]

  -- scanning down
  pub record Down (lo c d q : ℕ) : Type 0 where
    pub from : lo ≤ q
    pub upto : q ≤ c
    pub gap : (y : ℕ) → q < y → y ≤ c → d < p.offset y
    pub stop : p.offset q < d

  module _ (s : Digits) (lo c hi d : ℕ) (v : Chosen k p s lo c hi) (b : c < n) (a : Above (k (suc c)) s d)
      (first : Agree s (k (suc lo)) (suc (p.offset lo))) where
    lowest : ((y : ℕ) → lo < y → y ≤ c → d < p.offset y) → p.offset lo < d
    lowest gap =
        let w : Agree (k (suc lo)) (k (suc c)) (suc d) = chain_agree (suc d) (suc lo) (suc c) (omega (arith, v.from)) b (λ y g h. gap y g (omega arith)) in
        elim (cases_lt (p.offset lo) d) [
          | inl z ↦ z
          | inr z ↦ absurd (omega (arith, first d (omega arith), w d (omega arith), a.more))
        ]

    no_tie_down : (i : ℕ) → lo < i → i ≤ c → ((y : ℕ) → i < y → y ≤ c → d < p.offset y) → d ≤ p.offset i → d < p.offset i
    no_tie_down i g l gap h = elim (cases_eq (p.offset i) d) [
      | inr z ↦ omega arith
      | inl z ↦
          let w : Agree (k (suc i)) (k (suc c)) (suc d) = chain_agree (suc d) (suc i) (suc c) (omega arith) b (λ y x u. gap y x (omega arith)) in
          let m : k (suc i) (p.offset i) ≤ s (p.offset i) = v.pre i g l (λ y g1 g2. omega (arith, gap y g1 g2)) in
          let m2 : k (suc i) d ≤ s d = subst (λ x. k (suc i) x ≤ s x) z m in
          absurd (omega (arith, w d (omega arith), a.more))
    ]

    pub downward_down : (i : ℕ) → lo ≤ i → i ≤ c → ((y : ℕ) → i < y → y ≤ c → d < p.offset y) → Down lo c d (downward p d i)
    downward_down zero g l gap = let e : lo ≡ 0 = omega arith in
        record { from = g; upto = l; gap = gap; stop = subst (λ x. p.offset x < d) e (lowest (λ y u. gap y (omega arith))) }
    downward_down (suc i) g l gap =
        cond_both (ltb (p.offset (suc i)) d) _ _ (λ z. Down lo c d z)
        (λ x. record { from = g; upto = l; gap = gap; stop = ltb-true (p.offset (suc i)) d x })
        (λ x. let h : d ≤ p.offset (suc i) = ltb-false (p.offset (suc i)) d x in
        let m : lo < suc i = elim (cases_lt lo (suc i)) [
          | inl z ↦ z
          | inr z ↦ let e : suc i ≡ lo = omega arith in
              let u : p.offset lo < d = lowest (λ y g1 g2. gap y (omega arith) g2) in
              absurd (omega (arith, subst (λ x. p.offset x < d) (sym e) u))
        ] in
        downward_down i (omega arith) (omega arith)
        (λ y g1 g2. elim (cases_lt (suc i) y) [
          | inl z ↦ gap y z g2
          | inr z ↦ let e : y ≡ suc i = omega arith in rw e (no_tie_down (suc i) m l gap h)
        ]))
