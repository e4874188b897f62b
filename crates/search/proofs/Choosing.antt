-- The candidate: what is known of the offsets before and after it.
use Rattle.std.proofs.Common.{◌≡◌, ℕ, zero, suc, ◌+◌, ◌<◌, ◌≤◌, true, false, leb, Some, None, Option, refl, ap, inl, inr, arith}
use Rattle.std.proofs.lemmas.Bool.{cases_lt, cases_order, cond_both, leb-false, leb-true}
use Rattle.keys.specs.Digits.{Above, Digits}
use Rattle.search.specs.Parts.{Parts, TrueNode}
use Rattle.search.specs.Placing.{candidate, looked_at}

-- the mark is the last key passed over, at b; no offset after the candidate is smaller
pub record Closed (k : ℕ → Digits) (p : Parts) (s : Digits) (c i b : ℕ) : Type 0 where
  pub mark : ℕ
  pub after : c < mark
  pub before : mark < i
  pub is : p.offset mark ≡ b
  pub least : (y : ℕ) → c < y → y < i → b ≤ p.offset y
  pub small : s b < k i b

abbrev pub Passing : (k : ℕ → Digits) (p : Parts) (s : Digits) (c i : ℕ) → Option ℕ → Type 0
Passing k p s c i None = i ≡ suc c
Passing k p s c i (Some b) = Closed k p s c i b

-- c is the candidate of the keys from f up to, and not including, i
pub record Chosen (k : ℕ → Digits) (p : Parts) (s : Digits) (f c i : ℕ) : Type 0 where
  pub from : f ≤ c
  pub upto : c < i
  -- no later offset up to c is smaller than q's: the search key is not below q's digit
  pub pre : (q : ℕ) → f < q → q ≤ c → ((y : ℕ) → q < y → y ≤ c → p.offset q ≤ p.offset y) →
      k (suc q) (p.offset q) ≤ s (p.offset q)
  -- all offsets between c and m are larger than m's: the search key is below m's digit
  pub post : (m : ℕ) → c < m → m < i → ((y : ℕ) → c < y → y < m → p.offset m < p.offset y) →
      s (p.offset m) < k (suc m) (p.offset m)

module _ (k : ℕ → Digits) (p : Parts) (s : Digits) where
  -- a key with the offset of the one passed over is passed over too
  tie : (c i b : ℕ) → Closed k p s c i b → Above (k (suc i)) (k i) (p.offset i) → p.offset i ≤ b →
      k (suc i) (p.offset i) ≤ s (p.offset i) → p.offset i < b
  tie c i b g r l t = grind (arith, cases_order (p.offset i) b)

  between : (c i q : ℕ) (g : Option ℕ) → Passing k p s c i g → Above (k (suc i)) (k i) (p.offset i) → looked_at g (p.offset i) ≡ true →
      k (suc i) (p.offset i) ≤ s (p.offset i) → c < q → q < i → p.offset q ≤ p.offset i → ⊥
  between c i q None g r z t a b e = omega arith
  between c i q (Some b0) g r z t a b e =
      let l : p.offset i < b0 = tie c i b0 g r (leb-true (p.offset i) b0 z) t in
      omega (arith, g.least q a b)

  pub take_step : (f c i : ℕ) (g : Option ℕ) → Chosen k p s f c i → Passing k p s c i g → Above (k (suc i)) (k i) (p.offset i) →
      looked_at g (p.offset i) ≡ true → k (suc i) (p.offset i) ≤ s (p.offset i) → Chosen k p s f i (suc i)
  take_step f c i g v w r z t = record {
    from = omega (arith, v.from, v.upto);
    upto = omega arith;
    pre = λ q a b h. elim (cases_lt q i) [
      | inr y ↦ let e : q ≡ i = omega arith in rw e t
      | inl y ↦ elim (cases_lt c q) [
        | inl u ↦ absurd (between c i q g w r z t u y (h i y (omega arith)))
        | inr u ↦ v.pre q a u (λ x m n. h x m (omega (arith, v.upto)))
      ]
    ];
    post = λ m a b h. absurd (omega arith);
  }

  pub pass_step : (f c i : ℕ) (g : Option ℕ) → Chosen k p s f c i → Passing k p s c i g →
      looked_at g (p.offset i) ≡ true → s (p.offset i) < k (suc i) (p.offset i) → Chosen k p s f c (suc i)
  pass_step f c i g v w z t = record {
    from = v.from;
    upto = omega (arith, v.upto);
    pre = v.pre;
    post = λ m a b h. elim (cases_lt m i) [
      | inl y ↦ v.post m a y h
      | inr y ↦ let e : m ≡ i = omega arith in rw e t
    ];
  }

  least_passed : (c i b y : ℕ) (g : Option ℕ) → Passing k p s c i g → looked_at g b ≡ true → c < y → y < i → b ≤ p.offset y
  least_passed c i b y None w z a h = absurd (omega arith)
  least_passed c i b y (Some b0) w z a h = omega (arith, w.least y a h, leb-true b b0 z)

  pub pass_closed : (c i : ℕ) (g : Option ℕ) → c < i → Passing k p s c i g →
      looked_at g (p.offset i) ≡ true → s (p.offset i) < k (suc i) (p.offset i) → Closed k p s c (suc i) (p.offset i)
  pass_closed c i g l w z t = record {
    mark = i;
    after = l;
    before = omega arith;
    is = refl;
    least = λ y a b. elim (cases_lt y i) [
      | inl u ↦ least_passed c i (p.offset i) y g w z a u
      | inr u ↦ let e : y ≡ i = omega arith in rw e (omega arith)
    ];
    small = t;
  }

  pub skip_step : (f c i b : ℕ) → Chosen k p s f c i → Closed k p s c i b → b < p.offset i → Chosen k p s f c (suc i)
  skip_step f c i b v w l = record {
    from = v.from;
    upto = omega (arith, v.upto);
    pre = v.pre;
    post = λ m a z h. elim (cases_lt m i) [
      | inl y ↦ v.post m a y h
      | inr y ↦ let e : m ≡ i = omega arith in
          let u = h w.mark w.after (omega (arith, w.before)) in
          let o : p.offset m ≡ p.offset i = ap p.offset e in
          absurd (omega (arith, w.is))
    ];
  }

  pub skip_closed : (c i b : ℕ) → Closed k p s c i b → Above (k (suc i)) (k i) (p.offset i) → b < p.offset i → Closed k p s c (suc i) b
  skip_closed c i b w r l = record {
    mark = w.mark;
    after = w.after;
    before = omega (arith, w.before);
    is = w.is;
    least = λ y a h. elim (cases_lt y i) [
      | inl u ↦ w.least y a u
      | inr u ↦ let e : y ≡ i = omega arith in rw e (omega arith)
    ];
    small = omega (arith, w.small, r.same b l);
  }

module _ (n : ℕ) (k : ℕ → Digits) (p : Parts) (s : Digits) (f : TrueNode n k p) where
  pub candidate_chosen : (lo hi t i c : ℕ) (g : Option ℕ) → hi ≤ n → i + t ≡ hi → Chosen k p s lo c i → Passing k p s c i g →
      Chosen k p s lo (candidate s p t i c g) hi
  candidate_chosen lo hi zero i c g b e v w = let x : hi ≡ i = omega arith in rw x v
  candidate_chosen lo hi (suc t) i c g b e v w =
      let lt : i < n = omega arith in
      let r : Above (k (suc i)) (k i) (p.offset i) = f.rises i lt in
      let d : k (suc i) (p.offset i) ≡ p.lead i = (f.kept i lt).0 in
      let P : ℕ → Type 0 = λ x. Chosen k p s lo x hi in
      cond_both (looked_at g (p.offset i)) _ _ P
      (λ z. cond_both (leb (p.lead i) (s (p.offset i))) _ _ P
      (λ u. let t1 : k (suc i) (p.offset i) ≤ s (p.offset i) = omega (arith, leb-true (p.lead i) (s (p.offset i)) u) in
      candidate_chosen lo hi t (suc i) i None b (omega arith) (take_step k p s lo c i g v w r z t1) refl)
      (λ u. let t1 : s (p.offset i) < k (suc i) (p.offset i) = omega (arith, leb-false (p.lead i) (s (p.offset i)) u) in
      candidate_chosen lo hi t (suc i) c (Some (p.offset i)) b (omega arith)
      (pass_step k p s lo c i g v w z t1) (pass_closed k p s c i g v.upto w z t1)))
      (λ z. skip g w z r (candidate_chosen lo hi t (suc i) c g b (omega arith)))
    where
      skip : (g2 : Option ℕ) → Passing k p s c i g2 → looked_at g2 (p.offset i) ≡ false → Above (k (suc i)) (k i) (p.offset i) →
          (Chosen k p s lo c (suc i) → Passing k p s c (suc i) g2 → Chosen k p s lo (candidate s p t (suc i) c g2) hi) →
          Chosen k p s lo (candidate s p t (suc i) c g2) hi
      skip None w2 z r h = cc
      skip (Some b2) w2 z r h = let u : b2 < p.offset i = leb-false (p.offset i) b2 z in
          h (skip_step k p s lo c i b2 v w2 u) (skip_closed k p s c i b2 w2 r u)
