-- The offset of a known place lies in the search key: past the key every bit is 0, and no kept bit is smaller.
use Rattle.std.proofs.Common.{ℕ, zero, suc, ◌*◌, ◌<◌, ◌≤◌, ltb, List, [], ◌∷◌, length, inl, inr, arith}
use Rattle.std.proofs.lemmas.Bool.{cases_lt, cond_both, ltb-true}
use Rattle.keys.proofs.Places.{bit_past}
use Rattle.keys.specs.Bits.{bits}
use Rattle.search.specs.NodeLaw.{StepsUpto}
use Rattle.search.specs.Parts.{Parts}
use Rattle.search.specs.Placing.{candidate_of, looked}
use Rattle.search.specs.Sweeping.{against, offset_of, step, sweep, swept}
use Rattle.search.specs.declared.order.Order.{Order}
use Rattle.search.specs.declared.order.Order.TheVariants.{Greater, Less, Open}
use Rattle.search.specs.declared.place.Step.TheVariants.{Ask, Known}
use Rattle.search.specs.declared.sweep.Swept.{Swept}

-- the search key is greater at an offset up to m
abbrev pub Upto : ℕ → Order → Type 0
Upto m (Greater o) = o ≤ m
Upto m (Less o) = Unit {0}
Upto m (Open o) = Unit {0}

in_key : (key : List ℕ) (b : ℕ) → 0 < bits key b → b ≤ 8 * length key
in_key key b h = elim (cases_lt (8 * length key) b) [ inl l ↦ absurd (omega (arith, bit_past key b (omega arith) (omega arith))) | inr l ↦ l ]

module _ (key : List ℕ) (m : ℕ) (wide : 8 * length key ≤ m) where
  against_upto : (b : ℕ) (xs : List ℕ) → Upto m (against (bits key) b xs)
  against_upto b [] = tt
  against_upto b (x ∷ xs) =
      cond_both (ltb (bits key b) x) _ _ (Upto m) (λ t. tt)
      (λ t. cond_both (ltb x (bits key b)) _ _ (Upto m) (λ u. omega (arith, in_key key b (omega (arith, ltb-true x (bits key b) u)))) (λ u. against_upto (suc b) xs))

  pub step_upto : (r : Order) (e : ℕ) (xs : List ℕ) → Upto m r → Upto m (step (bits key) r e xs)
  step_upto r e xs h =
      cond_both (ltb (offset_of r) e) _ _ (Upto m) (λ t. h)
      (λ t. cond_both (ltb e (offset_of r)) _ _ (Upto m) (λ u. tt) (λ u. against_upto e xs))

  abbrev Near : Swept → Type 0
  Near w = w.offset ≤ m

  sweep_upto : (p : Parts) (t i low off : ℕ) (r : Order) → off ≤ m → Upto m r → Near (sweep (bits key) p t i low off r)
  sweep_upto p zero i low off r l h = l
  sweep_upto p (suc t) i low off r l h = go (sweep_upto p t (suc i)) (step (bits key) r (p.offset i) (p.lead i ∷ p.rest i)) (step_upto r (p.offset i) (p.lead i ∷ p.rest i) h)
    where
      go : ((low2 off2 : ℕ) (r2 : Order) → off2 ≤ m → Upto m r2 → Near (sweep (bits key) p t (suc i) low2 off2 r2)) → (z : Order) → Upto m z →
          Near (elim z [ Greater g ↦ sweep (bits key) p t (suc i) (suc i) g (Greater g) | Less g ↦ record { low = low; offset = off; high = i } | Open g ↦ sweep (bits key) p t (suc i) low off (Open g) ])
      go ih (Greater g) u = ih (suc i) g (Greater g) u u
      go ih (Less g) u = l
      go ih (Open g) u = ih low off (Open g) l tt

  pub looked_upto : (p : Parts) (n o : ℕ) → o ≤ m → StepsUpto m (looked (bits key) p n o)
  looked_upto p n o l =
      let w : Swept = swept (bits key) p n o in
      cond_both (ltb w.low w.high) (Ask w.high (candidate_of (bits key) p w.low w.high)) (Known w.low w.offset) (λ r. StepsUpto m r)
      (λ x. tt) (λ x. sweep_upto p n 0 0 o (Greater o) l l)
