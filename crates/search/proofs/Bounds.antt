-- What holds of the search of any node, true or not: places stay within it.
use Rattle.std.proofs.Common.{◌≡◌, ℕ, zero, suc, ◌+◌, ◌-◌, ◌<◌, ◌≤◌, ltb, leb, ◌∷◌, Some, None, Option, arith}
use Rattle.std.proofs.lemmas.Bool.{cond_both, ltb-true}
use Rattle.keys.specs.Digits.{Digits}
use Rattle.keys.specs.declared.comparison.Comparison.{Comparison}
use Rattle.keys.specs.declared.comparison.Comparison.TheVariants.{Equal, Greater as More, Less as Fewer}
use Rattle.search.specs.NodeLaw.{InNode, StepInNode}
use Rattle.search.specs.Parts.{Parts}
use Rattle.search.specs.Placing.{candidate, candidate_of, downward, looked, looked_at, settled, upward}
use Rattle.search.specs.Sweeping.{step, sweep, swept}
use Rattle.search.specs.declared.order.Order.{Order}
use Rattle.search.specs.declared.order.Order.TheVariants.{Greater, Less, Open}
use Rattle.search.specs.declared.place.Step.TheVariants.{Ask, Known}
use Rattle.search.specs.declared.sweep.Swept.{Swept}

pub record Within (n : ℕ) (w : Swept) : Type 0 where
  pub ends : w.low ≤ w.high
  pub upto : w.high ≤ n

pub sweep_within : (s : Digits) (p : Parts) (n t i low off : ℕ) (r : Order) → i + t ≡ n → low ≤ i → Within n (sweep s p t i low off r)
sweep_within s p n zero i low off r e l = record { ends = l; upto = omega arith }
sweep_within s p n (suc t) i low off r e l = go (sweep_within s p n t (suc i)) (step s r (p.offset i) (p.lead i ∷ p.rest i))
  where
    go : ((low2 off2 : ℕ) (r2 : Order) → suc i + t ≡ n → low2 ≤ suc i → Within n (sweep s p t (suc i) low2 off2 r2)) → (z : Order) →
        Within n (elim z [ Greater g ↦ sweep s p t (suc i) (suc i) g (Greater g) | Less g ↦ record { low = low; offset = off; high = i } | Open g ↦ sweep s p t (suc i) low off (Open g) ])
    go h (Greater g) = h (suc i) g (Greater g) (omega arith) (omega arith)
    go h (Less g) = record { ends = l; upto = omega arith }
    go h (Open g) = h low off (Open g) (omega arith) (omega arith)

pub swept_within : (s : Digits) (p : Parts) (n o : ℕ) → Within n (swept s p n o)
swept_within s p n o = sweep_within s p n n 0 0 o (Greater o) (omega arith) (omega arith)

pub candidate_within : (s : Digits) (p : Parts) (n t i c : ℕ) (g : Option ℕ) → i + t ≡ n → c < i → candidate s p t i c g < n
candidate_within s p n zero i c g e l = omega arith
candidate_within s p n (suc t) i c g e l =
    cond_both (looked_at g (p.offset i)) _ _ (λ z. z < n)
    (λ x. cond_both (leb (p.lead i) (s (p.offset i))) _ _ (λ z. z < n)
    (λ y. candidate_within s p n t (suc i) i None (omega arith) (omega arith))
    (λ y. candidate_within s p n t (suc i) c (Some (p.offset i)) (omega arith) (omega arith)))
    (λ x. candidate_within s p n t (suc i) c g (omega arith) (omega arith))

pub candidate_before : (s : Digits) (p : Parts) (low high : ℕ) → low < high → candidate_of s p low high < high
candidate_before s p low high l = candidate_within s p high (high - suc low) (suc low) low None (omega arith) (omega arith)

pub upward_upto : (p : Parts) (d t i : ℕ) → upward p d t i ≤ i + t
upward_upto p d zero i = omega arith
upward_upto p d (suc t) i = cond_both (leb (p.offset i) d) _ _ (λ z. z ≤ i + suc t) (λ x. omega arith) (λ x. omega (arith, upward_upto p d t (suc i)))

pub downward_upto : (p : Parts) (d i : ℕ) → downward p d i ≤ i
downward_upto p d zero = omega arith
downward_upto p d (suc i) = cond_both (ltb (p.offset (suc i)) d) _ _ (λ z. z ≤ suc i) (λ x. omega arith) (λ x. omega (arith, downward_upto p d i))

pub settled_within : (p : Parts) (n high c : ℕ) (r : Comparison) → c < high → high ≤ n → InNode n (settled p high c r)
settled_within p n high c Equal l h = omega arith
settled_within p n high c (More d) l h = omega (arith, upward_upto p d (high - suc c) (suc c))
settled_within p n high c (Fewer d) l h = omega (arith, downward_upto p d c)

pub looked_within : (s : Digits) (p : Parts) (n o : ℕ) → StepInNode n (looked s p n o)
looked_within s p n o =
    let w : Swept = swept s p n o in
    let i : Within n w = swept_within s p n o in
    cond_both (ltb w.low w.high) (Ask w.high (candidate_of s p w.low w.high)) (Known w.low w.offset) (λ r. StepInNode n r)
    (λ x. (candidate_before s p w.low w.high (ltb-true w.low w.high x), i.upto))
    (λ x. omega (arith, i.ends, i.upto))
