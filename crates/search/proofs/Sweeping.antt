-- The sweep keeps what its order says of the key visited last.
use Rattle.std.proofs.Common.{◌≡◌, ℕ, zero, suc, ◌+◌, ◌<◌, ◌≤◌, ltb, List, [], ◌∷◌, sym, refl, subst, inl, inr, arith}
use Rattle.std.proofs.lemmas.Bool.{cases_lt, cases_order, cond_both, ltb-false, ltb-true}
use Rattle.keys.specs.Digits.{Above, Agree, Below, Digits}
use Rattle.search.specs.Parts.{Parts, Stored, TrueNode}
use Rattle.search.specs.Sweeping.{Holds, against, offset_of, step, sweep}
use Rattle.search.specs.declared.order.Order.{Order}
use Rattle.search.specs.declared.order.Order.TheVariants.{Greater, Less, Open}
use Rattle.search.specs.declared.sweep.Swept.{Swept}

-- one place more
pub agree_more : (a b : Digits) (n : ℕ) → Agree a b n → a n ≡ b n → Agree a b (suc n)
agree_more a b n h e i l = grind (arith, cases_order i n)

pub holds_agree : (s a : Digits) (st : Order) → Holds s a st → Agree s a (offset_of st)
holds_agree s a (Greater g) h = h.same
holds_agree s a (Less g) h = λ i l. sym (h.same i l)
holds_agree s a (Open g) h = h

pub against_holds : (s a : Digits) (b : ℕ) (xs : List ℕ) → Agree s a b → Stored a b xs → Holds s a (against s b xs)
against_holds s a b [] h k = h
against_holds s a b (x ∷ xs) h k =
    cond_both (ltb (s b) x) _ _ (λ st. Holds s a st)
    (λ t. record { same = λ i l. sym (h i l); more = omega (arith, ltb-true (s b) x t) })
    (λ t. cond_both (ltb x (s b)) _ _ (λ st. Holds s a st)
    (λ u. record { same = h; more = omega (arith, ltb-true x (s b) u) })
    (λ u. against_holds s a (suc b) xs (agree_more s a b h (omega (arith, ltb-false (s b) x t, ltb-false x (s b) u))) k.1))

-- an open answer agrees at least as far as this
abbrev Reach : ℕ → Order → Type 0
Reach m (Greater g) = Unit {0}
Reach m (Less g) = Unit {0}
Reach m (Open g) = m ≤ g

pub against_reach : (s : Digits) (b m : ℕ) (xs : List ℕ) → m ≤ b → Reach m (against s b xs)
against_reach s b m [] l = l
against_reach s b m (x ∷ xs) l =
    cond_both (ltb (s b) x) _ _ (λ st. Reach m st) (λ t. tt)
    (λ t. cond_both (ltb x (s b)) _ _ (λ st. Reach m st) (λ u. tt) (λ u. against_reach s (suc b) m xs (omega arith)))

pub against_past : (s : Digits) (b x : ℕ) (xs : List ℕ) → Reach (suc b) (against s b (x ∷ xs))
against_past s b x xs =
    cond_both (ltb (s b) x) _ _ (λ st. Reach (suc b) st) (λ t. tt)
    (λ t. cond_both (ltb x (s b)) _ _ (λ st. Reach (suc b) st) (λ u. tt) (λ u. against_reach s (suc b) (suc b) xs (omega arith)))

-- a farther key keeps the order
pub farther : (s a b : Digits) (st : Order) (e : ℕ) → Holds s b st → Above a b e → offset_of st < e → Holds s a st
farther s a b (Greater g) e h q l = omega arith
farther s a b (Less g) e h q l = omega arith
farther s a b (Open g) e h q l = λ i k. omega arith

pub step_holds : (s a b : Digits) (st : Order) (e : ℕ) (xs : List ℕ) → Holds s b st → Above a b e → Stored a e xs → Holds s a (step s st e xs)
step_holds s a b st e xs h q k =
    let r : Agree s b (offset_of st) = holds_agree s b st h in
    cond_both (ltb (offset_of st) e) _ _ (λ z. Holds s a z)
    (λ t. farther s a b st e h q (ltb-true (offset_of st) e t))
    (λ t. cond_both (ltb e (offset_of st)) _ _ (λ z. Holds s a z)
    (λ u. let l : e < offset_of st = ltb-true e (offset_of st) u in omega arith)
    (λ u. let l : e ≤ offset_of st = ltb-false (offset_of st) e t in against_holds s a e xs (λ i v. omega arith) k))

-- after a key found smaller, an open answer goes past the offset
pub step_reach : (s : Digits) (g e x : ℕ) (xs : List ℕ) → Reach (suc e) (step s (Greater g) e (x ∷ xs))
step_reach s g e x xs =
    cond_both (ltb g e) _ _ (λ z. Reach (suc e) z) (λ t. tt)
    (λ t. cond_both (ltb e g) _ _ (λ z. Reach (suc e) z) (λ u. tt) (λ u. against_past s e x xs))

-- What the sweep knows before the key at place i.
pub record Sweeping (k : ℕ → Digits) (p : Parts) (s : Digits) (i low off : ℕ) (st : Order) : Type 0 where
  pub within : low ≤ i
  pub under : Above s (k low) off
  pub last : Holds s (k i) st
  pub first : low < i → Agree s (k (suc low)) (suc (p.offset low))
  pub start : low ≡ i → st ≡ Greater off

-- What it has found.
pub record Done (n : ℕ) (k : ℕ → Digits) (p : Parts) (s : Digits) (w : Swept) : Type 0 where
  pub within : w.low ≤ w.high
  pub bound : w.high ≤ n
  pub under : Above s (k w.low) w.offset
  pub first : w.low < w.high → Agree s (k (suc w.low)) (suc (p.offset w.low))
  pub over : w.high < n → Below s (k (suc w.high))

module _ (n : ℕ) (k : ℕ → Digits) (p : Parts) (s : Digits) (f : TrueNode n k p) where
  -- the first open key agrees with the search key past its own offset
  first_open : (i low off g : ℕ) (st : Order) → Sweeping k p s i low off st → Agree s (k (suc i)) g → low ≤ i →
      Reach (suc (p.offset i)) (step s (Greater off) (p.offset i) (p.lead i ∷ p.rest i)) →
      step s st (p.offset i) (p.lead i ∷ p.rest i) ≡ Open g →
      Agree s (k (suc low)) (suc (p.offset low))
  first_open i low off g st v h b r e = elim (cases_lt low i) [
    | inl u ↦ v.first u
    | inr u ↦
        let w : low ≡ i = omega arith in
        let r2 : Reach (suc (p.offset i)) (step s st (p.offset i) (p.lead i ∷ p.rest i)) =
        subst (λ z. Reach (suc (p.offset i)) (step s z (p.offset i) (p.lead i ∷ p.rest i))) (sym (v.start w)) r in
        let r3 : suc (p.offset i) ≤ g = subst (λ z. Reach (suc (p.offset i)) z) e r2 in
        let r4 : Agree s (k (suc i)) (suc (p.offset i)) = (λ j q. h j (omega arith)) in
        rw w r4
  ]

  pub sweep_done : (t i low off : ℕ) (st : Order) → i + t ≡ n → Sweeping k p s i low off st → Done n k p s (sweep s p t i low off st)
  sweep_done zero i low off st e v = record {
    within = v.within;
    bound = omega arith;
    under = v.under;
    first = v.first;
    over = λ h. absurd (omega arith);
  }
  sweep_done (suc t) i low off st e v =
      let xs : List ℕ = p.lead i ∷ p.rest i in
      let lt : i < n = omega arith in
      let hold : Holds s (k (suc i)) (step s st (p.offset i) xs) = step_holds s (k (suc i)) (k i) st (p.offset i) xs v.last (f.rises i lt) (f.kept i lt) in
      let rest : (j low2 off2 : ℕ) (st2 : Order) → j + t ≡ n → Sweeping k p s j low2 off2 st2 → Done n k p s (sweep s p t j low2 off2 st2) = sweep_done t in
      go xs rest lt (step s st (p.offset i) xs) hold refl
    where
      go : (xs : List ℕ) → ((j low2 off2 : ℕ) (st2 : Order) → j + t ≡ n → Sweeping k p s j low2 off2 st2 → Done n k p s (sweep s p t j low2 off2 st2)) → i < n →
          (z : Order) → Holds s (k (suc i)) z → step s st (p.offset i) (p.lead i ∷ p.rest i) ≡ z →
          Done n k p s (elim z [ Greater g ↦ sweep s p t (suc i) (suc i) g (Greater g) | Less g ↦ record { low = low; offset = off; high = i } | Open g ↦ sweep s p t (suc i) low off (Open g) ])
      go xs rest lt (Greater g) h q = rest (suc i) (suc i) g (Greater g) (omega arith)
          (record { within = omega arith; under = h; last = h; first = λ y. absurd (omega arith); start = λ y. refl })
      go xs rest lt (Less g) h q = record {
        within = v.within;
        bound = omega arith;
        under = v.under;
        first = v.first;
        over = λ y. (g, h);
      }
      go xs rest lt (Open g) h q = rest (suc i) low off (Open g) (omega arith)
          (record {
            within = omega (arith, v.within);
            under = v.under;
            last = h;
            first = λ y. first_open i low off g st v h v.within (step_reach s off (p.offset i) (p.lead i) (p.rest i)) q;
            start = λ y. absurd (omega (arith, v.within));
          })
