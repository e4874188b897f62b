-- The search of a true node is right.
use Rattle.std.proofs.Common.{◌≡◌, ℕ, zero, suc, ◌+◌, ◌-◌, ◌<◌, ◌≤◌, ltb, None, refl, subst, inl, inr, arith}
use Rattle.std.proofs.lemmas.Bool.{cases_lt, cond_both, ltb-false, ltb-true}
use Rattle.keys.proofs.Offsets.{below_trans}
use Rattle.keys.specs.Digits.{Above, Below, Digits}
use Rattle.keys.specs.declared.comparison.Comparison.{Comparison}
use Rattle.keys.specs.declared.comparison.Comparison.TheVariants.{Equal, Greater as More, Less as Fewer}
use Rattle.search.specs.NodeLaw.{BitsScanAlike, LeadsRight, LookRight, NodeSearchRight, PlaceSplits, Right, Tells, strictly_upward}
use Rattle.search.specs.Parts.{Parts, Placed, TrueNode}
use Rattle.search.specs.Placing.{candidate_of, downward, finished, looked, settled, upward}
use Rattle.search.specs.Sweeping.{swept}
use Rattle.search.specs.declared.order.Order.TheVariants.{Greater}
use Rattle.search.specs.declared.place.Step.{Step}
use Rattle.search.specs.declared.place.Step.TheVariants.{Ask, Known}
use Rattle.search.specs.declared.sweep.Swept.{Swept}
use Rattle.search.proofs.Choosing.{Chosen, candidate_chosen}
use Rattle.search.proofs.Placing.{downward_down, over_placed, under_placed, upward_alike, upward_up}
use Rattle.search.proofs.Sweeping.{Done, sweep_done}

module _ (n : ℕ) (k : ℕ → Digits) (p : Parts) (s : Digits) (f : TrueNode n k p) where
  settled_right : (N : ℕ) (w : Swept) → Done n k p s w → w.low < w.high → (c : ℕ) → Chosen k p s w.low c w.high →
      (r : Comparison) → Tells N s (k (suc c)) r → Right N n k s (settled p w.high c r)
  settled_right N w d lt c v Equal t = (omega (arith, v.upto, d.bound), t)
  settled_right N w d lt c v (More o) t =
      let u = upward_up n k p f.rises c w.high o (w.high - suc c) (suc c) (omega (arith, v.upto)) (omega arith) (λ y a b. absurd (omega arith)) in
      over_placed n k p f.rises s w.low c w.high o (upward p o (w.high - suc c) (suc c)) v d.bound t d.over u.above u.upto u.gap u.stop
  settled_right N w d lt c v (Fewer o) t =
      let b : c < n = omega (arith, v.upto, d.bound) in
      let u = downward_down n k p f.rises s w.low c w.high o v b t (d.first lt) c v.from (omega arith) (λ y g h. absurd (omega arith)) in
      under_placed n k p f.rises s c o (downward p o c) b t u.upto u.stop u.gap

  swept_done : (o : ℕ) → Above s (k 0) o → Done n k p s (swept s p n o)
  swept_done o a = sweep_done n k p s f n 0 0 o (Greater o) (omega arith)
      (record { within = omega arith; under = a; last = a; first = λ h. absurd (omega arith); start = λ h. refl })

  of_chosen : (w : Swept) → Done n k p s w → w.low < w.high → Chosen k p s w.low (candidate_of s p w.low w.high) w.high
  of_chosen w d lt = candidate_chosen n k p s f w.low w.high (w.high - suc w.low) (suc w.low) w.low None d.bound (omega arith)
      (record { from = omega arith; upto = omega arith; pre = λ q g h z. absurd (omega arith); post = λ m g h z. absurd (omega arith) }) refl

  -- what a look leads to, with all that is known of its candidate
  abbrev Looks : ℕ → Step → Type 0
  Looks N (Known q o) = Placed n k s q o
  Looks N (Ask high c) = (low : ℕ) × Chosen k p s low c high × (c < n) × ((x : Comparison) → Tells N s (k (suc c)) x → Right N n k s (settled p high c x))

  looks : (N o : ℕ) → Above s (k 0) o → Looks N (looked s p n o)
  looks N o a =
      let w : Swept = swept s p n o in
      let d : Done n k p s w = swept_done o a in
      let c : ℕ = candidate_of s p w.low w.high in
      cond_both (ltb w.low w.high) (Ask w.high c) (Known w.low w.offset) (λ r. Looks N r)
      (λ x. let lt : w.low < w.high = ltb-true w.low w.high x in
      let v = of_chosen w d lt in
      (w.low, v, omega (arith, v.upto, d.bound), λ r t. settled_right N w d lt c v r t))
      (λ x. let e : w.high ≡ w.low = omega (arith, ltb-false w.low w.high x, d.within) in
      record {
        within = omega (arith, d.within, d.bound);
        under = d.under;
        over = λ h. subst (λ z. Below s (k (suc z))) e (d.over (omega arith));
      })

pub look_right : LookRight
look_right N n o k p s f a = go (looked s p n o) (looks n k p s f N o a)
  where
    go : (r : Step) → Looks n k p s f N r → LeadsRight N n k p s r
    go (Known q e) h = h
    go (Ask high c) h = (h.2, h.3)

pub node_search_right : NodeSearchRight
node_search_right N n o k p s tell f a told = go (looked s p n o) (look_right N n o k p s f a)
  where
    go : (r : Step) → LeadsRight N n k p s r → Right N n k s (finished p tell r)
    go (Known q e) h = h
    go (Ask high c) h = h.1 (tell c) (told c h.0)

-- smaller keys below, greater above
down_all : (n q : ℕ) (k : ℕ → Digits) (p : Parts) (s : Digits) → TrueNode n k p → Below (k q) s → q ≤ n → (t i : ℕ) → i + t ≡ q → Below (k i) s
down_all n q k p s f b l zero i e = let x : i ≡ q = omega arith in rw x b
down_all n q k p s f b l (suc t) i e =
    below_trans (k i) (k (suc i)) s (p.offset i, f.rises i (omega arith)) (down_all n q k p s f b l t (suc i) (omega arith))

up_all : (n q : ℕ) (k : ℕ → Digits) (p : Parts) (s : Digits) → TrueNode n k p → (q < n → Below s (k (suc q))) → (i : ℕ) → q < i → i ≤ n → Below s (k i)
up_all n q k p s f b zero g l = absurd (omega arith)
up_all n q k p s f b (suc i) g l = elim (cases_lt q i) [
  | inl h ↦ below_trans s (k i) (k (suc i)) (up_all n q k p s f b i h (omega arith)) (p.offset i, f.rises i l)
  | inr h ↦ let x : i ≡ q = omega arith in rw x (b (omega arith))
]

pub place_splits : PlaceSplits
place_splits n q o k p s f d = (
  (λ i h. down_all n q k p s f (o, d.under) d.within (q - i) i (omega arith)),
  (λ i g h. up_all n q k p s f d.over i g h),
)

pub bits_scan_alike : BitsScanAlike
bits_scan_alike n o k p s high c d f bits a is above = go (looked s p n o) (looks n k p s f 0 o a) is
  where
    go : (r : Step) → Looks n k p s f 0 r → r ≡ Ask high c → strictly_upward p d (high - suc c) (suc c) ≡ upward p d (high - suc c) (suc c)
    go (Known q e) h z = cc
    go (Ask g b) h z =
        let e : g ≡ high = cc in
        let i : b ≡ c = cc in
        let v : Chosen k p s h.0 c high = subst (λ x. Chosen k p s h.0 c x) e (subst (λ x. Chosen k p s h.0 x g) i h.1) in
        upward_alike n k p f.rises s h.0 c high d (high - suc c) (suc c) v above bits (omega (arith, v.upto)) (omega arith) (λ y u w. absurd (omega arith))
