-- The winner that the search shows.
use Rattle.std.proofs.Common.{◌≡◌, ℕ, ◌+◌, ◌*◌, ◌<◌, ◌≤◌, min, ltb, ◌⊎◌, List, [], ◌∷◌, ◌++◌, length, get_or, Some, None, Option, sym, refl, ap, subst, inl, inr, arith}
use Rattle.std.proofs.lemmas.Bool.{cond_both, ltb-false, ltb-true}
use Rattle.std.specs.List.{AllByRecursion}
use Rattle.keys.proofs.Lexical.{order_of_bytes}
use Rattle.keys.proofs.Offsets.{below_trans, chain_two, not_both, not_itself}
use Rattle.keys.specs.Bits.{bits}
use Rattle.keys.specs.Bytes.{Key}
use Rattle.keys.specs.Digits.{Above, Below, Digits, floor}
use Rattle.nodes.specs.Faith.{View, free}
use Rattle.nodes.specs.Trees.{records}
use Rattle.search.specs.Names.{last_of}
use Rattle.search.specs.Seek.{End, found, gap, gone, neighbour, sought}
use Rattle.search.specs.TreeLaw.{HeldBy, WinnerRight, fetching, tells, view_of}
use Rattle.search.specs.Winner.{IsIn, Runs, Shares, Wins, near_wins, winner}
use Rattle.store.specs.Meaning.{Lawful, Meaning, key_of}
use Rattle.search.proofs.Comparing.{compared_true}
use Rattle.search.proofs.Descent.{Gap, Hit, Locates, seek_right}
use Rattle.search.proofs.Heads.{head_by_offset, same_key}
use Rattle.search.proofs.Plainly.{over_floor}
use Rattle.search.proofs.Rising.{AllAbove, AllBelow, Rising, faithful_rising, greater_all, rising_drop, smaller_all}
use Rattle.search.proofs.OverStore.{at_hand, byte_small, held_key, key_bytes, key_fits, view_of-bits}
use Rattle.search.proofs.Weaves.{top}

in_middle : (r : ℕ) (xs ys : List ℕ) → IsIn r (xs ++ (r ∷ ys))
in_middle r [] ys = inl refl
in_middle r (x ∷ xs) ys = inr (in_middle r xs ys)

in_either : (r : ℕ) (xs ys : List ℕ) → IsIn r (xs ++ ys) → IsIn r xs ⊎ IsIn r ys
in_either r [] ys h = inr h
in_either r (x ∷ xs) ys (inl e) = inl (inl e)
in_either r (x ∷ xs) ys (inr h) = elim (in_either r xs ys h) [ inl i ↦ inl (inr i) | inr i ↦ inr i ]

in_left : (r : ℕ) (xs ys : List ℕ) → IsIn r xs → IsIn r (xs ++ ys)
in_left r [] ys h = absurd h
in_left r (x ∷ xs) ys (inl e) = inl e
in_left r (x ∷ xs) ys (inr h) = inr (in_left r xs ys h)

all_in : (P : ℕ → Type 0) (xs : List ℕ) → AllByRecursion P xs → (q : ℕ) → IsIn q xs → P q
all_in P [] h q i = absurd i
all_in P (x ∷ xs) h q (inl e) = subst P (sym e) h.0
all_in P (x ∷ xs) h q (inr i) = all_in P xs h.1 q i

below_in : (v : View) (s : Digits) (xs : List ℕ) → AllBelow v s xs → (q : ℕ) → IsIn q xs → Below (v.key q) s
below_in v s [] h q i = absurd i
below_in v s (x ∷ xs) h q (inl e) = subst (λ z. Below (v.key z) s) (sym e) h.0
below_in v s (x ∷ xs) h q (inr i) = below_in v s xs h.1 q i

above_in : (v : View) (s : Digits) (xs : List ℕ) → AllAbove v s xs → (q : ℕ) → IsIn q xs → Below s (v.key q)
above_in v s [] h q i = absurd i
above_in v s (x ∷ xs) h q (inl e) = subst (λ z. Below s (v.key z)) (sym e) h.0
above_in v s (x ∷ xs) h q (inr i) = above_in v s xs h.1 q i

-- the last record of an ascending list has the greatest key
record Last (v : View) (b : ℕ) (xs : List ℕ) : Type 0 where
  z : ℕ
  is : last_of (Some b) xs ≡ Some z
  peak : top v (v.key b) xs ≡ v.key z
  has : IsIn z (b ∷ xs)
  most : (q : ℕ) → IsIn q (b ∷ xs) → (q ≡ z) ⊎ Below (v.key q) (v.key z)

last_record : (v : View) (b : ℕ) (xs ys : List ℕ) → Rising v (v.key b) (xs ++ ys) → Last v b xs
last_record v b [] ys h = record { z = b; is = refl; peak = refl; has = inl refl; most = only }
  where
    only : (q : ℕ) → IsIn q (b ∷ []) → (q ≡ b) ⊎ Below (v.key q) (v.key b)
    only q (inl e) = inl e
    only q (inr i) = absurd i
last_record v b (x ∷ xs) ys h = put (last_record v x xs ys h.1)
  where
    put : Last v x xs → Last v b (x ∷ xs)
    put r = record { z = r.z; is = r.is; peak = r.peak; has = inr r.has; most = every }
      where
        every : (q : ℕ) → IsIn q (b ∷ (x ∷ xs)) → (q ≡ r.z) ⊎ Below (v.key q) (v.key r.z)
        every q (inl e) = inr (subst (λ w. Below (v.key w) (v.key r.z)) (sym e) (elim (r.most x (inl refl)) [
          | inl g ↦ subst (λ w. Below (v.key b) (v.key w)) g h.0
          | inr g ↦ below_trans (v.key b) (v.key x) (v.key r.z) h.0 g
        ]))
        every q (inr i) = r.most q i

module _ (m : Meaning) (keep head : ℕ) (key : List ℕ) (law : Lawful m) (wide : Key m.width key) where
  abbrev s : Digits
  s = bits key

  abbrev v : View
  v = view_of keep m

  abbrev ks : ℕ → List ℕ
  ks = key_of m

  fk : (i : ℕ) → get_or key i 0 < 256
  fk = byte_small key wide.1

  -- the same by the order of bits
  abbrev May : ℕ → Type 0
  May q = ((key ≡ ks q) ⊎ Below (v.key q) s) × Shares head key (ks q)

  abbrev Best : List ℕ → Option ℕ → Type 0
  Best rs None = (q : ℕ) → IsIn q rs → May q → ⊥
  Best rs (Some r) = IsIn r rs × May r × ((q : ℕ) → IsIn q rs → May q → (q ≡ r) ⊎ Below (v.key q) (v.key r))

  not_greater : (q : ℕ) → Below s (v.key q) → May q → ⊥
  not_greater q b r = elim r.0 [
    | inl e ↦ not_itself s b.0 (subst (λ z. Above (bits z) s b.0) (sym e) b.1)
    | inr u ↦ not_both (v.key q) s b.0 u.0 b.1 u.1
  ]

  -- the record below and the offset to it decide
  near_right : (z o : ℕ) (rs : List ℕ) → Above s (v.key z) o → IsIn z rs → ((q : ℕ) → IsIn q rs → May q → (q ≡ z) ⊎ Below (v.key q) (v.key z)) →
      Best rs (near_wins head (neighbour (Some z) o))
  near_right z o rs u i most = cond_both (ltb (8 * head) o) (Some z) None (λ w. Best rs w)
      (λ t. (i, (inr (o, u), (head_by_offset key (ks z) fk (key_bytes m law z) head o u).1 (ltb-true (8 * head) o t)), most))
      (λ t q j r. far q r (ltb-false (8 * head) o t) (most q j r))
    where
      far : (q : ℕ) → May q → o ≤ 8 * head → (q ≡ z) ⊎ Below (v.key q) (v.key z) → ⊥
      far q r t (inl e) = let x = (head_by_offset key (ks z) fk (key_bytes m law z) head o u).0 (subst (λ w. Shares head key (ks w)) e r.1) in omega arith
      far q r t (inr b) = let x = (head_by_offset key (ks q) fk (key_bytes m law q) head (min o b.0) (chain_two s (v.key z) (v.key q) o b.0 u b.1)).0 r.1 in omega arith

  module _ (rs : List ℕ) (held : HeldBy m rs) (h : Rising v floor rs) where
    found_best : (r : ℕ) → Hit v (v.last + 1) s rs r → Best rs (Some r)
    found_best r g = (has, (inl eq, λ i l. ap (λ z. get_or z i 0) eq), λ q i c. most q c (in_either q g.before (r ∷ g.after) (subst (IsIn q) g.whole i)))
      where
        has : IsIn r rs
        has = subst (IsIn r) (sym g.whole) (in_middle r g.before g.after)

        long : length key ≡ length (ks r)
        long = omega (arith, wide.0, (held_key m law r (all_in (λ q. q < length m.keys) rs held r has)).0)

        eq : key ≡ ks r
        eq = same_key key (ks r) fk (key_bytes m law r) long (λ j l. g.same j (omega (arith, wide.0)))

        hh : Rising v floor (g.before ++ (r ∷ g.after))
        hh = subst (Rising v floor) g.whole h

        dropped : Rising v (top v floor g.before) (r ∷ g.after)
        dropped = rising_drop v floor g.before (r ∷ g.after) hh

        later : (k : Digits) (ys : List ℕ) → Rising v k ys → (q : ℕ) → IsIn q ys → Below k (v.key q)
        later k [] p q i = absurd i
        later k (y ∷ ys) p q (inl e) = subst (λ z. Below k (v.key z)) (sym e) p.0
        later k (y ∷ ys) p q (inr i) = below_trans k (v.key y) (v.key q) p.0 (later (v.key y) ys p.1 q i)

        most : (q : ℕ) → May q → IsIn q g.before ⊎ IsIn q (r ∷ g.after) → (q ≡ r) ⊎ Below (v.key q) (v.key r)
        most q c (inl i) = inr (below_in v (v.key r) g.before (smaller_all v (v.key r) floor g.before (r ∷ g.after) hh dropped.0).1 q i)
        most q c (inr (inl e)) = inl e
        most q c (inr (inr i)) = absurd (not_greater q (subst (λ w. Below (bits w) (v.key q)) (sym eq) (later (v.key r) g.after dropped.1 q i)) c)

    gap_best : (below : _) (above : Option ℕ) → Gap v s rs floor None None below above → Best rs (near_wins head below)
    gap_best below above g = subst (λ w. Best rs (near_wins head w)) (sym g.left) (subst (λ zs. Best zs (near_wins head (neighbour (last_of None g.before) g.offset))) (sym g.whole) (go g.before hh g.under))
      where
        hh : Rising v floor (g.before ++ g.after)
        hh = subst (Rising v floor) g.whole h

        gr : (q : ℕ) → IsIn q g.after → Below s (v.key q)
        gr q i = above_in v s g.after (greater_all v s (top v floor g.before) g.after (rising_drop v floor g.before g.after hh) g.over) q i

        go : (xs : List ℕ) → Rising v floor (xs ++ g.after) → Above s (top v floor xs) g.offset → Best (xs ++ g.after) (near_wins head (neighbour (last_of None xs) g.offset))
        go [] p u = λ q i c. not_greater q (gr q i) c
        go (x ∷ xs) p u =
            let w = last_record v x xs g.after p.1 in
            subst (λ y. Best ((x ∷ xs) ++ g.after) (near_wins head (neighbour y g.offset))) (sym w.is)
            (near_right w.z g.offset ((x ∷ xs) ++ g.after) (subst (λ k. Above s k g.offset) w.peak u) (in_left w.z (x ∷ xs) g.after w.has)
            (λ q i c. elim (in_either q (x ∷ xs) g.after i) [ inl j ↦ w.most q j | inr j ↦ absurd (not_greater q (gr q j) c) ]))

    best : (x : End) → Locates v (v.last + 1) s rs floor None None x → Best rs (winner head x)
    best (found r) g = found_best r g
    best (gap below above) g = gap_best below above g
    best (gone r) g = absurd g

    -- from the order of bits to that of bytes
    same_width : (q : ℕ) → IsIn q rs → length (ks q) ≡ m.width
    same_width q i = (held_key m law q (all_in (λ r. r < length m.keys) rs held q i)).0

    may_run : (q : ℕ) → IsIn q rs → Runs head key (ks q) → May q
    may_run q i r = (
      elim r.0 [
        | inl e ↦ inl e
        | inr u ↦ inr ((order_of_bytes (ks q) key (key_bytes m law q) fk (omega (arith, wide.0, same_width q i))).1 u)
      ],
      r.1,
    )

    runs : (q : ℕ) → IsIn q rs → May q → Runs head key (ks q)
    runs q i r = (
      elim r.0 [
        | inl e ↦ inl e
        | inr u ↦ inr ((order_of_bytes (ks q) key (key_bytes m law q) fk (omega (arith, wide.0, same_width q i))).0 u)
      ],
      r.1,
    )

    in_bytes : (x : Option ℕ) → Best rs x → Wins head ks key rs x
    in_bytes None b = λ q i r. b q i (may_run q i r)
    in_bytes (Some r) b = (
      b.0,
      runs r b.0 b.1,
      λ q i c. elim (b.2 q i (may_run q i c)) [
        | inl e ↦ inl e
        | inr u ↦ inr ((order_of_bytes (ks q) (ks r) (key_bytes m law q) (key_bytes m law r) (omega (arith, same_width q i, same_width r b.0))).0 u)
      ],
    )

pub winner_right : WinnerRight
winner_right m keep l head t key o =
    let v = view_of keep m in
    let rs = records l t in
    let x = (sought (bits key) (fetching m key) l t).end in
    let fit = key_fits keep m key o.width.0 in
    let h = faithful_rising v l floor free t o.faithful in
    let g = seek_right v (v.last + 1) (bits key) (fetching m key) (tells v (bits key)) (view_of-bits m o.lawful keep).each (λ r. compared_true (v.last + 1) (bits key) (v.key r))
    l t floor free None 0 None o.faithful (at_hand keep m key o.width.0 rs o.held) (over_floor v (bits key) fit) in
    in_bytes m keep head key o.lawful o.width rs o.held h (winner head x) (best m keep head key o.lawful o.width rs o.held h x g)
