-- A faithful tree stays faithful as it grows.
use Rattle.std.proofs.Common.{◌≡◌, ℕ, zero, suc, ◌+◌, ◌<◌, ◌≤◌, min, Bool, true, false, cond, eqb, ltb, List, [], ◌∷◌, length, get_or, take, drop, set, sym, refl, subst, inl, inr, arith}
use Rattle.std.specs.List.{insert}
use Rattle.std.proofs.lemmas.Bool.{cases_lt, eqb-false, ltb-false}
use Rattle.growth.proofs.Following.{gap_at, next_kept}
use Rattle.growth.specs.Growth.{Up, follow, grow, join, least, parted, put, rise, stay, topped}
use Rattle.growth.specs.Routes.{Bounded, Route, base_at, ceiling_at}
use Rattle.growth.specs.Theorems.{EntryFaithful}
use Rattle.keys.proofs.Offsets.{below_trans, chain_two}
use Rattle.keys.specs.Digits.{Above, Below, Digits, first_gap_of}
use Rattle.nodes.specs.Faith.{Ceiling, Faithful, Strung, TrueOver, Under, View, free, made, under}
use Rattle.nodes.specs.Trees.{Knot, Tree, bare, no_entry}
use Rattle.nodes.specs.declared.node.Entry.{Entry}

-- a record's own partial key
pub made_is : (v : View) (b : Digits) (r o : ℕ) → Above (v.key r) b o → TrueOver v b (made v r o)
made_is v b r o a = record { above = a; whole = refl }

pub gap_above : (v : View) → Bounded v → (a r : ℕ) → Below (v.key a) (v.key r) → Above (v.key r) (v.key a) (first_gap_of v.last 0 (v.key a) (v.key r))
gap_above v bd a r z =
    let m = z.1.more in
    let le : z.0 ≤ v.last = elim (cases_lt v.last z.0) [ inl h ↦ (let e = bd r z.0 h in absurd (omega arith)) | inr h ↦ h ] in
    let g : first_gap_of v.last 0 (v.key a) (v.key r) ≡ z.0 = gap_at v.last (v.key a) (v.key r) z.0 z.1 le in
    rw g z.1

-- the following key, against a new base
pub follow_is : (v : View) → Bounded v → (b : Digits) (r o : ℕ) (e : Entry) → Above (v.key r) b o → TrueOver v b e → Below (v.key r) (v.key e.number)
    → ((follow v r o e).number ≡ e.number) × TrueOver v (v.key r) (follow v r o e)
follow_is v bd b r o e a is z = go (eqb e.partial.offset o) refl
  where
    go : (d : Bool) → eqb e.partial.offset o ≡ d
        → ((cond {A = Entry} d (made v e.number (first_gap_of v.last 0 (v.key r) (v.key e.number))) e).number ≡ e.number) × TrueOver v (v.key r) (cond {A = Entry} d (made v e.number (first_gap_of v.last 0 (v.key r) (v.key e.number))) e)
    go true h = (refl, made_is v (v.key r) e.number (first_gap_of v.last 0 (v.key r) (v.key e.number)) (gap_above v bd r e.number z))
    go false h = (refl, record { above = next_kept (v.key r) b (v.key e.number) o e.partial.offset a is.above z (eqb-false e.partial.offset o h); whole = is.whole })

module _ {T : Type 0} (v : View) (F : Digits → Ceiling → T → Type 0) where
  pub strung_kid : (b : Digits) (c : Ceiling) (es : List Entry) (ks : List T) (i : ℕ) (d : T) → i ≤ length es → Strung v F b c es ks → F (base_at v b es i) (ceiling_at v c es i) (get_or ks i d)
  strung_kid b c [] [] i d le s = absurd s
  strung_kid b c [] (k ∷ []) zero d le s = s
  strung_kid b c [] (k ∷ []) (suc i) d le s = absurd (omega arith)
  strung_kid b c [] (k ∷ (j ∷ ks)) i d le s = absurd s
  strung_kid b c (e ∷ es) [] i d le s = absurd s
  strung_kid b c (e ∷ es) (k ∷ ks) zero d le s = s.0
  strung_kid b c (e ∷ es) (k ∷ ks) (suc i) d le s = strung_kid (v.key e.number) c es ks i d (omega arith) s.1.1

  pub strung_set : (b : Digits) (c : Ceiling) (es : List Entry) (ks : List T) (i : ℕ) (y : T) → i ≤ length es → Strung v F b c es ks → F (base_at v b es i) (ceiling_at v c es i) y → Strung v F b c es (set ks i y)
  strung_set b c [] [] i y le s f = absurd s
  strung_set b c [] (k ∷ []) zero y le s f = f
  strung_set b c [] (k ∷ []) (suc i) y le s f = absurd (omega arith)
  strung_set b c [] (k ∷ (j ∷ ks)) i y le s f = absurd s
  strung_set b c (e ∷ es) [] i y le s f = absurd s
  strung_set b c (e ∷ es) (k ∷ ks) zero y le s f = (f, s.1)
  strung_set b c (e ∷ es) (k ∷ ks) (suc i) y le s f = (s.0, (s.1.0, strung_set (v.key e.number) c es ks i y (omega arith) s.1.1 f))

  pub strung_put : Bounded v → (b : Digits) (c : Ceiling) (es : List Entry) (ks : List T) (i r o : ℕ) (y z : T) → i ≤ length es → Strung v F b c es ks
      → F (base_at v b es i) (under (v.key r)) y → Above (v.key r) (base_at v b es i) o → Under (ceiling_at v c es i) (v.key r) → F (v.key r) (ceiling_at v c es i) z
      → Strung v F b c (put v r o i es) (insert (set ks i y) (suc i) z)
  strung_put bd b c [] [] i r o y z le s f a u g = absurd s
  strung_put bd b c [] (k ∷ []) zero r o y z le s f a u g = (f, (made_is v b r o a, g))
  strung_put bd b c [] (k ∷ []) (suc i) r o y z le s f a u g = absurd (omega arith)
  strung_put bd b c [] (k ∷ (j ∷ ks)) i r o y z le s f a u g = absurd s
  strung_put bd b c (e ∷ es) [] i r o y z le s f a u g = absurd s
  strung_put bd b c (e ∷ es) (k ∷ ks) zero r o y z le s f a u g =
      let w = follow_is v bd b r o e a s.1.0 u in
      let right = subst (λ (q : ℕ). F (v.key r) (under (v.key q)) z) (sym w.0) g in
      let rest = subst (λ (q : ℕ). Strung v F (v.key q) c es ks) (sym w.0) s.1.1 in
      (f, (made_is v b r o a, (right, (w.1, rest))))
  strung_put bd b c (e ∷ es) (k ∷ ks) (suc i) r o y z le s f a u g = (s.0, (s.1.0, strung_put bd (v.key e.number) c es ks i r o y z (omega arith) s.1.1 f a u g))

  -- cut at entry n: the left part stays under it, it lies over the base at the least offset, and it is the right part's base
  pub strung_cut : (n : ℕ) (b : Digits) (c : Ceiling) (es : List Entry) (ks : List T) → n < length es → Strung v F b c es ks
      → Strung v F b (under (v.key (get_or es n no_entry).number)) (take n es) (take (suc n) ks)
      × (Above (v.key (get_or es n no_entry).number) b (least (take (suc n) es)) × Strung v F (v.key (get_or es n no_entry).number) c (drop (suc n) es) (drop (suc n) ks))
  strung_cut n b c [] ks lt s = absurd (omega arith)
  strung_cut n b c (e ∷ es) [] lt s = absurd s
  strung_cut zero b c (e ∷ es) (k ∷ ks) lt s = (s.0, (s.1.0.above, s.1.1))
  strung_cut (suc n) b c (e ∷ []) (k ∷ ks) lt s = absurd (omega arith)
  strung_cut (suc n) b c (e ∷ (f ∷ fs)) (k ∷ ks) lt s =
      let r = strung_cut n (v.key e.number) c (f ∷ fs) ks (omega arith) s.1.1 in
      let m = (get_or (f ∷ fs) n no_entry).number in
      let lo = least (take (suc n) (f ∷ fs)) in
      let sw : min lo e.partial.offset ≡ min e.partial.offset lo = omega arith in
      ((s.0, (s.1.0, r.0)), (subst (λ (q : ℕ). Above (v.key m) b q) sw (chain_two (v.key m) (v.key e.number) b lo e.partial.offset r.1.0 s.1.0.above), r.1.1))

pub under_down : (c : Ceiling) (a b : Digits) → Below a b → Under c b → Under c a
under_down free a b z u = u
under_down (under h) a b z u = below_trans a b h z u

-- the base of a tree is under its ceiling
pub strung_under : {T : Type 0} (v : View) (F : Digits → Ceiling → T → Type 0) → ((b : Digits) (c : Ceiling) (t : T) → F b c t → Under c b) → (b : Digits) (c : Ceiling) (es : List Entry) (ks : List T) → Strung v F b c es ks → Under c b
strung_under v F each b c [] [] s = absurd s
strung_under v F each b c [] (k ∷ []) s = each b c k s
strung_under v F each b c [] (k ∷ (j ∷ ks)) s = absurd s
strung_under v F each b c (e ∷ es) [] s = absurd s
strung_under v F each b c (e ∷ es) (k ∷ ks) s = under_down c b (v.key e.number) (e.partial.offset, s.1.0.above) (strung_under v F each (v.key e.number) c es ks s.1.1)

pub faith_under : (v : View) (l : ℕ) (b : Digits) (c : Ceiling) (t : Tree l) → Faithful v l b c t → Under c b
faith_under v zero b c t f = f
faith_under v (suc l) b c t f = strung_under v (Faithful v l) (faith_under v l) b c t.entries t.kids f

-- what a faithful tree becomes
abbrev pub Out : View → (l : ℕ) → Digits → Ceiling → Tree l → Up (Tree l) → Type 0
Out v l b c left stay = Faithful v l b c left
Out v l b c left (rise r o t) = Faithful v l b (under (v.key r)) left × (Above (v.key r) b o × Faithful v l (v.key r) c t)

pub put_long : (v : View) (r o i : ℕ) (es : List Entry) → length (put v r o i es) ≡ length es + 1
put_long v r o zero [] = refl
put_long v r o zero (e ∷ es) = omega arith
put_long v r o (suc i) [] = refl
put_long v r o (suc i) (e ∷ es) = let h = put_long v r o i es in omega arith

pub parted_out : (v : View) (x l : ℕ) (b : Digits) (c : Ceiling) (d : Bool) (at : ℕ) (es : List Entry) (ks : List (Tree l)) (u : ℕ) (f : List ℕ) → (d ≡ false → 8 ≤ length es) → Strung v (Faithful v l) b c es ks
    → Out v (suc l) b c (parted x d at es ks u f).left (parted x d at es ks u f).up
parted_out v x l b c true at es ks u f big s = s
parted_out v x l b c false at es ks u f big s = strung_cut v (Faithful v l) 4 b c es ks (let e8 = big refl in omega arith) s

pub join_out : (v : View) → Bounded v → (x l : ℕ) (b : Digits) (c : Ceiling) (k : Knot (Tree l)) (i : ℕ) (left : Tree l) (up : Up (Tree l)) (u : ℕ) (f : List ℕ) → i ≤ length k.entries → Strung v (Faithful v l) b c k.entries k.kids
    → Out v l (base_at v b k.entries i) (ceiling_at v c k.entries i) left up
    → Out v (suc l) b c (join v x k i left up u f).left (join v x k i left up u f).up
join_out v bd x l b c k i left stay u f le s out = strung_set v (Faithful v l) b c k.entries k.kids i left le s out
join_out v bd x l b c k i left (rise r o t) u f le s out =
    let n = put_long v r o i k.entries in
    parted_out v x l b c (ltb (length k.entries) 7) k.at (put v r o i k.entries) (insert (set k.kids i left) (suc i) t) u _
    (λ h. let g = ltb-false (length k.entries) 7 h in omega arith)
    (strung_put v (Faithful v l) bd b c k.entries k.kids i r o left t le s out.0 out.1.0 (faith_under v l (v.key r) (ceiling_at v c k.entries i) t out.1.1) out.1.1)

pub grow_out : (v : View) → Bounded v → (used x o : ℕ) (ps : List ℕ) (l : ℕ) (b : Digits) (c : Ceiling) (t : Tree l) → Faithful v l b c t → Route v l b c t ps (v.key x) o
    → Out v l b c (grow v used x o ps l t).left (grow v used x o ps l t).up
grow_out v bd used x o ps zero b c t f w = ((o, w.0), (w.0, w.1))
grow_out v bd used x o ps (suc l) b c t f w =
    let i = get_or ps l 0 in
    let kid = get_or t.kids i (bare l) in
    let g = grow v used x o ps l kid in
    join_out v bd x l b c t i g.left g.up g.used g.fetched w.0 f
    (grow_out v bd used x o ps l (base_at v b t.entries i) (ceiling_at v c t.entries i) kid (strung_kid v (Faithful v l) b c t.entries t.kids i (bare l) w.0 f) w.1)

pub topped_faith : (v : View) (l : ℕ) (b : Digits) (left : Tree l) (up : Up (Tree l)) (u : ℕ) (f : List ℕ) → Out v l b free left up → Faithful v (topped v l left up u f).levels b free (topped v l left up u f).tree
topped_faith v l b left stay u f out = out
topped_faith v l b left (rise r o t) u f out = (out.0, (made_is v b r o out.1.0, out.1.1))

pub entry_faithful : EntryFaithful
entry_faithful v used x o ps l b t bd f w =
    let g = grow v used x o ps l t in
    topped_faith v l b g.left g.up g.used g.fetched (grow_out v bd used x o ps l b free t f w)
