-- The records of a tree that grows, in order.
use Rattle.std.proofs.Common.{◌≡◌, ℕ, zero, suc, ◌+◌, ◌<◌, ◌≤◌, Bool, true, false, cond, eqb, ltb, List, [], ◌∷◌, ◌++◌, map, length, get_or, take, drop, set, sym, refl, ap, ◌∙◌, subst, inl, inr, append_assoc, arith}
use Rattle.std.specs.List.{insert}
use Rattle.std.proofs.lemmas.List.Edits.{length-insert}
use Rattle.std.proofs.lemmas.List.{drop-map, get_or-map, length-map, length-set, map-set, take-map}
use Rattle.std.proofs.lemmas.Bool.{cases_lt, ltb-false}
use Rattle.std.proofs.lemmas.Bool.Decides.{nat_tests}
use Rattle.growth.proofs.Faithfulness.{entry_faithful, put_long}
use Rattle.growth.proofs.Following.{gap_at, gap_back}
use Rattle.growth.specs.Growth.{Up, asked, entered, follow, grow, join, parted, put, rise, stay, topped}
use Rattle.growth.specs.Orders.{Added, Rising, first, later, placed, smaller}
use Rattle.growth.specs.Routes.{Bounded, Route, Within, base_at, ceiling_at}
use Rattle.growth.specs.Theorems.{EntryPlaced}
use Rattle.keys.proofs.Offsets.{below_trans}
use Rattle.keys.specs.Digits.{Below, Digits, first_gap_of}
use Rattle.nodes.proofs.Shapes.{kid_shaped, knot_parts}
use Rattle.nodes.specs.Faith.{Ceiling, Faithful, Strung, View, free, made, under}
use Rattle.nodes.specs.Trees.{Knot, Tree, bare, no_entry, records, shaped, weave}
use Rattle.nodes.specs.declared.node.Entry.{Entry}

-- a record added, in a longer list
pub added_front : {x : ℕ} {xs ys : List ℕ} → Added x xs ys → (zs : List ℕ) → Added x (xs ++ zs) (ys ++ zs)
added_front first zs = first
added_front (later i) zs = later (added_front i zs)

pub added_back : {x : ℕ} {xs ys : List ℕ} (zs : List ℕ) → Added x xs ys → Added x (zs ++ xs) (zs ++ ys)
added_back [] i = i
added_back (z ∷ zs) i = later (added_back zs i)

pub added_weave : (x i : ℕ) (es : List Entry) (fs : List (List ℕ)) (g : List ℕ) → i < length fs → length fs ≡ length es + 1 → Added x (get_or fs i []) g → Added x (weave es fs) (weave es (set fs i g))
added_weave x i es [] g lt long n = absurd (omega arith)
added_weave x zero [] (f ∷ fs) g lt long n = n
added_weave x (suc i) [] (f ∷ fs) g lt long n = absurd (omega arith)
added_weave x zero (e ∷ es) (f ∷ fs) g lt long n = added_front n (e.number ∷ weave es fs)
added_weave x (suc i) (e ∷ es) (f ∷ fs) g lt long n = added_back f (later (added_weave x i es fs g (omega arith) (omega arith) n))

pub follow-number : (v : View) (r o : ℕ) (e : Entry) → (follow v r o e).number ≡ e.number
follow-number v r o e = go (eqb e.partial.offset o)
  where
    go : (d : Bool) → (cond {A = Entry} d (made v e.number (first_gap_of v.last 0 (v.key r) (v.key e.number))) e).number ≡ e.number
    go true = refl
    go false = refl

pub plug_put : (v : View) (r o i : ℕ) (es : List Entry) (fs : List (List ℕ)) (f g : List ℕ) → length fs ≡ length es + 1 → i < length fs
    → weave (put v r o i es) (insert (set fs i f) (suc i) g) ≡ weave es (set fs i (f ++ (r ∷ g)))
plug_put v r o i es [] f g long lt = absurd (omega arith)
plug_put v r o zero [] (h ∷ fs) f g long lt = refl
plug_put v r o zero (e ∷ es) (h ∷ fs) f g long lt = ap (λ (q : ℕ). f ++ (r ∷ (g ++ (q ∷ weave es fs)))) (follow-number v r o e) ∙ sym (append_assoc f (r ∷ g) (e.number ∷ weave es fs))
plug_put v r o (suc i) [] (h ∷ fs) f g long lt = absurd (omega arith)
plug_put v r o (suc i) (e ∷ es) (h ∷ fs) f g long lt = ap (λ zs. h ++ (e.number ∷ zs)) (plug_put v r o i es fs f g (omega arith) (omega arith))

pub weave-cut : (n : ℕ) (es : List Entry) (fs : List (List ℕ)) → n < length es → n < length fs
    → weave (take n es) (take (suc n) fs) ++ ((get_or es n no_entry).number ∷ weave (drop (suc n) es) (drop (suc n) fs)) ≡ weave es fs
weave-cut n [] fs le lf = absurd (omega arith)
weave-cut n (e ∷ es) [] le lf = absurd (omega arith)
weave-cut zero (e ∷ es) (f ∷ fs) le lf = refl
weave-cut (suc n) (e ∷ es) (f ∷ fs) le lf =
    append_assoc f (e.number ∷ weave (take n es) (take (suc n) fs)) ((get_or es n no_entry).number ∷ weave (drop (suc n) es) (drop (suc n) fs)) ∙ ap (λ zs. f ++ (e.number ∷ zs)) (weave-cut n es fs (omega arith) (omega arith))

pub map_inserted : {X Y : Type 0} (f : X → Y) (i : ℕ) (xs : List X) (y : X) → map f (insert xs i y) ≡ insert (map f xs) i (f y)
map_inserted f zero xs y = refl
map_inserted f (suc i) [] y = refl
map_inserted f (suc i) (x ∷ xs) y = ap (λ zs. f x ∷ zs) (map_inserted f i xs y)

abbrev pub out_order : (l : ℕ) → Tree l → Up (Tree l) → List ℕ
out_order l left stay = records l left
out_order l left (rise r o t) = records l left ++ (r ∷ records l t)

pub parted_order : (x l : ℕ) (b : Bool) (at : ℕ) (es : List Entry) (ks : List (Tree l)) (u : ℕ) (f : List ℕ) → (b ≡ false → 8 ≤ length es) → length ks ≡ length es + 1
    → out_order (suc l) (parted x b at es ks u f).left (parted x b at es ks u f).up ≡ weave es (map (records l) ks)
parted_order x l true at es ks u f big long = refl
parted_order x l false at es ks u f big long =
    let e8 = big refl in
    let len = length-map ks (records l) in
    ap (λ zs. weave (take 4 es) zs ++ ((get_or es 4 no_entry).number ∷ weave (drop 5 es) (map (records l) (drop 5 ks)))) (sym (take-map (records l) 5 ks))
    ∙ (ap (λ zs. weave (take 4 es) (take 5 (map (records l) ks)) ++ ((get_or es 4 no_entry).number ∷ weave (drop 5 es) zs)) (sym (drop-map (records l) 5 ks))
    ∙ weave-cut 4 es (map (records l) ks) (omega arith) (omega arith))

pub join_order : (v : View) (x l : ℕ) (k : Knot (Tree l)) (i : ℕ) (left : Tree l) (up : Up (Tree l)) (u : ℕ) (f : List ℕ) → length k.kids ≡ length k.entries + 1 → i ≤ length k.entries
    → out_order (suc l) (join v x k i left up u f).left (join v x k i left up u f).up ≡ weave k.entries (set (map (records l) k.kids) i (out_order l left up))
join_order v x l k i left stay u f long le = ap (weave k.entries) (map-set (records l) k.kids i left)
join_order v x l k i left (rise r o t) u f long le =
    let el = put_long v r o i k.entries in
    let ls = length-set k.kids i left in
    let kl = length-insert (set k.kids i left) (suc i) t (omega arith) in
    let lm = length-map k.kids (records l) in
    let p = parted_order x l (ltb (length k.entries) 7) k.at (put v r o i k.entries) (insert (set k.kids i left) (suc i) t) u (f ++ asked o i k.entries) (λ b. let g = ltb-false (length k.entries) 7 b in omega arith) (omega arith) in
    let m : map (records l) (insert (set k.kids i left) (suc i) t) ≡ insert (set (map (records l) k.kids) i (records l left)) (suc i) (records l t) =
    map_inserted (records l) (suc i) (set k.kids i left) t ∙ ap (λ zs. insert zs (suc i) (records l t)) (map-set (records l) k.kids i left) in
    p ∙ (ap (weave (put v r o i k.entries)) m ∙ plug_put v r o i k.entries (map (records l) k.kids) (records l left) (records l t) (omega arith) (omega arith))

pub grow_adds : (v : View) (used x o : ℕ) (ps : List ℕ) (l low : ℕ) (t : Tree l) → shaped l low t ≡ true → Within ps l t → Added x (records l t) (out_order l (grow v used x o ps l t).left (grow v used x o ps l t).up)
grow_adds v used x o ps zero low t h w = first
grow_adds v used x o ps (suc l) low t h w =
    let i = get_or ps l 0 in
    let q = knot_parts l low t h in
    let kid = get_or t.kids i (bare l) in
    let g = grow v used x o ps l kid in
    let fs = map (records l) t.kids in
    let lm = length-map t.kids (records l) in
    let lt : i < length t.kids = omega (arith, q.many, w.0) in
    let kf : get_or fs i [] ≡ records l kid = get_or-map (records l) t.kids i (bare l) [] lt in
    let ih = grow_adds v used x o ps l 3 kid (kid_shaped q i w.0) w.1 in
    let j = join_order v x l t i g.left g.up g.used g.fetched q.many w.0 in
    let ih2 : Added x (get_or fs i []) (out_order l g.left g.up) = subst (λ (zs : List ℕ). Added x zs (out_order l g.left g.up)) (sym kf) ih in
    subst (λ (zs : List ℕ). Added x (records (suc l) t) zs) (sym j) (added_weave x i t.entries fs (out_order l g.left g.up) (omega arith) (omega (arith, q.many)) ih2)

pub topped_order : (v : View) (l : ℕ) (left : Tree l) (up : Up (Tree l)) (u : ℕ) (f : List ℕ) → records (topped v l left up u f).levels (topped v l left up u f).tree ≡ out_order l left up
topped_order v l left stay u f = refl
topped_order v l left (rise r o t) u f = refl

pub entry_adds : (v : View) (used x o : ℕ) (ps : List ℕ) (l : ℕ) (t : Tree l) → shaped l 1 t ≡ true → Within ps l t
    → Added x (records l t) (records (entered v used x o ps l t).levels (entered v used x o ps l t).tree)
entry_adds v used x o ps l t h w =
    let g = grow v used x o ps l t in
    subst (λ (zs : List ℕ). Added x (records l t) zs) (sym (topped_order v l g.left g.up g.used g.fetched)) (grow_adds v used x o ps l 1 t h w)

-- the records of a faithful tree
pub rising_append : (v : View) (b : Digits) (c : Ceiling) (xs : List ℕ) (r : ℕ) (ys : List ℕ) → Rising v b (under (v.key r)) xs → Rising v (v.key r) c ys → Rising v b c (xs ++ (r ∷ ys))
rising_append v b c [] r ys a d = (a, d)
rising_append v b c (x ∷ xs) r ys a d = (a.0, rising_append v (v.key x) c xs r ys a.1 d)

pub strung_rising : {T : Type 0} (v : View) (F : Digits → Ceiling → T → Type 0) (f : T → List ℕ) → ((b : Digits) (c : Ceiling) (t : T) → F b c t → Rising v b c (f t)) → (b : Digits) (c : Ceiling) (es : List Entry) (ks : List T) → Strung v F b c es ks → Rising v b c (weave es (map f ks))
strung_rising v F f each b c [] [] s = absurd s
strung_rising v F f each b c [] (k ∷ []) s = each b c k s
strung_rising v F f each b c [] (k ∷ (j ∷ ks)) s = absurd s
strung_rising v F f each b c (e ∷ es) [] s = absurd s
strung_rising v F f each b c (e ∷ es) (k ∷ ks) s = rising_append v b c (f k) e.number (weave es (map f ks)) (each b (under (v.key e.number)) k s.0) (strung_rising v F f each (v.key e.number) c es ks s.1.1)

pub faith_rising : (v : View) (l : ℕ) (b : Digits) (c : Ceiling) (t : Tree l) → Faithful v l b c t → Rising v b c (records l t)
faith_rising v zero b c t f = f
faith_rising v (suc l) b c t f = strung_rising v (Faithful v l) (records l) (faith_rising v l) b c t.entries t.kids f

pub smaller_told : (v : View) → Bounded v → (a b : ℕ) → Below (v.key a) (v.key b) → (smaller v a b ≡ true) × (smaller v b a ≡ false)
smaller_told v bd a b z =
    let m = z.1.more in
    let le : z.0 ≤ v.last = elim (cases_lt v.last z.0) [ inl h ↦ (let e = bd b z.0 h in absurd (omega arith)) | inr h ↦ h ] in
    let g : first_gap_of v.last 0 (v.key a) (v.key b) ≡ z.0 = gap_at v.last (v.key a) (v.key b) z.0 z.1 le in
    let k : first_gap_of v.last 0 (v.key b) (v.key a) ≡ z.0 = gap_back v.last (v.key a) (v.key b) z.0 z.1 le in
    (rw g (grind (arith, nat_tests)), rw k (grind (arith, nat_tests)))

pub added_above : (v : View) (x : ℕ) (b : Digits) (c : Ceiling) (xs ys : List ℕ) → Added x xs ys → Rising v b c ys → Below b (v.key x)
added_above v x b c us ws first r = r.0
added_above v x b c us ws (later {y} {xs} {ys} i) r = below_trans b (v.key y) (v.key x) r.0 (added_above v x (v.key y) c xs ys i r.1)

pub added_placed : (v : View) → Bounded v → (x : ℕ) (b : Digits) (c : Ceiling) (xs ys : List ℕ) → Added x xs ys → Rising v b c ys → ys ≡ placed v x xs
added_placed v bd x b c us ws (first {xs}) r = front xs r.1
  where
    front : (zs : List ℕ) → Rising v (v.key x) c zs → x ∷ zs ≡ placed v x zs
    front [] r = refl
    front (z ∷ zs) r = sym (ap (λ (d : Bool). cond d (z ∷ placed v x zs) (x ∷ (z ∷ zs))) (smaller_told v bd x z r.0).1)
added_placed v bd x b c us ws (later {y} {xs} {ys} i) r =
    ap (λ (us : List ℕ). y ∷ us) (added_placed v bd x (v.key y) c xs ys i r.1)
    ∙ sym (ap (λ (d : Bool). cond d (y ∷ placed v x xs) (x ∷ (y ∷ xs))) (smaller_told v bd y x (added_above v x (v.key y) c xs ys i r.1)).0)

pub route_within : (v : View) (l : ℕ) (b : Digits) (c : Ceiling) (t : Tree l) (ps : List ℕ) (s : Digits) (o : ℕ) → Route v l b c t ps s o → Within ps l t
route_within v zero b c t ps s o w = tt
route_within v (suc l) b c t ps s o w = (w.0, route_within v l (base_at v b t.entries (get_or ps l 0)) (ceiling_at v c t.entries (get_or ps l 0)) (get_or t.kids (get_or ps l 0) (bare l)) ps s o w.1)

pub entry-placed : EntryPlaced
entry-placed v used x o ps l b t bd h f w =
    let e = entered v used x o ps l t in
    added_placed v bd x b free (records l t) (records e.levels e.tree) (entry_adds v used x o ps l t h (route_within v l b free t ps (v.key x) o w))
    (faith_rising v e.levels b free e.tree (entry_faithful v used x o ps l b t bd f w))
