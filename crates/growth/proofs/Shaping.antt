-- The shape of a tree that grows, the nodes that it takes, and the records fetched.
use Rattle.std.proofs.Common.{◌≡◌, ℕ, zero, suc, ◌+◌, ◌*◌, ◌≤◌, Bool, true, false, cond, ◌&&◌, eqb, ltb, leb, List, [], ◌∷◌, ◌++◌, length, get_or, take, drop, set, sym, refl, ◌∙◌, arith}
use Rattle.std.specs.List.{insert}
use Rattle.std.proofs.lemmas.List.Edits.{length-insert}
use Rattle.std.proofs.lemmas.List.{length-append, length-drop, length-set, length-take-le}
use Rattle.std.proofs.lemmas.Bool.{and_from, and_parts, ltb-false, ltb-true}
use Rattle.std.proofs.lemmas.Bool.Decides.{nat_tests}
use Rattle.growth.proofs.Faithfulness.{put_long}
use Rattle.growth.specs.Growth.{Row, Up, asked, grow, join, parted, put, rise, row, stay, topped}
use Rattle.growth.specs.Plans.{lifts}
use Rattle.growth.specs.Routes.{Within}
use Rattle.growth.specs.Writes.{Right, build, built, crowned, cut, fit, none, right_of, some}
use Rattle.nodes.proofs.Shapes.{Parts, kid_shaped, knot_parts}
use Rattle.nodes.specs.Faith.{View, made}
use Rattle.nodes.specs.Trees.{Knot, Tree, all, bare, no_entry, shaped}
use Rattle.nodes.specs.declared.node.Entry.{Entry}

module _ {X : Type 0} (f : X → Bool) where
  pub all_set : (xs : List X) (i : ℕ) (y : X) → all f xs ≡ true → f y ≡ true → all f (set xs i y) ≡ true
  all_set [] i y a b = refl
  all_set (x ∷ xs) zero y a b = and_from (f y) (all f xs) b (and_parts (f x) (all f xs) a).1
  all_set (x ∷ xs) (suc i) y a b = let p = and_parts (f x) (all f xs) a in and_from (f x) (all f (set xs i y)) p.0 (all_set xs i y p.1 b)

  pub all_inserted : (i : ℕ) (xs : List X) (y : X) → all f xs ≡ true → f y ≡ true → all f (insert xs i y) ≡ true
  all_inserted zero xs y a b = and_from (f y) (all f xs) b a
  all_inserted (suc i) [] y a b = and_from (f y) true b refl
  all_inserted (suc i) (x ∷ xs) y a b = let p = and_parts (f x) (all f xs) a in and_from (f x) (all f (insert xs i y)) p.0 (all_inserted i xs y p.1 b)

  pub all_take : (n : ℕ) (xs : List X) → all f xs ≡ true → all f (take n xs) ≡ true
  all_take zero xs a = refl
  all_take (suc n) [] a = refl
  all_take (suc n) (x ∷ xs) a = let p = and_parts (f x) (all f xs) a in and_from (f x) (all f (take n xs)) p.0 (all_take n xs p.1)

  pub all_drop : (n : ℕ) (xs : List X) → all f xs ≡ true → all f (drop n xs) ≡ true
  all_drop zero xs a = a
  all_drop (suc n) [] a = refl
  all_drop (suc n) (x ∷ xs) a = all_drop n xs (and_parts (f x) (all f xs) a).1

pub knot_shaped : (l low : ℕ) (k : Knot (Tree l)) → Parts l low k → shaped (suc l) low k ≡ true
knot_shaped l low k p =
    let n = length k.entries in
    and_from (leb low n) (leb n 7 && (eqb (length k.kids) (n + 1) && all (shaped l 3) k.kids)) (grind (arith, nat_tests))
    (and_from (leb n 7) (eqb (length k.kids) (n + 1) && all (shaped l 3) k.kids) (grind (arith, nat_tests))
    (and_from (eqb (length k.kids) (n + 1)) (all (shaped l 3) k.kids) (grind (arith, nat_tests)) p.each))

-- what is made of a tree is of lawful shape
abbrev pub Shapes : (l low : ℕ) → Tree l → Right (Tree l) → Type 0
Shapes l low left none = shaped l low left ≡ true
Shapes l low left (some t) = (shaped l 3 left ≡ true) × (shaped l 3 t ≡ true)

pub cut_shapes : (l low : ℕ) (b : Bool) (at : ℕ) (es : List Entry) (ks : List (Tree l)) (u : ℕ) → low ≤ length es → (b ≡ true → length es ≤ 7) → (b ≡ false → length es ≡ 8) → length ks ≡ length es + 1 → all (shaped l 3) ks ≡ true
    → Shapes (suc l) low (cut b at es ks u).left (cut b at es ks u).right
cut_shapes l low true at es ks u le few big long a = knot_shaped l low (record { at = at; entries = es; kids = ks }) (record { least = le; most = few refl; many = long; each = a })
cut_shapes l low false at es ks u le few big long a =
    let e8 = big refl in
    let a1 : length (take 4 es) ≡ 4 = length-take-le 4 es (omega arith) in
    let a2 : length (take 5 ks) ≡ 5 = length-take-le 5 ks (omega arith) in
    let a3 = length-drop 5 es in
    let a4 = length-drop 5 ks in (
      knot_shaped l 3 (record { at = at; entries = take 4 es; kids = take 5 ks }) (record { least = omega arith; most = omega arith; many = omega arith; each = all_take (shaped l 3) 5 ks a }),
      knot_shaped l 3 (record { at = u; entries = drop 5 es; kids = drop 5 ks }) (record { least = omega arith; most = omega arith; many = omega arith; each = all_drop (shaped l 3) 5 ks a }),
    )

-- a node whose tree at place i was made anew: nothing came up, or an entry with the tree to its right
stay_shapes : (l low : ℕ) (k : Knot (Tree l)) (i : ℕ) (left : Tree l) → shaped (suc l) low k ≡ true → shaped l 3 left ≡ true → shaped (suc l) low (record { at = k.at; entries = k.entries; kids = set k.kids i left }) ≡ true
stay_shapes l low k i left h s =
    let q = knot_parts l low k h in
    knot_shaped l low (record { at = k.at; entries = k.entries; kids = set k.kids i left })
    (record { least = q.least; most = q.most; many = length-set k.kids i left ∙ q.many; each = all_set (shaped l 3) k.kids i left q.each s })

rise_shapes : (l low : ℕ) (k : Knot (Tree l)) (i : ℕ) (left t : Tree l) (es : List Entry) (u : ℕ) → shaped (suc l) low k ≡ true → i ≤ length k.entries → length es ≡ length k.entries + 1 → shaped l 3 left ≡ true → shaped l 3 t ≡ true
    → let g = cut (ltb (length k.entries) 7) k.at es (insert (set k.kids i left) (suc i) t) u in Shapes (suc l) low g.left g.right
rise_shapes l low k i left t es u h le el s r =
    let q = knot_parts l low k h in
    let ls = length-set k.kids i left in
    let kl = length-insert (set k.kids i left) (suc i) t (omega (arith, q.many)) in
    cut_shapes l low (ltb (length k.entries) 7) k.at es (insert (set k.kids i left) (suc i) t) u
    (omega (arith, q.least)) (λ b. let g = ltb-true (length k.entries) 7 b in omega arith) (λ b. let g = ltb-false (length k.entries) 7 b in omega (arith, q.most)) (omega (arith, q.many))
    (all_inserted (shaped l 3) (suc i) (set k.kids i left) t (all_set (shaped l 3) k.kids i left q.each s) r)

-- by growth
parted_shapes : (x l low : ℕ) (b : Bool) (at : ℕ) (es : List Entry) (ks : List (Tree l)) (u : ℕ) (f : List ℕ) → Shapes (suc l) low (cut b at es ks u).left (cut b at es ks u).right
    → Shapes (suc l) low (parted x b at es ks u f).left (right_of (parted x b at es ks u f).up)
parted_shapes x l low true at es ks u f s = s
parted_shapes x l low false at es ks u f s = s

join_shapes : (v : View) (x l low : ℕ) (k : Knot (Tree l)) (i : ℕ) (left : Tree l) (up : Up (Tree l)) (u : ℕ) (f : List ℕ) → shaped (suc l) low k ≡ true → i ≤ length k.entries → Shapes l 3 left (right_of up)
    → Shapes (suc l) low (join v x k i left up u f).left (right_of (join v x k i left up u f).up)
join_shapes v x l low k i left stay u f h le s = stay_shapes l low k i left h s
join_shapes v x l low k i left (rise r o t) u f h le s =
    parted_shapes x l low (ltb (length k.entries) 7) k.at (put v r o i k.entries) (insert (set k.kids i left) (suc i) t) u (f ++ asked o i k.entries)
    (rise_shapes l low k i left t (put v r o i k.entries) u h le (put_long v r o i k.entries) s.0 s.1)

pub grow_shapes : (v : View) (used x o : ℕ) (ps : List ℕ) (l low : ℕ) (t : Tree l) → shaped l low t ≡ true → Within ps l t → Shapes l low (grow v used x o ps l t).left (right_of (grow v used x o ps l t).up)
grow_shapes v used x o ps zero low t h w = (h, refl)
grow_shapes v used x o ps (suc l) low t h w =
    let i = get_or ps l 0 in
    let q = knot_parts l low t h in
    let kid = get_or t.kids i (bare l) in
    let g = grow v used x o ps l kid in
    join_shapes v x l low t i g.left g.up g.used g.fetched h w.0 (grow_shapes v used x o ps l 3 kid (kid_shaped q i w.0) w.1)

root_shaped : (l u : ℕ) (e : Entry) (left t : Tree l) → shaped l 3 left ≡ true → shaped l 3 t ≡ true → shaped (suc l) 1 (record { at = u; entries = e ∷ []; kids = left ∷ (t ∷ []) }) ≡ true
root_shaped l u e left t a b = knot_shaped l 1 (record { at = u; entries = e ∷ []; kids = left ∷ (t ∷ []) })
    (record { least = omega arith; most = omega arith; many = refl; each = and_from (shaped l 3 left) (shaped l 3 t && true) a (and_from (shaped l 3 t) true b refl) })

pub topped_shape : (v : View) (l : ℕ) (left : Tree l) (up : Up (Tree l)) (u : ℕ) (f : List ℕ) → Shapes l 1 left (right_of up) → shaped (topped v l left up u f).levels 1 (topped v l left up u f).tree ≡ true
topped_shape v l left stay u f s = s
topped_shape v l left (rise r o t) u f s = root_shaped l u (made v r o) left t s.0 s.1

-- by a plan
fit_shapes : (l low : ℕ) (e n : Entry) (k : Knot (Tree l)) (i : ℕ) (left : Tree l) (right : Right (Tree l)) (u : ℕ) → shaped (suc l) low k ≡ true → i ≤ length k.entries → Shapes l 3 left right
    → Shapes (suc l) low (fit e n k i left right u).left (fit e n k i left right u).right
fit_shapes l low e n k i left none u h le s = stay_shapes l low k i left h s
fit_shapes l low e n k i left (some t) u h le s =
    let a = length-set k.entries i n in
    let b = length-insert (set k.entries i n) i e (omega arith) in
    rise_shapes l low k i left t (insert (set k.entries i n) i e) u h le (omega arith) s.0 s.1

pub build_shapes : (used : ℕ) (ents nexts : List Entry) (ps : List ℕ) (l low : ℕ) (t : Tree l) → shaped l low t ≡ true → Within ps l t → Shapes l low (build used ents nexts ps l t).left (build used ents nexts ps l t).right
build_shapes used ents nexts ps zero low t h w = (h, refl)
build_shapes used ents nexts ps (suc l) low t h w =
    let i = get_or ps l 0 in
    let q = knot_parts l low t h in
    let kid = get_or t.kids i (bare l) in
    let g = build used ents nexts ps l kid in
    fit_shapes l low (get_or ents l no_entry) (get_or nexts l no_entry) t i g.left g.right g.used h w.0 (build_shapes used ents nexts ps l 3 kid (kid_shaped q i w.0) w.1)

crowned_shape : (e : Entry) (l : ℕ) (left : Tree l) (right : Right (Tree l)) (u : ℕ) → Shapes l 1 left right → shaped (crowned e l left right u).levels 1 (crowned e l left right u).tree ≡ true
crowned_shape e l left none u s = s
crowned_shape e l left (some t) u s = root_shaped l u e left t s.0 s.1

pub built_shape : (used : ℕ) (ents nexts : List Entry) (ps : List ℕ) (l : ℕ) (t : Tree l) → shaped l 1 t ≡ true → Within ps l t → shaped (built used ents nexts ps l t).levels 1 (built used ents nexts ps l t).tree ≡ true
built_shape used ents nexts ps l t h w =
    let g = build used ents nexts ps l t in
    crowned_shape (get_or ents l no_entry) l g.left g.right g.used (build_shapes used ents nexts ps l 1 t h w)

-- the nodes taken
pub parted-row : {T : Type 0} (x : ℕ) (d e : Bool) (at : ℕ) (es : List Entry) (ks : List T) (u : ℕ) (f : List ℕ) (used : ℕ) (r : Row) → (d ≡ true → e ≡ false) → (d ≡ false → e ≡ true) → u ≡ used + r.nodes
    → (lifts (parted x d at es ks u f).up ≡ (cond {A = Row} e (record { nodes = r.nodes + 1; whole = true }) (record { nodes = r.nodes; whole = false })).whole)
    × ((parted x d at es ks u f).used ≡ used + (cond {A = Row} e (record { nodes = r.nodes + 1; whole = true }) (record { nodes = r.nodes; whole = false })).nodes)
parted-row x true e at es ks u f used r y n b = rw (y refl) (refl, b)
parted-row x false e at es ks u f used r y n b = rw (n refl) (refl, omega arith)

pub join-row : {T : Type 0} (v : View) (x : ℕ) (k : Knot T) (i : ℕ) (left : T) (up : Up T) (u : ℕ) (f : List ℕ) (used : ℕ) (r : Row) → lifts up ≡ r.whole → u ≡ used + r.nodes
    → let z : Row = cond (r.whole && leb 7 (length k.entries)) (record { nodes = r.nodes + 1; whole = true }) (record { nodes = r.nodes; whole = false }) in
    (lifts (join v x k i left up u f).up ≡ z.whole) × ((join v x k i left up u f).used ≡ used + z.nodes)
join-row v x k i left stay u f used r a b = rw (sym a) (refl, b)
join-row v x k i left (rise q o t) u f used r a b = rw (sym a) (parted-row x (ltb (length k.entries) 7) (leb 7 (length k.entries)) k.at (put v q o i k.entries) (insert (set k.kids i left) (suc i) t) u (f ++ asked o i k.entries) used r (λ h. grind (arith, nat_tests)) (λ h. grind (arith, nat_tests)) b)

pub grow-row : (v : View) (used x o : ℕ) (ps : List ℕ) (l : ℕ) (t : Tree l) → (lifts (grow v used x o ps l t).up ≡ (row ps l t).whole) × ((grow v used x o ps l t).used ≡ used + (row ps l t).nodes)
grow-row v used x o ps zero t = (refl, omega arith)
grow-row v used x o ps (suc l) t =
    let i = get_or ps l 0 in
    let kid = get_or t.kids i (bare l) in
    let g = grow v used x o ps l kid in
    let h = grow-row v used x o ps l kid in
    join-row v x t i g.left g.up g.used g.fetched used (row ps l kid) h.0 h.1

pub topped_taken : (v : View) (l : ℕ) (left : Tree l) (up : Up (Tree l)) (u : ℕ) (f : List ℕ) (used : ℕ) (r : Row) → lifts up ≡ r.whole → u ≡ used + r.nodes → (topped v l left up u f).used ≡ used + (r.nodes + cond r.whole 1 0)
topped_taken v l left stay u f used r a b = rw (sym a) (omega arith)
topped_taken v l left (rise q o t) u f used r a b = rw (sym a) (omega arith)

-- the reads
pub asked_few : (o i : ℕ) (es : List Entry) → length (asked o i es) ≤ 1
asked_few o i [] = omega arith
asked_few o zero (e ∷ es) = go (eqb e.partial.offset o)
  where
    go : (b : Bool) → length (cond b (e.number ∷ []) []) ≤ 1
    go true = omega arith
    go false = omega arith
asked_few o (suc i) (e ∷ es) = asked_few o i es

pub parted_reads : {T : Type 0} (x : ℕ) (b : Bool) (at : ℕ) (es : List Entry) (ks : List T) (u : ℕ) (f : List ℕ) → length (parted x b at es ks u f).fetched ≤ length f + 1
parted_reads x true at es ks u f = omega arith
parted_reads x false at es ks u f = go (eqb (get_or es 4 no_entry).number x)
  where
    go : (b : Bool) → length (f ++ cond b [] ((get_or es 4 no_entry).number ∷ [])) ≤ length f + 1
    go true = omega (arith, length-append f [])
    go false = omega (arith, length-append f ((get_or es 4 no_entry).number ∷ []))

pub join_reads : {T : Type 0} (v : View) (x : ℕ) (k : Knot T) (i : ℕ) (left : T) (up : Up T) (u : ℕ) (f : List ℕ) → length (join v x k i left up u f).fetched ≤ length f + 2
join_reads v x k i left stay u f = omega arith
join_reads v x k i left (rise r o t) u f =
    let a = parted_reads x (ltb (length k.entries) 7) k.at (put v r o i k.entries) (insert (set k.kids i left) (suc i) t) u (f ++ asked o i k.entries) in
    omega (arith, length-append f (asked o i k.entries), asked_few o i k.entries)

pub grow_reads : (v : View) (used x o : ℕ) (ps : List ℕ) (l : ℕ) (t : Tree l) → length (grow v used x o ps l t).fetched ≤ 2 * l
grow_reads v used x o ps zero t = omega arith
grow_reads v used x o ps (suc l) t =
    let i = get_or ps l 0 in
    let kid = get_or t.kids i (bare l) in
    let g = grow v used x o ps l kid in
    let h = grow_reads v used x o ps l kid in
    let j = join_reads v x t i g.left g.up g.used g.fetched in
    omega arith

pub topped_reads : (v : View) (l : ℕ) (left : Tree l) (up : Up (Tree l)) (u : ℕ) (f : List ℕ) → (topped v l left up u f).fetched ≡ f
topped_reads v l left stay u f = refl
topped_reads v l left (rise r o t) u f = refl
