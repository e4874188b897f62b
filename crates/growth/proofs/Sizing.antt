-- The nodes of a tree.
use Rattle.std.proofs.Common.{◌≡◌, ℕ, zero, suc, ◌+◌, ◌-◌, ◌*◌, ◌^◌, ◌<◌, ◌≤◌, Bool, true, false, ltb, List, [], ◌∷◌, ◌++◌, map, length, get_or, set, ap, ◌∙◌, inl, inr, add-mul, mul-le-mul_left, arith}
use native.Mathlib.Nat.{pow-le-pow_right}
use Rattle.std.specs.List.{insert}
use Rattle.std.proofs.lemmas.List.{length-append}
use Rattle.std.proofs.lemmas.Bool.{and_parts, cases_lt}
use Rattle.growth.proofs.Linking.{total-cut, total_inserted, total-set}
use Rattle.growth.specs.Growth.{Up, asked, grow, join, parted, put, rise, stay, topped}
use Rattle.growth.specs.Routes.{Within}
use Rattle.growth.specs.Theorems.{LevelsFew, NodesCounted, RecordsFew}
use Rattle.nodes.proofs.Shapes.{kid_shaped, knot_parts}
use Rattle.nodes.specs.Faith.{View}
use Rattle.nodes.specs.Trees.{Knot, Tree, all, bare, nodes, records, shaped, total, weave}
use Rattle.nodes.specs.declared.node.Entry.{Entry}

sum-least : {X : Type 0} (ok : X → Bool) (f : X → ℕ) (m : ℕ) → ((x : X) → ok x ≡ true → m ≤ 3 * f x + 1) → (xs : List X) → all ok xs ≡ true → length xs * m ≤ 3 * total (map f xs) + length xs
sum-least ok f m each [] a = omega arith
sum-least ok f m each (x ∷ xs) a = let p = and_parts (ok x) (all ok xs) a in omega (arith, sum-least ok f m each xs p.1, each x p.0)

many_least : (a n m s : ℕ) → a ≤ n → 1 ≤ m → n * m ≤ s + n → a * m ≤ s + a
many_least a n m s le pos h =
    let g : (n - a) * 1 ≤ (n - a) * m = mul_le n a m pos in
    let e : n * m ≡ a * m + (n - a) * m = split n a m le in
    omega arith
  where
    mul_le : (n a m : ℕ) → 1 ≤ m → (n - a) * 1 ≤ (n - a) * m
    mul_le n a m pos = mul-le-mul_left (n - a) pos

    split : (n a m : ℕ) → a ≤ n → n * m ≡ a * m + (n - a) * m
    split n a m le = let e : n ≡ a + (n - a) = omega arith in ap (λ (k : ℕ). k * m) e ∙ add-mul a (n - a) m

pow_pos : (l : ℕ) → 1 ≤ 4 ^ l
pow_pos zero = omega arith
pow_pos (suc l) = omega (arith, pow_pos l)

deep_nodes : (l : ℕ) (t : Tree l) → shaped l 3 t ≡ true → 4 ^ l ≤ 3 * nodes l t + 1
deep_nodes zero t h = omega arith
deep_nodes (suc l) t h =
    let q = knot_parts l 3 t h in
    let b = sum-least (shaped l 3) (nodes l) (4 ^ l) (deep_nodes l) t.kids q.each in
    let c = many_least 4 (length t.kids) (4 ^ l) (3 * total (map (nodes l) t.kids)) (omega (arith, q.many, q.least)) (pow_pos l) b in
    omega arith

pub levels_few : LevelsFew
levels_few zero t h n = omega arith
levels_few (suc l) t h n =
    let q = knot_parts l 1 t h in
    let b = sum-least (shaped l 3) (nodes l) (4 ^ l) (deep_nodes l) t.kids q.each in
    let c = many_least 2 (length t.kids) (4 ^ l) (3 * total (map (nodes l) t.kids)) (omega (arith, q.many, q.least)) (pow_pos l) b in
    elim (cases_lt l 7) [ inl a ↦ omega arith | inr d ↦ absurd (let p : 4 ^ 7 ≤ 4 ^ l = pow-le-pow_right {n = 4} (omega arith) d in omega arith) ]

sum_most : {X : Type 0} (ok : X → Bool) (f : X → List ℕ) (g : X → ℕ) → ((x : X) → ok x ≡ true → length (f x) ≤ 7 * g x) → (es : List Entry) (xs : List X) → length xs ≡ length es + 1 → all ok xs ≡ true → length (weave es (map f xs)) ≤ 7 * total (map g xs) + length es
sum_most ok f g each [] [] h a = absurd (omega arith)
sum_most ok f g each [] (x ∷ []) h a = omega (arith, each x (and_parts (ok x) true a).0)
sum_most ok f g each [] (x ∷ (y ∷ xs)) h a = absurd (omega arith)
sum_most ok f g each (e ∷ es) [] h a = absurd (omega arith)
sum_most ok f g each (e ∷ es) (x ∷ xs) h a =
    let p = and_parts (ok x) (all ok xs) a in
    omega (arith, length-append (f x) (e.number ∷ weave es (map f xs)), each x p.0, sum_most ok f g each es xs (omega arith) p.1)

most : (l low : ℕ) (t : Tree l) → shaped l low t ≡ true → length (records l t) ≤ 7 * nodes l t
most zero low t h = omega arith
most (suc l) low t h =
    let q = knot_parts l low t h in
    let b = sum_most (shaped l 3) (records l) (nodes l) (most l 3) t.entries t.kids q.many q.each in
    omega (arith, q.most)

pub records_few : RecordsFew
records_few l t h = most l 1 t h

abbrev up_nodes : (l : ℕ) → Up (Tree l) → ℕ
up_nodes l stay = 0
up_nodes l (rise r o t) = nodes l t

parted-nodes : (x l : ℕ) (b : Bool) (at : ℕ) (es : List Entry) (ks : List (Tree l)) (u : ℕ) (f : List ℕ) → nodes (suc l) (parted x b at es ks u f).left + up_nodes (suc l) (parted x b at es ks u f).up + u ≡ 1 + total (map (nodes l) ks) + (parted x b at es ks u f).used
parted-nodes x l true at es ks u f = omega arith
parted-nodes x l false at es ks u f = omega (arith, total-cut (nodes l) 5 ks)

join-nodes : (v : View) (x l : ℕ) (k : Knot (Tree l)) (i : ℕ) (left : Tree l) (up : Up (Tree l)) (u : ℕ) (f : List ℕ) (used : ℕ) → i < length k.kids
    → nodes l left + up_nodes l up + used ≡ nodes l (get_or k.kids i (bare l)) + u
    → nodes (suc l) (join v x k i left up u f).left + up_nodes (suc l) (join v x k i left up u f).up + used ≡ nodes (suc l) k + (join v x k i left up u f).used
join-nodes v x l k i left stay u f used lt h = omega (arith, total-set (nodes l) k.kids i left (bare l) lt)
join-nodes v x l k i left (rise r o t) u f used lt h =
    let a = total-set (nodes l) k.kids i left (bare l) lt in
    let b = total_inserted (nodes l) (suc i) (set k.kids i left) t in
    let c = parted-nodes x l (ltb (length k.entries) 7) k.at (put v r o i k.entries) (insert (set k.kids i left) (suc i) t) u (f ++ asked o i k.entries) in
    omega arith

grow-nodes : (v : View) (used x o : ℕ) (ps : List ℕ) (l low : ℕ) (t : Tree l) → shaped l low t ≡ true → Within ps l t → nodes l (grow v used x o ps l t).left + up_nodes l (grow v used x o ps l t).up + used ≡ nodes l t + (grow v used x o ps l t).used
grow-nodes v used x o ps zero low t h w = omega arith
grow-nodes v used x o ps (suc l) low t h w =
    let i = get_or ps l 0 in
    let q = knot_parts l low t h in
    let lt : i < length t.kids = omega (arith, q.many, w.0) in
    let kid = get_or t.kids i (bare l) in
    let g = grow v used x o ps l kid in
    join-nodes v x l t i g.left g.up g.used g.fetched used lt (grow-nodes v used x o ps l 3 kid (kid_shaped q i w.0) w.1)

topped-nodes : (v : View) (l : ℕ) (left : Tree l) (up : Up (Tree l)) (u : ℕ) (f : List ℕ) (used n : ℕ) → nodes l left + up_nodes l up + used ≡ n + u → nodes (topped v l left up u f).levels (topped v l left up u f).tree + used ≡ n + (topped v l left up u f).used
topped-nodes v l left stay u f used n h = omega arith
topped-nodes v l left (rise r o t) u f used n h = omega arith

pub nodes_counted : NodesCounted
nodes_counted v used x o ps l t h w = let g = grow v used x o ps l t in topped-nodes v l g.left g.up g.used g.fetched used (nodes l t) (grow-nodes v used x o ps l 1 t h w)
