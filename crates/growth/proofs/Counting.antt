-- How many records a tree of so many levels has at least.
use Rattle.std.proofs.Common.{◌≡◌, ℕ, zero, suc, ◌+◌, ◌*◌, ◌^◌, ◌≤◌, Bool, true, List, [], ◌∷◌, map, length, ◌∙◌, mul-le-mul_right, arith}
use Rattle.std.proofs.lemmas.List.{length-append, length-map}
use Rattle.std.proofs.lemmas.Bool.{and_parts}
use Rattle.growth.specs.Theorems.{LevelsBound}
use Rattle.nodes.proofs.Shapes.{knot_parts}
use Rattle.nodes.specs.Trees.{Tree, all, records, shaped, total, weave}
use Rattle.nodes.specs.declared.node.Entry.{Entry}

-- one more than a list is long: the places in it
size : List ℕ → ℕ
size f = length f + 1

weave_size : (es : List Entry) (fs : List (List ℕ)) → length fs ≡ length es + 1 → length (weave es fs) + 1 ≡ total (map size fs)
unfolding size
weave_size [] [] h = absurd (omega arith)
weave_size [] (f ∷ []) h = omega arith
weave_size [] (f ∷ (g ∷ fs)) h = absurd (omega arith)
weave_size (e ∷ es) [] h = absurd (omega arith)
weave_size (e ∷ es) (f ∷ fs) h = omega (arith, length-append f (e.number ∷ weave es fs), weave_size es fs (omega arith))

total-least : {X : Type 0} (ok : X → Bool) (f : X → List ℕ) (m : ℕ) → ((x : X) → ok x ≡ true → m ≤ length (f x) + 1) → (xs : List X) → all ok xs ≡ true → length xs * m ≤ total (map size (map f xs))
unfolding size
total-least ok f m each [] a = omega arith
total-least ok f m each (x ∷ xs) a =
    let p = and_parts (ok x) (all ok xs) a in
    omega (arith, total-least ok f m each xs p.1, each x p.0)

times_least : (a n m s : ℕ) → a ≤ n → n * m ≤ s → a * m ≤ s
times_least a n m s h k = let g : a * m ≤ n * m = mul-le-mul_right m h in omega arith

pub deep : (l : ℕ) (t : Tree l) → shaped l 3 t ≡ true → 4 ^ l ≤ length (records l t) + 1
deep zero t h = omega arith
deep (suc l) t h =
    let q = knot_parts l 3 t h in
    let a = weave_size t.entries (map (records l) t.kids) (length-map t.kids (records l) ∙ q.many) in
    let b = total-least (shaped l 3) (records l) (4 ^ l) (deep l) t.kids q.each in
    let c = times_least 4 (length t.kids) (4 ^ l) (total (map size (map (records l) t.kids))) (omega (arith, q.many, q.least)) b in
    omega arith

pub levels_bound : LevelsBound
levels_bound l t h =
    let q = knot_parts l 1 t h in
    let a = weave_size t.entries (map (records l) t.kids) (length-map t.kids (records l) ∙ q.many) in
    let b = total-least (shaped l 3) (records l) (4 ^ l) (deep l) t.kids q.each in
    let c = times_least 2 (length t.kids) (4 ^ l) (total (map size (map (records l) t.kids))) (omega (arith, q.many, q.least)) b in
    omega arith
