-- The parts of a lawful node, also in a table.
use Rattle.std.proofs.Common.{◌≡◌, ℕ, zero, suc, ◌+◌, ◌<◌, ◌≤◌, Bool, true, ◌&&◌, eqb, leb, List, [], ◌∷◌, map, length, get_or, sym, ap, ◌∙◌, subst, arith}
use Rattle.std.proofs.lemmas.List.{get_or-map, get_or-take, length-map, length-take}
use Rattle.std.proofs.lemmas.Bool.{and_parts}
use Rattle.std.proofs.lemmas.Bool.Decides.{nat_tests}
use Rattle.nodes.specs.Tables.{held, links, no_node, tree_of}
use Rattle.nodes.specs.Trees.{Knot, Tree, all, bare, shaped}
use Rattle.nodes.specs.declared.node.Node.{Node}

pub record Parts (l low : ℕ) (k : Knot (Tree l)) : Type 0 where
  pub least : low ≤ length k.entries
  pub most : length k.entries ≤ 7
  pub many : length k.kids ≡ length k.entries + 1
  pub each : all (shaped l 3) k.kids ≡ true

pub knot_parts : (l low : ℕ) (k : Knot (Tree l)) → shaped (suc l) low k ≡ true → Parts l low k
knot_parts l low k h =
    let n = length k.entries in
    let p = and_parts (leb low n) (leb n 7 && (eqb (length k.kids) (n + 1) && all (shaped l 3) k.kids)) h in
    let q = and_parts (leb n 7) (eqb (length k.kids) (n + 1) && all (shaped l 3) k.kids) p.1 in
    let r = and_parts (eqb (length k.kids) (n + 1)) (all (shaped l 3) k.kids) q.1 in
    record { least = grind (arith, nat_tests); most = grind (arith, nat_tests); many = grind (arith, nat_tests); each = r.1 }

all_at : {X : Type 0} (f : X → Bool) (xs : List X) (i : ℕ) (d : X) → i < length xs → all f xs ≡ true → f (get_or xs i d) ≡ true
all_at f [] i d lt h = absurd (omega arith)
all_at f (x ∷ xs) zero d lt h = (and_parts (f x) (all f xs) h).0
all_at f (x ∷ xs) (suc i) d lt h = all_at f xs i d (omega arith) (and_parts (f x) (all f xs) h).1

pub kid_shaped : {l low : ℕ} {k : Knot (Tree l)} → Parts l low k → (i : ℕ) → i ≤ length k.entries → shaped l 3 (get_or k.kids i (bare l)) ≡ true
kid_shaped {l} {low} {k} p i le = all_at (shaped l 3) k.kids i (bare l) (omega (arith, p.many)) p.each

-- the kid under a place of a node, in the table
module _ (table : List Node) (l least at : ℕ) (h : shaped (suc l) least (tree_of table (suc l) at) ≡ true) where
  abbrev n : Node
  n = get_or table at no_node

  pub links_long : length (links n) ≡ length (held n) + 1
  links_long = sym (length-map (links n) (tree_of table l)) ∙ (knot_parts l least (tree_of table (suc l) at) h).many

  module _ (q : ℕ) (le : q ≤ length (held n)) where
    pub child_is : get_or (links n) q 0 ≡ get_or n.children q 0
    child_is = get_or-take (n.count + 1) n.children q 0 (omega (arith, length-take n.count n.entries))

    pub kid_is : get_or (map (tree_of table l) (links n)) q (bare l) ≡ tree_of table l (get_or n.children q 0)
    kid_is = get_or-map (tree_of table l) (links n) q 0 (bare l) (omega (arith, links_long)) ∙ ap (tree_of table l) child_is

    pub in_kids : q < length (map (tree_of table l) (links n))
    in_kids = omega (arith, links_long, length-map (links n) (tree_of table l))

    pub kid_shape : shaped l 3 (tree_of table l (get_or n.children q 0)) ≡ true
    kid_shape = subst (λ k. shaped l 3 k ≡ true) kid_is (kid_shaped (knot_parts l least (tree_of table (suc l) at) h) q le)
