-- A write outside a tree leaves it.
use Rattle.std.proofs.Common.{◌≡◌, ℕ, zero, suc, ◌≢◌, List, [], ◌∷◌, map, get_or, set, refl, ap, arith}
use Rattle.std.proofs.lemmas.List.{get_or-set_other}
use Rattle.std.proofs.lemmas.Bool.Decides.{nat_tests}
use Rattle.nodes.specs.Tables.{held, here, links, no_node, reached, tree_of}
use Rattle.nodes.specs.Trees.{total}
use Rattle.nodes.specs.declared.node.Node.{Node}

pub map_same : {X : Type 0} (f g : ℕ → X) (m : X → ℕ) (cs : List ℕ) → total (map m (map f cs)) ≡ 0 → ((c : ℕ) → m (f c) ≡ 0 → g c ≡ f c) → map g cs ≡ map f cs
map_same f g m [] z same = refl
map_same f g m (c ∷ cs) z same =
    let a = same c (omega arith) in
    let b = map_same f g m cs (omega arith) same in
    cc

pub not_here : (p q : ℕ) → here p q ≡ 0 → q ≢ p
not_here p q z = grind (arith, nat_tests)

pub frame : (table : List Node) (p : ℕ) (n : Node) (l at : ℕ) → reached p l (tree_of table l at) ≡ 0 → tree_of (set table p n) l at ≡ tree_of table l at
frame table p n zero at z = refl
frame table p n (suc l) at z =
    let ne : at ≢ p = not_here p at (omega arith) in
    let ks = map_same (tree_of table l) (tree_of (set table p n) l) (reached p l) (links (get_or table at no_node)) (omega arith) (λ c h. frame table p n l c h) in
    rw get_or-set_other (ap (λ ks. record { at = at; entries = held (get_or table at no_node); kids = ks }) ks)
