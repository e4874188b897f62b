-- The nodes that an entry takes, by its way down.
use Rattle.std.proofs.Common.{◌≡◌, ℕ, zero, suc, ◌+◌, ◌<◌, ◌≤◌, Bool, true, false, cond, ◌&&◌, leb, List, length, get_or, sym, refl, ap, ◌∙◌, subst, inl, inr, arith}
use Rattle.std.proofs.lemmas.List.{length-map}
use Rattle.std.proofs.lemmas.Bool.{cases_lt}
use Rattle.std.proofs.lemmas.Bool.Decides.{nat_tests}
use Rattle.growth.proofs.Pathing.{no_waypoint, node_at}
use Rattle.growth.proofs.Placing.{old, ready_below}
use Rattle.growth.specs.Commits.{Ready, need_way, row_way}
use Rattle.growth.specs.Growth.{Row, need, nodes_for, row}
use Rattle.growth.specs.Paths.{nodes_of}
use Rattle.growth.specs.Routes.{Along, PathIn, Trail, way}
use Rattle.growth.specs.declared.path.Waypoint.{Waypoint}
use Rattle.nodes.specs.Tables.{Packed, no_node}
use Rattle.nodes.specs.Trees.{Tree, bare}
use Rattle.nodes.specs.declared.node.Entry.{Entry}
use Rattle.nodes.specs.declared.node.Node.{Node}

row_stop : (es : ℕ → List Entry) (h : ℕ) → row_way es h ≡ record { nodes = h; whole = true } → length (es h) < 7 → row_way es (suc h) ≡ record { nodes = h; whole = false }
row_stop es h w few = let y : leb 7 (length (es h)) ≡ false = grind (arith, nat_tests) in rw (w, y) refl

row_stays : (es : ℕ → List Entry) (h n : ℕ) → h ≤ n → (row_way es h).whole ≡ false → row_way es n ≡ row_way es h
row_stays es h zero le w = let e : zero ≡ h = omega arith in ap (row_way es) e
row_stays es h (suc n) le w = elim (cases_lt h (suc n)) [
  | inl lt ↦ (let e = row_stays es h n (omega arith) w in let f : (row_way es n).whole ≡ false = ap (λ (t : Row). t.whole) e ∙ w in
      ap (λ (b : Bool). cond (b && leb 7 (length (es n))) (record { nodes = (row_way es n).nodes + 1; whole = true }) (record { nodes = (row_way es n).nodes; whole = false })) f ∙ (ap (λ (r : Row). let z : Row = record { nodes = r.nodes; whole = false } in z) e ∙ ap (λ (b : Bool). let z : Row = record { nodes = (row_way es h).nodes; whole = b } in z) (sym w)))
  | inr ge ↦ (let e : suc n ≡ h = omega arith in ap (row_way es) e)
]

-- full nodes up to height h, and one there that is not; or full ones all the way
pub need_stop : (es : ℕ → List Entry) (h n : ℕ) → row_way es h ≡ record { nodes = h; whole = true } → length (es h) < 7 → h < n → h ≡ need_way es n
need_stop es h n w few lt =
    let st = row_stop es h w few in
    let e : row_way es n ≡ record { nodes = h; whole = false } = row_stays es (suc h) n (omega arith) (ap (λ (r : Row). r.whole) st) ∙ st in
    rw e (omega arith)

pub need_all : (es : ℕ → List Entry) (n : ℕ) → row_way es n ≡ record { nodes = n; whole = true } → n + 1 ≡ need_way es n
need_all es n w = rw w refl

pub row_along : (es : ℕ → List Entry) (ps : List ℕ) (l : ℕ) (t : Tree l) → Along es ps l t → row ps l t ≡ row_way es l
row_along es ps zero t a = refl
row_along es ps (suc l) t a =
    let r = row_along es ps l (get_or t.kids (get_or ps l 0) (bare l)) a.1 in
    ap (λ (q : Row). cond (q.whole && leb 7 (length t.entries)) (record { nodes = q.nodes + 1; whole = true }) (record { nodes = q.nodes; whole = false })) r
    ∙ ap (λ (q : List Entry). cond ((row_way es l).whole && leb 7 (length q)) (record { nodes = (row_way es l).nodes + 1; whole = true }) (record { nodes = (row_way es l).nodes; whole = false })) (sym a.0)

pub need_along : (es : ℕ → List Entry) (ps : List ℕ) (l : ℕ) (t : Tree l) → Along es ps l t → need ps l t ≡ need_way es l
need_along es ps l t a = ap nodes_for (row_along es ps l t a)

-- the node of a waypoint
pub node_known : (t : List Node) (path : List Waypoint) {k q : ℕ} → PathIn t (nodes_of path) → q ≡ (get_or path k no_waypoint).node → k < length path → (q < length t) × ((get_or t q no_node).count ≡ length (way t (nodes_of path) k))
node_known t path {k} known is lt =
    let n = known k (omega (arith, length-map path (λ (w : Waypoint). w.node))) in
    let e = is ∙ node_at path refl in
    rw e (n.0, ap (λ (n : Node). n.count) n.1.1)

-- a path that leads down by the places: its nodes are in the table and packed, and each place is one of its node
pub trail_way : (t : List Node) (used : ℕ) (path ps : List ℕ) (l at : ℕ) → Ready t used ps l at → Trail t path ps l at → (h : ℕ) → h < l
    → (get_or path h 0 < length t) × (Packed (get_or t (get_or path h 0) no_node) × (get_or ps h 0 ≤ length (way t path h)))
trail_way t used path ps zero at rdy tr h lt = absurd (omega arith)
trail_way t used path ps (suc l) at rdy tr h lt = elim (cases_lt h l) [
  | inl a ↦ trail_way t used path ps l (get_or (get_or t at no_node).children (get_or ps l 0) 0) (ready_below t used l at ps rdy) tr.1 h a
  | inr b ↦ (let e : l ≡ h = omega arith in
      let o = old t used l at ps rdy in
      let w = rdy.within.0 in
      subst (λ (j : ℕ). (get_or path j 0 < length t) × (Packed (get_or t (get_or path j 0) no_node) × (get_or ps j 0 ≤ length (way t path j)))) e (rw tr.0 (omega (arith, rdy.fits), (rdy.packs at o, w))))
]
