-- How often each node is reached in what a plan builds.
use Rattle.std.proofs.Common.{◌≡◌, ℕ, zero, suc, ◌+◌, ◌<◌, ◌≤◌, Bool, true, false, cond, ◌&&◌, ltb, leb, List, [], ◌∷◌, map, length, get_or, take, drop, set, sym, refl, ap, ◌∙◌, ⊎_elim, arith}
use Rattle.std.specs.List.{insert}
use Rattle.std.proofs.lemmas.List.{get_or-map, length-map}
use Rattle.std.proofs.lemmas.Bool.{cases_lt}
use Rattle.std.proofs.lemmas.Bool.Decides.{nat_tests}
use Rattle.growth.specs.Commits.{between}
use Rattle.growth.specs.Growth.{Row, row}
use Rattle.growth.specs.Routes.{Within}
use Rattle.growth.specs.Writes.{Right, build, cut, fit, none, some}
use Rattle.nodes.proofs.Shapes.{in_kids, kid_is, kid_shaped, knot_parts}
use Rattle.nodes.specs.Tables.{held, here, links, no_node, reached, tree_of}
use Rattle.nodes.specs.Trees.{Knot, Tree, bare, no_entry, shaped, total}
use Rattle.nodes.specs.declared.node.Entry.{Entry}
use Rattle.nodes.specs.declared.node.Node.{Node}

pub getD_le_total : (ns : List ℕ) (i : ℕ) → get_or ns i 0 ≤ total ns
getD_le_total [] i = omega arith
getD_le_total (n ∷ ns) zero = omega arith
getD_le_total (n ∷ ns) (suc i) = omega (arith, getD_le_total ns i)

-- tables that agree on a tree's nodes hold the same tree
pub map_agree : {X : Type 0} (f g : ℕ → X) (cs : List ℕ) → ((k : ℕ) → k < length cs → g (get_or cs k 0) ≡ f (get_or cs k 0)) → map g cs ≡ map f cs
map_agree f g [] same = refl
map_agree f g (c ∷ cs) same =
    let a = same 0 (omega arith) in
    let b = map_agree f g cs (λ k lt. same (suc k) (omega arith)) in
    cc

pub here_self : (p : ℕ) → here p p ≡ 1
here_self p = grind (arith, nat_tests)

-- where no node past those in use is reached, the root of a tree is in use
pub root_used : (t : List Node) (used l at : ℕ) → ((p : ℕ) → used ≤ p → reached p (suc l) (tree_of t (suc l) at) ≡ 0) → at < used
root_used t used l at known = ⊎_elim (λ (h : at < used). h) (λ (h : used ≤ at). absurd (let z = known at h in let o = here_self at in omega arith)) (cases_lt at used)

pub agree : (t u : List Node) (l at : ℕ) → ((p : ℕ) → 0 < reached p l (tree_of t l at) → get_or u p no_node ≡ get_or t p no_node) → tree_of u l at ≡ tree_of t l at
agree t u zero at same = refl
agree t u (suc l) at same =
    let cs = links (get_or t at no_node) in
    let one = here_self at in
    let n : get_or u at no_node ≡ get_or t at no_node = same at (omega arith) in
    let ks = map_agree (tree_of t l) (tree_of u l) cs (λ k lt. agree t u l (get_or cs k 0) (λ p pos.
    let a = getD_le_total (map (reached p l) (map (tree_of t l) cs)) k in
    let len = length-map cs (tree_of t l) in
    let b = get_or-map (reached p l) (map (tree_of t l) cs) k (bare l) 0 (omega arith) ∙ ap (reached p l) (get_or-map (tree_of t l) cs k 0 (bare l) lt) in
    same p (omega arith))) in
    rw n (ap (λ ks. record { at = at; entries = held (get_or t at no_node); kids = ks }) ks)

module _ {X : Type 0} (m : X → ℕ) where
  pub total-set : (xs : List X) (i : ℕ) (y d : X) → i < length xs → total (map m (set xs i y)) + m (get_or xs i d) ≡ total (map m xs) + m y
  total-set [] i y d lt = absurd (omega arith)
  total-set (x ∷ xs) zero y d lt = omega arith
  total-set (x ∷ xs) (suc i) y d lt = omega (arith, total-set xs i y d (omega arith))

  pub total_inserted : (i : ℕ) (xs : List X) (y : X) → total (map m (insert xs i y)) ≡ total (map m xs) + m y
  total_inserted zero xs y = omega arith
  total_inserted (suc i) [] y = omega arith
  total_inserted (suc i) (x ∷ xs) y = omega (arith, total_inserted i xs y)

  pub total-cut : (n : ℕ) (xs : List X) → total (map m (take n xs)) + total (map m (drop n xs)) ≡ total (map m xs)
  total-cut zero xs = omega arith
  total-cut (suc n) [] = omega arith
  total-cut (suc n) (x ∷ xs) = omega (arith, total-cut n xs)

  pub one_of : (xs : List X) (i : ℕ) (d : X) → i < length xs → m (get_or xs i d) ≤ total (map m xs)
  one_of [] i d lt = absurd (omega arith)
  one_of (x ∷ xs) zero d lt = omega arith
  one_of (x ∷ xs) (suc i) d lt = omega (arith, one_of xs i d (omega arith))

  pub two_of : (xs : List X) (i k : ℕ) (d : X) → i < length xs → k < length xs → (k ≡ i → ⊥) → m (get_or xs i d) + m (get_or xs k d) ≤ total (map m xs)
  two_of [] i k d li lk ne = absurd (omega arith)
  two_of (x ∷ xs) zero zero d li lk ne = absurd (ne refl)
  two_of (x ∷ xs) zero (suc k) d li lk ne = omega (arith, one_of xs k d (omega arith))
  two_of (x ∷ xs) (suc i) zero d li lk ne = omega (arith, one_of xs i d (omega arith))
  two_of (x ∷ xs) (suc i) (suc k) d li lk ne = omega (arith, two_of xs i k d (omega arith) (omega arith) (λ e. ne (ap suc e)))

-- what is reached in a kid is reached in one of the kids
pub kid_reached : (t : List Node) (l least at : ℕ) (h : shaped (suc l) least (tree_of t (suc l) at) ≡ true) (q : ℕ) → q ≤ length (held (get_or t at no_node)) → (p : ℕ)
    → reached p l (tree_of t l (get_or (get_or t at no_node).children q 0)) ≤ total (map (reached p l) (map (tree_of t l) (links (get_or t at no_node))))
kid_reached t l least at h q le p =
    let a = one_of (reached p l) (map (tree_of t l) (links (get_or t at no_node))) q (bare l) (in_kids t l least at h q le) in
    let b = ap (reached p l) (kid_is t l least at h q le) in
    omega arith

abbrev pub reached_up : ℕ → (l : ℕ) → Right (Tree l) → ℕ
reached_up p l none = 0
reached_up p l (some t) = reached p l t

pub between_none : (p a : ℕ) → between p a a ≡ 0
between_none p a = grind (arith, nat_tests)

pub between_more : (p a b : ℕ) → a ≤ b → between p a (b + 1) ≡ between p a b + here p b
between_more p a b le = grind (arith, nat_tests)

-- the nodes of what is made are those there were, and those newly taken
pub cut-reached : (p l : ℕ) (b : Bool) (at : ℕ) (es : List Entry) (ks : List (Tree l)) (u0 u : ℕ) → u0 ≤ u
    → let g = cut b at es ks u in reached p (suc l) g.left + reached_up p (suc l) g.right + between p u0 u ≡ here p at + total (map (reached p l) ks) + between p u0 g.used
cut-reached p l true at es ks u0 u le = omega arith
cut-reached p l false at es ks u0 u le = omega (arith, total-cut (reached p l) 5 ks, between_more p u0 u le)

pub fit-reached : (p l : ℕ) (e n : Entry) (k : Knot (Tree l)) (i : ℕ) (left : Tree l) (up : Right (Tree l)) (u0 u : ℕ) → i < length k.kids → u0 ≤ u
    → reached p l left + reached_up p l up ≡ reached p l (get_or k.kids i (bare l)) + between p u0 u
    → let g = fit e n k i left up u in reached p (suc l) g.left + reached_up p (suc l) g.right ≡ reached p (suc l) k + between p u0 g.used
fit-reached p l e n k i left none u0 u lt le h = omega (arith, total-set (reached p l) k.kids i left (bare l) lt)
fit-reached p l e n k i left (some r) u0 u lt le h =
    let ks = insert (set k.kids i left) (suc i) r in
    let a = total-set (reached p l) k.kids i left (bare l) lt in
    let b = total_inserted (reached p l) (suc i) (set k.kids i left) r in
    let c = cut-reached p l (ltb (length k.entries) 7) k.at (insert (set k.entries i n) i e) ks u0 u le in
    omega arith

pub cut_used : {T : Type 0} (b : Bool) (at : ℕ) (es : List Entry) (ks : List T) (u : ℕ) → u ≤ (cut b at es ks u).used
cut_used true at es ks u = omega arith
cut_used false at es ks u = omega arith

pub fit_used : {T : Type 0} (e n : Entry) (k : Knot T) (i : ℕ) (left : T) (up : Right T) (u : ℕ) → u ≤ (fit e n k i left up u).used
fit_used e n k i left none u = omega arith
fit_used e n k i left (some r) u = cut_used (ltb (length k.entries) 7) k.at (insert (set k.entries i n) i e) (insert (set k.kids i left) (suc i) r) u

pub build_used : (used : ℕ) (ents nexts : List Entry) (ps : List ℕ) (l : ℕ) (t : Tree l) → used ≤ (build used ents nexts ps l t).used
build_used used ents nexts ps zero t = omega arith
build_used used ents nexts ps (suc l) t =
    let i = get_or ps l 0 in
    let g = build used ents nexts ps l (get_or t.kids i (bare l)) in
    let a = build_used used ents nexts ps l (get_or t.kids i (bare l)) in
    let b = fit_used (get_or ents l no_entry) (get_or nexts l no_entry) t i g.left g.right g.used in
    omega arith

pub build-reached : (p used : ℕ) (ents nexts : List Entry) (ps : List ℕ) (l low : ℕ) (t : Tree l) → shaped l low t ≡ true → Within ps l t
    → reached p l (build used ents nexts ps l t).left + reached_up p l (build used ents nexts ps l t).right ≡ reached p l t + between p used (build used ents nexts ps l t).used
build-reached p used ents nexts ps zero low t h w = omega (arith, between_none p used)
build-reached p used ents nexts ps (suc l) low t h w =
    let i = get_or ps l 0 in
    let q = knot_parts l low t h in
    let lt : i < length t.kids = omega (arith, w.0, q.many) in
    let kid = get_or t.kids i (bare l) in
    let g = build used ents nexts ps l kid in
    fit-reached p l (get_or ents l no_entry) (get_or nexts l no_entry) t i g.left g.right used g.used lt (build_used used ents nexts ps l kid)
    (build-reached p used ents nexts ps l 3 kid (kid_shaped q i w.0) w.1)

abbrev pub lifted_up : {T : Type 0} → Right T → Bool
lifted_up none = false
lifted_up (some t) = true

cut-row : {T : Type 0} (d e : Bool) (at : ℕ) (es : List Entry) (ks : List T) (u used : ℕ) (r : Row) → (d ≡ true → e ≡ false) → (d ≡ false → e ≡ true) → u ≡ used + r.nodes
    → (lifted_up (cut d at es ks u).right ≡ (cond {A = Row} e (record { nodes = r.nodes + 1; whole = true }) (record { nodes = r.nodes; whole = false })).whole)
    × ((cut d at es ks u).used ≡ used + (cond {A = Row} e (record { nodes = r.nodes + 1; whole = true }) (record { nodes = r.nodes; whole = false })).nodes)
cut-row true e at es ks u used r y n b = rw (y refl) (refl, b)
cut-row false e at es ks u used r y n b = rw (n refl) (refl, omega arith)

fit_row : {T : Type 0} (e n : Entry) (k : Knot T) (i : ℕ) (left : T) (up : Right T) (u used : ℕ) (r : Row) → lifted_up up ≡ r.whole → u ≡ used + r.nodes
    → let z : Row = cond (r.whole && leb 7 (length k.entries)) (record { nodes = r.nodes + 1; whole = true }) (record { nodes = r.nodes; whole = false }) in
    (lifted_up (fit e n k i left up u).right ≡ z.whole) × ((fit e n k i left up u).used ≡ used + z.nodes)
fit_row e n k i left none u used r a b = rw (sym a) (refl, b)
fit_row e n k i left (some t) u used r a b = rw (sym a) (cut-row (ltb (length k.entries) 7) (leb 7 (length k.entries)) k.at (insert (set k.entries i n) i e) (insert (set k.kids i left) (suc i) t) u used r (λ h. grind (arith, nat_tests)) (λ h. grind (arith, nat_tests)) b)

pub build-row : (used : ℕ) (ents nexts : List Entry) (ps : List ℕ) (l : ℕ) (t : Tree l) → (lifted_up (build used ents nexts ps l t).right ≡ (row ps l t).whole) × ((build used ents nexts ps l t).used ≡ used + (row ps l t).nodes)
build-row used ents nexts ps zero t = (refl, omega arith)
build-row used ents nexts ps (suc l) t =
    let i = get_or ps l 0 in
    let kid = get_or t.kids i (bare l) in
    let g = build used ents nexts ps l kid in
    let h = build-row used ents nexts ps l kid in
    fit_row (get_or ents l no_entry) (get_or nexts l no_entry) t i g.left g.right g.used used (row ps l kid) h.0 h.1

pub row_grows : (ps : List ℕ) (l : ℕ) (t : Tree (suc l)) → (row ps l (get_or t.kids (get_or ps l 0) (bare l))).nodes ≤ (row ps (suc l) t).nodes
row_grows ps l t = go ((row ps l (get_or t.kids (get_or ps l 0) (bare l))).whole && leb 7 (length t.entries))
  where
    go : (b : Bool) → (row ps l (get_or t.kids (get_or ps l 0) (bare l))).nodes ≤ (cond {A = Row} b (record { nodes = (row ps l (get_or t.kids (get_or ps l 0) (bare l))).nodes + 1; whole = true }) (record { nodes = (row ps l (get_or t.kids (get_or ps l 0) (bare l))).nodes; whole = false })).nodes
    go true = omega arith
    go false = omega arith
