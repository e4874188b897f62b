-- One level of a plan written into a table.
use Rattle.std.proofs.Common.{◌≡◌, ℕ, zero, suc, ◌+◌, ◌-◌, ◌<◌, ◌≤◌, Bool, true, false, ltb, ◌≢◌, List, map, length, get_or, take, drop, set, replicate, Some, None, Option, sym, refl, ap, ◌∙◌, subst, ⊎_elim, add-one, arith}
use Rattle.std.specs.List.{insert}
use Rattle.std.proofs.lemmas.List.Edits.{length-insert}
use Rattle.std.proofs.lemmas.List.{drop-map, ext_get_or, get_or-map, get_or-set_other, get_or-set_same, length-drop, length-map, length-set, length-take-le, take_at, take-map}
use Rattle.std.proofs.lemmas.Bool.{cases_eq, cases_lt}
use Rattle.std.proofs.lemmas.Bool.Decides.{nat_tests}
use Rattle.growth.proofs.Framing.{frame, map_same}
use Rattle.growth.proofs.Linking.{agree, build-reached, build-row, build_used, here_self, kid_reached, reached_up, root_used, row_grows, total_inserted, total-set, two_of}
use Rattle.growth.proofs.Ordering.{map_inserted}
use Rattle.growth.proofs.Shaping.{knot_shaped}
use Rattle.growth.specs.Commits.{Entered, Linked, Ready, between}
use Rattle.growth.specs.Growth.{row}
use Rattle.growth.specs.Routes.{Within}
use Rattle.growth.specs.Writes.{Built, Right, build, cut, fit, none, some}
use Rattle.nodes.proofs.Shapes.{child_is, in_kids, kid_is, kid_shape, knot_parts, links_long}
use Rattle.nodes.specs.Tables.{Packed, held, links, no_node, packed, reached, tree_of}
use Rattle.nodes.specs.Trees.{Knot, Tree, bare, no_entry, shaped, total}
use Rattle.nodes.specs.declared.node.Entry.{Entry}
use Rattle.nodes.specs.declared.node.Node.{Node}

pub looser : (l low : ℕ) (t : Tree l) → shaped l low t ≡ true → shaped l 0 t ≡ true
looser zero low t h = h
looser (suc l) low t h = let q = knot_parts l low t h in knot_shaped l 0 t (record { least = omega arith; most = q.most; many = q.many; each = q.each })

pub held-packed : (es : List Entry) (cs : List ℕ) → held (packed es cs) ≡ es
held-packed es cs = take_at es (replicate (7 - length es) no_entry) (length es) refl

pub links-packed : (es : List Entry) (cs : List ℕ) → length cs ≡ length es + 1 → links (packed es cs) ≡ cs
links-packed es cs long = take_at cs (replicate (8 - length cs) 0) (length es + 1) long

pub packed_packs : (es : List Entry) (cs : List ℕ) → length cs ≡ length es + 1 → length es ≤ 7 → Packed (packed es cs)
packed_packs es cs long le = (le, sym (ap (λ x. packed x (links (packed es cs))) (held-packed es cs) ∙ ap (λ z. packed es z) (links-packed es cs long)))

pub set_packs : (t : List Node) (at : ℕ) (N : Node) → at < length t → Packed N → (p : ℕ) → (p ≢ at → Packed (get_or t p no_node)) → Packed (get_or (set t at N) p no_node)
set_packs t at N lt cl p other =
    ⊎_elim (λ (h : p ≡ at). subst Packed (sym (ap (λ q. get_or (set t at N) q no_node) h ∙ get_or-set_same t at N no_node lt)) cl)
    (λ (h : p ≢ at). subst Packed (sym (get_or-set_other t at p N no_node h)) (other h)) (cases_eq p at)

pub linked_none : (u : List Node) (m : ℕ) (up : Right (Tree m)) → Linked u m up None → up ≡ none
linked_none u m none h = refl
linked_none u m (some r) h = absurd h

pub linked_some : (u : List Node) (m : ℕ) (up : Right (Tree m)) (y : ℕ) → Linked u m up (Some y) → up ≡ some (tree_of u m y)
linked_some u m none y h = absurd h
linked_some u m (some r) y h = ap (λ (x : Tree m). some x) (sym h)

-- one step of the descent, in a table t: n is the node at `at`, and i the place in it
module _ (t : List Node) (used l at : ℕ) (ps : List ℕ) (rdy : Ready t used ps (suc l) at) where
  abbrev pub n : Node
  n = get_or t at no_node

  abbrev pub i : ℕ
  i = get_or ps l 0

  abbrev pub child : ℕ
  child = get_or n.children i 0

  abbrev pub kids : List (Tree l)
  kids = map (tree_of t l) (links n)

  pub many : length (links n) ≡ length (held n) + 1
  many = links_long t l 0 at rdy.shape

  pub inside : i < length (links n)
  inside = omega (arith, many, rdy.within.0)

  pub inside_kids : i < length kids
  inside_kids = in_kids t l 0 at rdy.shape i rdy.within.0

  pub old : at < used
  old = root_used t used l at rdy.known

  pub packs : Packed n
  packs = rdy.packs at old

  pub counted : n.count ≡ length (held n)
  counted = ap (λ (m : Node). m.count) packs.1

  pub kid_there : get_or kids i (bare l) ≡ tree_of t l child
  kid_there = kid_is t l 0 at rdy.shape i rdy.within.0

  pub sub_reached : (p : ℕ) → reached p l (tree_of t l child) ≤ total (map (reached p l) kids)
  sub_reached p = kid_reached t l 0 at rdy.shape i rdy.within.0 p

  pub ready_below : Ready t used ps l child
  ready_below = record {
    shape = looser l 3 (tree_of t l child) (kid_shape t l 0 at rdy.shape i rdy.within.0);
    once = λ p. omega (arith, sub_reached p, rdy.once p);
    known = λ p h. omega (arith, sub_reached p, rdy.known p h);
    within = subst (Within ps l) kid_there rdy.within.1;
    fits = rdy.fits;
    few = rdy.few;
    packs = rdy.packs;
  }

  pub apart : total (map (reached at l) kids) ≡ 0
  apart = omega (arith, rdy.once at, here_self at)

  module _ (ents nexts : List Entry) (t1 : List Node) (up : Option ℕ) (used1 : ℕ) (ent : Entered t t1 used ents nexts ps l child up used1) where
    abbrev pub g : Built (Tree l)
    g = build used ents nexts ps l (tree_of t l child)

    abbrev pub T : Knot (Tree l)
    T = tree_of t (suc l) at

    pub grown : build used ents nexts ps (suc l) T ≡ fit (get_or ents l no_entry) (get_or nexts l no_entry) T i g.left g.right g.used
    grown = ap (λ (k : Tree l). fit (get_or ents l no_entry) (get_or nexts l no_entry) T i (build used ents nexts ps l k).left (build used ents nexts ps l k).right (build used ents nexts ps l k).used) kid_there

    pub others : (k : ℕ) → k < length (links n) → (k ≡ i → ⊥) → tree_of t1 l (get_or (links n) k 0) ≡ tree_of t l (get_or (links n) k 0)
    others k lt ne =
        let len = length-map (links n) (tree_of t l) in
        agree t t1 l (get_or (links n) k 0) (λ p pos.
        let a = two_of (reached p l) kids i k (bare l) inside_kids (omega arith) ne in
        let b = ap (reached p l) kid_there in
        let c = ap (reached p l) (get_or-map (tree_of t l) (links n) k 0 (bare l) lt) in
        let o = rdy.once p in
        let lp : p < used = ⊎_elim (λ (h : p < used). h) (λ (h : used ≤ p). absurd (let z = rdy.known p h in omega arith)) (cases_lt p used) in
        ent.frame p lp (omega arith))

    pub kids_after : map (tree_of t1 l) (links n) ≡ set kids i g.left
    kids_after =
        let len1 = length-map (links n) (tree_of t1 l) in
        let len = length-map (links n) (tree_of t l) in
        let lens = length-set kids i g.left in
        ext_get_or (bare l) (map (tree_of t1 l) (links n)) (set kids i g.left) (omega arith) (λ k lt.
        let lk : k < length (links n) = omega arith in
        let a = get_or-map (tree_of t1 l) (links n) k 0 (bare l) lk in
        ⊎_elim
        (λ (h : k ≡ i).
        let s = get_or-set_same kids i g.left (bare l) inside_kids in
        let f = ent.left in
        let ci = child_is t l 0 at rdy.shape i rdy.within.0 in
        cc)
        (λ (h : k ≡ i → ⊥).
        let s = get_or-set_other kids i k g.left (bare l) h in
        let o = others k lk h in
        let b = get_or-map (tree_of t l) (links n) k 0 (bare l) lk in
        cc)
        (cases_eq k i))

    pub not_below : reached at l (tree_of t l child) ≡ 0
    not_below = omega (arith, sub_reached at, apart)

    pub same_node : get_or t1 at no_node ≡ n
    same_node = ent.frame at old not_below

    pub frame_up : (p : ℕ) → p < used → reached p (suc l) T ≡ 0 → get_or t1 p no_node ≡ get_or t p no_node
    frame_up p lt z = ent.frame p lt (omega (arith, sub_reached p))

  pub stays : (ents nexts : List Entry) (t1 : List Node) (used1 : ℕ) → Entered t t1 used ents nexts ps l child None used1 → Entered t t1 used ents nexts ps (suc l) at None used1
  stays ents nexts t1 used1 ent =
      let gg = g ents nexts t1 None used1 ent in
      let tt' = T ents nexts t1 None used1 ent in
      let st : gg.right ≡ none = linked_none t1 l gg.right ent.linked in
      let eq : build used ents nexts ps (suc l) tt' ≡ fit (get_or ents l no_entry) (get_or nexts l no_entry) tt' i gg.left none gg.used = grown ents nexts t1 None used1 ent ∙ ap (λ (u : Right (Tree l)). fit (get_or ents l no_entry) (get_or nexts l no_entry) tt' i gg.left u gg.used) st in
      let ks = kids_after ents nexts t1 None used1 ent in
      let made : tree_of t1 (suc l) at ≡ record { at = at; entries = held n; kids = set kids i gg.left } =
      rw (same_node ents nexts t1 None used1 ent) (ap (λ ks. record { at = at; entries = held n; kids = ks }) ks) in
      record {
        left = made ∙ sym (ap (λ (x : Built (Knot (Tree l))). x.left) eq);
        linked = subst (λ u. Linked t1 (suc l) u None) (sym (ap (λ (x : Built (Knot (Tree l))). x.right) eq)) tt;
        taken = ent.taken ∙ sym (ap (λ (x : Built (Knot (Tree l))). x.used) eq);
        frame = frame_up ents nexts t1 None used1 ent;
        long = ent.long;
        packs = ent.packs;
        rest = ent.rest;
      }

  -- an entry and a link came up
  module _ (ents nexts : List Entry) (t1 : List Node) (y : ℕ) (used1 : ℕ) (ent : Entered t t1 used ents nexts ps l child (Some y) used1) where
    abbrev pub h : Built (Tree l)
    h = build used ents nexts ps l (tree_of t l child)

    abbrev pub R : Tree l
    R = tree_of t1 l y

    abbrev pub es : List Entry
    es = insert (set (held n) i (get_or nexts l no_entry)) i (get_or ents l no_entry)

    abbrev pub cs : List ℕ
    cs = insert (links n) (suc i) y

    abbrev pub ks : List (Tree l)
    ks = insert (set kids i h.left) (suc i) R

    pub rose : h.right ≡ some R
    rose = linked_some t1 l h.right y ent.linked

    pub grown_up : build used ents nexts ps (suc l) (tree_of t (suc l) at) ≡ cut (ltb (length (held n)) 7) at es ks h.used
    grown_up = grown ents nexts t1 (Some y) used1 ent ∙ ap (λ (u : Right (Tree l)). fit (get_or ents l no_entry) (get_or nexts l no_entry) (tree_of t (suc l) at) i h.left u h.used) rose

    pub es_long : length es ≡ length (held n) + 1
    es_long = let s = length-set (held n) i (get_or nexts l no_entry) in let a = length-insert (set (held n) i (get_or nexts l no_entry)) i (get_or ents l no_entry) (omega (arith, rdy.within.0)) in omega arith

    pub cs_long : length cs ≡ length es + 1
    cs_long = let a = length-insert (links n) (suc i) y (omega (arith, many, rdy.within.0)) in omega (arith, a, many, es_long)

    pub linked_kids : map (tree_of t1 l) cs ≡ ks
    linked_kids = map_inserted (tree_of t1 l) (suc i) (links n) y ∙ ap (λ x. insert x (suc i) R) (kids_after ents nexts t1 (Some y) used1 ent)

    -- a node that is in none of the kids, and is not newly taken, is in none of the new kids
    pub safe : (q : ℕ) → total (map (reached q l) kids) ≡ 0 → between q used h.used ≡ 0 → total (map (reached q l) (map (tree_of t1 l) cs)) ≡ 0
    safe q z r =
        let a = ap (λ x. total (map (reached q l) x)) linked_kids in
        let b = total_inserted (reached q l) (suc i) (set kids i h.left) R in
        let c = total-set (reached q l) kids i h.left (bare l) inside_kids in
        let d = build-reached q used ents nexts ps l 0 (tree_of t l child) ready_below.shape ready_below.within in
        let f : reached_up q l h.right ≡ reached q l R = ap (reached_up q l) rose in
        let s = sub_reached q in
        let k = ap (reached q l) kid_there in
        omega arith

    pub taken_old : between at used h.used ≡ 0
    taken_old = let o = old in grind (arith, nat_tests)

    pub taken_new : between h.used used h.used ≡ 0
    taken_new = grind (arith, nat_tests)

    pub known_new : total (map (reached h.used l) kids) ≡ 0
    known_new = omega (arith, rdy.known h.used (build_used used ents nexts ps l (tree_of t l child)))

    -- the first write keeps the new kids
    pub one_write : (N : Node) → map (tree_of (set t1 at N) l) cs ≡ map (tree_of t1 l) cs
    one_write N = map_same (tree_of t1 l) (tree_of (set t1 at N) l) (reached at l) cs (safe at apart taken_old) (λ c z. frame t1 at N l c z)

    -- and so does the second
    pub two_writes : (N M : Node) → map (tree_of (set (set t1 at N) h.used M) l) cs ≡ map (tree_of t1 l) cs
    two_writes N M =
        map_same (tree_of (set t1 at N) l) (tree_of (set (set t1 at N) h.used M) l) (reached h.used l) cs
        (ap (λ x. total (map (reached h.used l) x)) (one_write N) ∙ safe h.used known_new taken_new)
        (λ c z. frame (set t1 at N) h.used M l c z)
        ∙ one_write N

    pub in_table : at < length t1
    in_table = omega (arith, ent.long, old, rdy.fits)

    pub new_in_table : used + (row ps (suc l) (tree_of t (suc l) at)).nodes ≤ length t → length (held n) ≡ 7 → h.used < length t1
    new_in_table room full =
        let b : ltb (length (held n)) 7 ≡ false = grind (arith, nat_tests) in
        let eq : (build used ents nexts ps (suc l) (tree_of t (suc l) at)).used ≡ h.used + 1 = ap (λ (x : Built (Knot (Tree l))). x.used) (grown_up ∙ ap (λ (b : Bool). cut b at es ks h.used) b) in
        omega (arith, ent.long, (build-row used ents nexts ps (suc l) (tree_of t (suc l) at)).1)

    pub knot_there : (u : List Node) (p : ℕ) (xs : List Entry) (zs : List ℕ) (ts : List (Tree l)) → get_or u p no_node ≡ packed xs zs → length zs ≡ length xs + 1 → map (tree_of u l) zs ≡ ts
        → tree_of u (suc l) p ≡ record { at = p; entries = xs; kids = ts }
    knot_there u p xs zs ts is long kk =
        let a = held-packed xs zs in
        let b = links-packed xs zs long in
        rw is (rw (a, b) (ap (λ (x : List (Tree l)). record { at = p; entries = xs; kids = x }) kk))

    pub not_new : at ≢ h.used
    not_new = omega (arith, old, build_used used ents nexts ps l (tree_of t l child))

    pub elsewhere : (p : ℕ) → p < used → reached p (suc l) (tree_of t (suc l) at) ≡ 0 → p ≢ at
    elsewhere p lt z = grind (arith, nat_tests)

    pub wider : length (held n) < 7 → Entered t (set t1 at (packed es cs)) used ents nexts ps (suc l) at None used1
    wider lt =
        let u = set t1 at (packed es cs) in
        let b : ltb (length (held n)) 7 ≡ true = grind (arith, nat_tests) in
        let eq : build used ents nexts ps (suc l) (tree_of t (suc l) at) ≡ cut true at es ks h.used = grown_up ∙ ap (λ (b : Bool). cut b at es ks h.used) b in
        let kk : map (tree_of u l) cs ≡ ks = one_write (packed es cs) ∙ linked_kids in
        let made = knot_there u at es cs ks (get_or-set_same t1 at (packed es cs) no_node in_table) cs_long kk in
        record {
          left = made ∙ sym (ap (λ (x : Built (Knot (Tree l))). x.left) eq);
          linked = subst (λ x. Linked u (suc l) x None) (sym (ap (λ (x : Built (Knot (Tree l))). x.right) eq)) tt;
          taken = ent.taken ∙ sym (ap (λ (x : Built (Knot (Tree l))). x.used) eq);
          frame = λ p lp z. get_or-set_other t1 at p (packed es cs) no_node (elsewhere p lp z) ∙ frame_up ents nexts t1 (Some y) used1 ent p lp z;
          long = length-set t1 at (packed es cs) ∙ ent.long;
          packs = λ p lp. set_packs t1 at (packed es cs) in_table (packed_packs es cs cs_long (omega (arith, es_long))) p (λ h. ent.packs p lp);
          rest = λ p lp. get_or-set_other t1 at p (packed es cs) no_node (omega (arith, old, ent.taken, build_used used ents nexts ps l (tree_of t l child))) ∙ ent.rest p lp;
        }

    pub cut_in_two : used + (row ps (suc l) (tree_of t (suc l) at)).nodes ≤ length t → length (held n) ≡ 7 → Entered t (set (set t1 at (packed (take 4 es) (take 5 cs))) used1 (packed (drop 5 es) (drop 5 cs))) used ents nexts ps (suc l) at (Some used1) (used1 + 1)
    cut_in_two room full =
        let N = packed (take 4 es) (take 5 cs) in
        let M = packed (drop 5 es) (drop 5 cs) in
        let q = h.used in
        let u = set (set t1 at N) q M in
        let b : ltb (length (held n)) 7 ≡ false = grind (arith, nat_tests) in
        let eq : build used ents nexts ps (suc l) (tree_of t (suc l) at) ≡ cut false at es ks q = grown_up ∙ ap (λ (b : Bool). cut b at es ks q) b in
        let kk : map (tree_of u l) cs ≡ ks = two_writes N M ∙ linked_kids in
        let el = es_long in
        let cl = cs_long in
        let ln : length (set t1 at N) ≡ length t1 = length-set t1 at N in
        let there-l : get_or u at no_node ≡ N = get_or-set_other (set t1 at N) q at M no_node not_new ∙ get_or-set_same t1 at N no_node in_table in
        let there-r : get_or u q no_node ≡ M = get_or-set_same (set t1 at N) q M no_node (omega (arith, new_in_table room full)) in
        let a1 : length (take 4 es) ≡ 4 = length-take-le 4 es (omega arith) in
        let a2 : length (take 5 cs) ≡ 5 = length-take-le 5 cs (omega arith) in
        let a3 = length-drop 5 es in
        let a4 = length-drop 5 cs in
        let k-l : map (tree_of u l) (take 5 cs) ≡ take 5 ks = sym (take-map (tree_of u l) 5 cs) ∙ ap (take 5) kk in
        let k-r : map (tree_of u l) (drop 5 cs) ≡ drop 5 ks = sym (drop-map (tree_of u l) 5 cs) ∙ ap (drop 5) kk in
        let made-l = knot_there u at (take 4 es) (take 5 cs) (take 5 ks) there-l (omega arith) k-l in
        let made-r = knot_there u q (drop 5 es) (drop 5 cs) (drop 5 ks) there-r (omega arith) k-r in
        let res : Entered t u used ents nexts ps (suc l) at (Some q) (q + 1) =
        record {
          left = made-l ∙ sym (ap (λ (x : Built (Knot (Tree l))). x.left) eq);
          linked = subst (λ x. Linked u (suc l) x (Some q)) (sym (ap (λ (x : Built (Knot (Tree l))). x.right) eq)) made-r;
          taken = sym (ap (λ (x : Built (Knot (Tree l))). x.used) eq);
          frame = λ p lp z.
              get_or-set_other (set t1 at N) q p M no_node (omega (arith, build_used used ents nexts ps l (tree_of t l child)))
              ∙ (get_or-set_other t1 at p N no_node (elsewhere p lp z) ∙ frame_up ents nexts t1 (Some y) used1 ent p lp z);
          long = length-set (set t1 at N) q M ∙ (ln ∙ ent.long);
          packs = λ p lp. set_packs (set t1 at N) q M (omega (arith, new_in_table room full)) (packed_packs (drop 5 es) (drop 5 cs) (omega arith) (omega arith)) p (λ h.
              set_packs t1 at N in_table (packed_packs (take 4 es) (take 5 cs) (omega arith) (omega arith)) p (λ h2. ent.packs p (omega (arith, ent.taken))));
          rest = λ p lp. get_or-set_other (set t1 at N) q p M no_node (omega arith) ∙ (get_or-set_other t1 at p N no_node (omega (arith, old, build_used used ents nexts ps l (tree_of t l child))) ∙ ent.rest p (omega (arith, ent.taken)));
        } in
        subst (λ (x : ℕ). Entered t (set (set t1 at N) x M) used ents nexts ps (suc l) at (Some x) (x + 1)) (sym ent.taken) res

-- The same as the code counts levels: nd is the node at `at`, in a tree of one level or more, and i, e and n are its place, entry
-- and following entry.
pub record Step (t : List Node) (used : ℕ) (ents nexts : List Entry) (ps : List ℕ) (level at : ℕ) (nd : Node) (i : ℕ) (e n : Entry) : Type 0 where
  pub ready : Ready t used ps level at
  pub room : used + (row ps level (tree_of t level at)).nodes ≤ length t
  pub one_up : level ≡ suc (level - 1)
  pub node : nd ≡ get_or t at no_node
  pub place : i ≡ get_or ps (level - 1) 0
  pub entry : e ≡ get_or ents (level - 1) no_entry
  pub next : n ≡ get_or nexts (level - 1) no_entry

-- the root of a tree of one level or more
pub root_known : {t : List Node} {used : ℕ} {ps : List ℕ} {level at : ℕ} → Ready t used ps level at → 0 < level → (at < length t) × Packed (get_or t at no_node)
root_known {t} {used} {ps} {level} {at} ready pos =
    let one_up : level ≡ suc (level - 1) = omega arith in
    let o = old t used (level - 1) at ps (subst (λ (m : ℕ). Ready t used ps m at) one_up ready) in
    (omega (arith, ready.fits), ready.packs at o)

module _ {t : List Node} {used : ℕ} {ents nexts : List Entry} {ps : List ℕ} {level at : ℕ} {nd : Node} {i : ℕ} {e n : Entry} (s : Step t used ents nexts ps level at nd i e n) where
  rdy : Ready t used ps (suc (level - 1)) at
  rdy = subst (λ (m : ℕ). Ready t used ps m at) s.one_up s.ready

  child_eq : child t used (level - 1) at ps rdy ≡ get_or nd.children i 0
  child_eq = rw (s.place, s.node) refl

  room_up : used + (row ps (suc (level - 1)) (tree_of t (suc (level - 1)) at)).nodes ≤ length t
  room_up = subst (λ (m : ℕ). used + (row ps m (tree_of t m at)).nodes ≤ length t) s.one_up s.room

  all_held : nd.count ≡ length (held (get_or t at no_node))
  all_held = rw s.node (counted t used (level - 1) at ps rdy)

  pub at_place : i ≤ nd.count
  at_place = omega (arith, s.place, all_held, rdy.within.0)

  pub at_ready : Ready t used ps (level - 1) (get_or nd.children i 0)
  at_ready = subst (λ (c : ℕ). Ready t used ps (level - 1) c) child_eq (ready_below t used (level - 1) at ps rdy)

  pub at_room : used + (row ps (level - 1) (tree_of t (level - 1) (get_or nd.children i 0))).nodes ≤ length t
  at_room =
      let r = room_up in
      let a = row_grows ps (level - 1) (tree_of t (suc (level - 1)) at) in
      let b = ap (λ (k : Tree (level - 1)). (row ps (level - 1) k).nodes) (kid_there t used (level - 1) at ps rdy) in
      subst (λ (c : ℕ). used + (row ps (level - 1) (tree_of t (level - 1) c)).nodes ≤ length t) child_eq (omega arith)

  full : 7 ≤ nd.count → length (held (get_or t at no_node)) ≡ 7
  full h = omega (arith, all_held, (knot_parts (level - 1) 0 (tree_of t (suc (level - 1)) at) rdy.shape).most)

  -- what was written below
  module _ {t1 : List Node} {r : Option ℕ} {used1 : ℕ} (came : Entered t t1 used ents nexts ps (level - 1) (get_or nd.children i 0) r used1) where
    back : (q : Option ℕ) → r ≡ q → Entered t t1 used ents nexts ps (level - 1) (child t used (level - 1) at ps rdy) q used1
    back q is = subst (λ (c : ℕ). Entered t t1 used ents nexts ps (level - 1) c q used1) (sym child_eq) (subst (λ (x : Option ℕ). Entered t t1 used ents nexts ps (level - 1) (get_or nd.children i 0) x used1) is came)

    lift : (t2 : List Node) (q : Option ℕ) (used2 : ℕ) → Entered t t2 used ents nexts ps (suc (level - 1)) at q used2 → Entered t t2 used ents nexts ps level at q used2
    lift t2 q used2 ent = subst (λ (m : ℕ). Entered t t2 used ents nexts ps m at q used2) (sym s.one_up) ent

    pub at_stays : r ≡ None → Entered t t1 used ents nexts ps level at r used1
    at_stays is = subst (λ (q : Option ℕ). Entered t t1 used ents nexts ps level at q used1) (sym is) (lift t1 None used1 (stays t used (level - 1) at ps rdy ents nexts t1 used1 (back None is)))

    -- m is the node with its following entry renewed
    module _ {y : ℕ} (rises : r ≡ Some y) (m : Node) (hm : held m ≡ set (held nd) i n) (lm : links m ≡ links nd) where
      abbrev J : ℕ
      J = get_or ps (level - 1) 0

      abbrev X : List Entry
      X = insert (set (held (get_or t at no_node)) J (get_or nexts (level - 1) no_entry)) J (get_or ents (level - 1) no_entry)

      abbrev Z : List ℕ
      Z = insert (links (get_or t at no_node)) (suc J) y

      xs_is : insert (held m) i e ≡ X
      xs_is = rw (hm, s.node, s.place, s.entry, s.next) refl

      zs_is : insert (links m) (i + 1) y ≡ Z
      zs_is = rw (lm, s.node, s.place, add-one J) refl

      pub at_put : nd.count < 7 → (wide : Node) (t2 : List Node) → wide ≡ packed (insert (held m) i e) (insert (links m) (i + 1) y) → t2 ≡ set t1 at wide → Entered t t2 used ents nexts ps level at None used1
      at_put lt wide t2 w is =
          let k : set t1 at (packed X Z) ≡ t2 = sym (rw (is, w, xs_is, zs_is) refl) in
          subst (λ (u : List Node). Entered t u used ents nexts ps level at None used1) k
          (lift (set t1 at (packed X Z)) None used1 (wider t used (level - 1) at ps rdy ents nexts t1 y used1 (back (Some y) rises) (omega (arith, all_held))))

      pub at_split : 7 ≤ nd.count → (left right : Node) (t3 : List Node)
          → left ≡ packed (take 4 (insert (held m) i e)) (take 5 (insert (links m) (i + 1) y)) → right ≡ packed (drop 5 (insert (held m) i e)) (drop 5 (insert (links m) (i + 1) y))
          → t3 ≡ set (set t1 at left) used1 right → Entered t t3 used ents nexts ps level at (Some used1) (used1 + 1)
      at_split h left right t3 wl wr is =
          let u = set (set t1 at (packed (take 4 X) (take 5 Z))) used1 (packed (drop 5 X) (drop 5 Z)) in
          let k : u ≡ t3 = sym (rw (is, wl, wr, xs_is, zs_is) refl) in
          subst (λ (u : List Node). Entered t u used ents nexts ps level at (Some used1) (used1 + 1)) k
          (lift u (Some used1) (used1 + 1) (cut_in_two t used (level - 1) at ps rdy ents nexts t1 y used1 (back (Some y) rises) room_up (full h)))

    -- the node that the right half takes is a new one of the table
    pub at_fresh : {y : ℕ} → r ≡ Some y → 7 ≤ nd.count → (used ≤ used1) × (used1 < length t1)
    at_fresh {y} is h =
        let bk = back (Some y) is in
        let f = new_in_table t used (level - 1) at ps rdy ents nexts t1 y used1 bk room_up (full h) in
        let k = bk.taken in
        let b = build_used used ents nexts ps (level - 1) (tree_of t (level - 1) (child t used (level - 1) at ps rdy)) in
        (omega arith, omega arith)

pub at_empty : {t : List Node} {used : ℕ} {ents nexts : List Entry} {ps : List ℕ} {level at : ℕ} → level ≡ 0 → Ready t used ps level at → Entered t t used ents nexts ps level at (Some 0) used
at_empty {level = zero} z rdy = record { left = refl; linked = refl; taken = refl; frame = λ p lt h. refl; long = refl; packs = rdy.packs; rest = λ p lt. refl }
at_empty {level = suc l} z rdy = absurd (omega arith)
