-- A plan written into a whole tree.
use Rattle.std.proofs.Common.{◌≡◌, ℕ, suc, ◌+◌, ◌<◌, ◌≤◌, Bool, true, false, cond, ltb, List, [], ◌∷◌, length, get_or, set, Some, None, Option, sym, refl, ap, ◌∙◌, subst, add_assoc, arith}
use Rattle.std.proofs.lemmas.List.{get_or-set_other, get_or-set_same, length-set}
use Rattle.std.proofs.lemmas.Bool.Decides.{nat_tests}
use Rattle.growth.proofs.Faithfulness.{entry_faithful}
use Rattle.growth.proofs.Framing.{frame}
use Rattle.growth.proofs.Linking.{between_more, build-reached, build-row, build_used, lifted_up, reached_up}
use Rattle.growth.proofs.Ordering.{entry-placed}
use Rattle.growth.proofs.Placing.{linked_none, linked_some, looser, packed_packs, set_packs}
use Rattle.growth.proofs.Shaping.{built_shape}
use Rattle.growth.proofs.Tracing.{plan_stands}
use Rattle.growth.specs.Commits.{Committed, Entered, Once, Ready, between, tree_at}
use Rattle.growth.specs.Growth.{need, row}
use Rattle.growth.specs.Routes.{Within}
use Rattle.growth.specs.Theorems.{Grows, KeepsFaith}
use Rattle.growth.specs.Writes.{Built, Right, Standing, build, crowned, none, some}
use Rattle.growth.specs.declared.commit.Top.{Top}
use Rattle.keys.specs.Digits.{floor}
use Rattle.nodes.specs.Faith.{Faithful, free}
use Rattle.nodes.specs.Tables.{Packed, no_node, packed, reached, tree_of}
use Rattle.nodes.specs.Trees.{Tree, no_entry, records, shaped}
use Rattle.nodes.specs.declared.node.Entry.{Entry}
use Rattle.nodes.specs.declared.node.Node.{Node}

-- what a plan builds of a tree, and how often each node is reached in it
module _ (t : List Node) (used : ℕ) (ents nexts : List Entry) (ps : List ℕ) (l root : ℕ) (rdy : Ready t used ps l root) where
  abbrev B : Built (Tree l)
  B = build used ents nexts ps l (tree_of t l root)

  abbrev T : Tree l
  T = tree_of t l root

  abbrev top : Top
  top = record { levels = l; root = root; used = used }

  counts : (t1 : List Node) (right : Option ℕ) (used1 : ℕ) → Entered t t1 used ents nexts ps l root right used1 → (p : ℕ)
      → reached p l (tree_of t1 l root) + reached_up p l B.right ≡ reached p l T + between p used used1
  counts t1 right used1 ent p =
      let a = build-reached p used ents nexts ps l 0 T rdy.shape rdy.within in
      let b = ap (reached p l) ent.left in
      let c : between p used used1 ≡ between p used B.used = ap (between p used) ent.taken in
      omega arith

  stays_at_root : (t1 : List Node) (used1 : ℕ) → Entered t t1 used ents nexts ps l root None used1 → Committed t t1 top ents nexts ps (record { levels = l; root = root; used = used1 })
  stays_at_root t1 used1 ent =
      let st : B.right ≡ none = linked_none t1 l B.right ent.linked in
      let rows = build-row used ents nexts ps l T in
      let no : (row ps l T).whole ≡ false = sym rows.0 ∙ ap lifted_up st in
      let z : (row ps l T).nodes ≡ (row ps l T).nodes + 0 = omega arith in
      record {
        tree = ap (λ (z : Tree l). let s : Standing = record { levels = l; tree = z; used = used1 } in s) ent.left
            ∙ (ap (λ (n : ℕ). let s : Standing = record { levels = l; tree = B.left; used = n } in s) ent.taken
            ∙ sym (ap (λ (r : Right (Tree l)). crowned (get_or ents l no_entry) l B.left r B.used) st));
        taken = ent.taken ∙ (rows.1 ∙ ap (λ (k : ℕ). used + k) (z ∙ ap (λ (b : Bool). (row ps l T).nodes + cond b 1 0) (sym no)));
        links = λ p. let a = counts t1 None used1 ent p in let b = ap (reached_up p l) st in omega arith;
        frame = ent.frame;
        rest = ent.rest;
        packs = ent.packs;
        long = ent.long;
      }

  module _ (room : used + need ps l T ≤ length t) (t1 : List Node) (y used1 : ℕ) (ent : Entered t t1 used ents nexts ps l root (Some y) used1) where
    abbrev e : Entry
    e = get_or ents l no_entry

    abbrev N : Node
    N = packed (e ∷ []) (root ∷ (y ∷ []))

    rose : B.right ≡ some (tree_of t1 l y)
    rose = linked_some t1 l B.right y ent.linked

    taken_one : used1 + 1 ≡ used + need ps l T
    taken_one =
        let rows = build-row used ents nexts ps l T in
        let yes : (row ps l T).whole ≡ true = sym rows.0 ∙ ap lifted_up rose in
        ap (λ (k : ℕ). k + 1) (ent.taken ∙ rows.1) ∙ (add_assoc used (row ps l T).nodes 1 ∙ ap (λ (b : Bool). used + ((row ps l T).nodes + cond b 1 0)) (sym yes))

    old_used : used ≤ used1
    old_used = omega (arith, ent.taken, build_used used ents nexts ps l T)

    pub fresh_in : used1 < length t1
    fresh_in = omega (arith, ent.long, taken_one)

    both : (p : ℕ) → reached p l (tree_of t1 l root) + reached p l (tree_of t1 l y) ≡ reached p l T + between p used used1
    both p = let a = counts t1 (Some y) used1 ent p in let b : reached_up p l B.right ≡ reached p l (tree_of t1 l y) = ap (reached_up p l) rose in omega arith

    not_yet : reached used1 l (tree_of t1 l root) + reached used1 l (tree_of t1 l y) ≡ 0
    not_yet =
        let a = both used1 in
        let b = rdy.known used1 old_used in
        let c : between used1 used used1 ≡ 0 = grind (arith, nat_tests) in
        omega arith

    top_tree : tree_of (set t1 used1 N) (suc l) used1 ≡ record { at = used1; entries = e ∷ []; kids = tree_of t1 l root ∷ (tree_of t1 l y ∷ []) }
    top_tree =
        let u = set t1 used1 N in
        let there : get_or u used1 no_node ≡ N = get_or-set_same t1 used1 N no_node fresh_in in
        let fl = frame t1 used1 N l root (omega (arith, not_yet)) in
        let fr = frame t1 used1 N l y (omega (arith, not_yet)) in
        rw there (ap (λ (x : Tree l). record { at = used1; entries = e ∷ []; kids = x ∷ (tree_of u l y ∷ []) }) fl ∙ ap (λ (x : Tree l). record { at = used1; entries = e ∷ []; kids = tree_of t1 l root ∷ (x ∷ []) }) fr)

    crowned_by : Committed t (set t1 used1 N) top ents nexts ps (record { levels = suc l; root = used1; used = used1 + 1 })
    crowned_by = record {
      tree = ap (λ (z : Tree (suc l)). let s : Standing = record { levels = suc l; tree = z; used = used1 + 1 } in s) top_tree
          ∙ (ap (λ (z : Tree l). crowned e l z (some (tree_of t1 l y)) used1) ent.left
          ∙ (ap (λ (n : ℕ). crowned e l B.left (some (tree_of t1 l y)) n) ent.taken
          ∙ sym (ap (λ (r : Right (Tree l)). crowned e l B.left r B.used) rose)));
      taken = taken_one;
      links = λ p.
          let a = both p in
          let b = ap (reached p (suc l)) top_tree in
          let c = between_more p used used1 old_used in
          omega arith;
      frame = λ p lt z. get_or-set_other t1 used1 p N no_node (omega (arith, old_used)) ∙ ent.frame p lt z;
      rest = λ p le. get_or-set_other t1 used1 p N no_node (omega arith) ∙ ent.rest p (omega arith);
      packs = λ p lt. set_packs t1 used1 N fresh_in (packed_packs (e ∷ []) (root ∷ (y ∷ [])) refl (omega arith)) p (λ h. ent.packs p (omega arith));
      long = length-set t1 used1 N ∙ ent.long;
    }

    rises_to_root : (t2 : List Node) → t2 ≡ set t1 used1 N → Committed t t2 top ents nexts ps (record { levels = l + 1; root = used1; used = used1 + 1 })
    rises_to_root t2 is =
        let one : suc l ≡ l + 1 = omega arith in
        subst (λ (z : List Node). Committed t z top ents nexts ps (record { levels = l + 1; root = used1; used = used1 + 1 })) (sym is)
        (subst (λ (m : ℕ). Committed t (set t1 used1 N) top ents nexts ps (record { levels = m; root = used1; used = used1 + 1 })) one crowned_by)

-- what the contract of a commit says
pub record Holds (t t1 : List Node) (top : Top) (ents nexts : List Entry) (ps : List ℕ) (top' : Top) : Type 0 where
  pub written : Committed t t1 top ents nexts ps top'
  pub once : Once t top → Once t1 top'
  pub shape : shaped top.levels 1 (tree_at t top) ≡ true → shaped top'.levels 1 (tree_at t1 top') ≡ true
  pub growth : Grows t t1 top ents nexts ps top'
  pub faith : KeepsFaith t t1 top ents nexts ps top'

holds : (t t1 : List Node) (top top' : Top) (ents nexts : List Entry) (ps : List ℕ) → Within ps top.levels (tree_at t top) → Committed t t1 top ents nexts ps top' → Holds t t1 top ents nexts ps top'
holds t t1 top top' ents nexts ps within w =
    let grows : Grows t t1 top ents nexts ps top' = λ v x o es a p. w.tree ∙ plan_stands v top.used x o es ps ents nexts top.levels (tree_at t top) a p within in
    record {
      written = w;
      once = λ h p.
          let a = w.links p in
          let b = h p in
          let c = w.taken in
          let s : cond (ltb p top.used) 1 0 + between p top.used top'.used ≡ cond (ltb p top'.used) 1 0 = grind (arith, nat_tests) in
          omega arith;
      shape = λ h. subst (λ (s : Standing). shaped s.levels 1 s.tree ≡ true) (sym w.tree) (built_shape top.used ents nexts ps top.levels (tree_at t top) h within);
      growth = grows;
      faith = λ v x o es a p bd f r. (
        subst (λ (s : Standing). Faithful v s.levels floor free s.tree) (sym (grows v x o es a p)) (entry_faithful v top.used x o ps top.levels floor (tree_at t top) bd f r),
        λ h. ap (λ (s : Standing). records s.levels s.tree) (grows v x o es a p) ∙ entry-placed v top.used x o ps top.levels floor (tree_at t top) bd h f r,
      );
    }

-- by what was written below the root
module _ (top : Top) {t t1 : List Node} {ents nexts : List Entry} {ps : List ℕ} {right : Option ℕ} {used1 : ℕ} (rdy : Ready t top.used ps top.levels top.root) (came : Entered t t1 top.used ents nexts ps top.levels top.root right used1) where
  below : (r : Option ℕ) → right ≡ r → Entered t t1 top.used ents nexts ps top.levels top.root r used1
  below r e = subst (λ (r : Option ℕ). Entered t t1 top.used ents nexts ps top.levels top.root r used1) e came

  pub root_stays : right ≡ None → Holds t t1 top ents nexts ps (record { levels = top.levels; root = top.root; used = used1 })
  root_stays e =
      holds t t1 top (record { levels = top.levels; root = top.root; used = used1 }) ents nexts ps rdy.within (stays_at_root t top.used ents nexts ps top.levels top.root rdy t1 used1 (below None e))

  -- the node that a new root takes is a new one of the table
  pub root_fresh : {y : ℕ} → right ≡ Some y → top.used + need ps top.levels (tree_at t top) ≤ length t → (top.used ≤ used1) × (used1 < length t1)
  root_fresh {y} e room = (
    old_used t top.used ents nexts ps top.levels top.root rdy room t1 y used1 (below (Some y) e),
    fresh_in t top.used ents nexts ps top.levels top.root rdy room t1 y used1 (below (Some y) e),
  )

  pub root_rises : {y : ℕ} → right ≡ Some y → top.used + need ps top.levels (tree_at t top) ≤ length t → (t2 : List Node) → t2 ≡ set t1 used1 (packed (get_or ents top.levels no_entry ∷ []) (top.root ∷ (y ∷ [])))
      → Holds t t2 top ents nexts ps (record { levels = top.levels + 1; root = used1; used = used1 + 1 })
  root_rises {y} e room t2 is =
      holds t t2 top (record { levels = top.levels + 1; root = used1; used = used1 + 1 }) ents nexts ps rdy.within
      (rises_to_root t top.used ents nexts ps top.levels top.root rdy room t1 y used1 (below (Some y) e) t2 is)

-- what an index keeps of its table makes it ready for a plan
pub ready_by : (t : List Node) (top : Top) (ps : List ℕ) → shaped top.levels 1 (tree_at t top) ≡ true → Within ps top.levels (tree_at t top) → Once t top → top.used ≤ length t → length t < 65536
    → ((p : ℕ) → p < top.used → Packed (get_or t p no_node)) → Ready t top.used ps top.levels top.root
ready_by t top ps shape within once fits few packs = record {
  shape = looser top.levels 1 (tree_at t top) shape;
  within = within;
  once = λ p. let o = once p in grind (arith, nat_tests);
  known = λ p h. let o = once p in grind (arith, nat_tests);
  fits = fits;
  few = few;
  packs = packs;
}
