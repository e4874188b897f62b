-- The records of a node and of the trees under it, one after the other.
use Rattle.std.proofs.Common.{◌≡◌, ℕ, zero, suc, ◌+◌, ◌-◌, ◌<◌, ◌≤◌, List, [], ◌∷◌, ◌++◌, map, length, get_or, take, drop, Iter, Some, None, Option, sym, refl, ap, ◌∙◌, subst, arith}
use denote.Ref.{Bor}
use Rattle.std.proofs.iter.Yields.{fronts}
use Rattle.std.proofs.lemmas.Iterator.{zips}
use Rattle.std.proofs.lemmas.Slice.Zip.{zip_end, zip_turn}
use Rattle.std.specs.Iterator.{Yields}
use Rattle.std.specs.Iterator.Adapters.{zip_first, zip_second}
use Rattle.std.specs.Slice.Iter.{iter_rest}
use Rattle.std.specs.declared.iter.Zip.{Zip}
use Rattle.std.proofs.lemmas.List.{append_assoc, append-nil, get_or-drop, get_or-map, get_or-take, length-drop, length-map, length-take, take_all}
use Rattle.descent.proofs.Filling.{add_more}
use Rattle.descent.proofs.Trailing.{readable_kid, readable_old}
use Rattle.descent.specs.Reading.{Adds, Readable, records_after}
use Rattle.descent.specs.declared.walk.Walked.{Walked}
use Rattle.nodes.proofs.Shapes.{links_long}
use Rattle.nodes.specs.Tables.{Packed, held, links, no_node, tree_of}
use Rattle.nodes.specs.Trees.{no_entry, records, weave}
use Rattle.nodes.specs.declared.node.Entry.{Entry}
use Rattle.nodes.specs.declared.node.Node.{Node}
use Rattle.search.specs.Walk.{after_place}

-- one entry more, and the list after it
weave_more : (k : ℕ) (es : List Entry) (fs : List (List ℕ)) → k < length es → length fs ≡ length es + 1 → weave (take (suc k) es) fs ≡ weave (take k es) fs ++ ((get_or es k no_entry).number ∷ get_or fs (suc k) [])
weave_more k [] fs lt e = absurd (omega arith)
weave_more k (x ∷ es) [] lt e = absurd (omega arith)
weave_more k (x ∷ es) (f ∷ []) lt e = absurd (omega arith)
weave_more zero (x ∷ es) (f ∷ (g ∷ gs)) lt e = refl
weave_more (suc k) (x ∷ es) (f ∷ (g ∷ gs)) lt e =
    ap (λ zs. f ++ (x.number ∷ zs)) (weave_more k es (g ∷ gs) (omega arith) (omega arith)) ∙ sym (append_assoc f (x.number ∷ weave (take k es) (g ∷ gs)) ((get_or es k no_entry).number ∷ get_or (g ∷ gs) (suc k) []))

after_more : (q k : ℕ) (es : List Entry) (fs : List (List ℕ)) → q ≤ k → k < length es → length fs ≡ length es + 1 →
    after_place q (take (suc k) es) fs ≡ after_place q (take k es) fs ++ ((get_or es k no_entry).number ∷ get_or fs (suc k) [])
after_more q k [] fs le lt e = absurd (omega arith)
after_more q k (x ∷ es) [] le lt e = absurd (omega arith)
after_more q k (x ∷ es) (f ∷ []) le lt e = absurd (omega arith)
after_more zero zero (x ∷ es) (f ∷ (g ∷ gs)) le lt e = refl
after_more zero (suc k) (x ∷ es) (f ∷ (g ∷ gs)) le lt e = ap (λ zs. x.number ∷ zs) (weave_more k es (g ∷ gs) (omega arith) (omega arith))
after_more (suc q) zero (x ∷ es) (f ∷ (g ∷ gs)) le lt e = absurd (omega arith)
after_more (suc q) (suc k) (x ∷ es) (f ∷ (g ∷ gs)) le lt e = after_more q k es (g ∷ gs) (omega arith) (omega arith) (omega arith)

after_none : (q : ℕ) (es : List Entry) (fs : List (List ℕ)) → after_place q (take q es) fs ≡ []
after_none zero es fs = refl
after_none (suc q) [] fs = refl
after_none (suc q) (x ∷ es) [] = refl
after_none (suc q) (x ∷ es) (f ∷ fs) = after_none q es fs

weave_first : (es : List Entry) (fs : List (List ℕ)) → 0 < length fs → weave es fs ≡ get_or fs 0 [] ++ after_place 0 es fs
weave_first es [] lt = absurd (omega arith)
weave_first [] (f ∷ fs) lt = sym (append-nil f)
weave_first (x ∷ es) (f ∷ fs) lt = refl

-- the records after a place of a node, up to another
abbrev pub lists : List Node → (l : ℕ) → Node → List (List ℕ)
lists table l n = map (records l) (map (tree_of table l) (links n))

abbrev pub part : List Node → (l : ℕ) → Node → (q k : ℕ) → List ℕ
part table l n q k = after_place q (take k (held n)) (lists table l n)

-- the turn k of a loop over the entries of a node from its place q on, each with the child after it
pub record TurnAt (n : Node) (q k : ℕ) (e : Entry) (child : ℕ) : Type 0 where
  pub within : q + k < n.count
  pub entry : e ≡ get_or n.entries (q + k) no_entry
  pub kid : child ≡ get_or n.children (q + k + 1) 0

-- a node that can be read, with l levels under it
pub record At (table : List Node) (used l at : ℕ) (n : Node) : Type 0 where
  pub is : n ≡ get_or table at no_node
  pub reads : Readable table used (suc l) at

module _ {table : List Node} {used l at : ℕ} {n : Node} (a : At table used l at n) where
  pub at_within : at < used
  at_within = readable_old a.reads

  pub at_clean : Packed (get_or table at no_node)
  at_clean = a.reads.packs at at_within

  pub at_long : n.count ≡ length (held n)
  at_long = subst (λ (z : Node). z.count ≡ length (held z)) (sym a.is) (ap (λ (z : Node). z.count) at_clean.1)

  at_links : length (links n) ≡ length (held n) + 1
  at_links = subst (λ (z : Node). length (links z) ≡ length (held z) + 1) (sym a.is) (links_long table l 0 at a.reads.shape)

  at_lists : length (lists table l n) ≡ length (held n) + 1
  at_lists = length-map (map (tree_of table l) (links n)) (records l) ∙ (length-map (links n) (tree_of table l) ∙ at_links)

  pub at_kid : (k : ℕ) → k ≤ n.count → Readable table used l (get_or n.children k 0)
  at_kid k le = subst (λ (z : Node). Readable table used l (get_or z.children k 0)) (sym a.is) (readable_kid a.reads k (subst (λ (z : Node). k ≤ length (held z)) a.is (omega (arith, at_long))))

  list_at : (k : ℕ) → k ≤ length (held n) → k < n.count + 1 → get_or (lists table l n) k [] ≡ records l (tree_of table l (get_or n.children k 0))
  list_at k le lt =
      let m = length-map (links n) (tree_of table l) in
      get_or-map (records l) (map (tree_of table l) (links n)) k (tree_of table l 0) [] (omega (arith, at_links))
      ∙ (ap (records l) (get_or-map (tree_of table l) (links n) k 0 (tree_of table l 0) (omega (arith, at_links))) ∙ ap (λ c. records l (tree_of table l c)) (get_or-take (n.count + 1) n.children k 0 lt))

  part_more : (q k : ℕ) → q ≤ k → k < n.count →
      part table l n q (k + 1) ≡ part table l n q k ++ (((get_or n.entries k no_entry).number ∷ []) ++ records l (tree_of table l (get_or n.children (k + 1) 0)))
  part_more q k le lc =
      let one : k + 1 ≡ suc k = omega arith in
      let long = at_long in
      let e : get_or (held n) k no_entry ≡ get_or n.entries k no_entry = get_or-take n.count n.entries k no_entry lc in
      let f : get_or (lists table l n) (suc k) [] ≡ records l (tree_of table l (get_or n.children (k + 1) 0)) = ap (λ j. get_or (lists table l n) j []) (sym one) ∙ list_at (k + 1) (omega arith) (omega arith) in
      ap (part table l n q) one ∙ (after_more q k (held n) (lists table l n) le (omega arith) at_lists ∙ (ap (λ z. part table l n q k ++ (z.number ∷ get_or (lists table l n) (suc k) [])) e ∙ ap (λ z. part table l n q k ++ ((get_or n.entries k no_entry).number ∷ z)) f))

  -- a turn of a walk: an entry, and the tree after it
  pub walk_more : (q k : ℕ) {list list1 list2 list3 : List ℕ} {w w1 w2 w3 : Walked} → q ≤ k → k < n.count → Adds (part table l n q k) list w list1 w1 →
      Adds ((get_or n.entries k no_entry).number ∷ []) list1 w1 list2 w2 → Adds (records l (tree_of table l (get_or n.children (k + 1) 0))) list2 w2 list3 w3 → Adds (part table l n q (k + 1)) list w list3 w3
  walk_more q k {list} {list1} {list2} {list3} {w} {w1} {w2} {w3} le lt h p s =
      let r = (get_or n.entries k no_entry).number ∷ [] in
      let f = records l (tree_of table l (get_or n.children (k + 1) 0)) in
      subst (λ (z : List ℕ). Adds z list w list3 w3) (sym (part_more q k le lt))
      (add_more (part table l n q k) (r ++ f) list list1 list3 w w1 w3 h (add_more r f list1 list2 list3 w1 w2 w3 p s))

  pub part_all : (q k : ℕ) → k ≡ n.count → part table l n q k ≡ records_after table l at q
  part_all q k e = ap (λ es. after_place q es (lists table l n)) (take_all k (held n) (omega (arith, at_long))) ∙ ap (λ (z : Node). after_place q (held z) (lists table l z)) a.is

  part_first : records (suc l) (tree_of table (suc l) at) ≡ records l (tree_of table l (get_or n.children 0 0)) ++ records_after table l at 0
  part_first =
      ap (λ (z : Node). weave (held z) (lists table l z)) (sym a.is)
      ∙ (weave_first (held n) (lists table l n) (omega (arith, at_lists)) ∙ (ap (λ z. z ++ after_place 0 (held n) (lists table l n)) (list_at 0 (omega arith) (omega arith))
      ∙ ap (λ (z : Node). records l (tree_of table l (get_or n.children 0 0)) ++ after_place 0 (held z) (lists table l z)) a.is))

  -- the whole tree: its first kid, and what comes after
  walk_both : {list list1 list2 : List ℕ} {w w1 w2 : Walked} → Adds (records l (tree_of table l (get_or n.children 0 0))) list w list1 w1 → Adds (records_after table l at 0) list1 w1 list2 w2 → Adds (records (suc l) (tree_of table (suc l) at)) list w list2 w2
  walk_both {list} {list1} {list2} {w} {w1} {w2} h g =
      subst (λ (zs : List ℕ). Adds zs list w list2 w2) (sym part_first) (add_more (records l (tree_of table l (get_or n.children 0 0))) (records_after table l at 0) list list1 list2 w w1 w2 h g)

  -- A loop over the entries from place q on, each with the child after it, which has yielded xs: where its turn is, and how many
  -- turns it takes.
  module _ {q b f : ℕ} (xs : List (Bor Entry × Bor ℕ)) (s t u : Zip (Iter Entry) (Iter ℕ)) (r : Option (Bor Entry × Bor ℕ)) (fs : f ≡ q) (bs : b ≡ n.count)
      (first : iter_rest (zip_first s) ≡ take (b - f) (drop f n.entries)) (second : iter_rest (zip_second s) ≡ take (b + 1 - (f + 1)) (drop (f + 1) n.children)) (y : Yields (zips fronts fronts) s xs t) (step : zips fronts fronts t r u) where
    pub turn_at : (p : Bor Entry × Bor ℕ) → r ≡ Some p → TurnAt n q (length xs) p.0.now p.1.now
    turn_at p is =
        let k = length xs in
        let z = zip_turn _ _ xs s t u r first second y p is step in
        let x : k < b - f = omega (arith, z.0, length-take (b - f) (drop f n.entries)) in
        let i : f + 1 + k ≡ q + k + 1 = omega arith in
        record {
          within = omega arith;
          entry = z.2 no_entry ∙ (get_or-take (b - f) (drop f n.entries) k no_entry x ∙ (get_or-drop f n.entries k no_entry ∙ ap (λ j. get_or n.entries (j + k) no_entry) fs));
          kid = z.3 0 ∙ (get_or-take (b + 1 - (f + 1)) (drop (f + 1) n.children) k 0 (omega arith) ∙ (get_or-drop (f + 1) n.children k 0 ∙ ap (λ j. get_or n.children j 0) i));
        }

    pub turns_all : q ≤ length (held (get_or table at no_node)) → r ≡ None → q + length xs ≡ n.count
    turns_all le none =
        let e = zip_end _ _ xs s t u r first second y none step in
        let long = at_long in
        let le : q ≤ length (held n) = rw a.is le in
        let x = length-take (b - f) (drop f n.entries) in
        let y = length-drop f n.entries in
        let z = length-take (b + 1 - (f + 1)) (drop (f + 1) n.children) in
        let u = length-drop (f + 1) n.children in
        let v = length-take n.count n.entries in
        let w = length-take (n.count + 1) n.children in
        omega (arith, at_links)

pub part_none : (table : List Node) (l : ℕ) (n : Node) (q : ℕ) → part table l n q q ≡ []
part_none table l n q = after_none q (held n) (lists table l n)

-- as the code counts levels
pub at_down : {table : List Node} {used level at : ℕ} {n : Node} → Readable table used level at → 0 < level → n ≡ get_or table at no_node → At table used (level - 1) at n
at_down {table} {used} {level} {at} r pos is = let e : level ≡ suc (level - 1) = omega arith in record { is = is; reads = subst (λ (z : ℕ). Readable table used z at) e r }

pub walk_whole : {table : List Node} {used level at : ℕ} {n : Node} {list list1 list2 : List ℕ} {w w1 w2 : Walked} → At table used (level - 1) at n → 0 < level →
    Adds (records (level - 1) (tree_of table (level - 1) (get_or n.children 0 0))) list w list1 w1 → Adds (records_after table (level - 1) at 0) list1 w1 list2 w2 → Adds (records level (tree_of table level at)) list w list2 w2
walk_whole {table = table} {level = level} {at = at} {list = list} {list2 = list2} {w = w} {w2 = w2} a pos h g =
    let up : level ≡ suc (level - 1) = omega arith in
    subst (λ (z : ℕ). Adds (records z (tree_of table z at)) list w list2 w2) (sym up) (walk_both a h g)
