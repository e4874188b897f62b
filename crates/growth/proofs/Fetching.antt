-- The records fetched as a tree grows: all of them of the tree.
use Rattle.std.proofs.Common.{◌≡◌, ℕ, zero, suc, ◌*◌, ◌<◌, ◌≤◌, Bool, true, false, cond, eqb, ltb, ◌⊎◌, List, [], ◌∷◌, ◌++◌, map, length, get_or, set, sym, refl, subst, inl, inr, ⊎_elim, arith}
use Rattle.std.specs.List.{ContainsAt as Has, insert, AllByRecursion}
use Rattle.std.proofs.ByRecursion.{All-append, All-get_or, All-weaker, all_has_itself}
use Rattle.std.proofs.lemmas.List.{get_or-map, length-map}
use Rattle.std.proofs.lemmas.Bool.{eqb-false, ltb-false}
use Rattle.growth.proofs.Faithfulness.{put_long}
use Rattle.growth.proofs.Ordering.{entry_adds, follow-number, grow_adds, out_order}
use Rattle.growth.proofs.Shaping.{grow_reads, grow-row, grow_shapes, topped_reads, topped_shape, topped_taken}
use Rattle.growth.specs.Growth.{Up, asked, grow, join, parted, put, rise, row, stay}
use Rattle.growth.specs.Orders.{Added, first, later}
use Rattle.growth.specs.Routes.{Within}
use Rattle.growth.specs.Theorems.{EntryLawful}
use Rattle.nodes.proofs.Shapes.{kid_shaped, knot_parts}
use Rattle.nodes.proofs.Weaves.{all_back, woven_kid}
use Rattle.nodes.specs.Faith.{View}
use Rattle.nodes.specs.Trees.{Knot, Tree, bare, no_entry, records, shaped, weave}
use Rattle.nodes.specs.declared.node.Entry.{Entry}

pub all_added : (P : ℕ → Type 0) (x : ℕ) (xs ys : List ℕ) → Added x xs ys → P x → AllByRecursion P xs → AllByRecursion P ys
all_added P x us ws first p a = (p, a)
all_added P x us ws (later {y} {xs} {ys} i) p a = (a.0, all_added P x xs ys i p a.1)

abbrev Numbers : (ℕ → Type 0) → List Entry → Type 0
Numbers P es = AllByRecursion (λ (e : Entry). P e.number) es

weave_numbers : (P : ℕ → Type 0) (es : List Entry) (fs : List (List ℕ)) → AllByRecursion P (weave es fs) → Numbers P es
weave_numbers P [] fs a = tt
weave_numbers P (e ∷ es) [] a = (a.0, weave_numbers P es [] a.1)
weave_numbers P (e ∷ es) (f ∷ fs) a = let b = all_back P f (e.number ∷ weave es fs) a in (b.0, weave_numbers P es fs b.1)

put_numbers : (P : ℕ → Type 0) (v : View) (r o i : ℕ) (es : List Entry) → P r → Numbers P es → Numbers P (put v r o i es)
put_numbers P v r o zero [] p a = (p, tt)
put_numbers P v r o zero (e ∷ es) p a = (p, (subst P (sym (follow-number v r o e)) a.0, a.1))
put_numbers P v r o (suc i) [] p a = (p, tt)
put_numbers P v r o (suc i) (e ∷ es) p a = (a.0, put_numbers P v r o i es p a.1)

all_asked : (P : ℕ → Type 0) (o i : ℕ) (es : List Entry) → Numbers P es → AllByRecursion P (asked o i es)
all_asked P o i [] a = tt
all_asked P o zero (e ∷ es) a = go (eqb e.partial.offset o)
  where
    go : (b : Bool) → AllByRecursion P (cond b (e.number ∷ []) [])
    go true = (a.0, tt)
    go false = tt
all_asked P o (suc i) (e ∷ es) a = all_asked P o i es a.1

-- what is in a node is of the old tree or the new record, which is not fetched
module _ (P : ℕ → Type 0) (x : ℕ) where
  abbrev OrNew : ℕ → Type 0
  OrNew r = P r ⊎ (r ≡ x)

  parted_known : {T : Type 0} (b : Bool) (at : ℕ) (es : List Entry) (ks : List T) (u : ℕ) (f : List ℕ) → (b ≡ false → 8 ≤ length es) → Numbers OrNew es → AllByRecursion P f → AllByRecursion P (parted x b at es ks u f).fetched
  parted_known true at es ks u f big a k = k
  parted_known false at es ks u f big a k = go (eqb (get_or es 4 no_entry).number x) refl
    where
      go : (b : Bool) → eqb (get_or es 4 no_entry).number x ≡ b → AllByRecursion P (f ++ cond b [] ((get_or es 4 no_entry).number ∷ []))
      go true h = All-append P f [] k tt
      go false h = All-append P f ((get_or es 4 no_entry).number ∷ []) k (
        ⊎_elim (λ (p : P (get_or es 4 no_entry).number). p) (λ (e : (get_or es 4 no_entry).number ≡ x). absurd (eqb-false (get_or es 4 no_entry).number x h e))
            (All-get_or (λ (e : Entry). OrNew e.number) es 4 no_entry (let e8 = big refl in omega arith) a),
        tt,
      )

  join_known : (v : View) (l : ℕ) (k : Knot (Tree l)) (i : ℕ) (left : Tree l) (up : Up (Tree l)) (u : ℕ) (f : List ℕ) → Numbers P k.entries → AllByRecursion OrNew (out_order l left up) → AllByRecursion P f → AllByRecursion P (join v x k i left up u f).fetched
  join_known v l k i left stay u f a b h = h
  join_known v l k i left (rise r o t) u f a b h =
      let el = put_long v r o i k.entries in
      let old : Numbers OrNew k.entries = All-weaker (λ (e : Entry). P e.number) (λ (e : Entry). OrNew e.number) (λ e p. inl p) k.entries a in
      parted_known (ltb (length k.entries) 7) k.at (put v r o i k.entries) (insert (set k.kids i left) (suc i) t) u (f ++ asked o i k.entries)
      (λ d. let g = ltb-false (length k.entries) 7 d in omega arith) (put_numbers OrNew v r o i k.entries (all_back OrNew (records l left) (r ∷ records l t) b).0 old)
      (All-append P f (asked o i k.entries) h (all_asked P o i k.entries a))

  grow_known : (v : View) (used o : ℕ) (ps : List ℕ) (l low : ℕ) (t : Tree l) → shaped l low t ≡ true → Within ps l t → AllByRecursion P (records l t) → AllByRecursion P (grow v used x o ps l t).fetched
  grow_known v used o ps zero low t h w a = tt
  grow_known v used o ps (suc l) low t h w a =
      let i = get_or ps l 0 in
      let q = knot_parts l low t h in
      let kid = get_or t.kids i (bare l) in
      let g = grow v used x o ps l kid in
      let fs = map (records l) t.kids in
      let lm = length-map t.kids (records l) in
      let lt : i < length t.kids = omega (arith, q.many, w.0) in
      let sh = kid_shaped q i w.0 in
      let ka : AllByRecursion P (records l kid) = subst (AllByRecursion P) (get_or-map (records l) t.kids i (bare l) [] lt) (woven_kid P i t.entries fs (omega (arith, q.many)) w.0 a) in
      join_known v l t i g.left g.up g.used g.fetched (weave_numbers P t.entries fs a)
      (all_added OrNew x (records l kid) (out_order l g.left g.up) (grow_adds v used x o ps l 3 kid sh w.1) (inr refl) (All-weaker P OrNew (λ r p. inl p) (records l kid) ka))
      (grow_known v used o ps l 3 kid sh w.1 ka)

pub entry_lawful : EntryLawful
entry_lawful v used x o ps l t h w =
    let g = grow v used x o ps l t in
    let r = grow-row v used x o ps l t in
    let fe = topped_reads v l g.left g.up g.used g.fetched in
    record {
      shape = topped_shape v l g.left g.up g.used g.fetched (grow_shapes v used x o ps l 1 t h w);
      adds = entry_adds v used x o ps l t h w;
      taken = topped_taken v l g.left g.up g.used g.fetched used (row ps l t) r.0 r.1;
      reads = subst (λ (zs : List ℕ). length zs ≤ 2 * l) (sym fe) (grow_reads v used x o ps l t);
      known = subst (AllByRecursion (Has (records l t))) (sym fe) (grow_known (Has (records l t)) x v used o ps l 1 t h w (all_has_itself (records l t)));
    }
