-- The records from the searched place on are those whose keys are not below.
use Rattle.std.proofs.Common.{◌≡◌, ℕ, zero, suc, ◌+◌, ◌<◌, ◌≤◌, ◌⊎◌, List, [], ◌∷◌, ◌++◌, map, length, get_or, Some, Option, sym, refl, ap, ◌∙◌, subst, inl, inr, append_assoc, arith}
use Rattle.std.proofs.lemmas.List.{get_or-map, length-map}
use Rattle.std.specs.List.{AllByRecursion}
use Rattle.keys.specs.Digits.{Above, Agree, Below, Digits, floor}
use Rattle.keys.specs.declared.comparison.Comparison.{Comparison}
use Rattle.nodes.proofs.Weaves.{woven_kid}
use Rattle.nodes.specs.declared.node.Entry.{Entry}
use Rattle.nodes.specs.Faith.{Ceiling, Faithful, View, free}
use Rattle.nodes.specs.Trees.{Tree, bare, no_entry, records, weave}
use Rattle.search.specs.NodeLaw.{LeadsRight, Right, Tells}
use Rattle.search.specs.Parts.{parts_of}
use Rattle.search.specs.PlainList.{not_below}
use Rattle.search.specs.Placing.{looked, settled}
use Rattle.search.specs.TreeLaw.{FitsView, OfBits, WalkRight, tells}
use Rattle.search.specs.Walk.{after_place, rest, rest_answered, rest_onward, rest_stepped}
use Rattle.search.specs.declared.place.Placement.{Placement}
use Rattle.search.specs.declared.place.Placement.TheVariants.{Found, Place}
use Rattle.search.specs.declared.place.Step.{Step}
use Rattle.search.specs.declared.place.Step.TheVariants.{Ask, Known}
use Rattle.search.proofs.Comparing.{above_same, below_same, compared_true}
use Rattle.search.proofs.Ladder.{ladder, ladder_key, strung_kid, strung_long, strung_node}
use Rattle.search.proofs.NodeRight.{look_right}
use Rattle.search.proofs.Plainly.{drops, equal, over_floor, remain}
use Rattle.search.proofs.Rising.{AllAbove, Rising, faithful_rising, greater_all, greater_from, rising_drop, smaller_all}
use Rattle.search.proofs.Weaves.{Cut, StartsAbove, cut, joined, starts_append, top, top_append, woven_entry}

-- ys begins with a record whose key is s
abbrev BeginsWith : View → (N : ℕ) → Digits → List ℕ → Type 0
BeginsWith v N s ys = (r : ℕ) × (zs : List ℕ) × (ys ≡ r ∷ zs) × Agree s (v.key r) N

-- ys is the end of xs from s on
record Tail (v : View) (N : ℕ) (s : Digits) (xs : List ℕ) (base : Digits) (ys : List ℕ) : Type 0 where
  before : List ℕ
  whole : xs ≡ before ++ ys
  parts : (Below (top v base before) s × StartsAbove v s ys) ⊎ BeginsWith v N s ys

after_begins : (i : ℕ) (es : List Entry) (fs : List (List ℕ)) → length fs ≡ length es + 1 → i < length es → (zs : List ℕ) × (after_place i es fs ≡ (get_or es i no_entry).number ∷ zs)
after_begins i [] fs l h = absurd (omega arith)
after_begins i (e ∷ es) [] l h = absurd (omega arith)
after_begins zero (e ∷ es) (f ∷ fs) l h = (weave es fs, refl)
after_begins (suc i) (e ∷ es) (f ∷ fs) l h = after_begins i es fs (omega arith) (omega arith)

lift : (v : View) (N : ℕ) (s base : Digits) (q : ℕ) (es : List Entry) (fs : List (List ℕ)) → Cut v base q es fs → (q < length es → Below s (ladder v base es (suc q))) → (ys : List ℕ) →
    Tail v N s (get_or fs q []) (ladder v base es q) ys → Tail v N s (weave es fs) base (ys ++ after_place q es fs)
lift v N s base q es fs c over ys h = subst (λ zs. Tail v N s (weave es fs) base (ys ++ zs)) c.tail (record {
  before = c.before ++ h.before;
  whole = joined v base q es fs c h.before ys h.whole;
  parts = go h.parts;
})
  where
    go : (Below (top v (ladder v base es q) h.before) s × StartsAbove v s ys) ⊎ BeginsWith v N s ys →
        (Below (top v base (c.before ++ h.before)) s × StartsAbove v s (ys ++ c.after)) ⊎ BeginsWith v N s (ys ++ c.after)
    go (inl b) = inl (subst (λ k. Below k s) (ap (λ k. top v k h.before) (sym c.peak) ∙ sym (top_append v base c.before h.before)) b.0, starts_append v s ys c.after b.1 (c.starts s over))
    go (inr b) = inr (b.0, b.1 ++ c.after, ap (λ zs. zs ++ c.after) b.2, b.3)

module _ (v : View) (N : ℕ) (s : Digits) (fetch : ℕ → Option Comparison) (tell : ℕ → Comparison) (small : (r j : ℕ) → v.key r j ≤ 1) (told : (r : ℕ) → Tells N s (v.key r) (tell r)) where
  abbrev At : List ℕ → Type 0
  At rs = AllByRecursion (λ r. fetch r ≡ Some (tell r)) rs

  abbrev Follows : (l : ℕ) → Type 0
  Follows l = (t : Tree l) (base : Digits) (c : Ceiling) (o : ℕ) → Faithful v l base c t → At (records l t) → Above s base o → Tail v N s (records l t) base (rest s fetch l t o)

  module _ (l : ℕ) (ih : Follows l) (t : Tree (suc l)) (base : Digits) (c : Ceiling) (h : Faithful v (suc l) base c t) (g : At (records (suc l) t)) where
    long : length (map (records l) t.kids) ≡ length t.entries + 1
    long = length-map t.kids (records l) ∙ strung_long (Tree l) v (Faithful v l) base c t.entries t.kids h

    onward_right : (x : Placement) → Right N (length t.entries) (ladder v base t.entries) s x →
        Tail v N s (records (suc l) t) base (rest_onward (rest s fetch l) (records l) (bare l) t.entries t.kids x)
    onward_right (Place q o) p =
        let es = t.entries in
        let fs = map (records l) t.kids in
        let le : q ≤ length es = p.within in
        let kid = get_or t.kids q (bare l) in
        let e : get_or fs q [] ≡ records l kid = get_or-map (records l) t.kids q (bare l) [] (omega (arith, long, length-map t.kids (records l))) in
        let w = strung_kid (Tree l) v (Faithful v l) (bare l) base c es t.kids h q le in
        let at = subst At e (woven_kid (λ r. fetch r ≡ Some (tell r)) q es fs long le g) in
        lift v N s base q es fs (cut v base q es fs long le) p.over (rest s fetch l kid o)
        (subst (λ zs. Tail v N s zs (ladder v base es q) (rest s fetch l kid o)) (sym e) (ih kid (ladder v base es q) w.0 o w.1 at p.under))
    onward_right (Found i) p =
        let es = t.entries in
        let fs = map (records l) t.kids in
        let lt : i < length es = p.0 in
        let u = cut v base i es fs long (omega arith) in
        let w = after_begins i es fs long lt in
        record {
          before = u.before ++ get_or fs i [];
          whole = u.whole ∙ (ap (λ zs. u.before ++ (get_or fs i [] ++ zs)) u.tail ∙ sym (append_assoc u.before (get_or fs i []) (after_place i es fs)));
          parts = inr ((get_or es i no_entry).number, w.0, w.1, subst (λ k. Agree s k N) (ladder_key v base es i lt) p.1);
        }

    stepped_right : (x : Step) → LeadsRight N (length t.entries) (ladder v base t.entries) (parts_of t.entries) s x →
        Tail v N s (records (suc l) t) base (rest_stepped fetch (rest s fetch l) (records l) (bare l) t.entries t.kids x)
    stepped_right (Known q o) p = onward_right (Place q o) p
    stepped_right (Ask high i) p =
        let es = t.entries in
        let r = (get_or es i no_entry).number in
        let e : fetch r ≡ Some (tell r) = woven_entry (λ x. fetch x ≡ Some (tell x)) i es (map (records l) t.kids) long p.0 g in
        subst (λ z. Tail v N s (records (suc l) t) base (rest_answered (λ x. rest_onward (rest s fetch l) (records l) (bare l) es t.kids (settled (parts_of es) high i x)) z)) (sym e)
        (onward_right (settled (parts_of es) high i (tell r)) (p.1 (tell r) (subst (λ k. Tells N s k (tell r)) (sym (ladder_key v base es i p.0)) (told r))))

  rest_right : (l : ℕ) → Follows l
  rest_right zero t base c o h g u = record { before = []; whole = refl; parts = inl ((o, u), tt) }
  rest_right (suc l) t base c o h g u =
      let es = t.entries in
      stepped_right l (rest_right l) t base c h g (looked s (parts_of es) (length es) o)
      (look_right N (length es) o (ladder v base es) (parts_of es) s (strung_node (Tree l) v (Faithful v l) small base c es t.kids h) u)

module _ (v : View) (s : Digits) (of : OfBits v) (fit : FitsView v s) where
  -- the keys after one that equals s are greater
  after_equal : (r : ℕ) (zs : List ℕ) → Agree s (v.key r) (v.last + 1) → Rising v (v.key r) zs → AllAbove v s zs
  after_equal r [] a h = tt
  after_equal r (y ∷ ys) a h = let c = above_same v.last s (v.key r) fit.past (of.past r) (v.key y) a h.0 in (c, greater_from v s (v.key y) ys c h.1)

  tail_is : (xs ys : List ℕ) → Rising v floor xs → Tail v (v.last + 1) s xs floor ys → ys ≡ not_below (tells v s) xs
  tail_is xs ys h g = go g.parts
    where
      hh : Rising v floor (g.before ++ ys)
      hh = subst (Rising v floor) g.whole h

      go : (Below (top v floor g.before) s × StartsAbove v s ys) ⊎ BeginsWith v (v.last + 1) s ys → ys ≡ not_below (tells v s) xs
      go (inl b) = remain v s of fit ys (greater_all v s (top v floor g.before) ys (rising_drop v floor g.before ys hh) b.1)
          ∙ sym (ap (not_below (tells v s)) g.whole ∙ drops v s of fit g.before ys (smaller_all v s floor g.before ys hh b.0).1)
      go (inr b) =
          let r = b.0 in
          let zs = b.1 in
          let h2 : Rising v floor (g.before ++ (r ∷ zs)) = subst (λ ws. Rising v floor (g.before ++ ws)) b.2 hh in
          let d = rising_drop v floor g.before (r ∷ zs) h2 in
          let sm = (smaller_all v s floor g.before (r ∷ zs) h2 (below_same v.last s (v.key r) fit.past (of.past r) (top v floor g.before) b.3 d.0)).1 in
          let q : r ∷ zs ≡ not_below (tells v s) (r ∷ zs) = rw (equal v s of fit r b.3, not_below) (ap (λ ws. r ∷ ws) (remain v s of fit zs (after_equal r zs b.3 d.1))) in
          b.2 ∙ (q ∙ sym (ap (not_below (tells v s)) (g.whole ∙ ap (λ ws. g.before ++ ws) b.2) ∙ drops v s of fit g.before (r ∷ zs) sm))

pub walk_right : WalkRight
walk_right v l t s fetch of fit f at =
    tail_is v s of fit (records l t) (rest s fetch l t 0) (faithful_rising v l floor free t f)
    (rest_right v (v.last + 1) s fetch (tells v s) of.each (λ r. compared_true (v.last + 1) s (v.key r)) l t floor free 0 f at (over_floor v s fit))
