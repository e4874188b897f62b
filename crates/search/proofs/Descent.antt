-- The search down a faithful tree finds the place of its key.
use Rattle.std.proofs.Common.{◌≡◌, ℕ, zero, suc, ◌+◌, ◌<◌, ◌≤◌, List, [], ◌∷◌, ◌++◌, map, length, get_or, Some, None, Option, sym, refl, ap, ◌∙◌, subst, arith}
use Rattle.std.proofs.lemmas.List.{get_or-map, length-map}
use Rattle.std.specs.List.{AllByRecursion}
use Rattle.keys.specs.Digits.{Above, Agree, Below, Digits}
use Rattle.keys.specs.declared.comparison.Comparison.{Comparison}
use Rattle.nodes.proofs.Weaves.{woven_kid}
use Rattle.nodes.specs.declared.node.Entry.{Entry}
use Rattle.nodes.specs.Faith.{Ceiling, Faithful, View}
use Rattle.nodes.specs.Trees.{Tree, bare, no_entry, records, weave}
use Rattle.search.specs.Names.{first_of, last_of}
use Rattle.search.specs.NodeLaw.{LeadsRight, Right, Tells}
use Rattle.search.specs.Parts.{Placed, parts_of}
use Rattle.search.specs.Placing.{looked, settled}
use Rattle.search.specs.Seek.{End, Sought, answered, found, gap, gone, neighbour, onward, over_at, seek, stepped, under_at}
use Rattle.search.specs.TreeLaw.{ReadsFew}
use Rattle.search.specs.declared.neighbour.Neighbour.{Neighbour}
use Rattle.search.specs.declared.place.Placement.{Placement}
use Rattle.search.specs.declared.place.Placement.TheVariants.{Found, Place}
use Rattle.search.specs.declared.place.Step.{Step}
use Rattle.search.specs.declared.place.Step.TheVariants.{Ask, Known}
use Rattle.search.proofs.Ladder.{ladder, ladder_key, strung_kid, strung_long, strung_node}
use Rattle.search.proofs.NodeRight.{look_right}
use Rattle.search.proofs.Weaves.{Cut, StartsAbove, cut, first_of-append, joined, last_of-append, starts_append, top, top_append, within, woven_entry}

-- the list parts before s, between the records that the answer names
pub record Gap (v : View) (s : Digits) (xs : List ℕ) (base : Digits) (b a : Option ℕ) (below : Option Neighbour) (above : Option ℕ) : Type 0 where
  pub before : List ℕ
  pub after : List ℕ
  pub offset : ℕ
  pub whole : xs ≡ before ++ after
  pub left : below ≡ neighbour (last_of b before) offset
  pub right : above ≡ first_of after a
  pub under : Above s (top v base before) offset
  pub over : StartsAbove v s after

-- the list has r, whose key is s
pub record Hit (v : View) (N : ℕ) (s : Digits) (xs : List ℕ) (r : ℕ) : Type 0 where
  pub before : List ℕ
  pub after : List ℕ
  pub whole : xs ≡ before ++ (r ∷ after)
  pub same : Agree s (v.key r) N

abbrev pub Locates : (v : View) (N : ℕ) (s : Digits) (xs : List ℕ) (base : Digits) (b a : Option ℕ) → End → Type 0
Locates v N s xs base b a (found r) = Hit v N s xs r
Locates v N s xs base b a (gap below above) = Gap v s xs base b a below above
Locates v N s xs base b a (gone r) = ⊥

-- from the list under a place to the whole
lift : (v : View) (N : ℕ) (s : Digits) (base : Digits) (b a : Option ℕ) (q : ℕ) (es : List Entry) (fs : List (List ℕ)) → Cut v base q es fs →
    (q < length es → Below s (ladder v base es (suc q))) → (x : End) →
    Locates v N s (get_or fs q []) (ladder v base es q) (under_at q b es) (over_at q es a) x → Locates v N s (weave es fs) base b a x
lift v N s base b a q es fs c over (found r) h = record {
  before = c.before ++ h.before;
  after = h.after ++ c.after;
  whole = joined v base q es fs c h.before (r ∷ h.after) h.whole;
  same = h.same;
}
lift v N s base b a q es fs c over (gap below above) h = record {
  before = c.before ++ h.before;
  after = h.after ++ c.after;
  offset = h.offset;
  whole = joined v base q es fs c h.before h.after h.whole;
  left = h.left ∙ ap (λ z. neighbour z h.offset) (ap (λ z. last_of z h.before) (sym (c.last b)) ∙ sym (last_of-append b c.before h.before));
  right = h.right ∙ (ap (λ z. first_of h.after z) (sym (c.first a)) ∙ sym (first_of-append h.after c.after a));
  under = subst (λ k. Above s k h.offset) (ap (λ k. top v k h.before) (sym c.peak) ∙ sym (top_append v base c.before h.before)) h.under;
  over = starts_append v s h.after c.after h.over (c.starts s over);
}
lift v N s base b a q es fs c over (gone r) h = h

module _ (v : View) (N : ℕ) (s : Digits) (fetch : ℕ → Option Comparison) (tell : ℕ → Comparison) (small : (r j : ℕ) → v.key r j ≤ 1) (told : (r : ℕ) → Tells N s (v.key r) (tell r)) where
  abbrev At : List ℕ → Type 0
  At rs = AllByRecursion (λ r. fetch r ≡ Some (tell r)) rs

  abbrev Finds : (l : ℕ) → Type 0
  Finds l = (t : Tree l) (base : Digits) (c : Ceiling) (b : Option ℕ) (o : ℕ) (a : Option ℕ) → Faithful v l base c t → At (records l t) → Above s base o →
      Locates v N s (records l t) base b a (seek s fetch l t b o a).end

  module _ (l : ℕ) (ih : Finds l) (t : Tree (suc l)) (base : Digits) (c : Ceiling) (b a : Option ℕ) (h : Faithful v (suc l) base c t) (g : At (records (suc l) t)) where
    long : length (map (records l) t.kids) ≡ length t.entries + 1
    long = length-map t.kids (records l) ∙ strung_long (Tree l) v (Faithful v l) base c t.entries t.kids h

    place_right : (q o : ℕ) → Placed (length t.entries) (ladder v base t.entries) s q o →
        Locates v N s (records (suc l) t) base b a (onward (seek s fetch l) (bare l) t.entries t.kids b a (Place q o)).end
    place_right q o p =
        let es = t.entries in
        let fs = map (records l) t.kids in
        let le : q ≤ length es = p.within in
        let kid = get_or t.kids q (bare l) in
        let e : get_or fs q [] ≡ records l kid = get_or-map (records l) t.kids q (bare l) [] (omega (arith, long, length-map t.kids (records l))) in
        let w = strung_kid (Tree l) v (Faithful v l) (bare l) base c es t.kids h q le in
        let at = subst At e (woven_kid (λ r. fetch r ≡ Some (tell r)) q es fs long le g) in
        let r = ih kid (ladder v base es q) w.0 (under_at q b es) o (over_at q es a) w.1 at p.under in
        lift v N s base b a q es fs (cut v base q es fs long le) p.over (seek s fetch l kid (under_at q b es) o (over_at q es a)).end
        (subst (λ zs. Locates v N s zs (ladder v base es q) (under_at q b es) (over_at q es a) (seek s fetch l kid (under_at q b es) o (over_at q es a)).end) (sym e) r)

    onward_right : (x : Placement) → Right N (length t.entries) (ladder v base t.entries) s x →
        Locates v N s (records (suc l) t) base b a (onward (seek s fetch l) (bare l) t.entries t.kids b a x).end
    onward_right (Place q o) p = place_right q o p
    onward_right (Found i) p =
        let w = within i t.entries (map (records l) t.kids) long p.0 in
        record { before = w.before; after = w.after; whole = w.whole; same = subst (λ k. Agree s k N) (ladder_key v base t.entries i p.0) p.1 }

    stepped_right : (x : Step) → LeadsRight N (length t.entries) (ladder v base t.entries) (parts_of t.entries) s x →
        Locates v N s (records (suc l) t) base b a (stepped fetch (seek s fetch l) (bare l) t.entries t.kids b a x).end
    stepped_right (Known q o) p = place_right q o p
    stepped_right (Ask high i) p =
        let es = t.entries in
        let r = (get_or es i no_entry).number in
        let e : fetch r ≡ Some (tell r) = woven_entry (λ x. fetch x ≡ Some (tell x)) i es (map (records l) t.kids) long p.0 g in
        subst (λ z. Locates v N s (records (suc l) t) base b a (answered (λ x. onward (seek s fetch l) (bare l) es t.kids b a (settled (parts_of es) high i x)) r z).end) (sym e)
        (onward_right (settled (parts_of es) high i (tell r)) (p.1 (tell r) (subst (λ k. Tells N s k (tell r)) (sym (ladder_key v base es i p.0)) (told r))))

  pub seek_right : (l : ℕ) → Finds l
  seek_right zero t base c b o a h g u = record { before = []; after = []; offset = o; whole = refl; left = refl; right = refl; under = u; over = tt }
  seek_right (suc l) t base c b o a h g u =
      let es = t.entries in
      stepped_right l (seek_right l) t base c b a h g (looked s (parts_of es) (length es) o)
      (look_right N (length es) o (ladder v base es) (parts_of es) s (strung_node (Tree l) v (Faithful v l) small base c es t.kids h) u)

-- at most one fetch a level
module _ (s : Digits) (fetch : ℕ → Option Comparison) where
  abbrev Few : ℕ → Type 0
  Few l = (t : Tree l) (b : Option ℕ) (o : ℕ) (a : Option ℕ) → length (seek s fetch l t b o a).fetched ≤ l

  onward_few : (l : ℕ) → Few l → (es : List Entry) (ts : List (Tree l)) (b a : Option ℕ) (x : Placement) → length (onward (seek s fetch l) (bare l) es ts b a x).fetched ≤ l
  onward_few l ih es ts b a (Found i) = omega arith
  onward_few l ih es ts b a (Place q o) = ih (get_or ts q (bare l)) (under_at q b es) o (over_at q es a)

  answered_few : (l r : ℕ) (on : Comparison → Sought) → ((x : Comparison) → length (on x).fetched ≤ l) → (y : Option Comparison) → length (answered on r y).fetched ≤ suc l
  answered_few l r on h None = omega arith
  answered_few l r on h (Some x) = omega (arith, h x)

  stepped_few : (l : ℕ) → Few l → (es : List Entry) (ts : List (Tree l)) (b a : Option ℕ) (x : Step) → length (stepped fetch (seek s fetch l) (bare l) es ts b a x).fetched ≤ suc l
  stepped_few l ih es ts b a (Known q o) = omega (arith, onward_few l ih es ts b a (Place q o))
  stepped_few l ih es ts b a (Ask high i) = answered_few l (get_or es i no_entry).number (λ x. onward (seek s fetch l) (bare l) es ts b a (settled (parts_of es) high i x)) (λ x. onward_few l ih es ts b a (settled (parts_of es) high i x)) (fetch (get_or es i no_entry).number)

  few : (l : ℕ) → Few l
  few zero t b o a = omega arith
  few (suc l) t b o a = stepped_few l (few l) t.entries t.kids b a (looked s (parts_of t.entries) (length t.entries) o)

pub reads_few : ReadsFew
reads_few s fetch l t b o a = few s fetch l t b o a
