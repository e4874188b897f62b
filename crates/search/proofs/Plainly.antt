-- What the search finds is what the plain list gives.
use Rattle.std.proofs.Common.{◌≡◌, ℕ, ◌+◌, List, [], ◌∷◌, ◌++◌, Some, None, Option, sym, refl, ap, ◌∙◌, subst, arith}
use Rattle.keys.proofs.Offsets.{offset_one}
use Rattle.keys.specs.Digits.{Above, Agree, Below, Digits, floor}
use Rattle.keys.specs.declared.comparison.Comparison.TheVariants.{Equal, Greater, Less}
use Rattle.nodes.specs.Faith.{View, free}
use Rattle.nodes.specs.Trees.{records}
use Rattle.search.specs.Names.{first_of, last_of}
use Rattle.search.specs.PlainList.{equal_in, first_greater, last_smaller, not_below, plain}
use Rattle.search.specs.Seek.{End, found, gap, gone, neighbour, sought}
use Rattle.search.specs.TreeLaw.{FitsView, LookupRight, OfBits, tells}
use Rattle.search.specs.declared.neighbour.Neighbour.{Neighbour}
use Rattle.search.proofs.Comparing.{below_same, compared_true, tells_equal, tells_greater, tells_less}
use Rattle.search.proofs.Descent.{Locates, seek_right}
use Rattle.search.proofs.Rising.{AllAbove, AllBelow, Rising, faithful_rising, greater_all, rising_drop, smaller_all}
use Rattle.search.proofs.Weaves.{top}

pub over_floor : (v : View) (s : Digits) → FitsView v s → Above s floor 0
over_floor v s f = record { same = λ j l. absurd (omega arith); more = omega (arith, f.top) }

module _ (v : View) (s : Digits) (of : OfBits v) (fit : FitsView v s) where
  pub greater : (r : ℕ) → (b : Below (v.key r) s) → tells v s r ≡ Greater b.0
  greater r b = tells_greater v.last s (v.key r) fit.past (of.past r) b.0 b.1

  pub less : (r : ℕ) → (b : Below s (v.key r)) → tells v s r ≡ Less b.0
  less r b = tells_less v.last s (v.key r) fit.past (of.past r) b.0 b.1

  pub equal : (r : ℕ) → Agree s (v.key r) (v.last + 1) → tells v s r ≡ Equal
  equal r h = tells_equal v.last s (v.key r) fit.past (of.past r) h

  equal_below : (xs ys : List ℕ) → AllBelow v s xs → equal_in (tells v s) (xs ++ ys) ≡ equal_in (tells v s) ys
  equal_below [] ys h = refl
  equal_below (x ∷ xs) ys h = rw (greater x h.0, equal_in) (equal_below xs ys h.1)

  equal_above : (ys : List ℕ) → AllAbove v s ys → equal_in (tells v s) ys ≡ None
  equal_above [] h = refl
  equal_above (y ∷ ys) h = rw (less y h.0, equal_in) (equal_above ys h.1)

  last_below : (base : Digits) (b : Option ℕ) (o e : ℕ) (xs ys : List ℕ) → AllBelow v s xs → Above s base o → Above s (top v base xs) e →
      last_smaller (tells v s) (neighbour b o) (xs ++ ys) ≡ last_smaller (tells v s) (neighbour (last_of b xs) e) ys
  last_below base b o e [] ys h u w = ap (λ z. last_smaller (tells v s) (neighbour b z) ys) (offset_one s base o e u w)
  last_below base b o e (x ∷ xs) ys h u w = rw (greater x h.0, last_smaller) (last_below (v.key x) (Some x) h.0.0 e xs ys h.1 h.0.1 w)

  last_above : (b : Option Neighbour) (ys : List ℕ) → AllAbove v s ys → last_smaller (tells v s) b ys ≡ b
  last_above b [] h = refl
  last_above b (y ∷ ys) h = rw (less y h.0, last_smaller) (last_above b ys h.1)

  first_below : (xs ys : List ℕ) → AllBelow v s xs → first_greater (tells v s) (xs ++ ys) ≡ first_greater (tells v s) ys
  first_below [] ys h = refl
  first_below (x ∷ xs) ys h = rw (greater x h.0, first_greater) (first_below xs ys h.1)

  first_above : (ys : List ℕ) → AllAbove v s ys → first_greater (tells v s) ys ≡ first_of ys None
  first_above [] h = refl
  first_above (y ∷ ys) h = rw (less y h.0, first_greater) refl

  abbrev ends : Option ℕ → Option Neighbour → Option ℕ → End
  ends x b a = elim x [ Some r ↦ found r | None ↦ gap b a ]

  -- over an ascending list, an end that locates the key is the plain list's
  plain_is : (xs : List ℕ) → Rising v floor xs → (x : End) → Locates v (v.last + 1) s xs floor None None x → x ≡ plain (tells v s) xs
  plain_is xs h (found r) g =
      let hh = subst (Rising v floor) g.whole h in
      let d = rising_drop v floor g.before (r ∷ g.after) hh in
      let sm = (smaller_all v s floor g.before (r ∷ g.after) hh (below_same v.last s (v.key r) fit.past (of.past r) (top v floor g.before) g.same d.0)).1 in
      let q : equal_in (tells v s) (r ∷ g.after) ≡ Some r = rw (equal r g.same, equal_in) refl in
      let w : equal_in (tells v s) xs ≡ Some r = ap (equal_in (tells v s)) g.whole ∙ (equal_below g.before (r ∷ g.after) sm ∙ q) in
      sym (ap (λ z. ends z (last_smaller (tells v s) None xs) (first_greater (tells v s) xs)) w)
  plain_is xs h (gap below above) g =
      let hh = subst (Rising v floor) g.whole h in
      let sm = (smaller_all v s floor g.before g.after hh (g.offset, g.under)).1 in
      let gr = greater_all v s (top v floor g.before) g.after (rising_drop v floor g.before g.after hh) g.over in
      let w : equal_in (tells v s) xs ≡ None = ap (equal_in (tells v s)) g.whole ∙ (equal_below g.before g.after sm ∙ equal_above g.after gr) in
      let u : last_smaller (tells v s) None xs ≡ below =
      ap (last_smaller (tells v s) None) g.whole ∙ (last_below floor None 0 g.offset g.before g.after sm (over_floor v s fit) g.under
      ∙ (last_above (neighbour (last_of None g.before) g.offset) g.after gr ∙ sym g.left)) in
      let y : first_greater (tells v s) xs ≡ above = ap (first_greater (tells v s)) g.whole ∙ (first_below g.before g.after sm ∙ (first_above g.after gr ∙ sym g.right)) in
      sym (ap (λ z. ends z (last_smaller (tells v s) None xs) (first_greater (tells v s) xs)) w ∙ (ap (λ z. gap z (first_greater (tells v s) xs)) u ∙ ap (gap below) y))
  plain_is xs h (gone r) g = absurd g

  -- the records before the place drop out, those from it on remain
  pub drops : (xs ys : List ℕ) → AllBelow v s xs → not_below (tells v s) (xs ++ ys) ≡ not_below (tells v s) ys
  drops [] ys h = refl
  drops (x ∷ xs) ys h = rw (greater x h.0, not_below) (drops xs ys h.1)

  pub remain : (ys : List ℕ) → AllAbove v s ys → ys ≡ not_below (tells v s) ys
  remain [] h = refl
  remain (y ∷ ys) h = rw (less y h.0, not_below) (ap (λ zs. y ∷ zs) (remain ys h.1))

pub lookup_right : LookupRight
lookup_right v l t s fetch of fit f at =
    plain_is v s of fit (records l t) (faithful_rising v l floor free t f) (sought s fetch l t).end
    (seek_right v (v.last + 1) s fetch (tells v s) of.each (λ r. compared_true (v.last + 1) s (v.key r)) l t floor free None 0 None f at (over_floor v s fit))
