-- Over any store, an answer names a record of the tree, or two neighbours in it.
use Rattle.std.proofs.Common.{◌≡◌, ℕ, zero, suc, ◌+◌, ◌<◌, ◌≤◌, true, List, [], ◌∷◌, ◌++◌, map, length, get_or, Some, None, Option, sym, refl, ap, ◌∙◌, subst, append_assoc, arith}
use Rattle.std.proofs.lemmas.List.{append-nil, get_or-map, length-map}
use Rattle.keys.specs.Digits.{Digits, floor}
use Rattle.keys.specs.declared.comparison.Comparison.{Comparison}
use Rattle.nodes.proofs.Shapes.{kid_shaped, knot_parts}
use Rattle.nodes.specs.declared.node.Entry.{Entry}
use Rattle.nodes.specs.Faith.{View}
use Rattle.nodes.specs.Trees.{Tree, bare, no_entry, records, shaped, weave}
use Rattle.search.specs.Names.{Names, StandsIn, first_of, last_of}
use Rattle.search.specs.NodeLaw.{InNode, StepInNode}
use Rattle.search.specs.Parts.{parts_of}
use Rattle.search.specs.Placing.{looked, settled}
use Rattle.search.specs.Seek.{End, answered, found, gap, gone, neighbour, onward, over_at, seek, stepped, under_at}
use Rattle.search.specs.TreeLaw.{NamesOwn, WalkOwn}
use Rattle.search.specs.Walk.{after_place, rest, rest_answered, rest_onward, rest_stepped}
use Rattle.search.specs.declared.place.Placement.{Placement}
use Rattle.search.specs.declared.place.Placement.TheVariants.{Found, Place}
use Rattle.search.specs.declared.place.Step.{Step}
use Rattle.search.specs.declared.place.Step.TheVariants.{Ask, Known}
use Rattle.search.proofs.Bounds.{looked_within, settled_within}
use Rattle.search.proofs.Weaves.{Cut, cut, first_of-append, joined, last_of-append, within}

-- a view for lists without keys
blank : View
blank = record { key = λ r. floor; last = 0; keep = 0 }

lift : (b a : Option ℕ) (q : ℕ) (es : List Entry) (fs : List (List ℕ)) → Cut blank floor q es fs → (x : End) →
    Names (get_or fs q []) (under_at q b es) (over_at q es a) x → Names (weave es fs) b a x
lift b a q es fs c (found r) h = record { before = c.before ++ h.before; after = h.after ++ c.after; whole = joined blank floor q es fs c h.before (r ∷ h.after) h.whole }
lift b a q es fs c (gone r) h = record { before = c.before ++ h.before; after = h.after ++ c.after; whole = joined blank floor q es fs c h.before (r ∷ h.after) h.whole }
lift b a q es fs c (gap below above) h = record {
  before = c.before ++ h.before;
  after = h.after ++ c.after;
  offset = h.offset;
  whole = joined blank floor q es fs c h.before h.after h.whole;
  left = h.left ∙ ap (λ z. neighbour z h.offset) (ap (λ z. last_of z h.before) (sym (c.last b)) ∙ sym (last_of-append b c.before h.before));
  right = h.right ∙ (ap (λ z. first_of h.after z) (sym (c.first a)) ∙ sym (first_of-append h.after c.after a));
}

module _ (s : Digits) (fetch : ℕ → Option Comparison) where
  abbrev Own : ℕ → Type 0
  Own l = (least : ℕ) (t : Tree l) (b : Option ℕ) (o : ℕ) (a : Option ℕ) → shaped l least t ≡ true → Names (records l t) b a (seek s fetch l t b o a).end

  module _ (l : ℕ) (ih : Own l) (least : ℕ) (t : Tree (suc l)) (b a : Option ℕ) (h : shaped (suc l) least t ≡ true) where
    long : length (map (records l) t.kids) ≡ length t.entries + 1
    long = length-map t.kids (records l) ∙ (knot_parts l least t h).many

    at_entry : (i : ℕ) → i < length t.entries → StandsIn (records (suc l) t) (get_or t.entries i no_entry).number
    at_entry i lt = let w = within i t.entries (map (records l) t.kids) long lt in record { before = w.before; after = w.after; whole = w.whole }

    onward_own : (x : Placement) → InNode (length t.entries) x → Names (records (suc l) t) b a (onward (seek s fetch l) (bare l) t.entries t.kids b a x).end
    onward_own (Found i) lt = at_entry i lt
    onward_own (Place q o) le =
        let es = t.entries in
        let fs = map (records l) t.kids in
        let kid = get_or t.kids q (bare l) in
        let e : get_or fs q [] ≡ records l kid = get_or-map (records l) t.kids q (bare l) [] (omega (arith, (knot_parts l least t h).many)) in
        lift b a q es fs (cut blank floor q es fs long le) (seek s fetch l kid (under_at q b es) o (over_at q es a)).end
        (subst (λ zs. Names zs (under_at q b es) (over_at q es a) (seek s fetch l kid (under_at q b es) o (over_at q es a)).end) (sym e) (ih 3 kid (under_at q b es) o (over_at q es a) (kid_shaped (knot_parts l least t h) q le)))

    answered_own : (high i : ℕ) → i < high → high ≤ length t.entries → (y : Option Comparison) →
        Names (records (suc l) t) b a (answered (λ x. onward (seek s fetch l) (bare l) t.entries t.kids b a (settled (parts_of t.entries) high i x)) (get_or t.entries i no_entry).number y).end
    answered_own high i lt le None = at_entry i (omega arith)
    answered_own high i lt le (Some x) = onward_own (settled (parts_of t.entries) high i x) (settled_within (parts_of t.entries) (length t.entries) high i x lt le)

    stepped_own : (x : Step) → StepInNode (length t.entries) x → Names (records (suc l) t) b a (stepped fetch (seek s fetch l) (bare l) t.entries t.kids b a x).end
    stepped_own (Known q o) f = onward_own (Place q o) f
    stepped_own (Ask high i) f = answered_own high i f.0 f.1 (fetch (get_or t.entries i no_entry).number)

  own : (l : ℕ) → Own l
  own zero least t b o a h = record { before = []; after = []; offset = o; whole = refl; left = refl; right = refl }
  own (suc l) least t b o a h = stepped_own l (own l) least t b a h (looked s (parts_of t.entries) (length t.entries) o) (looked_within s (parts_of t.entries) (length t.entries) o)

pub names_own : NamesOwn
names_own s fetch l least t h = own s fetch l least t None 0 None h

-- what follows a place is the end of the list
module _ (s : Digits) (fetch : ℕ → Option Comparison) where
  abbrev Ends : ℕ → Type 0
  Ends l = (least : ℕ) (t : Tree l) (o : ℕ) → shaped l least t ≡ true → (before : List ℕ) × (records l t ≡ before ++ rest s fetch l t o)

  module _ (l : ℕ) (ih : Ends l) (least : ℕ) (t : Tree (suc l)) (h : shaped (suc l) least t ≡ true) where
    more : length (map (records l) t.kids) ≡ length t.entries + 1
    more = length-map t.kids (records l) ∙ (knot_parts l least t h).many

    onward_ends : (x : Placement) → InNode (length t.entries) x →
        (before : List ℕ) × (records (suc l) t ≡ before ++ rest_onward (rest s fetch l) (records l) (bare l) t.entries t.kids x)
    onward_ends (Found i) lt =
        let fs = map (records l) t.kids in
        let c = cut blank floor i t.entries fs more (omega arith) in
        (c.before ++ get_or fs i [], c.whole ∙ (ap (λ zs. c.before ++ (get_or fs i [] ++ zs)) c.tail ∙ sym (append_assoc c.before (get_or fs i []) (after_place i t.entries fs))))
    onward_ends (Place q o) le =
        let fs = map (records l) t.kids in
        let kid = get_or t.kids q (bare l) in
        let e : get_or fs q [] ≡ records l kid = get_or-map (records l) t.kids q (bare l) [] (omega (arith, (knot_parts l least t h).many)) in
        let r = ih 3 kid o (kid_shaped (knot_parts l least t h) q le) in
        let c = cut blank floor q t.entries fs more le in
        (c.before ++ r.0, joined blank floor q t.entries fs c r.0 (rest s fetch l kid o) (e ∙ r.1) ∙ ap (λ zs. (c.before ++ r.0) ++ (rest s fetch l kid o ++ zs)) c.tail)

    answered_ends : (high i : ℕ) → i < high → high ≤ length t.entries → (y : Option Comparison) →
        (before : List ℕ) × (records (suc l) t ≡ before ++ rest_answered (λ x. rest_onward (rest s fetch l) (records l) (bare l) t.entries t.kids (settled (parts_of t.entries) high i x)) y)
    answered_ends high i lt le None = (records (suc l) t, sym (append-nil (records (suc l) t)))
    answered_ends high i lt le (Some x) = onward_ends (settled (parts_of t.entries) high i x) (settled_within (parts_of t.entries) (length t.entries) high i x lt le)

    stepped_ends : (x : Step) → StepInNode (length t.entries) x → (before : List ℕ) × (records (suc l) t ≡ before ++ rest_stepped fetch (rest s fetch l) (records l) (bare l) t.entries t.kids x)
    stepped_ends (Known q o) f = onward_ends (Place q o) f
    stepped_ends (Ask high i) f = answered_ends high i f.0 f.1 (fetch (get_or t.entries i no_entry).number)

  rest_ends : (l : ℕ) → Ends l
  rest_ends zero least t o h = ([], refl)
  rest_ends (suc l) least t o h = stepped_ends l (rest_ends l) least t h (looked s (parts_of t.entries) (length t.entries) o) (looked_within s (parts_of t.entries) (length t.entries) o)

pub walk_own : WalkOwn
walk_own s fetch l least t o h = rest_ends s fetch l least t o h
