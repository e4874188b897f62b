-- A turn of the search: what it makes of the whole search, and where it may lead.
use Rattle.std.proofs.Common.{◌≡◌, ℕ, suc, ◌<◌, List, [], ◌++◌, length, get_or, Some, None, Ok, Err, Option, Result, sym, refl, subst}
use Rattle.descent.specs.Course.{heard, turn, turned}
use Rattle.keys.specs.Digits.{Digits}
use Rattle.keys.specs.declared.comparison.Comparison.{Comparison}
use Rattle.nodes.specs.Trees.{Tree, bare, no_entry, records}
use Rattle.nodes.specs.declared.node.Entry.{Entry}
use Rattle.search.proofs.Bounds.{looked_within, settled_within}
use Rattle.search.specs.NodeLaw.{InNode, LeadsRight, Right, StepInNode, Tells}
use Rattle.search.specs.Parts.{parts_of}
use Rattle.search.specs.Placing.{looked, settled}
use Rattle.search.specs.Seek.{Sought, answered, gone, onward, seek, stepped}
use Rattle.search.specs.Walk.{rest, rest_answered, rest_onward, rest_stepped}
use Rattle.search.specs.declared.place.Placement.{Placement}
use Rattle.search.specs.declared.place.Step.{Step}
use Rattle.search.specs.declared.place.Step.TheVariants.{Ask, Known}
use Rattle.store.specs.declared.reading.Missing.{Missing}

-- a search with the records fetched before it
abbrev pub joined : List ℕ → Sought → Sought
joined done x = record { end = x.end; fetched = done ++ x.fetched }

-- on from a turn
abbrev pub ended : {T : Type 0} → (T → Option ℕ → ℕ → Option ℕ → Sought) → T → List Entry → List T → Option ℕ → Option ℕ → Result Placement Missing → Sought
ended down d es ts b a (Ok p) = onward down d es ts b a p
ended down d es ts b a (Err e) = record { end = gone e.number; fetched = [] }

abbrev pub rest_ended : {T : Type 0} → (T → ℕ → List ℕ) → (T → List ℕ) → T → List Entry → List T → Result Placement Missing → List ℕ
rest_ended down f d es ts (Ok p) = rest_onward down f d es ts p
rest_ended down f d es ts (Err r) = []

module _ (s : Digits) (fetch : ℕ → Option Comparison) where
  pub seek-turn : (l : ℕ) (t : Tree (suc l)) (b : Option ℕ) (o : ℕ) (a : Option ℕ) →
      seek s fetch (suc l) t b o a ≡ joined (turn s fetch t.entries o).fetched (ended (seek s fetch l) (bare l) t.entries t.kids b a (turn s fetch t.entries o).to)
  seek-turn l t b o a = go (looked s (parts_of t.entries) (length t.entries) o)
    where
      hear : (on : Comparison → Placement) (r : ℕ) (y : Option Comparison) →
          answered (λ x. onward (seek s fetch l) (bare l) t.entries t.kids b a (on x)) r y ≡ joined (heard on r y).fetched (ended (seek s fetch l) (bare l) t.entries t.kids b a (heard on r y).to)
      hear on r None = refl
      hear on r (Some x) = refl

      go : (x : Step) → stepped fetch (seek s fetch l) (bare l) t.entries t.kids b a x ≡ joined (turned fetch t.entries x).fetched (ended (seek s fetch l) (bare l) t.entries t.kids b a (turned fetch t.entries x).to)
      go (Known q e) = refl
      go (Ask high c) = hear (settled (parts_of t.entries) high c) (get_or t.entries c no_entry).number (fetch (get_or t.entries c no_entry).number)

  pub rest-turn : (l : ℕ) (t : Tree (suc l)) (o : ℕ) → rest s fetch (suc l) t o ≡ rest_ended (rest s fetch l) (records l) (bare l) t.entries t.kids (turn s fetch t.entries o).to
  rest-turn l t o = go (looked s (parts_of t.entries) (length t.entries) o)
    where
      hear : (on : Comparison → Placement) (r : ℕ) (y : Option Comparison) →
          rest_answered (λ x. rest_onward (rest s fetch l) (records l) (bare l) t.entries t.kids (on x)) y ≡ rest_ended (rest s fetch l) (records l) (bare l) t.entries t.kids (heard on r y).to
      hear on r None = refl
      hear on r (Some x) = refl

      go : (x : Step) → rest_stepped fetch (rest s fetch l) (records l) (bare l) t.entries t.kids x ≡ rest_ended (rest s fetch l) (records l) (bare l) t.entries t.kids (turned fetch t.entries x).to
      go (Known q e) = refl
      go (Ask high c) = hear (settled (parts_of t.entries) high c) (get_or t.entries c no_entry).number (fetch (get_or t.entries c no_entry).number)

-- a turn leads to a place of its node
abbrev pub InTurn : ℕ → Result Placement Missing → Type 0
InTurn n (Ok p) = InNode n p
InTurn n (Err r) = Unit {0}

pub turn_within : (s : Digits) (fetch : ℕ → Option Comparison) (es : List Entry) (o : ℕ) → InTurn (length es) (turn s fetch es o).to
turn_within s fetch es o = go (looked s (parts_of es) (length es) o) (looked_within s (parts_of es) (length es) o)
  where
    hear : (high c r : ℕ) → StepInNode (length es) (Ask high c) → (y : Option Comparison) → InTurn (length es) (heard (settled (parts_of es) high c) r y).to
    hear high c r h None = tt
    hear high c r h (Some x) = settled_within (parts_of es) (length es) high c x h.0 h.1

    go : (x : Step) → StepInNode (length es) x → InTurn (length es) (turned fetch es x).to
    go (Known q e) h = h
    go (Ask high c) h = hear high c (get_or es c no_entry).number h (fetch (get_or es c no_entry).number)

-- and of a true node, whose records are at hand, to the right one
abbrev pub TurnsRight : (N n : ℕ) → (ℕ → Digits) → Digits → Result Placement Missing → Type 0
TurnsRight N n k s (Ok p) = Right N n k s p
TurnsRight N n k s (Err r) = ⊥

pub turn_right : (N : ℕ) (s : Digits) (fetch : ℕ → Option Comparison) (es : List Entry) (o : ℕ) (k : ℕ → Digits) (tell : ℕ → Comparison) →
    LeadsRight N (length es) k (parts_of es) s (looked s (parts_of es) (length es) o) →
    ((c : ℕ) → c < length es → (fetch (get_or es c no_entry).number ≡ Some (tell (get_or es c no_entry).number)) × Tells N s (k (suc c)) (tell (get_or es c no_entry).number)) →
    TurnsRight N (length es) k s (turn s fetch es o).to
turn_right N s fetch es o k tell lead hand = go (looked s (parts_of es) (length es) o) lead
  where
    go : (x : Step) → LeadsRight N (length es) k (parts_of es) s x → TurnsRight N (length es) k s (turned fetch es x).to
    go (Known q e) h = h
    go (Ask high c) h =
        let r = (get_or es c no_entry).number in
        let g = hand c h.0 in
        subst (λ y. TurnsRight N (length es) k s (heard (settled (parts_of es) high c) r y).to) (sym g.0) (h.1 (tell r) g.1)
