-- The writes of an entry, by its plan alone.
use Rattle.std.specs.Prelude.{◌≡◌, ℕ, zero, suc, ◌+◌, Bool, true, false, List, [], ◌∷◌, length, get_or, take, drop, nat_lt, slice_index_or, slice_set}
use Rattle.std.specs.List.{insert}
use Rattle.growth.specs.Growth.{Up, Whole, grow, rise, stay}
use Rattle.nodes.specs.Faith.{View}
use Rattle.nodes.specs.Trees.{Knot, Tree, bare, no_entry}
use Rattle.nodes.specs.declared.node.Entry.{Entry}

-- the tree to the right of what rises, if something does
pub data Right (T : Type 0) : Type 0 where
  none : Right T
  some : T → Right T

pub record Built (T : Type 0) : Type 0 where
  pub left : T
  pub right : Right T
  pub used : ℕ

abbrev pub cut : {T : Type 0} → (room : Bool) → (at : ℕ) → List Entry → List T → (used : ℕ) → Built (Knot T)
cut true at es ks used = record { left = record { at = at; entries = es; kids = ks }; right = none; used = used }
cut false at es ks used = record { left = record { at = at; entries = take 4 es; kids = take 5 ks }; right = some (record { at = used; entries = drop 5 es; kids = drop 5 ks }); used = used + 1 }

-- a node once the tree at its place i is built: e the entry that came up, n the following one
abbrev pub fit : {T : Type 0} → (e n : Entry) → Knot T → (i : ℕ) → (left : T) → Right T → (used : ℕ) → Built (Knot T)
fit e n k i left none used = record { left = record { at = k.at; entries = k.entries; kids = slice_set k.kids i left }; right = none; used = used }
fit e n k i left (some r) used = cut (nat_lt (length k.entries) 7) k.at (insert (slice_set k.entries i n) i e) (insert (slice_set k.kids i left) (suc i) r) used

abbrev pub build : (used : ℕ) → (ents nexts : List Entry) → (places : List ℕ) → (l : ℕ) → Tree l → Built (Tree l)
build used ents nexts ps zero t = record { left = t; right = some 0; used = used }
build used ents nexts ps (suc l) t =
    let i = get_or ps l 0 in
    let g = build used ents nexts ps l (slice_index_or t.kids i (bare l)) in
    fit (slice_index_or ents l no_entry) (slice_index_or nexts l no_entry) t i g.left g.right g.used

-- a whole tree, and the nodes in use
pub record Standing : Type 0 where
  pub levels : ℕ
  pub tree : Tree levels
  pub used : ℕ

-- under a new root where something rises from the old one
abbrev pub crowned : Entry → (l : ℕ) → (left : Tree l) → Right (Tree l) → (used : ℕ) → Standing
crowned e l left none used = record { levels = l; tree = left; used = used }
crowned e l left (some r) used = record { levels = suc l; tree = record { at = used; entries = e ∷ []; kids = left ∷ (r ∷ []) }; used = used + 1 }

abbrev pub built : (used : ℕ) → (ents nexts : List Entry) → (places : List ℕ) → (l : ℕ) → Tree l → Standing
built used ents nexts ps l t = let g = build used ents nexts ps l t in crowned (slice_index_or ents l no_entry) l g.left g.right g.used

-- the same of the growth
abbrev pub right_of : {T : Type 0} → Up T → Right T
right_of stay = none
right_of (rise r o t) = some t

abbrev pub standing : Whole → Standing
standing w = record { levels = w.levels; tree = w.tree; used = w.used }

pub record Same (v : View) (used x o : ℕ) (ents nexts : List Entry) (places : List ℕ) (l : ℕ) (t : Tree l) : Type 0 where
  pub left : (build used ents nexts places l t).left ≡ (grow v used x o places l t).left
  pub right : (build used ents nexts places l t).right ≡ right_of (grow v used x o places l t).up
  pub taken : (build used ents nexts places l t).used ≡ (grow v used x o places l t).used
