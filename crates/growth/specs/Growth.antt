-- How a tree grows by a record: the tree after, what rises from it, the nodes in use, and the records fetched.
use Rattle.std.specs.Prelude.{ℕ, zero, suc, ◌+◌, min, Bool, true, false, cond, ◌&&◌, List, [], ◌∷◌, ◌++◌, length, get_or, take, drop, ◌==◌, nat_le, nat_lt, slice_index, slice_index_or, slice_set}
use Rattle.std.specs.List.{insert}
use Rattle.keys.specs.Digits.{first_gap_of}
use Rattle.nodes.specs.Faith.{View, made}
use Rattle.nodes.specs.Trees.{Knot, Tree, bare, no_entry}
use Rattle.nodes.specs.declared.node.Entry.{Entry}

-- The entry that follows a new one, of record r at offset o. Where the two offsets are equal it gets a new partial key, at
-- the first place where its key differs from r's; its own stays true otherwise.
abbrev pub follow : View → (r o : ℕ) → Entry → Entry
follow v r o e = cond (e.partial.offset == o) (made v e.number (first_gap_of v.last 0 (v.key r) (v.key e.number))) e

-- a node's entries with record r put in at place i
abbrev pub put : View → (r o : ℕ) → (i : ℕ) → List Entry → List Entry
put v r o zero [] = made v r o ∷ []
put v r o zero (e ∷ es) = made v r o ∷ (follow v r o e ∷ es)
put v r o (suc i) [] = made v r o ∷ []
put v r o (suc i) (e ∷ es) = e ∷ put v r o i es

-- the record fetched for that, if one is
abbrev pub asked : (o i : ℕ) → List Entry → List ℕ
asked o i [] = []
asked o zero (e ∷ es) = cond (e.partial.offset == o) (e.number ∷ []) []
asked o (suc i) (e ∷ es) = asked o i es

-- the least offset: that of the last of these keys against the base of the first
abbrev pub least : List Entry → ℕ
least [] = 0
least (e ∷ []) = e.partial.offset
least (e ∷ (f ∷ fs)) = min e.partial.offset (least (f ∷ fs))

-- what rises from a node: nothing, or a record, its offset to the node's base, and the tree to its right
pub data Up (T : Type 0) : Type 0 where
  stay : Up T
  rise : (r o : ℕ) → T → Up T

pub record Grown (T : Type 0) : Type 0 where
  pub left : T
  pub up : Up T
  pub used : ℕ
  pub fetched : List ℕ

-- A node's new entries. Where it has no room for them, four remain, the fifth moves up, the rest goes to the next unused node,
-- and the record that moves up is fetched unless it is the one entered.
abbrev pub parted : {T : Type 0} → (x : ℕ) → (room : Bool) → (at : ℕ) → List Entry → List T → (used : ℕ) → (fetched : List ℕ) → Grown (Knot T)
parted x true at es ks used f = record { left = record { at = at; entries = es; kids = ks }; up = stay; used = used; fetched = f }
parted x false at es ks used f = record {
  left = record { at = at; entries = take 4 es; kids = take 5 ks };
  up = rise (get_or es 4 no_entry).number (least (take 5 es)) (record { at = used; entries = drop 5 es; kids = drop 5 ks });
  used = used + 1;
  fetched = f ++ cond ((get_or es 4 no_entry).number == x) [] ((get_or es 4 no_entry).number ∷ []);
}

-- a node once the tree at its place i has grown
abbrev pub join : {T : Type 0} → View → (x : ℕ) → Knot T → (i : ℕ) → (left : T) → Up T → (used : ℕ) → (fetched : List ℕ) → Grown (Knot T)
join v x k i left stay used f = record { left = record { at = k.at; entries = k.entries; kids = slice_set k.kids i left }; up = stay; used = used; fetched = f }
join v x k i left (rise r o t) used f = parted x (nat_lt (length k.entries) 7) k.at (put v r o i k.entries) (insert (slice_set k.kids i left) (suc i) t) used (f ++ asked o i k.entries)

-- Record x put in at the places of its way down, the one at height l for a tree of l levels below it; o is its offset to the
-- key before it.
abbrev pub grow : View → (used x o : ℕ) → (places : List ℕ) → (l : ℕ) → Tree l → Grown (Tree l)
grow v used x o ps zero t = record { left = t; up = rise x o 0; used = used; fetched = [] }
grow v used x o ps (suc l) t =
    let i = get_or ps l 0 in
    let g = grow v used x o ps l (slice_index_or t.kids i (bare l)) in
    join v x t i g.left g.up g.used g.fetched

-- the whole tree after
pub record Whole : Type 0 where
  pub levels : ℕ
  pub tree : Tree levels
  pub used : ℕ
  pub fetched : List ℕ

-- what rises from the root stands alone in a new root, which takes its node last
abbrev pub topped : View → (l : ℕ) → (left : Tree l) → Up (Tree l) → (used : ℕ) → (fetched : List ℕ) → Whole
topped v l left stay used f = record { levels = l; tree = left; used = used; fetched = f }
topped v l left (rise r o t) used f = record { levels = suc l; tree = record { at = used; entries = made v r o ∷ []; kids = left ∷ (t ∷ []) }; used = used + 1; fetched = f }

abbrev pub entered : View → (used x o : ℕ) → (places : List ℕ) → (l : ℕ) → Tree l → Whole
entered v used x o ps l t = let g = grow v used x o ps l t in topped v l g.left g.up g.used g.fetched

-- the full nodes in an unbroken row from the leaf up, and whether the row goes on
pub record Row : Type 0 where
  pub nodes : ℕ
  pub whole : Bool

abbrev pub one_more : (full : Bool) → Row → Row
one_more full r = cond (r.whole && full) (record { nodes = r.nodes + 1; whole = true }) (record { nodes = r.nodes; whole = false })

abbrev pub row : (places : List ℕ) → (l : ℕ) → Tree l → Row
row ps zero t = record { nodes = 0; whole = true }
row ps (suc l) t = one_more (nat_le 7 (length t.entries)) (row ps l (slice_index_or t.kids (slice_index ps l) (bare l)))

-- the nodes that an entry takes: one for each of that row, and one more if it includes the root or there is none
abbrev pub nodes_for : Row → ℕ
nodes_for r = r.nodes + cond r.whole 1 0

abbrev pub need : (places : List ℕ) → (l : ℕ) → Tree l → ℕ
need ps l t = nodes_for (row ps l t)
