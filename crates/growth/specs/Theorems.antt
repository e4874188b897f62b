-- What holds of growth.
use Rattle.std.specs.Prelude.{◌≡◌, ℕ, suc, ◌+◌, ◌*◌, ◌^◌, ◌≤◌, true, List, length, Option}
use Rattle.std.specs.List.{ContainsAt as Has, AllByRecursion}
use Rattle.growth.specs.Commits.{After, Entered, Ready, stands, tree_at}
use Rattle.growth.specs.Growth.{Whole, entered, grow, need}
use Rattle.growth.specs.Orders.{Added, placed}
use Rattle.growth.specs.Plans.{Planned, Traced, trace}
use Rattle.growth.specs.Routes.{Along, Bounded, Route, Trail, Within, way}
use Rattle.growth.specs.Writes.{Same, built, standing}
use Rattle.growth.specs.declared.commit.Top.{Top}
use Rattle.keys.specs.Digits.{Digits, floor}
use Rattle.nodes.specs.Faith.{Ceiling, Faithful, View, free}
use Rattle.nodes.specs.Tables.{tree_of}
use Rattle.nodes.specs.Trees.{Tree, nodes, records, shaped}
use Rattle.nodes.specs.declared.node.Entry.{Entry}
use Rattle.nodes.specs.declared.node.Node.{Node}

-- a faithful tree, grown at the place of a key, is faithful
abbrev pub EntryFaithful : Type 0
EntryFaithful = (v : View) (used x o : ℕ) (ps : List ℕ) (l : ℕ) (b : Digits) (t : Tree l) → Bounded v → Faithful v l b free t → Route v l b free t ps (v.key x) o
    → Faithful v (entered v used x o ps l t).levels b free (entered v used x o ps l t).tree

-- and its records are the old ones with the new one after those of smaller key
abbrev pub EntryPlaced : Type 0
EntryPlaced = (v : View) (used x o : ℕ) (ps : List ℕ) (l : ℕ) (b : Digits) (t : Tree l) → Bounded v → shaped l 1 t ≡ true → Faithful v l b free t → Route v l b free t ps (v.key x) o
    → records (entered v used x o ps l t).levels (entered v used x o ps l t).tree ≡ placed v x (records l t)

-- Over any store, and of a tree faithful or not: the shape stays lawful, the records are the old ones and the new one, the
-- nodes taken are those needed, at most two records are fetched for each level, and each is one of the tree.
pub record LawfulEntry (v : View) (used x o : ℕ) (ps : List ℕ) (l : ℕ) (t : Tree l) (w : Whole) : Type 0 where
  pub shape : shaped w.levels 1 w.tree ≡ true
  pub adds : Added x (records l t) (records w.levels w.tree)
  pub taken : w.used ≡ used + need ps l t
  pub reads : length w.fetched ≤ 2 * l
  pub known : AllByRecursion (Has (records l t)) w.fetched

abbrev pub EntryLawful : Type 0
EntryLawful = (v : View) (used x o : ℕ) (ps : List ℕ) (l : ℕ) (t : Tree l) → shaped l 1 t ≡ true → Within ps l t → LawfulEntry v used x o ps l t (entered v used x o ps l t)

-- the tree's nodes rise by as many as are taken
abbrev pub NodesCounted : Type 0
NodesCounted = (v : View) (used x o : ℕ) (ps : List ℕ) (l : ℕ) (t : Tree l) → shaped l 1 t ≡ true → Within ps l t
    → nodes (entered v used x o ps l t).levels (entered v used x o ps l t).tree + used ≡ nodes l t + (entered v used x o ps l t).used

-- 2 × 4^(L − 1) ≤ n + 1 for a tree of L levels and n records
abbrev pub LevelsBound : Type 0
LevelsBound = (l : ℕ) (t : Tree (suc l)) → shaped (suc l) 1 t ≡ true → 2 * 4 ^ l ≤ length (records (suc l) t) + 1

-- 4,096 nodes give at most 7 levels
abbrev pub LevelsFew : Type 0
LevelsFew = (l : ℕ) (t : Tree l) → shaped l 1 t ≡ true → nodes l t ≤ 4096 → l ≤ 7

-- at most 7 records for each node
abbrev pub RecordsFew : Type 0
RecordsFew = (l : ℕ) (t : Tree l) → shaped l 1 t ≡ true → length (records l t) ≤ 7 * nodes l t

-- the plan's reads are the growth's
abbrev pub PlanTraces : Type 0
PlanTraces = (v : View) (used x o : ℕ) (es : ℕ → List Entry) (ps : List ℕ) (l : ℕ) (t : Tree l) → Along es ps l t → Traced v used x o es ps l t

-- the writes by a plan are the growth's
abbrev pub PlanBuilds : Type 0
PlanBuilds = (v : View) (used x o : ℕ) (es : ℕ → List Entry) (ps : List ℕ) (ents nexts : List Entry) (l : ℕ) (t : Tree l)
    → Along es ps l t → Planned v x o es ps l ents nexts → Within ps l t → Same v used x o ents nexts ps l t

-- and so is the whole tree that they make
abbrev pub PlanStands : Type 0
PlanStands = (v : View) (used x o : ℕ) (es : ℕ → List Entry) (ps : List ℕ) (ents nexts : List Entry) (l : ℕ) (t : Tree l)
    → Along es ps l t → Planned v x o es ps l ents nexts → Within ps l t → built used ents nexts ps l t ≡ standing (entered v used x o ps l t)

-- a plan written into a tree of a table leaves it faithful, and took the records of the growth
abbrev pub TableFaithful : Type 0
TableFaithful = (v : View) (t t1 : List Node) (used used1 x o : ℕ) (ents nexts : List Entry) (path ps : List ℕ) (l at : ℕ) (right : Option ℕ) (b : Digits) (c : Ceiling)
    → Bounded v → Ready t used ps l at → Trail t path ps l at → Planned v x o (way t path) ps l ents nexts → Entered t t1 used ents nexts ps l at right used1
    → Faithful v l b c (tree_of t l at) → Route v l b c (tree_of t l at) ps (v.key x) o
    → After v l b c t1 at ents right × ((grow v used x o ps l (tree_of t l at)).fetched ≡ (trace v x o (way t path) ps l).list)

-- a growth's plan written into a whole tree makes of it the growth's
abbrev pub Grows : (before after : List Node) → Top → (ents nexts : List Entry) → (places : List ℕ) → Top → Type 0
Grows t t1 top ents nexts ps top' = (v : View) (x o : ℕ) (es : ℕ → List Entry) → Along es ps top.levels (tree_at t top) → Planned v x o es ps top.levels ents nexts
    → stands t1 top' ≡ standing (entered v top.used x o ps top.levels (tree_at t top))

-- and a faithful one, at the place of a key, stays faithful, with the record after those of smaller key
abbrev pub KeepsFaith : (before after : List Node) → Top → (ents nexts : List Entry) → (places : List ℕ) → Top → Type 0
KeepsFaith t t1 top ents nexts ps top' = (v : View) (x o : ℕ) (es : ℕ → List Entry) → Along es ps top.levels (tree_at t top) → Planned v x o es ps top.levels ents nexts
    → Bounded v → Faithful v top.levels floor free (tree_at t top) → Route v top.levels floor free (tree_at t top) ps (v.key x) o
    → Faithful v top'.levels floor free (tree_at t1 top')
    × (shaped top.levels 1 (tree_at t top) ≡ true → records top'.levels (tree_at t1 top') ≡ placed v x (records top.levels (tree_at t top)))
