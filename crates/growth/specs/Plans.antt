-- The reads of an entry, from the leaf up, and the plan that they make.
use Rattle.std.specs.Prelude.{◌≡◌, ℕ, zero, suc, ◌<◌, ◌≤◌, Bool, true, false, cond, List, [], ◌∷◌, ◌++◌, length, get_or, take, ◌==◌, nat_lt, slice_index, slice_index_or}
use Rattle.growth.specs.Growth.{Up, asked, follow, grow, least, put, rise, stay}
use Rattle.nodes.specs.Faith.{View, made}
use Rattle.nodes.specs.Trees.{Tree, no_entry}
use Rattle.nodes.specs.declared.node.Entry.{Entry}

-- what comes up to a height: a record, and its offset to its base there
pub record Carry : Type 0 where
  pub number : ℕ
  pub offset : ℕ

abbrev pub next_carry : List Entry → Carry
next_carry w = record { number = (get_or w 4 no_entry).number; offset = least (take 5 w) }

abbrev pub carry : View → (x o : ℕ) → (es : ℕ → List Entry) → (places : List ℕ) → (h : ℕ) → Carry
carry v x o es ps zero = record { number = x; offset = o }
carry v x o es ps (suc h) = next_carry (put v (carry v x o es ps h).number (carry v x o es ps h).offset (slice_index ps h) (es h))

-- the record that moves up is fetched, unless it is the one entered
abbrev pub lifted : (x r : ℕ) → List ℕ
lifted x r = cond (r == x) [] (r ∷ [])

pub record Trace : Type 0 where
  pub list : List ℕ
  pub whole : Bool

-- one node more on the way up: its following key's record, and where it is full the record that moves up
abbrev pub traced : (x : ℕ) → Trace → (asks : List ℕ) → (room : Bool) → (r : ℕ) → Trace
traced x t a room r = cond t.whole
    (cond room (record { list = t.list ++ a; whole = false }) (record { list = (t.list ++ a) ++ lifted x r; whole = true })) t

-- the records fetched up to a height, and whether every node below it is full
abbrev pub trace : View → (x o : ℕ) → (es : ℕ → List Entry) → (places : List ℕ) → (h : ℕ) → Trace
trace v x o es ps zero = record { list = []; whole = true }
trace v x o es ps (suc h) = traced x (trace v x o es ps h) (asked (carry v x o es ps h).offset (slice_index ps h) (es h)) (nat_lt (length (es h)) 7) (carry v x o es ps (suc h)).number

-- A plan holds, for each height that a record comes to, that record's entry and the following one as it becomes.
pub record Planned (v : View) (x o : ℕ) (es : ℕ → List Entry) (places : List ℕ) (levels : ℕ) (ents nexts : List Entry) : Type 0 where
  pub entries : (h : ℕ) → h ≤ levels → (trace v x o es places h).whole ≡ true → slice_index_or ents h no_entry ≡ made v (carry v x o es places h).number (carry v x o es places h).offset
  pub follows : (h : ℕ) → h < levels → (trace v x o es places h).whole ≡ true → slice_index places h < length (es h)
      → slice_index_or nexts h no_entry ≡ follow v (carry v x o es places h).number (carry v x o es places h).offset (slice_index_or (es h) (slice_index places h) no_entry)

abbrev pub lifts : {T : Type 0} → Up T → Bool
lifts stay = false
lifts (rise r o t) = true

abbrev pub Comes : {T : Type 0} → Up T → Carry → Type 0
Comes stay c = Unit {0}
Comes (rise r o t) c = (r ≡ c.number) × (o ≡ c.offset)

-- the plan's reads over a way down a tree are the growth's
pub record Traced (v : View) (used x o : ℕ) (es : ℕ → List Entry) (places : List ℕ) (l : ℕ) (t : Tree l) : Type 0 where
  pub fetches : (grow v used x o places l t).fetched ≡ (trace v x o es places l).list
  pub goes_up : lifts (grow v used x o places l t).up ≡ (trace v x o es places l).whole
  pub comes : Comes (grow v used x o places l t).up (carry v x o es places l)
