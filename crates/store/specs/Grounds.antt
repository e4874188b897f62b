-- The fifteen grounds of a refusal, and how a call picks one.
use Rattle.std.specs.Prelude.{ℕ, Bool, cond, ◌||◌, List, [], ◌∷◌, codes, Some, None, Option, ◌==◌, nat_lt}
use Rattle.store.specs.declared.refusal.Refusal.{Refusal}
use Rattle.store.specs.declared.refusal.Refusal.TheVariants.{LineForm, FieldForm, FieldRange, KeyWidth, PartialLength, StoreWidth, KeyLength, HeadLength, NotHeld, StoreFull, SearchMissing, NotAscending, KeyPresent, NodesSpent, PartialKeyMissing}

-- each ground's number
abbrev pub number : Refusal → ℕ
number LineForm = 1
number FieldForm = 2
number FieldRange = 3
number KeyWidth = 4
number PartialLength = 5
number StoreWidth = 6
number KeyLength = 7
number HeadLength = 8
number NotHeld = 9
number StoreFull = 10
number (SearchMissing r) = 11
number NotAscending = 12
number (KeyPresent r) = 13
number NodesSpent = 14
number (PartialKeyMissing r) = 15

-- the record that a ground names: the missing one, or the one standing there
abbrev pub named : Refusal → Option ℕ
named LineForm = None
named FieldForm = None
named FieldRange = None
named KeyWidth = None
named PartialLength = None
named StoreWidth = None
named KeyLength = None
named HeadLength = None
named NotHeld = None
named StoreFull = None
named (SearchMissing r) = Some r
named NotAscending = None
named (KeyPresent r) = Some r
named NodesSpent = None
named (PartialKeyMissing r) = Some r

-- what each ground says
abbrev pub words : Refusal → List ℕ
words LineForm = codes "the line's letter or length fits neither a label nor a query"
words FieldForm = codes "a field is not blanks, a permitted minus and digits"
words FieldRange = codes "a class, day or minute is out of range"
words KeyWidth = codes "a width for a shape, card or pocket is 0 or above 32"
words PartialLength = codes "a shape's partial length is above 16"
words StoreWidth = codes "the store's width differs from that of the intake or index"
words KeyLength = codes "a key or buffer differs from the width in length"
words HeadLength = codes "the head is longer than the width"
words NotHeld = codes "the store does not hold the record"
words StoreFull = codes "the store is at capacity"
words (SearchMissing r) = codes "the search must fetch a record that the store does not hold"
words NotAscending = codes "an added key is not above the last"
words (KeyPresent r) = codes "the key is in the index already"
words NodesSpent = codes "fewer nodes are unused than needed"
words (PartialKeyMissing r) = codes "a new partial key needs a record that the store does not hold"

-- a ground of a call: whether it holds, and the refusal that it gives
pub record Ground : Type 0 where
  pub holds : Bool
  pub gives : Refusal

-- A call is refused exactly if one of its grounds holds, by the first of them in checking order.
abbrev pub first_ground : List Ground → Option Refusal
first_ground [] = None
first_ground (g ∷ gs) = cond g.holds (Some g.gives) (first_ground gs)

-- the grounds of a making, for keys of w bytes: a width of 0 or above 32
abbrev pub width_grounds : (w : ℕ) → List Ground
width_grounds w = record { holds = w == 0 || nat_lt 32 w; gives = KeyWidth } ∷ []
