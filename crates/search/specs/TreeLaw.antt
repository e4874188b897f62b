-- What holds of the search down a tree.
use Rattle.std.specs.Prelude.{◌≡◌, ℕ, ◌+◌, ◌*◌, ◌<◌, ◌≤◌, true, cond, ◌↔◌, List, ◌++◌, length, Some, None, Option, nat_lt}
use Rattle.std.specs.List.{AllByRecursion}
use Rattle.keys.specs.Bits.{bits}
use Rattle.keys.specs.Bytes.{Key}
use Rattle.keys.specs.Comparing.{compared, comparison}
use Rattle.keys.specs.Digits.{Above, Digits, floor}
use Rattle.keys.specs.declared.comparison.Comparison.{Comparison}
use Rattle.nodes.specs.Faith.{Ceiling, Faithful, View, free}
use Rattle.nodes.specs.Trees.{Tree, records, shaped}
use Rattle.search.specs.Names.{Names}
use Rattle.search.specs.PlainList.{not_below, plain}
use Rattle.search.specs.Seek.{seek, sought}
use Rattle.search.specs.Walk.{rest}
use Rattle.search.specs.Winner.{Shares, Wins, winner}
use Rattle.store.specs.Meaning.{Lawful, Meaning, key_of}

-- a view of keys of bits, with none past the last place
pub record OfBits (v : View) : Type 0 where
  pub each : (r j : ℕ) → v.key r j ≤ 1
  pub past : (r j : ℕ) → v.last < j → v.key r j ≡ 0

-- a search key as long as the keys of a view
pub record FitsView (v : View) (s : Digits) : Type 0 where
  pub top : s 0 ≡ 1
  pub past : (j : ℕ) → v.last < j → s j ≡ 0

-- s against the key of a record
abbrev pub tells : View → Digits → ℕ → Comparison
tells v s r = compared (v.last + 1) s (v.key r)

-- the records of a tree are at hand: each is compared with s by its own key
abbrev pub AtHand : View → Digits → (ℕ → Option Comparison) → List ℕ → Type 0
AtHand v s fetch rs = AllByRecursion (λ r. fetch r ≡ Some (tells v s r)) rs

-- Over a faithful tree the search gives what the plain list gives.
abbrev pub LookupRight : Type 0
LookupRight = (v : View) (l : ℕ) (t : Tree l) (s : Digits) (fetch : ℕ → Option Comparison) →
    OfBits v → FitsView v s → Faithful v l floor free t → AtHand v s fetch (records l t) →
    (sought s fetch l t).end ≡ plain (tells v s) (records l t)

-- The records from the place on are those whose keys are not below.
abbrev pub WalkRight : Type 0
WalkRight = (v : View) (l : ℕ) (t : Tree l) (s : Digits) (fetch : ℕ → Option Comparison) →
    OfBits v → FitsView v s → Faithful v l floor free t → AtHand v s fetch (records l t) →
    rest s fetch l t 0 ≡ not_below (tells v s) (records l t)

-- At most one key a level is fetched, over any tree and any store.
abbrev pub ReadsFew : Type 0
ReadsFew = (s : Digits) (fetch : ℕ → Option Comparison) (l : ℕ) (t : Tree l) (b : Option ℕ) (o : ℕ) (a : Option ℕ) →
    length (seek s fetch l t b o a).fetched ≤ l

-- Over any store, an answer names a record of the tree, or two neighbours in it.
abbrev pub NamesOwn : Type 0
NamesOwn = (s : Digits) (fetch : ℕ → Option Comparison) (l least : ℕ) (t : Tree l) → shaped l least t ≡ true →
    Names (records l t) None None (sought s fetch l t).end

-- And what a walk gives is the end of the tree's list.
abbrev pub WalkOwn : Type 0
WalkOwn = (s : Digits) (fetch : ℕ → Option Comparison) (l least : ℕ) (t : Tree l) (o : ℕ) → shaped l least t ≡ true →
    (before : List ℕ) × (records l t ≡ before ++ rest s fetch l t o)

-- A store that grew keeps a tree faithful: the records held before have their keys.
abbrev pub Grows : Type 0
Grows = (v w : View) (n l : ℕ) (base : Digits) (c : Ceiling) (t : Tree l) →
    w.last ≡ v.last → w.keep ≡ v.keep → ((r : ℕ) → r < n → w.key r ≡ v.key r) →
    AllByRecursion (λ r. r < n) (records l t) → Faithful v l base c t → Faithful w l base c t

-- how an index with a partial length sees a store
abbrev pub view_of : (keep : ℕ) → Meaning → View
view_of keep m = record { key = λ r. bits (key_of m r); last = 8 * m.width; keep = keep }

-- a key against that of a record which the store holds
abbrev pub fetching : Meaning → List ℕ → ℕ → Option Comparison
fetching m key r = cond (nat_lt r (length m.keys)) (Some (comparison key (key_of m r))) None

-- the store holds all the records
abbrev pub HeldBy : Meaning → List ℕ → Type 0
HeldBy m rs = AllByRecursion (λ r. r < length m.keys) rs

-- A lawful store, a key of its width, and a tree that is faithful to it and whose records it holds.
pub record StandsOver (m : Meaning) (keep l : ℕ) (t : Tree l) (key : List ℕ) : Type 0 where
  pub lawful : Lawful m
  pub width : Key m.width key
  pub faithful : Faithful (view_of keep m) l floor free t
  pub held : HeldBy m (records l t)

-- So over a store the search gives what the plain list gives, and so does the walk.
abbrev pub StoreLookupRight : Type 0
StoreLookupRight = (m : Meaning) (keep l : ℕ) (t : Tree l) (key : List ℕ) → StandsOver m keep l t key →
    (sought (bits key) (fetching m key) l t).end ≡ plain (λ r. comparison key (key_of m r)) (records l t)

abbrev pub StoreWalkRight : Type 0
StoreWalkRight = (m : Meaning) (keep l : ℕ) (t : Tree l) (key : List ℕ) → StandsOver m keep l t key →
    rest (bits key) (fetching m key) l t 0 ≡ not_below (λ r. comparison key (key_of m r)) (records l t)

-- A key shares the head of a smaller one exactly if the offset between them lies past the head.
abbrev pub HeadLaw : Type 0
HeadLaw = (head w o : ℕ) (a b : List ℕ) → Key w a → Key w b → Above (bits a) (bits b) o → Shares head a b ↔ (8 * head < o)

-- The winner that the search shows is the greatest record not above the key that shares the head.
abbrev pub WinnerRight : Type 0
WinnerRight = (m : Meaning) (keep l head : ℕ) (t : Tree l) (key : List ℕ) → StandsOver m keep l t key →
    Wins head (key_of m) key (records l t) (winner head (sought (bits key) (fetching m key) l t).end)
