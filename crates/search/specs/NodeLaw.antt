-- What holds of the search of a node.
use Rattle.std.specs.Prelude.{◌≡◌, ℕ, zero, suc, ◌-◌, ◌<◌, ◌≤◌, cond, nat_lt}
use Rattle.keys.specs.Digits.{Above, Agree, Below, Digits}
use Rattle.keys.specs.declared.comparison.Comparison.{Comparison}
use Rattle.keys.specs.declared.comparison.Comparison.TheVariants.{Equal, Greater, Less}
use Rattle.search.specs.Parts.{Parts, Placed, TrueNode}
use Rattle.search.specs.Placing.{looked, searched, settled, upward}
use Rattle.search.specs.declared.place.Placement.{Placement}
use Rattle.search.specs.declared.place.Placement.TheVariants.{Found, Place}
use Rattle.search.specs.declared.place.Step.{Step}
use Rattle.search.specs.declared.place.Step.TheVariants.{Ask, Known}

-- a comparison is true of two keys of N digits
abbrev pub Tells : (N : ℕ) → Digits → Digits → Comparison → Type 0
Tells N s a Equal = Agree s a N
Tells N s a (Greater d) = Above s a d
Tells N s a (Less d) = Above a s d

-- a placement is right: the key found is the search key, or the place and the offset are
abbrev pub Right : (N n : ℕ) → (ℕ → Digits) → Digits → Placement → Type 0
Right N n k s (Found c) = (c < n) × Agree s (k (suc c)) N
Right N n k s (Place q o) = Placed n k s q o

-- a step is right: its place is, or every true comparison with its candidate leads to a right placement
abbrev pub LeadsRight : (N n : ℕ) → (ℕ → Digits) → Parts → Digits → Step → Type 0
LeadsRight N n k p s (Known q o) = Placed n k s q o
LeadsRight N n k p s (Ask high c) = (c < n) × ((x : Comparison) → Tells N s (k (suc c)) x → Right N n k s (settled p high c x))

-- The search of a true node is right, for every key above the base, from its offset to the base on, and over any digits.
abbrev pub LookRight : Type 0
LookRight = (N n o : ℕ) (k : ℕ → Digits) (p : Parts) (s : Digits) →
    TrueNode n k p → Above s (k 0) o → LeadsRight N n k p s (looked s p n o)

abbrev pub NodeSearchRight : Type 0
NodeSearchRight = (N n o : ℕ) (k : ℕ → Digits) (p : Parts) (s : Digits) (tell : ℕ → Comparison) →
    TrueNode n k p → Above s (k 0) o → ((c : ℕ) → c < n → Tells N s (k (suc c)) (tell c)) →
    Right N n k s (searched s p n o tell)

-- A right place splits the node: the keys up to it are smaller, those from it on greater.
abbrev pub PlaceSplits : Type 0
PlaceSplits = (n q o : ℕ) (k : ℕ → Digits) (p : Parts) (s : Digits) → TrueNode n k p → Placed n k s q o →
    ((i : ℕ) → i ≤ q → Below (k i) s) × ((i : ℕ) → q < i → i ≤ n → Below s (k i))

-- Without any such law, over entries of any kind: a place lies in the node, and so does a candidate, before high.
abbrev pub InNode : ℕ → Placement → Type 0
InNode n (Found c) = c < n
InNode n (Place q o) = q ≤ n

abbrev pub StepInNode : ℕ → Step → Type 0
StepInNode n (Known q o) = q ≤ n
StepInNode n (Ask high c) = (c < high) × (high ≤ n)

-- and its offset is at most m
abbrev pub PlacedUpto : ℕ → Placement → Type 0
PlacedUpto m (Found c) = Unit {0}
PlacedUpto m (Place q o) = o ≤ m

abbrev pub StepsUpto : ℕ → Step → Type 0
StepsUpto m (Known q o) = o ≤ m
StepsUpto m (Ask high c) = Unit {0}

abbrev pub ComparedUpto : ℕ → Comparison → Type 0
ComparedUpto m Equal = Unit {0}
ComparedUpto m (Greater d) = d ≤ m
ComparedUpto m (Less d) = d ≤ m

-- the first of t places from i on with an offset below d, or the place after them
abbrev pub strictly_upward : Parts → (d t i : ℕ) → ℕ
strictly_upward p d zero i = i
strictly_upward p d (suc t) i = cond (nat_lt (p.offset i) d) i (strictly_upward p d t (suc i))

-- On bits, the search key being greater than its candidate at d, the first later offset not above d is below d: the two
-- scans stop at one place.
abbrev pub BitsScanAlike : Type 0
BitsScanAlike = (n o : ℕ) (k : ℕ → Digits) (p : Parts) (s : Digits) (high c d : ℕ) →
    TrueNode n k p → ((i j : ℕ) → k i j ≤ 1) → Above s (k 0) o → looked s p n o ≡ Ask high c → Above s (k (suc c)) d →
    strictly_upward p d (high - suc c) (suc c) ≡ upward p d (high - suc c) (suc c)
