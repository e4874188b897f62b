-- The candidate of a sweep, and the place that it leads to once it is compared.
use Rattle.std.specs.Prelude.{ℕ, zero, suc, ◌-◌, Bool, true, cond, Some, None, Option, nat_le, nat_lt}
use Rattle.keys.specs.Digits.{Digits}
use Rattle.keys.specs.declared.comparison.Comparison.{Comparison}
use Rattle.keys.specs.declared.comparison.Comparison.TheVariants.{Equal, Greater, Less}
use Rattle.search.specs.Parts.{Parts}
use Rattle.search.specs.Sweeping.{swept}
use Rattle.search.specs.declared.place.Placement.{Placement}
use Rattle.search.specs.declared.place.Placement.TheVariants.{Found, Place}
use Rattle.search.specs.declared.place.Step.{Step}
use Rattle.search.specs.declared.place.Step.TheVariants.{Ask, Known}
use Rattle.search.specs.declared.sweep.Swept.{Swept}

-- Whether a key of offset e is looked at. After a key passed over at the offset b, the unbroken run of larger ones is not.
abbrev pub looked_at : Option ℕ → ℕ → Bool
looked_at None e = true
looked_at (Some b) e = nat_le e b

-- The candidate among t keys from place i on, c so far: a key at whose offset the search key's digit is not below the lead
-- takes over; one where it is smaller is passed over, with the larger offsets right after it.
abbrev pub candidate : Digits → Parts → (t i c : ℕ) → (passed : Option ℕ) → ℕ
candidate s p zero i c b = c
candidate s p (suc t) i c b = cond (looked_at b (p.offset i))
    (cond (nat_le (p.lead i) (s (p.offset i)))
    (candidate s p t (suc i) i None)
    (candidate s p t (suc i) c (Some (p.offset i))))
    (candidate s p t (suc i) c b)

-- the candidate of the open keys from low on and before high: the first of them, or a later one
abbrev pub candidate_of : Digits → Parts → (low high : ℕ) → ℕ
candidate_of s p low high = candidate s p (high - suc low) (suc low) low None

-- The first of t places from i on with an offset not above d, or the place after them. On bits that is the first below d: a
-- later key with the offset d has a 1 there, as the search key has, and would itself have been the candidate.
abbrev pub upward : Parts → (d t i : ℕ) → ℕ
upward p d zero i = i
upward p d (suc t) i = cond (nat_le (p.offset i) d) i (upward p d t (suc i))

-- the last place up to i with an offset below d
abbrev pub downward : Parts → (d i : ℕ) → ℕ
downward p d zero = zero
downward p d (suc i) = cond (nat_lt (p.offset (suc i)) d) (suc i) (downward p d i)

-- Where the search key stands, by its comparison with the candidate c. Greater, at d: before the first later key whose offset
-- is not above d, high at the latest. Less, at d: before the last key up to c whose offset is below d, and that is the offset.
abbrev pub settled : Parts → (high c : ℕ) → Comparison → Placement
settled p high c Equal = Found c
settled p high c (Greater d) = Place (upward p d (high - suc c) (suc c)) d
settled p high c (Less d) = Place (downward p d c) (p.offset (downward p d c))

-- what a sweep leads to: a place, if no key is open, or a candidate to ask for
abbrev pub step_after : Digits → Parts → Swept → Step
step_after s p w = cond (nat_lt w.low w.high) (Ask w.high (candidate_of s p w.low w.high)) (Known w.low w.offset)

abbrev pub looked : Digits → Parts → (n o : ℕ) → Step
looked s p n o = step_after s p (swept s p n o)

-- a whole search of a node: tell c compares the search key with the key at place c, and is asked at most once
abbrev pub finished : Parts → (ℕ → Comparison) → Step → Placement
finished p tell (Known q o) = Place q o
finished p tell (Ask high c) = settled p high c (tell c)

abbrev pub searched : Digits → Parts → (n o : ℕ) → (ℕ → Comparison) → Placement
searched s p n o tell = finished p tell (looked s p n o)
