-- The sweep of a node: from key to key, what its partial keys tell of the search key, with nothing fetched.
use Rattle.std.specs.Prelude.{ℕ, zero, suc, cond, List, [], ◌∷◌, nat_lt}
use Rattle.keys.specs.Digits.{Above, Agree, Digits}
use Rattle.search.specs.Parts.{Parts}
use Rattle.search.specs.declared.order.Order.{Order}
use Rattle.search.specs.declared.order.Order.TheVariants.{Greater, Less, Open}
use Rattle.search.specs.declared.sweep.Swept.{Swept}

abbrev pub offset_of : Order → ℕ
offset_of (Greater o) = o
offset_of (Less o) = o
offset_of (Open o) = o

-- what an order says of the search key s and a key a
abbrev pub Holds : Digits → Digits → Order → Type 0
Holds s a (Greater o) = Above s a o
Holds s a (Less o) = Above a s o
Holds s a (Open o) = Agree s a o

-- the digits of s from place b on against kept ones
abbrev pub against : Digits → ℕ → List ℕ → Order
against s b [] = Open b
against s b (x ∷ xs) = cond (nat_lt (s b) x) (Less b) (cond (nat_lt x (s b)) (Greater b) (against s (suc b) xs))

-- From the order to one key to the order to the next, whose offset is e and whose digits from e on are xs. If e is larger,
-- order and offset remain; if smaller, the search key is less at e; if they are the same, the digits decide.
abbrev pub step : Digits → Order → ℕ → List ℕ → Order
step s r e xs = cond (nat_lt (offset_of r) e) r (cond (nat_lt e (offset_of r)) (Less e) (against s e xs))

-- From place i on, t keys: low is the place after the last key found smaller than s, offset the offset to it, and r the order
-- to the last key. It ends at the first key found greater than s, or at the end: high.
abbrev pub sweep : Digits → Parts → (t i low offset : ℕ) → Order → Swept
sweep s p zero i low offset r = record { low = low; offset = offset; high = i }
sweep s p (suc t) i low offset r = elim (step s r (p.offset i) (p.lead i ∷ p.rest i)) [
  | Greater o ↦ sweep s p t (suc i) (suc i) o (Greater o)
  | Less o ↦ record { low = low; offset = offset; high = i }
  | Open o ↦ sweep s p t (suc i) low offset (Open o)
]

-- the sweep of a node of n keys, over a base that s lies above at o
abbrev pub swept : Digits → Parts → (n o : ℕ) → Swept
swept s p n o = sweep s p n 0 0 o (Greater o)
