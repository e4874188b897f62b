-- The plain list of an index: its records in the order of their keys.
use Rattle.std.specs.Prelude.{ℕ, Bool, cond, List, [], ◌∷◌, nat_lt}
use Rattle.keys.specs.Digits.{Below, Digits, first_gap_of}
use Rattle.nodes.specs.Faith.{Ceiling, Under, View}

-- record a has the smaller key
abbrev pub smaller : View → (a b : ℕ) → Bool
smaller v a b = nat_lt (v.key a (first_gap_of v.last 0 (v.key a) (v.key b))) (v.key b (first_gap_of v.last 0 (v.key a) (v.key b)))

-- a record put after those of smaller key
abbrev pub placed : View → (x : ℕ) → List ℕ → List ℕ
placed v x [] = x ∷ []
placed v x (r ∷ rs) = cond (smaller v r x) (r ∷ placed v x rs) (x ∷ (r ∷ rs))

-- ascending keys, over a base and under a ceiling
abbrev pub Rising : View → Digits → Ceiling → List ℕ → Type 0
Rising v b c [] = Under c b
Rising v b c (r ∷ rs) = Below b (v.key r) × Rising v (v.key r) c rs

-- one list is the other with x put in somewhere
pub data Added (x : ℕ) : List ℕ → List ℕ → Type 0 where
  first : {xs : List ℕ} → Added x xs (x ∷ xs)
  later : {y : ℕ} {xs ys : List ℕ} → Added x xs ys → Added x (y ∷ xs) (y ∷ ys)
