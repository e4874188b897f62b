-- The rule of the table of leading zeros, by one test over the whole of it.
use Rattle.std.proofs.Common.{◌≡◌, ℕ, zero, suc, ◌<◌, Bool, true, ◌&&◌, eqb, List, ◌∷◌, ◌++◌, get_or, replicate, refl}
use Rattle.std.proofs.lemmas.Bool.Decides.{Decides-below_and, Decides-eqb}
use Rattle.keys.specs.Bits.{zeros_before_one}

-- the table of src/zeros.rt
abbrev pub table : List ℕ
table = 8 ∷ 7 ∷ replicate 2 6 ++ replicate 4 5 ++ replicate 8 4 ++ replicate 16 3 ++ replicate 32 2 ++ replicate 64 1 ++ replicate 128 0

right : ℕ → Bool
right v = eqb (get_or table v 0) (zeros_before_one 8 v)

-- the first n entries are right
all_right : ℕ → Bool
all_right zero = true
all_right (suc n) = right n && all_right n

pub entry_right : (v : ℕ) → v < 256 → get_or table v 0 ≡ zeros_before_one 8 v
unfolding right all_right
entry_right v h = (Decides-below_and right (λ v. get_or table v 0 ≡ zeros_before_one 8 v) all_right
    (λ v. Decides-eqb (get_or table v 0) (zeros_before_one 8 v)) refl (λ _. refl) 256).0 refl v h
