-- Lists written element by element, and a list with an element put in.
use Rattle.std.proofs.Common.{◌≡◌, ℕ, zero, suc, ◌+◌, ◌-◌, ◌<◌, ◌≤◌, List, [], ◌∷◌, ◌++◌, length, get_or, take, drop, set, replicate, refl, ap, ◌∙◌, add-one, arith}
use Rattle.std.specs.List.{insert}
use Rattle.std.proofs.lemmas.List.{get_or_append_left, get_or-append_right, get_or-drop, get_or-replicate, get_or-take, length-append, length-drop, length-replicate, length-take-le, take_all, take_more, take_more_set}

pub fill_step : {X : Type 0} (out goal : List X) (k : ℕ) (y d : X) → length out ≡ length goal → k < length out → take k out ≡ take k goal → y ≡ get_or goal k d → take (k + 1) (set out k y) ≡ take (k + 1) goal
fill_step out goal k y d long lt h is =
    let a = take_more_set out k y lt in
    let b = take_more goal k d (omega arith) in
    cc

pub fill_end : {X : Type 0} (out goal : List X) (n : ℕ) → length out ≤ n → length goal ≤ n → take n out ≡ take n goal → out ≡ goal
fill_end out goal n lo lg h = let a = take_all n out lo in let b = take_all n goal lg in cc

module _ {X : Type 0} (src : List X) (from n m : ℕ) (pad : X) (fits : from + n ≤ length src) where
  pub part_long : n ≤ m → length (take n (drop from src) ++ replicate (m - n) pad) ≡ m
  part_long le =
      let a : length (take n (drop from src)) ≡ n = length-take-le n (drop from src) (omega (arith, length-drop from src)) in
      omega (arith, length-append (take n (drop from src)) (replicate (m - n) pad), length-replicate (m - n) pad)

  pub part_front : (k : ℕ) (d : X) → k < n → get_or (take n (drop from src) ++ replicate (m - n) pad) k d ≡ get_or src (from + k) d
  part_front k d lt =
      let a : length (take n (drop from src)) ≡ n = length-take-le n (drop from src) (omega (arith, length-drop from src)) in
      get_or_append_left (take n (drop from src)) (replicate (m - n) pad) d k (omega arith) ∙ (get_or-take n (drop from src) k d lt ∙ get_or-drop from src k d)

  pub part_back : (k : ℕ) (d : X) → n ≤ k → k < m → get_or (take n (drop from src) ++ replicate (m - n) pad) k d ≡ pad
  part_back k d le lt =
      let a : length (take n (drop from src)) ≡ n = length-take-le n (drop from src) (omega (arith, length-drop from src)) in
      get_or-append_right (take n (drop from src)) (replicate (m - n) pad) n k d a le ∙ get_or-replicate (m - n) (k - n) pad d (omega arith)

pub take_inserted_suc : {X : Type 0} (i c : ℕ) (xs : List X) (e : X) → i ≤ c → c ≤ length xs → take (suc c) (insert xs i e) ≡ insert (take c xs) i e
take_inserted_suc zero c xs e le lx = refl
take_inserted_suc (suc i) zero xs e le lx = absurd (omega arith)
take_inserted_suc (suc i) (suc c) [] e le lx = absurd (omega arith)
take_inserted_suc (suc i) (suc c) (x ∷ xs) e le lx = ap (λ ys. x ∷ ys) (take_inserted_suc i c xs e (omega arith) (omega arith))

pub take_inserted : {X : Type 0} (i c : ℕ) (xs : List X) (e : X) → i ≤ c → c ≤ length xs → take (c + 1) (insert xs i e) ≡ insert (take c xs) i e
take_inserted i c xs e le lx = rw add-one (take_inserted_suc i c xs e le lx)
