-- The records of a faithful tree, read from left to right, have ascending keys.
use Rattle.std.proofs.Common.{ℕ, zero, suc, List, [], ◌∷◌, ◌++◌, map}
use Rattle.keys.proofs.Offsets.{below_trans}
use Rattle.keys.specs.Digits.{Below, Digits}
use Rattle.nodes.specs.declared.node.Entry.{Entry}
use Rattle.nodes.specs.Faith.{Ceiling, Faithful, Strung, Under, View, under}
use Rattle.nodes.specs.Trees.{Tree, records, weave}
use Rattle.search.proofs.Weaves.{StartsAbove, top}

-- keys ascend from above the base to under the ceiling
abbrev pub Between : View → Digits → Ceiling → List ℕ → Type 0
Between v base c [] = Under c base
Between v base c (r ∷ rs) = Below base (v.key r) × Between v (v.key r) c rs

-- keys ascend, the first above the base
abbrev pub Rising : View → Digits → List ℕ → Type 0
Rising v base [] = Unit {0}
Rising v base (r ∷ rs) = Below base (v.key r) × Rising v (v.key r) rs

between-append : (v : View) (b : Digits) (c : Ceiling) (xs : List ℕ) (r : ℕ) (ys : List ℕ) → Between v b (under (v.key r)) xs → Between v (v.key r) c ys → Between v b c (xs ++ (r ∷ ys))
between-append v b c [] r ys a d = (a, d)
between-append v b c (x ∷ xs) r ys a d = (a.0, between-append v (v.key x) c xs r ys a.1 d)

strung_between : {T : Type 0} (v : View) (F : Digits → Ceiling → T → Type 0) (f : T → List ℕ) → ((b : Digits) (c : Ceiling) (t : T) → F b c t → Between v b c (f t)) →
    (b : Digits) (c : Ceiling) (es : List Entry) (ts : List T) → Strung v F b c es ts → Between v b c (weave es (map f ts))
strung_between v F f each b c [] [] s = absurd s
strung_between v F f each b c [] (t ∷ []) s = each b c t s
strung_between v F f each b c [] (t ∷ (u ∷ ts)) s = absurd s
strung_between v F f each b c (e ∷ es) [] s = absurd s
strung_between v F f each b c (e ∷ es) (t ∷ ts) s =
    between-append v b c (f t) e.number (weave es (map f ts)) (each b (under (v.key e.number)) t s.0) (strung_between v F f each (v.key e.number) c es ts s.1.1)

faithful_between : (v : View) (l : ℕ) (b : Digits) (c : Ceiling) (t : Tree l) → Faithful v l b c t → Between v b c (records l t)
faithful_between v zero b c t f = f
faithful_between v (suc l) b c t f = strung_between v (Faithful v l) (records l) (faithful_between v l) b c t.entries t.kids f

between_rising : (v : View) (b : Digits) (c : Ceiling) (rs : List ℕ) → Between v b c rs → Rising v b rs
between_rising v b c [] h = tt
between_rising v b c (r ∷ rs) h = (h.0, between_rising v (v.key r) c rs h.1)

pub faithful_rising : (v : View) (l : ℕ) (b : Digits) (c : Ceiling) (t : Tree l) → Faithful v l b c t → Rising v b (records l t)
faithful_rising v l b c t f = between_rising v b c (records l t) (faithful_between v l b c t f)

-- all keys smaller than s; all greater
abbrev pub AllBelow : View → Digits → List ℕ → Type 0
AllBelow v s [] = Unit {0}
AllBelow v s (x ∷ xs) = Below (v.key x) s × AllBelow v s xs

abbrev pub AllAbove : View → Digits → List ℕ → Type 0
AllAbove v s [] = Unit {0}
AllAbove v s (x ∷ xs) = Below s (v.key x) × AllAbove v s xs

-- in an ascending list the keys before a smaller one are smaller, and those after a greater one greater
pub smaller_all : (v : View) (s base : Digits) (xs ys : List ℕ) → Rising v base (xs ++ ys) → Below (top v base xs) s → Below base s × AllBelow v s xs
smaller_all v s base [] ys h b = (b, tt)
smaller_all v s base (x ∷ xs) ys h b =
    let r = smaller_all v s (v.key x) xs ys h.1 b in
    (below_trans base (v.key x) s h.0 r.0, (r.0, r.1))

pub rising_drop : (v : View) (base : Digits) (xs ys : List ℕ) → Rising v base (xs ++ ys) → Rising v (top v base xs) ys
rising_drop v base [] ys h = h
rising_drop v base (x ∷ xs) ys h = rising_drop v (v.key x) xs ys h.1

pub greater_from : (v : View) (s k : Digits) (ys : List ℕ) → Below s k → Rising v k ys → AllAbove v s ys
greater_from v s k [] b h = tt
greater_from v s k (y ∷ ys) b h = let c = below_trans s k (v.key y) b h.0 in (c, greater_from v s (v.key y) ys c h.1)

pub greater_all : (v : View) (s base : Digits) (ys : List ℕ) → Rising v base ys → StartsAbove v s ys → AllAbove v s ys
greater_all v s base [] h g = tt
greater_all v s base (y ∷ ys) h g = (g, greater_from v s (v.key y) ys g h.1)
