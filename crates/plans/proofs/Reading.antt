-- Reads up to the first record that is missing.
use Rattle.std.proofs.Common.{◌≡◌, ℕ, ◌+◌, ◌^◌, ◌<◌, ◌≤◌, Bool, true, false, cond, ltb, List, [], ◌∷◌, ◌++◌, length, Some, None, Option, sym, refl, ap, ◌∙◌, arith}
use Rattle.std.specs.List.{AllByRecursion}
use Rattle.std.proofs.lemmas.List.{length-append}
use Rattle.std.proofs.lemmas.Bool.Decides.{nat_tests}
use Rattle.plans.specs.Reads.{EndsAtTheMissing, Fetches, Reads, ReadsAll, reads_until, with_first}
use Rattle.store.proofs.Fetching.{more_reads, no_reads}
use Rattle.store.specs.Meaning.{Meaning, after_reads}

held : (r n : ℕ) → r < n → ltb r n ≡ true
held r n lt = grind (arith, nat_tests)

lacks : (r n : ℕ) → n ≤ r → ltb r n ≡ false
lacks r n le = grind (arith, nat_tests)

-- all held, all are read
pub read_all : (n : ℕ) (rs : List ℕ) → AllByRecursion (λ r. r < n) rs → reads_until n rs ≡ record { before = rs; missing = None }
read_all n [] a = refl
read_all n (r ∷ rs) a =
    ap (λ (b : Bool). cond b (with_first r (reads_until n rs)) (record { before = []; missing = Some r })) (held r n a.0)
    ∙ ap (with_first r) (read_all n rs a.1)

-- none missing, all were read
pub none_missing : (n : ℕ) (rs : List ℕ) → (reads_until n rs).missing ≡ None → ((reads_until n rs).before ≡ rs) × AllByRecursion (λ r. r < n) rs
none_missing n [] e = (refl, tt)
none_missing n (r ∷ rs) e = go (none_missing n rs) (ltb r n) refl e
  where
    go : ((reads_until n rs).missing ≡ None → ((reads_until n rs).before ≡ rs) × AllByRecursion (λ q. q < n) rs) → (b : Bool) → ltb r n ≡ b → (cond b (with_first r (reads_until n rs)) (record { before = []; missing = Some r })).missing ≡ None
        → ((cond b (with_first r (reads_until n rs)) (record { before = []; missing = Some r })).before ≡ r ∷ rs) × AllByRecursion (λ q. q < n) (r ∷ rs)
    go on true h m = let p = on m in (ap (λ (zs : List ℕ). r ∷ zs) p.0, (grind (arith, nat_tests), p.1))
    go on false h m = absurd (let z : ◌≡◌ {A = ℕ} 0 1 = cc in omega arith)

-- reads that went through, and then others
pub reads_on : (n : ℕ) (rs ss : List ℕ) → (reads_until n rs).missing ≡ None → reads_until n (rs ++ ss) ≡ record { before = rs ++ (reads_until n ss).before; missing = (reads_until n ss).missing }
reads_on n [] ss e = refl
reads_on n (r ∷ rs) ss e =
    let p = none_missing n (r ∷ rs) e in
    let q : (reads_until n rs).missing ≡ None = ap (λ (u : Reads). u.missing) (read_all n rs p.1.1) in
    ap (λ (b : Bool). cond b (with_first r (reads_until n (rs ++ ss))) (record { before = []; missing = Some r })) (held r n p.1.0)
    ∙ ap (with_first r) (reads_on n rs ss q)

-- reads that ended, with others after
pub reads_stop : (n : ℕ) (rs ss : List ℕ) (q : ℕ) → (reads_until n rs).missing ≡ Some q → reads_until n (rs ++ ss) ≡ reads_until n rs
reads_stop n [] ss q e = absurd (let z : ◌≡◌ {A = ℕ} 0 1 = cc in omega arith)
reads_stop n (r ∷ rs) ss q e = go (reads_stop n rs ss q) (ltb r n) e
  where
    go : ((reads_until n rs).missing ≡ Some q → reads_until n (rs ++ ss) ≡ reads_until n rs) → (b : Bool) → (cond b (with_first r (reads_until n rs)) (record { before = []; missing = Some r })).missing ≡ Some q
        → cond b (with_first r (reads_until n (rs ++ ss))) (record { before = []; missing = Some r }) ≡ cond b (with_first r (reads_until n rs)) (record { before = []; missing = Some r })
    go on true m = ap (with_first r) (on m)
    go on false m = refl

-- the first that is not held
pub first_missing : (n : ℕ) (ys : List ℕ) (q : ℕ) (zs : List ℕ) → AllByRecursion (λ r. r < n) ys → n ≤ q → reads_until n (ys ++ (q ∷ zs)) ≡ record { before = ys; missing = Some q }
first_missing n [] q zs a le = ap (λ (b : Bool). cond b (with_first q (reads_until n zs)) (record { before = []; missing = Some q })) (lacks q n le)
first_missing n (y ∷ ys) q zs a le =
    ap (λ (b : Bool). cond b (with_first y (reads_until n (ys ++ (q ∷ zs)))) (record { before = []; missing = Some y })) (held y n a.0)
    ∙ ap (with_first y) (first_missing n ys q zs a.1 le)

-- where the reads ended, the list parts at the missing one
pub parts_at : (n : ℕ) (rs : List ℕ) (q : ℕ) → (reads_until n rs).missing ≡ Some q
    → (zs : List ℕ) × ((rs ≡ (reads_until n rs).before ++ (q ∷ zs)) × (AllByRecursion (λ r. r < n) (reads_until n rs).before × (n ≤ q)))
parts_at n [] q e = absurd (let z : ◌≡◌ {A = ℕ} 0 1 = cc in omega arith)
parts_at n (r ∷ rs) q e = go (parts_at n rs q) (ltb r n) refl e
  where
    go : ((reads_until n rs).missing ≡ Some q → (zs : List ℕ) × ((rs ≡ (reads_until n rs).before ++ (q ∷ zs)) × (AllByRecursion (λ k. k < n) (reads_until n rs).before × (n ≤ q)))) → (b : Bool) → ltb r n ≡ b → (cond b (with_first r (reads_until n rs)) (record { before = []; missing = Some r })).missing ≡ Some q
        → (zs : List ℕ) × ((r ∷ rs ≡ (cond b (with_first r (reads_until n rs)) (record { before = []; missing = Some r })).before ++ (q ∷ zs)) × (AllByRecursion (λ k. k < n) (cond b (with_first r (reads_until n rs)) (record { before = []; missing = Some r })).before × (n ≤ q)))
    go on true h m = let p = on m in (p.0, (ap (λ (zs : List ℕ). r ∷ zs) p.1.0, ((grind (arith, nat_tests), p.1.1.0), p.1.1.1)))
    go on false h m = let w : r ≡ q = cc in (rs, (ap (λ (k : ℕ). k ∷ rs) w, (tt, grind (arith, nat_tests))))

pub reads_all : ReadsAll
reads_all n rs = (none_missing n rs, λ p. ap (λ (u : Reads). u.missing) (read_all n rs p.1))

pub ends_at_the_missing : EndsAtTheMissing
ends_at_the_missing n rs q = (parts_at n rs q, λ p. ap (λ (zs : List ℕ). (reads_until n zs).missing) p.1.0 ∙ ap (λ (u : Reads). u.missing) (first_missing n (reads_until n rs).before q p.0 p.1.1.0 p.1.1.1))

pub fetches_none : (m : Meaning) → m.tally < 2 ^ 32 → Fetches m [] None m
fetches_none m h = record { ends = refl; reads = no_reads m h }

pub fetches_one : (m : Meaning) (r : ℕ) (m' : Meaning) → r < length m.keys → m' ≡ after_reads 1 m → Fetches m (r ∷ []) None m'
fetches_one m r m' lt e =
    let u : reads_until (length m.keys) (r ∷ []) ≡ record { before = r ∷ []; missing = None } = read_all (length m.keys) (r ∷ []) (lt, tt) in
    record { ends = ap (λ (z : Reads). z.missing) u; reads = e ∙ sym (ap (λ (z : Reads). after_reads (length z.before) m) u) }

pub fetches_lost : (m : Meaning) (r : ℕ) (m' : Meaning) → m.tally < 2 ^ 32 → length m.keys ≤ r → m' ≡ m → Fetches m (r ∷ []) (Some r) m'
fetches_lost m r m' t le e =
    let u : reads_until (length m.keys) (r ∷ []) ≡ record { before = []; missing = Some r } = first_missing (length m.keys) [] r [] tt le in
    record { ends = ap (λ (z : Reads). z.missing) u; reads = e ∙ (no_reads m t ∙ sym (ap (λ (z : Reads). after_reads (length z.before) m) u)) }

pub fetches_on : (m m1 m2 : Meaning) (rs ss : List ℕ) (q : Option ℕ) → Fetches m rs None m1 → Fetches m1 ss q m2 → Fetches m (rs ++ ss) q m2
fetches_on m m1 m2 rs ss q f g =
    let n = length m.keys in
    let same : length m1.keys ≡ n = ap (λ (z : Meaning). length z.keys) f.reads in
    let on = reads_on n rs ss f.ends in
    let all = none_missing n rs f.ends in
    let m1is : m1 ≡ after_reads (length rs) m = f.reads ∙ ap (λ (zs : List ℕ). after_reads (length zs) m) all.0 in
    record {
      ends = ap (λ (u : Reads). u.missing) on ∙ (ap (λ (k : ℕ). (reads_until k ss).missing) (sym same) ∙ g.ends);
      reads = g.reads ∙ (ap (λ (z : Meaning). after_reads (length (reads_until (length m1.keys) ss).before) z) m1is
          ∙ (more_reads m (length rs) (length (reads_until (length m1.keys) ss).before)
          ∙ (ap (λ (k : ℕ). after_reads (length rs + length (reads_until k ss).before) m) same
          ∙ (ap (λ (k : ℕ). after_reads k m) (sym (length-append rs (reads_until n ss).before))
          ∙ sym (ap (λ (u : Reads). after_reads (length u.before) m) on)))));
    }

pub fetches_stop : (m m1 : Meaning) (rs ss : List ℕ) (q : ℕ) → Fetches m rs (Some q) m1 → Fetches m (rs ++ ss) (Some q) m1
fetches_stop m m1 rs ss q f =
    let e = reads_stop (length m.keys) rs ss q f.ends in
    record { ends = ap (λ (u : Reads). u.missing) e ∙ f.ends; reads = f.reads ∙ sym (ap (λ (u : Reads). after_reads (length u.before) m) e) }

-- what went through took as many reads as there are records
pub reads_of : (m : Meaning) (rs : List ℕ) (m' : Meaning) → Fetches m rs None m' → m' ≡ after_reads (length rs) m
reads_of m rs m' f = f.reads ∙ ap (λ (zs : List ℕ). after_reads (length zs) m) (none_missing (length m.keys) rs f.ends).0
