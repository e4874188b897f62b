-- What a fetch did, by whether it was done; the tally of reads; and what `?` passes up.
use Rattle.std.proofs.Common.{◌≡◌, ℕ, ◌+◌, ◌%◌, ◌^◌, ◌<◌, ◌≤◌, Bool, true, false, cond, not, eqb, leb, List, length, Some, None, Ok, Err, Result, refl, ap, sym, subst, arith}
use Rattle.std.proofs.lemmas.Bool.Decides.{nat_tests}
use Rattle.std.specs.Result.{IsErrAnd, is_ok}
use Rattle.store.specs.Grounds.{first_ground}
use Rattle.store.specs.Meaning.{Fetched, Meaning, after_reads, fetch_grounds, key_of}
use Rattle.store.specs.declared.refusal.Refusal.{Refusal}
use Rattle.store.specs.declared.refusal.Refusal.TheVariants.{KeyLength, NotHeld}

-- done, it read once, and the buffer holds the key
pub record Read (m : Meaning) (r : ℕ) (b : List ℕ) (m' : Meaning) (b' : List ℕ) : Type 0 where
  pub room : length b ≡ m.width
  pub held : r < length m.keys
  pub reads : m' ≡ after_reads 1 m
  pub key : b' ≡ key_of m r

pub fetched_ok : (m : Meaning) (r : ℕ) (b b' : List ℕ) (x : Result (Unit {0}) Refusal) (m' : Meaning) (same : Type 0) → is_ok x ≡ true → Fetched m r b x m' b' same → Read m r b m' b'
fetched_ok m r b b' (Ok u) m' same y f = record { room = f.0; held = f.1; reads = f.2; key = f.3 }
fetched_ok m r b b' (Err e) m' same y f = absurd (let z : ◌≡◌ {A = ℕ} 0 1 = cc in omega arith)

-- refused, on a ground, all is as it was
pub record Unread (m : Meaning) (r : ℕ) (b b' : List ℕ) (same : Type 0) : Type 0 where
  pub refusal : Refusal
  pub ground : first_ground (fetch_grounds m r (length b)) ≡ Some refusal
  pub unchanged : same
  pub buffer : b' ≡ b

pub fetched_err : (m : Meaning) (r : ℕ) (b b' : List ℕ) (x : Result (Unit {0}) Refusal) (m' : Meaning) (same : Type 0) → is_ok x ≡ false → Fetched m r b x m' b' same → Unread m r b b' same
fetched_err m r b b' (Ok u) m' same y f = absurd (let z : ◌≡◌ {A = ℕ} 0 1 = cc in omega arith)
fetched_err m r b b' (Err e) m' same y f = record { refusal = e; ground = f.0; unchanged = f.1; buffer = f.2 }

-- A fetch into a buffer of the right length is refused only for a record that the store lacks.
pub fetch_refused : (m : Meaning) (r : ℕ) (n : ℕ) (e : Refusal) → n ≡ m.width → first_ground (fetch_grounds m r n) ≡ Some e → length m.keys ≤ r
fetch_refused m r n e w h = go (eqb n m.width) (leb (length m.keys) r) (grind (arith, nat_tests)) refl h
  where
    go : (a b : Bool) → a ≡ true → leb (length m.keys) r ≡ b → cond (not a) (Some KeyLength) (cond b (Some NotHeld) None) ≡ Some e → length m.keys ≤ r
    go true true t k g = grind (arith, nat_tests)
    go true false t k g = absurd (let z : ◌≡◌ {A = ℕ} 0 1 = cc in omega arith)
    go false b t k g = absurd (let z : ◌≡◌ {A = ℕ} 0 1 = cc in omega arith)

tallied : Meaning → ℕ → Meaning
tallied m t = record { width = m.width; keys = m.keys; capacity = m.capacity; tally = t }

pub no_reads : (m : Meaning) → m.tally < 2 ^ 32 → m ≡ after_reads 0 m
unfolding tallied
no_reads m h = let e : m.tally ≡ (m.tally + 0) % 2 ^ 32 = omega arith in ap (tallied m) e

pub more_reads : (m : Meaning) (n k : ℕ) → after_reads k (after_reads n m) ≡ after_reads (n + k) m
unfolding tallied
more_reads m n k = let e : ((m.tally + n) % 2 ^ 32 + k) % 2 ^ 32 ≡ (m.tally + (n + k)) % 2 ^ 32 = omega arith in ap (tallied m) e

-- the error that `?` passes up is the one that was there
pub passed_up : {T E : Type 0} (P : Result T E → Type 0) (r : Result T E) (q : E) → IsErrAnd r (λ e. e ≡ q) → P (Err q) → P r
passed_up P (Ok x) q is h = absurd is
passed_up {T} {E} P (Err e) q is h = subst (λ (z : E). P (Err z)) (sym is) h
