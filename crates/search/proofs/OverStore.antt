-- Over a store: its keys as a view, and what the search and the walk give.
use Rattle.std.proofs.Common.{◌≡◌, ℕ, ◌+◌, ◌*◌, ◌<◌, ◌≤◌, List, [], ◌∷◌, length, get_or, Some, sym, refl, ap, ◌∙◌, inl, inr, arith}
use Rattle.std.proofs.ByRecursion.{All-get_or}
use Rattle.std.proofs.lemmas.List.{get_or_past}
use Rattle.std.proofs.lemmas.Bool.{cases_lt, cond-true, lt-ltb}
use Rattle.std.specs.List.{AllByRecursion}
use Rattle.keys.proofs.Places.{bit_past, bit_small}
use Rattle.keys.specs.Bits.{bits}
use Rattle.keys.specs.Bytes.{Key}
use Rattle.keys.specs.Comparing.{compared, comparison}
use Rattle.keys.specs.declared.comparison.Comparison.{Comparison}
use Rattle.nodes.specs.Trees.{records}
use Rattle.search.specs.PlainList.{not_below, plain}
use Rattle.search.specs.TreeLaw.{AtHand, FitsView, HeldBy, OfBits, StoreLookupRight, StoreWalkRight, fetching, tells, view_of}
use Rattle.store.specs.Meaning.{Lawful, Meaning, key_of}
use Rattle.search.proofs.Plainly.{lookup_right}
use Rattle.search.proofs.Walking.{walk_right}

-- a byte past the end reads as 0
pub byte_small : (k : List ℕ) → AllByRecursion (λ b. b < 256) k → (i : ℕ) → get_or k i 0 < 256
byte_small k h i = elim (cases_lt i (length k)) [ inl l ↦ All-get_or (λ b. b < 256) k i 0 l h | inr l ↦ omega (arith, get_or_past k i 0 l) ]

pub no_bit_past : (w : ℕ) (k : List ℕ) → length k ≤ w → (j : ℕ) → 8 * w < j → bits k j ≡ 0
no_bit_past w k h j l = bit_past k j (omega arith) (omega arith)

module _ (m : Meaning) (law : Lawful m) where
  pub held_key : (r : ℕ) → r < length m.keys → Key m.width (key_of m r)
  held_key r l = All-get_or (Key m.width) m.keys r [] l law.each

  pub key_long : (r : ℕ) → length (key_of m r) ≤ m.width
  key_long r = elim (cases_lt r (length m.keys)) [
    | inl l ↦ omega (arith, (held_key r l).0)
    | inr l ↦ omega (arith, ap length (get_or_past m.keys r [] l))
  ]

  pub key_bytes : (r i : ℕ) → get_or (key_of m r) i 0 < 256
  key_bytes r i = elim (cases_lt r (length m.keys)) [
    | inl l ↦ byte_small (key_of m r) (held_key r l).1 i
    | inr l ↦ omega (arith, ap (λ k. get_or k i 0) (get_or_past m.keys r [] l))
  ]

  pub view_of-bits : (keep : ℕ) → OfBits (view_of keep m)
  view_of-bits keep = record { each = λ r j. bit_small (key_of m r) j; past = λ r j l. no_bit_past m.width (key_of m r) (key_long r) j l }

pub key_fits : (keep : ℕ) (m : Meaning) (key : List ℕ) → length key ≡ m.width → FitsView (view_of keep m) (bits key)
key_fits keep m key w = record { top = refl; past = λ j l. no_bit_past m.width key (omega arith) j l }

pub told_alike : (keep : ℕ) (m : Meaning) (key : List ℕ) → length key ≡ m.width → ◌≡◌ {A = ℕ → Comparison} (λ r. comparison key (key_of m r)) (tells (view_of keep m) (bits key))
told_alike keep m key w = ap (λ n. λ r. compared (8 * n + 1) (bits key) (bits (key_of m r))) w

pub at_hand : (keep : ℕ) (m : Meaning) (key : List ℕ) → length key ≡ m.width → (rs : List ℕ) → HeldBy m rs → AtHand (view_of keep m) (bits key) (fetching m key) rs
at_hand keep m key w [] h = tt
at_hand keep m key w (r ∷ rs) h =
    (cond-true _ _ _ (lt-ltb r (length m.keys) h.0) ∙ ap (λ n. Some (compared (8 * n + 1) (bits key) (bits (key_of m r)))) w, at_hand keep m key w rs h.1)

pub store_lookup_right : StoreLookupRight
store_lookup_right m keep l t key o =
    lookup_right (view_of keep m) l t (bits key) (fetching m key) (view_of-bits m o.lawful keep) (key_fits keep m key o.width.0) o.faithful (at_hand keep m key o.width.0 (records l t) o.held)
    ∙ ap (λ f. plain f (records l t)) (sym (told_alike keep m key o.width.0))

pub store_walk_right : StoreWalkRight
store_walk_right m keep l t key o =
    walk_right (view_of keep m) l t (bits key) (fetching m key) (view_of-bits m o.lawful keep) (key_fits keep m key o.width.0) o.faithful (at_hand keep m key o.width.0 (records l t) o.held)
    ∙ ap (λ f. not_below f (records l t)) (sym (told_alike keep m key o.width.0))
