-- The steps of a plan at one node.
use Rattle.std.proofs.Common.{◌≡◌, ℕ, zero, suc, ◌*◌, ◌^◌, ◌<◌, ◌≤◌, min, Bool, true, false, cond, eqb, List, [], ◌∷◌, map, length, get_or, fold, Some, None, Ok, Err, Option, sym, refl, ap, ◌∙◌, arith}
use Rattle.std.proofs.lemmas.Bool.Decides.{nat_tests}
use Rattle.std.specs.List.{reduce}
use Rattle.std.specs.Option.{MatchOption, unwrap_or}
use Rattle.growth.proofs.Following.{gap_at, gap_back}
use Rattle.growth.specs.Growth.{asked, least}
use Rattle.keys.proofs.Offsets.{gap_none}
use Rattle.keys.specs.Bits.{bits}
use Rattle.keys.specs.Comparing.{Compared, OneWidth, offset_of}
use Rattle.keys.specs.Digits.{first_gap_of}
use Rattle.keys.specs.declared.comparison.Comparison.{Comparison}
use Rattle.keys.specs.declared.comparison.Comparison.TheVariants.{Equal, Greater, Less}
use Rattle.keys.specs.Partials.{partial_at, partial_of}
use Rattle.nodes.specs.Faith.{made}
use Rattle.nodes.specs.Trees.{no_entry}
use Rattle.nodes.specs.declared.node.Entry.{Entry}
use Rattle.plans.proofs.Reading.{fetches_lost, fetches_none, fetches_one}
use Rattle.plans.specs.Steps.{Nexted}
use Rattle.search.specs.TreeLaw.{view_of}
use Rattle.store.specs.Meaning.{Meaning, after_reads, key_of}

-- a key against itself has its first gap past the last place
pub gap_same : (n : ℕ) (a b : List ℕ) → a ≡ b → n ≡ first_gap_of n 0 (bits a) (bits b)
gap_same n a b e = let g = gap_none n 0 (bits a) (bits b) (λ j lo hi. ap (λ (k : List ℕ). bits k j) e) in omega arith

-- an entry made of a record's key is the record's
pub entry-made : (keep : ℕ) (m : Meaning) (q d : ℕ) (key : List ℕ) (n : Entry) → key ≡ key_of m q → length key ≡ m.width → n ≡ record { number = q; partial = partial_of keep key d } → n ≡ made (view_of keep m) q d
entry-made keep m q d key n is long e =
    let at : ℕ → List ℕ → Entry = λ w k. record { number = q; partial = partial_at keep (8 * w) (bits k) d } in
    e ∙ (ap (λ (w : ℕ). at w key) long ∙ ap (λ (k : List ℕ). at m.width k) is)

pub gap_made : (m : Meaning) (r q d : ℕ) (key other : List ℕ) → key ≡ key_of m r → other ≡ key_of m q → length key ≡ m.width
    → d ≡ first_gap_of (8 * length key) 0 (bits key) (bits other) → d ≡ first_gap_of (8 * m.width) 0 (bits (key_of m r)) (bits (key_of m q))
gap_made m r q d key other k o long e =
    e ∙ (ap (λ (w : ℕ). first_gap_of (8 * w) 0 (bits key) (bits other)) long
    ∙ (ap (λ (z : List ℕ). first_gap_of (8 * m.width) 0 (bits z) (bits other)) k ∙ ap (λ (z : List ℕ). first_gap_of (8 * m.width) 0 (bits (key_of m r)) (bits z)) o))

-- the following entry
asked_past : (o i : ℕ) (es : List Entry) → length es ≤ i → asked o i es ≡ []
asked_past o i [] le = refl
asked_past o zero (e ∷ es) le = absurd (omega arith)
asked_past o (suc i) (e ∷ es) le = asked_past o i es (omega arith)

asked_at : (o i : ℕ) (es : List Entry) → i < length es → asked o i es ≡ cond (eqb (get_or es i no_entry).partial.offset o) ((get_or es i no_entry).number ∷ []) []
asked_at o i [] lt = absurd (omega arith)
asked_at o zero (e ∷ es) lt = refl
asked_at o (suc i) (e ∷ es) lt = asked_at o i es (omega arith)

module _ (keep : ℕ) (m : Meaning) (r o i : ℕ) (es : List Entry) where
  pub nexted_past : (n : Entry) → m.tally < 2 ^ 32 → length es ≤ i → Nexted keep m r o i es (Ok n) m
  nexted_past n f le = let a = asked_past o i es le in (λ lt. absurd (omega arith), rw a (fetches_none m f))

  no : (e : Entry) → (e.partial.offset ≡ o → ⊥) → eqb e.partial.offset o ≡ false
  no e d = grind (arith, nat_tests)

  yes : (e : Entry) → e.partial.offset ≡ o → eqb e.partial.offset o ≡ true
  yes e h = grind (arith, nat_tests)

  pub nexted_kept : (e : Entry) → m.tally < 2 ^ 32 → i < length es → e ≡ get_or es i no_entry → (e.partial.offset ≡ o → ⊥) → Nexted keep m r o i es (Ok e) m
  nexted_kept e f lt is d =
      let b : eqb (get_or es i no_entry).partial.offset o ≡ false = rw is at (no e d) in
      let a : asked o i es ≡ [] = asked_at o i es lt ∙ ap (λ (b : Bool). cond b ((get_or es i no_entry).number ∷ []) []) b in
      (λ _. rw b is, rw a (fetches_none m f))

  its : (e : Entry) → i < length es → e ≡ get_or es i no_entry → e.partial.offset ≡ o → asked o i es ≡ e.number ∷ []
  its e lt is same =
      let y : eqb (get_or es i no_entry).partial.offset o ≡ true = rw is at (yes e same) in
      asked_at o i es lt ∙ (ap (λ (b : Bool). cond b ((get_or es i no_entry).number ∷ []) []) y ∙ ap (λ (z : Entry). z.number ∷ []) (sym is))

  pub nexted_new : (e n : Entry) (m' : Meaning) → i < length es → e ≡ get_or es i no_entry → e.partial.offset ≡ o → e.number < length m.keys → m' ≡ after_reads 1 m
      → n ≡ made (view_of keep m) e.number (first_gap_of (8 * m.width) 0 (bits (key_of m r)) (bits (key_of m e.number))) → Nexted keep m r o i es (Ok n) m'
  nexted_new e n m' lt is same held up Made-so =
      let y : eqb (get_or es i no_entry).partial.offset o ≡ true = rw is at (yes e same) in
      let k = rw is at Made-so in
      let a = its e lt is same in
      (λ _. rw y k, rw a (fetches_one m e.number m' held up))

  pub nexted_lost : (e : Entry) (m' : Meaning) → m.tally < 2 ^ 32 → i < length es → e ≡ get_or es i no_entry → e.partial.offset ≡ o → length m.keys ≤ e.number → m' ≡ m → Nexted keep m r o i es (Err (record { number = e.number })) m'
  nexted_lost e m' f lt is same none sm = let a = its e lt is same in rw a (fetches_lost m e.number m' f none sm)

-- the least offset, as the code picks it
fold_min : (a : ℕ) (e : Entry) (es : List Entry) → fold min a (map (λ (e : Entry). e.partial.offset) (e ∷ es)) ≡ min a (least (e ∷ es))
fold_min a e [] = refl
fold_min a e (f ∷ fs) = fold_min (min a e.partial.offset) f fs ∙ omega arith

pub least_picked : (es : List Entry) → unwrap_or (reduce min (map (λ (e : Entry). e.partial.offset) es)) 0 ≡ least es
least_picked [] = refl
least_picked (e ∷ []) = refl
least_picked (e ∷ (f ∷ fs)) = fold_min e.partial.offset f fs

-- the gap of two keys, as their comparison tells it
pub gap_told : (a b : List ℕ) (x : Option Comparison) (y : Option ℕ) → OneWidth a b → Compared a b x → MatchOption x (y ≡ None) (λ c. y ≡ offset_of c) → unwrap_or y (8 * length a) ≡ first_gap_of (8 * length a) 0 (bits a) (bits b)
gap_told a b None y w c is = absurd (c w)
gap_told a b (Some Equal) y w c is = ap (λ z. unwrap_or z (8 * length a)) is ∙ gap_same (8 * length a) a b c.stands
gap_told a b (Some (Greater o)) y w c is = ap (λ z. unwrap_or z (8 * length a)) is ∙ sym (gap_back (8 * length a) (bits b) (bits a) o c.stands.1 c.stands.0)
gap_told a b (Some (Less o)) y w c is = ap (λ z. unwrap_or z (8 * length a)) is ∙ sym (gap_at (8 * length a) (bits a) (bits b) o c.stands.1 c.stands.0)
