-- A woven list, cut at a place.
use Rattle.std.proofs.Common.{◌≡◌, ℕ, zero, suc, ◌+◌, ◌<◌, ◌≤◌, List, [], ◌∷◌, ◌++◌, length, get_or, Some, Option, sym, refl, ap, ◌∙◌, append_assoc, arith}
use Rattle.std.proofs.lemmas.List.{append-nil}
use Rattle.std.specs.List.{AllByRecursion}
use Rattle.keys.specs.Digits.{Below, Digits}
use Rattle.nodes.proofs.Weaves.{all_back}
use Rattle.nodes.specs.declared.node.Entry.{Entry}
use Rattle.nodes.specs.Faith.{View}
use Rattle.nodes.specs.Trees.{no_entry, weave}
use Rattle.search.specs.Names.{first_of, last_of}
use Rattle.search.specs.Seek.{over_at, under_at}
use Rattle.search.specs.Walk.{after_place}
use Rattle.search.proofs.Ladder.{ladder}

-- the key of the last record, or else the base; and the first key lies above s
abbrev pub top : View → Digits → List ℕ → Digits
top v base [] = base
top v base (x ∷ xs) = top v (v.key x) xs

abbrev pub StartsAbove : View → Digits → List ℕ → Type 0
StartsAbove v s [] = Unit {0}
StartsAbove v s (y ∷ ys) = Below s (v.key y)

pub last_of-append : (b : Option ℕ) (xs ys : List ℕ) → last_of b (xs ++ ys) ≡ last_of (last_of b xs) ys
last_of-append b [] ys = refl
last_of-append b (x ∷ xs) ys = last_of-append (Some x) xs ys

pub top_append : (v : View) (base : Digits) (xs ys : List ℕ) → top v base (xs ++ ys) ≡ top v (top v base xs) ys
top_append v base [] ys = refl
top_append v base (x ∷ xs) ys = top_append v (v.key x) xs ys

pub first_of-append : (xs ys : List ℕ) (a : Option ℕ) → first_of (xs ++ ys) a ≡ first_of xs (first_of ys a)
first_of-append [] ys a = refl
first_of-append (x ∷ xs) ys a = refl

pub starts_append : (v : View) (s : Digits) (xs ys : List ℕ) → StartsAbove v s xs → StartsAbove v s ys → StartsAbove v s (xs ++ ys)
starts_append v s [] ys h g = g
starts_append v s (x ∷ xs) ys h g = h

-- a woven list at the place q: what stands before, the list under the place, what stands after
pub record Cut (v : View) (base : Digits) (q : ℕ) (es : List Entry) (fs : List (List ℕ)) : Type 0 where
  pub before : List ℕ
  pub after : List ℕ
  pub whole : weave es fs ≡ before ++ (get_or fs q [] ++ after)
  pub last : (b : Option ℕ) → last_of b before ≡ under_at q b es
  pub peak : top v base before ≡ ladder v base es q
  pub first : (a : Option ℕ) → first_of after a ≡ over_at q es a
  pub tail : after ≡ after_place q es fs
  pub starts : (s : Digits) → (q < length es → Below s (ladder v base es (suc q))) → StartsAbove v s after

pub cut : (v : View) (base : Digits) (q : ℕ) (es : List Entry) (fs : List (List ℕ)) → length fs ≡ length es + 1 → q ≤ length es → Cut v base q es fs
cut v base q es [] e l = absurd (omega arith)
cut v base zero [] (f ∷ fs) e l = record { before = []; after = []; tail = refl; whole = sym (append-nil f); last = λ b. refl; peak = refl; first = λ a. refl; starts = λ s h. tt }
cut v base (suc q) [] (f ∷ fs) e l = absurd (omega arith)
cut v base zero (x ∷ es) (f ∷ fs) e l = record { before = []; after = x.number ∷ weave es fs; tail = refl; whole = refl; last = λ b. refl; peak = refl; first = λ a. refl; starts = λ s h. h (omega arith) }
cut v base (suc q) (x ∷ es) (f ∷ fs) e l =
    let r = cut v (v.key x.number) q es fs (omega arith) (omega arith) in
    record {
      before = f ++ (x.number ∷ r.before);
      after = r.after;
      whole = ap (λ zs. f ++ (x.number ∷ zs)) r.whole ∙ sym (append_assoc f (x.number ∷ r.before) (get_or fs q [] ++ r.after));
      last = λ b. last_of-append b f (x.number ∷ r.before) ∙ r.last (Some x.number);
      peak = top_append v base f (x.number ∷ r.before) ∙ r.peak;
      first = λ a. r.first a;
      tail = r.tail;
      starts = λ s h. r.starts s (λ g. h (omega arith));
    }

-- from the list under a place, in two parts, to the whole
pub joined : (v : View) (base : Digits) (q : ℕ) (es : List Entry) (fs : List (List ℕ)) (c : Cut v base q es fs) (xs ys : List ℕ) → get_or fs q [] ≡ xs ++ ys → weave es fs ≡ (c.before ++ xs) ++ (ys ++ c.after)
joined v base q es fs c xs ys h =
    c.whole ∙ (ap (λ zs. c.before ++ (zs ++ c.after)) h ∙ (ap (λ zs. c.before ++ zs) (append_assoc xs ys c.after) ∙ sym (append_assoc c.before xs (ys ++ c.after))))

-- an entry of the node is in the woven list
pub record Within (c : ℕ) (es : List Entry) (xs : List ℕ) : Type 0 where
  pub before : List ℕ
  pub after : List ℕ
  pub whole : xs ≡ before ++ ((get_or es c no_entry).number ∷ after)

pub within : (c : ℕ) (es : List Entry) (fs : List (List ℕ)) → length fs ≡ length es + 1 → c < length es → Within c es (weave es fs)
within c [] fs e l = absurd (omega arith)
within c (x ∷ es) [] e l = absurd (omega arith)
within zero (x ∷ es) (f ∷ fs) e l = record { before = f; after = weave es fs; whole = refl }
within (suc c) (x ∷ es) (f ∷ fs) e l =
    let r = within c es fs (omega arith) (omega arith) in
    record {
      before = f ++ (x.number ∷ r.before);
      after = r.after;
      whole = ap (λ zs. f ++ (x.number ∷ zs)) r.whole ∙ sym (append_assoc f (x.number ∷ r.before) ((get_or es c no_entry).number ∷ r.after));
    }

-- what holds of a woven list holds of its entries
module _ (P : ℕ → Type 0) where
  pub woven_entry : (c : ℕ) (es : List Entry) (fs : List (List ℕ)) → length fs ≡ length es + 1 → c < length es → AllByRecursion P (weave es fs) → P (get_or es c no_entry).number
  woven_entry c [] fs e l h = absurd (omega arith)
  woven_entry c (x ∷ es) [] e l h = absurd (omega arith)
  woven_entry zero (x ∷ es) (f ∷ fs) e l h = (all_back P f (x.number ∷ weave es fs) h).0
  woven_entry (suc c) (x ∷ es) (f ∷ fs) e l h = woven_entry c es fs (omega arith) (omega arith) (all_back P f (x.number ∷ weave es fs) h).1
