-- A list that is filled with more records.
use Rattle.std.proofs.Common.{◌≡◌, ℕ, ◌+◌, ◌<◌, ◌≤◌, true, false, List, [], ◌∷◌, ◌++◌, length, get_or, take, drop, set, sym, refl, ap, ◌∙◌, subst, arith}
use Rattle.std.proofs.lemmas.List.{append_assoc, append-nil, drop_more, length-append, length-drop, length_push, length-take, set_at, take_all, take-append-le}
use Rattle.std.proofs.lemmas.Bool.{le-ltb, lt-ltb, ltb-true}
use Rattle.descent.specs.Reading.{Adds, Filled}
use Rattle.descent.specs.declared.walk.Walked.{Walked}

pub filled_none : (list : List ℕ) → Filled list [] list (record { count = 0; more = false })
filled_none list = record { list = refl; count = omega arith; more = sym (le-ltb (length list) 0 (omega arith)) }

filled_long : (before xs list : List ℕ) (w : Walked) → Filled before xs list w → length list ≡ length before
filled_long before xs list w f =
    let a = ap length f.list in
    let b = length-append (take w.count xs) (drop w.count before) in
    let c = length-take w.count xs in
    let d = length-drop w.count before in
    omega (arith, f.count)

pub add_none : (list : List ℕ) (w : Walked) → Adds [] list w list w
add_none list w before xs f = subst (λ (z : List ℕ). Filled before z list w) (sym (append-nil xs)) f

pub add_more : (ys zs list list1 list2 : List ℕ) (w w1 w2 : Walked) → Adds ys list w list1 w1 → Adds zs list1 w1 list2 w2 → Adds (ys ++ zs) list w list2 w2
add_more ys zs list list1 list2 w w1 w2 h g before xs f = subst (λ (z : List ℕ). Filled before z list2 w2) (append_assoc xs ys zs) (g before (xs ++ ys) (h before xs f))

-- a full list stays
pub add_full : (ys list : List ℕ) (w : Walked) → w.more ≡ true → Adds ys list w list w
add_full ys list w full before xs f =
    let lt : length before < length xs = ltb-true (length before) (length xs) (sym f.more ∙ full) in
    let long = length-append xs ys in
    record {
      list = f.list ∙ ap (λ (z : List ℕ). z ++ drop w.count before) (sym (take-append-le w.count xs ys (omega (arith, f.count))));
      count = omega (arith, f.count);
      more = full ∙ sym (lt-ltb (length before) (length (xs ++ ys)) (omega arith));
    }

pub add-put : (list : List ℕ) (w : Walked) (r : ℕ) → w.count < length list → Adds (r ∷ []) list w (set list w.count r) (record { count = w.count + 1; more = false })
add-put list w r lt before xs f =
    let n = filled_long before xs list w f in
    let c : w.count ≡ length xs = omega (arith, f.count) in
    let here : w.count < length before = omega arith in
    let all : list ≡ xs ++ (get_or before w.count 0 ∷ drop (w.count + 1) before) =
    f.list ∙ (ap (λ (z : List ℕ). z ++ drop w.count before) (take_all w.count xs (omega arith)) ∙ ap (λ (z : List ℕ). xs ++ z) (drop_more before w.count 0 here)) in
    let long = length_push xs r in
    record {
      list = ap (λ (z : List ℕ). set z w.count r) all ∙ (set_at xs (get_or before w.count 0) (drop (w.count + 1) before) r w.count (sym c)
          ∙ (sym (append_assoc xs (r ∷ []) (drop (w.count + 1) before)) ∙ ap (λ (z : List ℕ). z ++ drop (w.count + 1) before) (sym (take_all (w.count + 1) (xs ++ (r ∷ [])) (omega arith)))));
      count = omega arith;
      more = sym (le-ltb (length before) (length (xs ++ (r ∷ []))) (omega arith));
    }

pub add_past : (list : List ℕ) (w : Walked) (r : ℕ) → length list ≤ w.count → Adds (r ∷ []) list w list (record { count = w.count; more = true })
add_past list w r le before xs f =
    let n = filled_long before xs list w f in
    let long = length_push xs r in
    record {
      list = f.list ∙ ap (λ (z : List ℕ). z ++ drop w.count before) (sym (take-append-le w.count xs (r ∷ []) (omega (arith, f.count))));
      count = omega (arith, f.count);
      more = sym (lt-ltb (length before) (length (xs ++ (r ∷ []))) (omega (arith, f.count)));
    }
