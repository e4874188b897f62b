-- A store that grew keeps a tree faithful.
use Rattle.std.proofs.Common.{◌≡◌, ℕ, zero, suc, ◌<◌, List, [], ◌∷◌, map, sym, ap, ◌∙◌, subst}
use Rattle.std.specs.List.{AllByRecursion}
use Rattle.keys.specs.Digits.{Above, Digits}
use Rattle.keys.specs.Partials.{partial_at}
use Rattle.nodes.proofs.Weaves.{all_back, all_front}
use Rattle.nodes.specs.declared.node.Entry.{Entry}
use Rattle.nodes.specs.Faith.{Ceiling, Faithful, Strung, TrueOver, View, under}
use Rattle.nodes.specs.Trees.{Tree, records, weave}
use Rattle.search.specs.TreeLaw.{Grows}

module _ (v w : View) (n : ℕ) (last : w.last ≡ v.last) (keep : w.keep ≡ v.keep) (same : (r : ℕ) → r < n → w.key r ≡ v.key r) where
  entry_grows : (base : Digits) (e : Entry) → e.number < n → TrueOver v base e → TrueOver w base e
  entry_grows base e lt t =
      let q = sym (same e.number lt) in
      record {
        above = subst (λ k. Above k base e.partial.offset) q t.above;
        whole = t.whole ∙ (ap (λ z. record { number = e.number; partial = partial_at z v.last (v.key e.number) e.partial.offset }) (sym keep)
            ∙ (ap (λ z. record { number = e.number; partial = partial_at w.keep z (v.key e.number) e.partial.offset }) (sym last)
            ∙ ap (λ z. record { number = e.number; partial = partial_at w.keep w.last z e.partial.offset }) q));
      }

  strung_grows : (T : Type 0) (F G : Digits → Ceiling → T → Type 0) (f : T → List ℕ) → ((b : Digits) (c : Ceiling) (t : T) → AllByRecursion (λ r. r < n) (f t) → F b c t → G b c t) →
      (b : Digits) (c : Ceiling) (es : List Entry) (ts : List T) → AllByRecursion (λ r. r < n) (weave es (map f ts)) → Strung v F b c es ts → Strung w G b c es ts
  strung_grows T F G f each b c [] [] a h = h
  strung_grows T F G f each b c [] (t ∷ []) a h = each b c t a h
  strung_grows T F G f each b c [] (t ∷ (u ∷ ts)) a h = h
  strung_grows T F G f each b c (e ∷ es) [] a h = h
  strung_grows T F G f each b c (e ∷ es) (t ∷ ts) a h =
      let back = all_back (λ r. r < n) (f t) (e.number ∷ weave es (map f ts)) a in
      let q = sym (same e.number back.0) in (
        subst (λ k. G b (under k) t) q (each b (under (v.key e.number)) t (all_front (λ r. r < n) (f t) (e.number ∷ weave es (map f ts)) a) h.0),
        (entry_grows b e back.0 h.1.0, subst (λ k. Strung w G k c es ts) q (strung_grows T F G f each (v.key e.number) c es ts back.1 h.1.1)),
      )

  faithful_grows : (l : ℕ) (b : Digits) (c : Ceiling) (t : Tree l) → AllByRecursion (λ r. r < n) (records l t) → Faithful v l b c t → Faithful w l b c t
  faithful_grows zero b c t a h = h
  faithful_grows (suc l) b c t a h = strung_grows (Tree l) (Faithful v l) (Faithful w l) (records l) (faithful_grows l) b c t.entries t.kids a h

pub grows : Grows
grows v w n l base c t last keep same a h = faithful_grows v w n last keep same l base c t a h
