-- A node looked through over a store.
use Rattle.std.proofs.Common.{◌≡◌, ℕ, ◌^◌, ◌<◌, ◌≤◌, List, length, get_or, Some, None, Ok, Result, sym, ap, ◌∙◌}
use Rattle.std.proofs.lemmas.Bool.{cond-false, cond-true, le-ltb, lt-ltb}
use Rattle.descent.specs.Course.{Turn, heard, turn, turned}
use Rattle.keys.specs.Bits.{bits}
use Rattle.keys.specs.Comparing.{comparison}
use Rattle.keys.specs.declared.comparison.Comparison.{Comparison}
use Rattle.nodes.specs.Trees.{no_entry}
use Rattle.nodes.specs.declared.node.Entry.{Entry}
use Rattle.search.specs.Parts.{parts_of}
use Rattle.search.specs.Placing.{looked, settled}
use Rattle.search.specs.TreeLaw.{fetching}
use Rattle.search.specs.declared.place.Placement.{Placement}
use Rattle.search.specs.declared.place.Step.TheVariants.{Ask}
use Rattle.store.proofs.Fetching.{no_reads}
use Rattle.store.specs.Meaning.{Meaning, after_reads, key_of}
use Rattle.store.specs.declared.reading.Missing.{Missing}

-- once the candidate's key was fetched and compared
pub record Told (m m' : Meaning) (key : List ℕ) (es : List Entry) (o : ℕ) (p : Placement) : Type 0 where
  pub to : ◌≡◌ {A = Result Placement Missing} (Ok p) (turn (bits key) (fetching m key) es o).to
  pub reads : m' ≡ after_reads (length (turn (bits key) (fetching m key) es o).fetched) m

pub told : (m m' : Meaning) (key : List ℕ) (es : List Entry) (o high c r : ℕ) (b : List ℕ) (x : Comparison) (p : Placement) →
    Ask high c ≡ looked (bits key) (parts_of es) (length es) o → r ≡ (get_or es c no_entry).number → r < length m.keys → m' ≡ after_reads 1 m → b ≡ key_of m r → x ≡ comparison key b → p ≡ settled (parts_of es) high c x →
    Told m m' key es o p
told m m' key es o high c r b x p step is held read got same place =
    let q : x ≡ comparison key (key_of m r) = same ∙ ap (comparison key) got in
    let t : turn (bits key) (fetching m key) es o ≡ heard (settled (parts_of es) high c) r (Some x) =
    ap (turned (fetching m key) es) (sym step) ∙ (ap (λ z. heard (settled (parts_of es) high c) z (fetching m key z)) (sym is)
    ∙ (ap (heard (settled (parts_of es) high c) r) (cond-true _ _ _ (lt-ltb r (length m.keys) held)) ∙ ap (λ z. heard (settled (parts_of es) high c) r (Some z)) (sym q))) in
    record { to = ap Ok place ∙ sym (ap (λ (z : Turn). z.to) t); reads = read ∙ sym (ap (λ (z : Turn). after_reads (length z.fetched) m) t) }

-- where the store lacks the candidate, nothing was fetched
pub untold : (m : Meaning) (key : List ℕ) (es : List Entry) (o high c r : ℕ) → m.tally < 2 ^ 32 → Ask high c ≡ looked (bits key) (parts_of es) (length es) o → r ≡ (get_or es c no_entry).number → length m.keys ≤ r →
    m ≡ after_reads (length (turn (bits key) (fetching m key) es o).fetched) m
untold m key es o high c r fits step is lacks =
    let t : turn (bits key) (fetching m key) es o ≡ heard (settled (parts_of es) high c) r None =
    ap (turned (fetching m key) es) (sym step) ∙ (ap (λ z. heard (settled (parts_of es) high c) z (fetching m key z)) (sym is)
    ∙ ap (heard (settled (parts_of es) high c) r) (cond-false _ _ _ (le-ltb r (length m.keys) lacks))) in
    no_reads m fits ∙ sym (ap (λ (z : Turn). after_reads (length z.fetched) m) t)
