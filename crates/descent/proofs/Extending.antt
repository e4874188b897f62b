-- A course's lists with one entry more: what was said of the heights below still holds.
use Rattle.std.proofs.Common.{◌≡◌, ℕ, zero, suc, ◌<◌, ◌≤◌, List, [], ◌∷◌, ◌++◌, length, get_or, replicate, Ok, Err, Option, Result, sym, refl, ◌∙◌, subst, arith}
use Rattle.std.proofs.lemmas.List.{get_or_append_left, get_or_push, length_push, length-replicate}
use Rattle.descent.specs.Course.{course, course_on, turn}
use Rattle.descent.specs.Theorems.{CourseLong}
use Rattle.growth.specs.Routes.{Route, Trail, Within, base_at, ceiling_at}
use Rattle.keys.specs.Digits.{Digits}
use Rattle.keys.specs.declared.comparison.Comparison.{Comparison}
use Rattle.nodes.specs.Faith.{Ceiling, View}
use Rattle.nodes.specs.Tables.{no_node}
use Rattle.nodes.specs.Trees.{Tree, bare}
use Rattle.nodes.specs.declared.node.Node.{Node}
use Rattle.search.specs.declared.place.Placement.{Placement}
use Rattle.search.specs.declared.place.Placement.TheVariants.{Found, Place}
use Rattle.store.specs.declared.reading.Missing.{Missing}

-- two lists alike below a height
abbrev pub Alike : (l : ℕ) → (ps qs : List ℕ) → Type 0
Alike l ps qs = (h : ℕ) → h < l → get_or qs h 0 ≡ get_or ps h 0

pub push_alike : (l : ℕ) (ps : List ℕ) (q : ℕ) → length ps ≡ l → Alike l ps (ps ++ (q ∷ []))
push_alike l ps q e h lt = get_or_append_left ps (q ∷ []) 0 h (omega arith)

pub push_top : (l : ℕ) (ps : List ℕ) (q : ℕ) → length ps ≡ l → get_or (ps ++ (q ∷ [])) l 0 ≡ q
push_top l ps q e = get_or_push ps q 0 l e

pub zeros_top : (l q : ℕ) → get_or (replicate l 0 ++ (q ∷ [])) l 0 ≡ q
zeros_top l q = push_top l (replicate l 0) q (length-replicate l 0)

pub route_alike : (v : View) (l : ℕ) (b : Digits) (c : Ceiling) (t : Tree l) (ps qs : List ℕ) (s : Digits) (o : ℕ) → Alike l ps qs → Route v l b c t ps s o → Route v l b c t qs s o
route_alike v zero b c t ps qs s o same r = r
route_alike v (suc l) b c t ps qs s o same r =
    subst (λ (z : ℕ). (z ≤ length t.entries) × Route v l (base_at v b t.entries z) (ceiling_at v c t.entries z) (get_or t.kids z (bare l)) qs s o) (sym (same l (omega arith)))
    (r.0, route_alike v l (base_at v b t.entries (get_or ps l 0)) (ceiling_at v c t.entries (get_or ps l 0)) (get_or t.kids (get_or ps l 0) (bare l)) ps qs s o (λ h lt. same h (omega arith)) r.1)

pub within_alike : (l : ℕ) (t : Tree l) (ps qs : List ℕ) → Alike l ps qs → Within ps l t → Within qs l t
within_alike zero t ps qs same w = w
within_alike (suc l) t ps qs same w =
    subst (λ (z : ℕ). (z ≤ length t.entries) × Within qs l (get_or t.kids z (bare l))) (sym (same l (omega arith)))
    (w.0, within_alike l (get_or t.kids (get_or ps l 0) (bare l)) ps qs (λ h lt. same h (omega arith)) w.1)

pub trail_alike : (table : List Node) (l at : ℕ) (path path1 ps qs : List ℕ) → Alike l path path1 → Alike l ps qs → Trail table path ps l at → Trail table path1 qs l at
trail_alike table zero at path path1 ps qs along same w = w
trail_alike table (suc l) at path path1 ps qs along same w = (
  along l (omega arith) ∙ w.0,
  subst (λ (z : ℕ). Trail table path1 qs l (get_or (get_or table at no_node).children z 0)) (sym (same l (omega arith)))
      (trail_alike table l (get_or (get_or table at no_node).children (get_or ps l 0) 0) path path1 ps qs (λ h lt. along h (omega arith)) (λ h lt. same h (omega arith)) w.1),
)

module _ (s : Digits) (fetch : ℕ → Option Comparison) where
  zeros_long : (l x : ℕ) → length (replicate l 0 ++ (x ∷ [])) ≡ suc l
  zeros_long l x = let a = length_push (replicate l 0) x in let b = length-replicate {A = ℕ} l 0 in omega arith

  abbrev Long : ℕ → Type 0
  Long l = (t : Tree l) (o : ℕ) → (length (course s fetch l t o).nodes ≡ l) × (length (course s fetch l t o).places ≡ l)

  long_on : (l : ℕ) → Long l → (at o : ℕ) (ts : List (Tree l)) (x : Result Placement Missing) →
      (length (course_on (course s fetch l) (bare l) l at o ts x).nodes ≡ suc l) × (length (course_on (course s fetch l) (bare l) l at o ts x).places ≡ suc l)
  long_on l ih at o ts (Ok (Found c)) = (zeros_long l at, zeros_long l c)
  long_on l ih at o ts (Ok (Place q e)) =
      let k = course s fetch l (get_or ts q (bare l)) e in
      let h = ih (get_or ts q (bare l)) e in
      let a = length_push k.nodes at in
      let b = length_push k.places q in
      (omega (arith, h.0), omega (arith, h.1))
  long_on l ih at o ts (Err r) = (zeros_long l at, zeros_long l 0)

  pub long : (l : ℕ) → Long l
  long zero t o = (refl, refl)
  long (suc l) t o = long_on l (long l) t.at o t.kids (turn s fetch t.entries o).to

  -- the bottom is no higher than the tree
  low_on : (l : ℕ) → ((t : Tree l) (o : ℕ) → (course s fetch l t o).bottom ≤ l) → (at o : ℕ) (ts : List (Tree l)) (x : Result Placement Missing) → (course_on (course s fetch l) (bare l) l at o ts x).bottom ≤ suc l
  low_on l ih at o ts (Ok (Found c)) = omega arith
  low_on l ih at o ts (Ok (Place q e)) = omega (arith, ih (get_or ts q (bare l)) e)
  low_on l ih at o ts (Err r) = omega arith

  pub low : (l : ℕ) (t : Tree l) (o : ℕ) → (course s fetch l t o).bottom ≤ l
  low zero t o = omega arith
  low (suc l) t o = low_on l (low l) t.at o t.kids (turn s fetch t.entries o).to

pub course_long : CourseLong
course_long l t s fetch o = long s fetch l t o
