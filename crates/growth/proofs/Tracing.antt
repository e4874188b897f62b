-- The reads and writes of a plan are the growth's.
use Rattle.std.proofs.Common.{◌≡◌, ℕ, zero, suc, ◌<◌, ◌≤◌, Bool, true, false, ltb, List, [], ◌∷◌, ◌++◌, length, get_or, set, sym, refl, ap, ◌∙◌, subst, inl, inr, arith}
use Rattle.std.specs.List.{insert}
use Rattle.std.proofs.lemmas.Bool.{cases_lt}
use Rattle.growth.specs.Growth.{Grown, Up, asked, follow, grow, join, parted, put, rise, stay, topped}
use Rattle.growth.specs.Plans.{Carry, Comes, Planned, Trace, carry, lifted, lifts, next_carry, trace, traced}
use Rattle.growth.specs.Routes.{Along, Within}
use Rattle.growth.specs.Theorems.{PlanBuilds, PlanStands, PlanTraces}
use Rattle.growth.specs.Writes.{Built, Right, build, crowned, cut, fit, right_of, some, standing}
use Rattle.nodes.specs.Faith.{View, made}
use Rattle.nodes.specs.Trees.{Knot, Tree, bare, no_entry}
use Rattle.nodes.specs.declared.node.Entry.{Entry}

record Meets {T : Type 0} (g : Grown T) (t : Trace) (c : Carry) : Type 0 where
  pub fetches : g.fetched ≡ t.list
  pub goes_up : lifts g.up ≡ t.whole
  pub comes : Comes g.up c

parted_meets : {T : Type 0} (x : ℕ) (d : Bool) (at : ℕ) (w : List Entry) (ks : List T) (u : ℕ) (f a : List ℕ) (t : Trace) → f ≡ t.list → t.whole ≡ true
    → Meets (parted x d at w ks u (f ++ a)) (traced x t a d (next_carry w).number) (next_carry w)
parted_meets x true at w ks u f a t e h = rw h (record { fetches = ap (λ zs. zs ++ a) e; goes_up = refl; comes = tt })
parted_meets x false at w ks u f a t e h = rw h (record { fetches = ap (λ zs. (zs ++ a) ++ lifted x (get_or w 4 no_entry).number) e; goes_up = refl; comes = (refl, refl) })

join_meets : {T : Type 0} (v : View) (x : ℕ) (k : Knot T) (i : ℕ) (left : T) (up : Up T) (u : ℕ) (f : List ℕ) (t : Trace) (c : Carry) → f ≡ t.list → lifts up ≡ t.whole → Comes up c
    → Meets (join v x k i left up u f) (traced x t (asked c.offset i k.entries) (ltb (length k.entries) 7) (next_carry (put v c.number c.offset i k.entries)).number) (next_carry (put v c.number c.offset i k.entries))
join_meets v x k i left stay u f t c e h m = rw (sym h) (record { fetches = e; goes_up = refl; comes = tt })
join_meets v x k i left (rise r o s) u f t c e h m =
    rw (sym m.0, sym m.1) (parted_meets x (ltb (length k.entries) 7) k.at (put v r o i k.entries) (insert (set k.kids i left) (suc i) s) u f (asked o i k.entries) t e (sym h))

grow_meets : (v : View) (used x o : ℕ) (es : ℕ → List Entry) (ps : List ℕ) (l : ℕ) (t : Tree l) → Along es ps l t → Meets (grow v used x o ps l t) (trace v x o es ps l) (carry v x o es ps l)
grow_meets v used x o es ps zero t a = record { fetches = refl; goes_up = refl; comes = (refl, refl) }
grow_meets v used x o es ps (suc l) t a =
    let i = get_or ps l 0 in
    let kid = get_or t.kids i (bare l) in
    let g = grow v used x o ps l kid in
    let ih = grow_meets v used x o es ps l kid a.1 in
    rw a.0 (join_meets v x t i g.left g.up g.used g.fetched (trace v x o es ps l) (carry v x o es ps l) ih.fetches ih.goes_up ih.comes)

pub plan_traces : PlanTraces
plan_traces v used x o es ps l t a = let m = grow_meets v used x o es ps l t a in record { fetches = m.fetches; goes_up = m.goes_up; comes = m.comes }

-- a put, by the code's two writes
pub put_by_writes : (v : View) (r o i : ℕ) (es : List Entry) (n : Entry) → i ≤ length es → (i < length es → n ≡ follow v r o (get_or es i no_entry)) → put v r o i es ≡ insert (set es i n) i (made v r o)
put_by_writes v r o zero [] n le h = refl
put_by_writes v r o zero (e ∷ es) n le h = ap (λ (y : Entry). made v r o ∷ (y ∷ es)) (sym (h (omega arith)))
put_by_writes v r o (suc i) [] n le h = absurd (omega arith)
put_by_writes v r o (suc i) (e ∷ es) n le h = ap (λ (ys : List Entry). e ∷ ys) (put_by_writes v r o i es n (omega arith) (λ lt. h (omega arith)))

record Agrees {T : Type 0} (b : Built T) (g : Grown T) : Type 0 where
  pub left : b.left ≡ g.left
  pub right : b.right ≡ right_of g.up
  pub used : b.used ≡ g.used

cut_agrees : {T : Type 0} (x : ℕ) (d : Bool) (at : ℕ) (w : List Entry) (ks : List T) (u : ℕ) (f : List ℕ) → Agrees (cut d at w ks u) (parted x d at w ks u f)
cut_agrees x true at w ks u f = record { left = refl; right = refl; used = refl }
cut_agrees x false at w ks u f = record { left = refl; right = refl; used = refl }

fit_agrees : {T : Type 0} (v : View) (x : ℕ) (e n : Entry) (k : Knot T) (i : ℕ) (left : T) (up : Up T) (u : ℕ) (f : List ℕ) (c : Carry) → i ≤ length k.entries → Comes up c
    → (lifts up ≡ true → (e ≡ made v c.number c.offset) × (i < length k.entries → n ≡ follow v c.number c.offset (get_or k.entries i no_entry)))
    → Agrees (fit e n k i left (right_of up) u) (join v x k i left up u f)
fit_agrees v x e n k i left stay u f c le m h = record { left = refl; right = refl; used = refl }
fit_agrees v x e n k i left (rise r o s) u f c le m h =
    let q = h refl in
    let w : put v r o i k.entries ≡ insert (set k.entries i n) i e =
    rw (m.0, m.1) (put_by_writes v c.number c.offset i k.entries n le q.1 ∙ ap (λ (y : Entry). insert (set k.entries i n) i y) (sym q.0)) in
    subst (λ (z : List Entry). Agrees (cut (ltb (length k.entries) 7) k.at z (insert (set k.kids i left) (suc i) s) u) (join v x k i left (rise r o s) u f)) w
    (cut_agrees x (ltb (length k.entries) 7) k.at (put v r o i k.entries) (insert (set k.kids i left) (suc i) s) u (f ++ asked o i k.entries))

build_agrees : (v : View) (used x o : ℕ) (es : ℕ → List Entry) (ps : List ℕ) (ents nexts : List Entry) (l : ℕ) (t : Tree l) → Along es ps l t → Planned v x o es ps l ents nexts → ((h : ℕ) → h < l → get_or ps h 0 ≤ length (es h))
    → Agrees (build used ents nexts ps l t) (grow v used x o ps l t)
build_agrees v used x o es ps ents nexts zero t a p le = record { left = refl; right = refl; used = refl }
build_agrees v used x o es ps ents nexts (suc l) t a p le =
    let i = get_or ps l 0 in
    let kid = get_or t.kids i (bare l) in
    let g = grow v used x o ps l kid in
    let b = build used ents nexts ps l kid in
    let c = carry v x o es ps l in
    let m = grow_meets v used x o es ps l kid a.1 in
    let ih = build_agrees v used x o es ps ents nexts l kid a.1 (record { entries = λ h lt w. p.entries h (omega arith) w; follows = λ h lt w. p.follows h (omega arith) w }) (λ h lt. le h (omega arith)) in
    let here : i ≤ length t.entries = let q = le l (omega arith) in rw a.0 at q in
    let f = fit_agrees v x (get_or ents l no_entry) (get_or nexts l no_entry) t i g.left g.up g.used g.fetched c here m.comes
    (λ up. let w = sym m.goes_up ∙ up in (p.entries l (omega arith) w, λ lt. let q = p.follows l (omega arith) w in rw a.0 at q lt)) in
    rw (ih.left, ih.right, ih.used) f

-- each place of a way down is one of its node
pub places_fit : (es : ℕ → List Entry) (ps : List ℕ) (l : ℕ) (t : Tree l) → Along es ps l t → Within ps l t → (h : ℕ) → h < l → get_or ps h 0 ≤ length (es h)
places_fit es ps zero t al w h lt = absurd (omega arith)
places_fit es ps (suc l) t al w h lt = elim (cases_lt h l) [
  | inl a ↦ places_fit es ps l (get_or t.kids (get_or ps l 0) (bare l)) al.1 w.1 h a
  | inr b ↦ (let e : l ≡ h = omega arith in subst (λ (k : ℕ). get_or ps k 0 ≤ length (es k)) e (rw al.0 w.0))
]

pub plan_builds : PlanBuilds
plan_builds v used x o es ps ents nexts l t a p w =
    let m = build_agrees v used x o es ps ents nexts l t a p (places_fit es ps l t a w) in
    record { left = m.left; right = m.right; taken = m.used }

crowned_is : (v : View) (e : Entry) (l : ℕ) (left : Tree l) (up : Up (Tree l)) (u : ℕ) (f : List ℕ) (c : Carry) → Comes up c → (lifts up ≡ true → e ≡ made v c.number c.offset)
    → crowned e l left (right_of up) u ≡ standing (topped v l left up u f)
crowned_is v e l left stay u f c m h = refl
crowned_is v e l left (rise r o t) u f c m h =
    let q : e ≡ made v r o = h refl ∙ (ap (λ (k : ℕ). made v k c.offset) (sym m.0) ∙ ap (λ (k : ℕ). made v r k) (sym m.1)) in
    ap (λ (z : Entry). crowned z l left (some t) u) q

pub plan_stands : PlanStands
plan_stands v used x o es ps ents nexts l t a p w =
    let g = grow v used x o ps l t in
    let b = build used ents nexts ps l t in
    let m = build_agrees v used x o es ps ents nexts l t a p (places_fit es ps l t a w) in
    let q = grow_meets v used x o es ps l t a in
    let e = get_or ents l no_entry in
    ap (λ (z : Tree l). crowned e l z b.right b.used) m.left
    ∙ (ap (λ (z : Right (Tree l)). crowned e l g.left z b.used) m.right
    ∙ (ap (λ (z : ℕ). crowned e l g.left (right_of g.up) z) m.used
    ∙ crowned_is v e l g.left g.up g.used g.fetched (carry v x o es ps l) q.comes (λ up. p.entries l (omega arith) (sym q.goes_up ∙ up))))
