-- An entry whose place is known.
use Rattle.std.proofs.Common.{◌≡◌, ℕ, ◌+◌, ◌^◌, ◌<◌, ◌≤◌, Bool, true, false, List, length, Some, None, Ok, Err, Option, Result, sym, refl, ap, ◌∙◌, subst, arith}
use Rattle.std.proofs.lemmas.List.{length-map}
use Rattle.std.proofs.lemmas.Bool.Decides.{nat_tests}
use Rattle.std.specs.Result.{IsErrAnd, MatchResult}
use Rattle.growth.proofs.Joining.{along_trail}
use Rattle.growth.proofs.Needing.{need_along, trail_way}
use Rattle.growth.proofs.Rooting.{Holds}
use Rattle.growth.proofs.Shaping.{topped_reads}
use Rattle.growth.proofs.Tracing.{plan_traces}
use Rattle.growth.specs.Commits.{need_way, Ready, tree_at}
use Rattle.growth.specs.Growth.{grow, need}
use Rattle.growth.specs.Paths.{entries_of, followers_of, nodes_of, places_of}
use Rattle.growth.specs.Plans.{Planned, trace}
use Rattle.growth.specs.Routes.{Along, Trail, way, PathIn}
use Rattle.growth.specs.declared.commit.Top.{Top}
use Rattle.growth.specs.declared.path.Waypoint.{Waypoint}
use Rattle.growth.specs.declared.plan.Plan.{Plan}
use Rattle.nodes.specs.Faith.{View}
use Rattle.nodes.specs.declared.node.Entry.{Entry}
use Rattle.nodes.specs.declared.node.Node.{Node}
use Rattle.plans.proofs.Reading.{reads_of}
use Rattle.plans.specs.Entries.{entry_grounds, entry_reads, Enters, growth_reads, grows_to, missing_ground, spent}
use Rattle.plans.specs.Planning.{Passable, Plans}
use Rattle.plans.specs.declared.plan.Entering.{Entering}
use Rattle.plans.specs.Reads.{Fetches, Reads, reads_until}
use Rattle.search.proofs.OverStore.{view_of-bits}
use Rattle.search.specs.TreeLaw.{view_of}
use Rattle.store.proofs.Fetching.{no_reads, passed_up}
use Rattle.store.specs.Grounds.{first_ground}
use Rattle.store.specs.Meaning.{after_reads, Lawful, Meaning}
use Rattle.store.specs.declared.refusal.Refusal.{Refusal}
use Rattle.store.specs.declared.refusal.Refusal.TheVariants.{NodesSpent, PartialKeyMissing}
use Rattle.store.specs.declared.reading.Missing.{Missing}

-- what the plan's making says once its missing record is made a refusal, by P
abbrev pub Refuses : (Missing → Refusal → Type 0) → Result Plan Missing → Result Plan Refusal → Type 0
Refuses P x y = MatchResult x (λ p. y ≡ Ok p) (λ e. IsErrAnd y (P e))

pub made_ok : (P : Missing → Refusal → Type 0) (x : Result Plan Missing) (y : Result Plan Refusal) (p : Plan) → Refuses P x y → y ≡ Ok p → x ≡ Ok p
made_ok P (Ok q) y p h e = let z : ◌≡◌ {A = Result Plan Refusal} (Ok q) (Ok p) = sym h ∙ e in let w : q ≡ p = cc in ap Ok w
made_ok P (Err q) y p h e = absurd (subst (λ (z : Result Plan Refusal). IsErrAnd z (P q)) e h)

pub record MissingIs (P : Missing → Refusal → Type 0) (x : Result Plan Missing) (r : Refusal) : Type 0 where
  pub missing : Missing
  pub is : x ≡ Err missing
  pub refusal : P missing r

pub made_err : (P : Missing → Refusal → Type 0) (x : Result Plan Missing) (y : Result Plan Refusal) (r : Refusal) → Refuses P x y → y ≡ Err r → MissingIs P x r
made_err P (Ok q) y r h e = absurd (let z : ◌≡◌ {A = Result Plan Refusal} (Ok q) (Err r) = sym h ∙ e in cc)
made_err P (Err q) y r h e = record { missing = q; is = refl; refusal = subst (λ (z : Result Plan Refusal). IsErrAnd z (P q)) e h }

-- An entry's path: its nodes lead down by its places, one for each level of a tree that is ready for a plan.
pub record Placed (t : List Node) (top : Top) (path : List Waypoint) : Type 0 where
  pub ready : Ready t top.used (places_of path) top.levels top.root
  pub trail : Trail t (nodes_of path) (places_of path) top.levels top.root
  pub long : length path ≡ top.levels

module _ {t : List Node} {top : Top} {path : List Waypoint} (w : Placed t top path) where
  abbrev ps : List ℕ
  ps = places_of path

  abbrev es : ℕ → List Entry
  es = way t (nodes_of path)

  along : Along es ps top.levels (tree_at t top)
  along = along_trail t (nodes_of path) ps top.levels 0 top.root w.ready.shape w.ready.within w.trail

  pub passes : Passable t (nodes_of path) ps (length path)
  passes h lt =
      let n = trail_way t top.used (nodes_of path) ps top.levels top.root w.ready w.trail h (omega (arith, w.long)) in
      let k = ap (λ (z : Node). z.count) n.1.0.1 in
      (n.0, (n.1.0.0, (sym k, omega (arith, k, n.1.1))))

  pub knows : PathIn t (nodes_of path)
  knows h lt = let n = trail_way t top.used (nodes_of path) ps top.levels top.root w.ready w.trail h (omega (arith, w.long, length-map path (λ (w : Waypoint). w.node))) in (n.0, n.1.0)

  pub needs : {r : ℕ} → r ≡ need_way es (length path) → r ≡ need ps top.levels (tree_at t top)
  needs v = v ∙ (ap (need_way es) w.long ∙ sym (need_along es ps top.levels (tree_at t top) along))

  module _ (e : Entering) (m : Meaning) where
    abbrev V : View
    V = view_of e.shape.partial m

    abbrev U : Reads
    U = growth_reads m (grows_to V e.number e.offset t top ps)

    -- what the entry leaves
    abbrev Leaves : Result Top Refusal → List Node → Meaning → Type 0
    Leaves res t1 m' = Enters e.shape.partial e.limit m e.number e.offset t top ps res t1 m'

    abbrev Planning : Result Plan Missing → Meaning → Type 0
    Planning x m' = Plans e.shape.partial m e.number e.offset es ps (length path) x m'

    -- the growth's reads are the plan's
    traced : (grows_to V e.number e.offset t top ps).fetched ≡ (trace V e.number e.offset es ps (length path)).list
    traced =
        let g = grow V top.used e.number e.offset ps top.levels (tree_at t top) in
        topped_reads V top.levels g.left g.up g.used g.fetched
        ∙ ((plan_traces V top.used e.number e.offset es ps top.levels (tree_at t top) along).fetches ∙ ap (λ (l : ℕ). (trace V e.number e.offset es ps l).list) (sym w.long))

    pub refused_spent : {r : ℕ} → r ≡ need_way es (length path) → e.limit < top.used + r → m.tally < 2 ^ 32 → Leaves (Err NodesSpent) t m
    refused_spent v lt f =
        let n = needs v in
        let y : spent e.limit t top ps ≡ true = grind (arith, nat_tests) in
        (ap (λ (b : Bool). first_ground (entry_grounds b U)) y, (refl, no_reads m f ∙ ap (λ (b : Bool). after_reads (entry_reads b U) m) (sym y)))

    module _ {r : ℕ} (v : r ≡ need_way es (length path)) (le : top.used + r ≤ e.limit) where
      enough : spent e.limit t top ps ≡ false
      enough = let n = needs v in grind (arith, nat_tests)

      -- with nodes enough, the first missing record is the one ground
      missing : (q : Option ℕ) (m' : Meaning) → Fetches m (trace V e.number e.offset es ps (length path)).list q m' → first_ground (entry_grounds (spent e.limit t top ps) U) ≡ first_ground (missing_ground q)
      missing q m' f =
          ap (λ (b : Bool). first_ground (entry_grounds b U)) enough
          ∙ ap (λ (z : Option ℕ). first_ground (missing_ground z)) (ap (λ (zs : List ℕ). (reads_until (length m.keys) zs).missing) traced ∙ f.ends)

      pub refused_missing : (x : Result Plan Missing) (q : Missing) (u : Refusal) (m' : Meaning) (res : Result Top Refusal) → x ≡ Err q → u ≡ PartialKeyMissing q.number → Planning x m' → IsErrAnd res (λ z. z ≡ u) → Leaves res t m'
      refused_missing x q u m' res was refusal pl is =
          let f : Planning (Err q) m' = rw was at pl in
          passed_up (λ (z : Result Top Refusal). Leaves z t m') res (PartialKeyMissing q.number) (rw refusal at is) (
            missing (Some q.number) m' f,
            (
              refl,
              f.reads ∙ (ap (λ (zs : List ℕ). after_reads (length (reads_until (length m.keys) zs).before) m) (sym traced)
                  ∙ ap (λ (b : Bool). after_reads (entry_reads b U) m) (sym enough)),
            ),
          )

      pub done : (x : Result Plan Missing) (p : Plan) (m' : Meaning) (t1 : List Node) (top' : Top) → Lawful m → x ≡ Ok p → Planning x m' → Holds t t1 top (entries_of p) (followers_of p) ps top' → Leaves (Ok top') t1 m'
      done x p m' t1 top' law was plx k =
          let pl : Planning (Ok p) m' = rw was at plx in
          let plan : Planned V e.number e.offset es ps top.levels (entries_of p) (followers_of p) = subst (λ (k : ℕ). Planned V e.number e.offset es ps k (entries_of p) (followers_of p)) w.long pl.0 in
          let c = k.written in (
            missing None m' pl.1,
            (
              record {
                tree = k.growth V e.number e.offset es along plan;
                taken = c.taken;
                fits = omega (arith, c.taken, needs v);
                links = c.links;
                frame = c.frame;
                rest = c.rest;
                packs = c.packs;
                long = c.long;
                once = k.once;
                shape = k.shape;
                faith = k.faith V e.number e.offset es along plan (view_of-bits m law e.shape.partial).past;
              },
              reads_of m (trace V e.number e.offset es ps (length path)).list m' pl.1 ∙ ap (λ (zs : List ℕ). after_reads (length zs) m) (sym traced),
            ),
          )
