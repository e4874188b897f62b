-- A plan on its way up.
use Rattle.std.proofs.Common.{◌≡◌, ℕ, zero, suc, ◌+◌, ◌^◌, ◌<◌, ◌≤◌, Bool, true, false, cond, ltb, List, [], ◌++◌, length, get_or, set, IsErrAnd, Some, None, Ok, Err, Option, Result, sym, refl, ap, ◌∙◌, subst, inl, inr, append_assoc, add-one, arith}
use Rattle.std.specs.List.{insert}
use Rattle.std.proofs.lemmas.List.{append-nil, get_or-set_other, get_or-set_same, length-set, take_all}
use Rattle.std.proofs.lemmas.Bool.{cases_lt}
use Rattle.std.proofs.lemmas.Bool.Decides.{nat_tests}
use Rattle.growth.proofs.Pathing.{entry_at, follower_at, no_line}
use Rattle.growth.proofs.Tracing.{put_by_writes}
use Rattle.growth.specs.Growth.{asked, follow, put}
use Rattle.growth.specs.Plans.{carry, lifted, next_carry, Trace, trace, traced}
use Rattle.growth.specs.declared.plan.Line.{Line}
use Rattle.growth.specs.declared.plan.Plan.{Plan}
use Rattle.keys.specs.Partials.{partial_of}
use Rattle.nodes.specs.Faith.{made, View}
use Rattle.nodes.specs.Tables.{held}
use Rattle.nodes.specs.Trees.{no_entry}
use Rattle.nodes.specs.declared.node.Entry.{Entry}
use Rattle.nodes.specs.declared.node.Node.{Node}
use Rattle.plans.proofs.Reading.{fetches_none, fetches_on, fetches_stop}
use Rattle.plans.proofs.Stepping.{entry-made}
use Rattle.plans.specs.Planning.{Plans}
use Rattle.plans.specs.Reads.{Fetches}
use Rattle.plans.specs.Steps.{Nexted, Refilled}
use Rattle.search.specs.TreeLaw.{view_of}
use Rattle.store.proofs.Fetching.{passed_up}
use Rattle.store.specs.Meaning.{Meaning, key_of}
use Rattle.store.specs.declared.reading.Missing.{Missing}

-- the trace
module _ (v : View) (x o : ℕ) (es : ℕ → List Entry) (ps : List ℕ) where
  abbrev tr : ℕ → Trace
  tr h = trace v x o es ps h

  abbrev asks : ℕ → List ℕ
  asks h = asked (carry v x o es ps h).offset (get_or ps h 0) (es h)

  trace_stop : (h : ℕ) → (tr h).whole ≡ true → length (es h) < 7 → tr (suc h) ≡ record { list = (tr h).list ++ asks h; whole = false }
  trace_stop h w lt = let y : ltb (length (es h)) 7 ≡ true = grind (arith, nat_tests) in rw (w, y)

  trace_more : (h : ℕ) → (tr h).whole ≡ true → 7 ≤ length (es h) → tr (suc h) ≡ record { list = ((tr h).list ++ asks h) ++ lifted x (carry v x o es ps (suc h)).number; whole = true }
  trace_more h w le = let y : ltb (length (es h)) 7 ≡ false = grind (arith, nat_tests) in rw (w, y)

  trace_stays : (h n : ℕ) → h ≤ n → (tr h).whole ≡ false → tr n ≡ tr h
  trace_stays h zero le w = let e : zero ≡ h = omega arith in ap tr e
  trace_stays h (suc n) le w = elim (cases_lt h (suc n)) [
    | inl lt ↦ (let e = trace_stays h n (omega arith) w in let f : (tr n).whole ≡ false = ap (λ (t : Trace). t.whole) e ∙ w in
        ap (λ (b : Bool). cond b (cond (ltb (length (es n)) 7) (record { list = (tr n).list ++ asks n; whole = false }) (record { list = ((tr n).list ++ asks n) ++ lifted x (carry v x o es ps (suc n)).number; whole = true })) (tr n)) f ∙ e)
    | inr ge ↦ (let e : suc n ≡ h = omega arith in ap tr e)
  ]

  -- what is fetched so far is a front part of all
  traced_front : (t : Trace) (a : List ℕ) (d : Bool) (r : ℕ) → (zs : List ℕ) × ((traced x t a d r).list ≡ t.list ++ zs)
  traced_front t a d r = go t.whole d refl
    where
      go : (w d : Bool) → t.whole ≡ w → (zs : List ℕ) × ((cond w (cond d (record { list = t.list ++ a; whole = false }) (record { list = (t.list ++ a) ++ lifted x r; whole = true })) t).list ≡ t.list ++ zs)
      go true true h = (a, refl)
      go true false h = (a ++ lifted x r, append_assoc t.list a (lifted x r))
      go false d h = ([], sym (append-nil t.list))

  trace_front : (h n : ℕ) → h ≤ n → (zs : List ℕ) × ((tr n).list ≡ (tr h).list ++ zs)
  trace_front h zero le = let e : zero ≡ h = omega arith in ([], ap (λ (k : ℕ). (tr k).list) e ∙ sym (append-nil (tr h).list))
  trace_front h (suc n) le = elim (cases_lt h (suc n)) [
    | inl lt ↦ (let p = trace_front h n (omega arith) in let q = traced_front (tr n) (asks n) (ltb (length (es n)) 7) (carry v x o es ps (suc n)).number in
        (p.0 ++ q.0, q.1 ∙ (ap (λ (ys : List ℕ). ys ++ q.0) p.1 ∙ append_assoc (tr h).list p.0 q.0)))
    | inr ge ↦ (let e : suc n ≡ h = omega arith in ([], ap (λ (k : ℕ). (tr k).list) e ∙ sym (append-nil (tr h).list)))
  ]

  -- and so is what the next node asks for
  trace_asks : (h n : ℕ) → suc h ≤ n → (tr h).whole ≡ true → (zs : List ℕ) × ((tr n).list ≡ ((tr h).list ++ asks h) ++ zs)
  trace_asks h n le w =
      let f = trace_front (suc h) n le in
      elim (cases_lt (length (es h)) 7) [
        | inl a ↦ (f.0, f.1 ∙ ap (λ (z : Trace). z.list ++ f.0) (trace_stop h w a))
        | inr b ↦ (lifted x (carry v x o es ps (suc h)).number ++ f.0, f.1 ∙ (ap (λ (z : Trace). z.list ++ f.0) (trace_more h w b) ∙ append_assoc ((tr h).list ++ asks h) (lifted x (carry v x o es ps (suc h)).number) f.0))
      ]

-- Where a plan stands at a height: what came up to it, with its key; the reads of the trace so far; and what it has planned.
pub record Going (keep : ℕ) (m : Meaning) (x o : ℕ) (es : ℕ → List Entry) (ps : List ℕ) (h r u : ℕ) (key : List ℕ) (lines : List Line) (m1 : Meaning) : Type 0 where
  pub number_is : r ≡ (carry (view_of keep m) x o es ps h).number
  pub offset_is : u ≡ (carry (view_of keep m) x o es ps h).offset
  pub whole : (trace (view_of keep m) x o es ps h).whole ≡ true
  pub fetched : Fetches m (trace (view_of keep m) x o es ps h).list None m1
  pub key_is : key ≡ key_of m r
  pub key_long : length key ≡ m.width
  pub long : length lines ≡ 8
  pub entries : (k : ℕ) → k < h → (get_or lines k no_line).entry ≡ made (view_of keep m) (carry (view_of keep m) x o es ps k).number (carry (view_of keep m) x o es ps k).offset
  pub follows : (k : ℕ) → k < h → get_or ps k 0 < length (es k) → (get_or lines k no_line).follower ≡ follow (view_of keep m) (carry (view_of keep m) x o es ps k).number (carry (view_of keep m) x o es ps k).offset (get_or (es k) (get_or ps k 0) no_entry)

pub going_start : (keep : ℕ) (m : Meaning) (x o : ℕ) (es : ℕ → List Entry) (ps : List ℕ) (key : List ℕ) (lines : List Line) → length lines ≡ 8 → m.tally < 2 ^ 32 → key ≡ key_of m x → length key ≡ m.width → Going keep m x o es ps 0 x o key lines m
going_start keep m x o es ps key lines n f k w = record { number_is = refl; offset_is = refl; whole = refl; fetched = fetches_none m f; key_is = k; key_long = w; long = n; entries = λ k lt. absurd (omega arith); follows = λ k lt. absurd (omega arith) }

set_all : (xs : List Line) (h : ℕ) (y : Line) (P : ℕ → Line → Type 0) → h < length xs → ((k : ℕ) → k < h → P k (get_or xs k no_line)) → P h y → (k : ℕ) → k < h + 1 → P k (get_or (set xs h y) k no_line)
set_all xs h y P lt before here k lk = elim (cases_lt k h) [
  | inl a ↦ subst (P k) (sym (get_or-set_other xs h k y no_line (omega arith))) (before k a)
  | inr b ↦ (let e : h ≡ k = omega arith in subst (λ (j : ℕ). P j (get_or (set xs h y) j no_line)) e (subst (P h) (sym (get_or-set_same xs h y no_line lt)) here))
]

-- A node at a height once its line is planned: nd the node, i the place in it, ent and n the entry and the following one, m2 the
-- store then.
pub record Lined {keep : ℕ} {m : Meaning} {x o : ℕ} {es : ℕ → List Entry} {ps : List ℕ} {h r u : ℕ} {key : List ℕ} {lines : List Line} {m1 : Meaning}
    (go : Going keep m x o es ps h r u key lines m1) (levels : ℕ) (m2 : Meaning) (nd : Node) (i : ℕ) (ent n : Entry) : Type 0 where
  pub below : h < levels
  pub deep : levels ≤ 7
  pub node : held nd ≡ es h
  pub few : nd.count ≤ 7
  pub counted : nd.count ≡ length (es h)
  pub place : i ≡ get_or ps h 0
  pub within : i ≤ nd.count
  pub made : ent ≡ record { number = r; partial = partial_of keep key u }
  pub next : Nexted keep m1 r u (get_or ps h 0) (es h) (Ok n) m2

module _ {keep : ℕ} {m : Meaning} {x o : ℕ} {es : ℕ → List Entry} {ps : List ℕ} {h r u : ℕ} {key : List ℕ} {lines : List Line} {m1 : Meaning} (go : Going keep m x o es ps h r u key lines m1) where
  abbrev V : View
  V = view_of keep m

  abbrev L : ℕ → List ℕ
  L k = (trace V x o es ps k).list

  abbrev A : List ℕ
  A = asked (carry V x o es ps h).offset (get_or ps h 0) (es h)

  abbrev R : ℕ
  R = (carry V x o es ps h).number

  abbrev O : ℕ
  O = (carry V x o es ps h).offset

  -- the reads with this node's following key
  asked_on : (q : Option ℕ) (m2 : Meaning) → Fetches m1 (asked u (get_or ps h 0) (es h)) q m2 → Fetches m (L h ++ A) q m2
  asked_on q m2 f = fetches_on m m1 m2 (L h) A q go.fetched (subst (λ (z : ℕ). Fetches m1 (asked z (get_or ps h 0) (es h)) q m2) go.offset_is f)

  ent_is : (ent : Entry) → ent ≡ record { number = r; partial = partial_of keep key u } → ent ≡ made V R O
  ent_is ent e =
      entry-made keep m r u key ent go.key_is go.key_long e
      ∙ (ap (λ (z : ℕ). made V z u) go.number_is ∙ ap (λ (z : ℕ). made V R z) go.offset_is)

  entries_on : (ent f : Entry) → ent ≡ record { number = r; partial = partial_of keep key u } → h < 8
      → (k : ℕ) → k < h + 1 → (get_or (set lines h (record { entry = ent; follower = f })) k no_line).entry ≡ made V (carry V x o es ps k).number (carry V x o es ps k).offset
  entries_on ent f e lt = set_all lines h (record { entry = ent; follower = f }) (λ k y. y.entry ≡ made V (carry V x o es ps k).number (carry V x o es ps k).offset) (omega (arith, go.long)) go.entries (ent_is ent e)

  pub going_end : (levels : ℕ) (ent f : Entry) (p : Plan) → levels ≤ 7 → h ≡ levels → ent ≡ record { number = r; partial = partial_of keep key u } → p.lines ≡ set lines levels (record { entry = ent; follower = f }) → Plans keep m x o es ps levels (Ok p) m1
  going_end levels ent f p deep there e is =
      let at : p.lines ≡ set lines h (record { entry = ent; follower = f }) = is ∙ ap (λ (z : ℕ). set lines z (record { entry = ent; follower = f })) (sym there) in (
        record {
          entries = λ k lk w. sym (entry_at p refl) ∙ rw at (entries_on ent f e (omega arith) k (omega arith));
          follows = λ k lk w y. sym (follower_at p refl) ∙ rw at (ap (λ (z : Line). z.follower) (get_or-set_other lines h k (record { entry = ent; follower = f }) no_line (omega arith)) ∙ go.follows k (omega arith) y);
        },
        subst (λ (z : ℕ). Fetches m (L z) None m1) there go.fetched,
      )

  pub going_miss : (levels : ℕ) (q : Missing) (m2 : Meaning) (res : Result Plan Missing) → h < levels → IsErrAnd res (λ e. e ≡ q) → Nexted keep m1 r u (get_or ps h 0) (es h) (Err q) m2 → Plans keep m x o es ps levels res m2
  going_miss levels q m2 res below is nx =
      let f = trace_asks V x o es ps h levels (omega arith) go.whole in
      passed_up (λ (z : Result Plan Missing). Plans keep m x o es ps levels z m2) res q is (subst (λ (z : List ℕ). Fetches m z (Some q.number) m2) (sym f.1) (fetches_stop m m2 (L h ++ A) f.0 q.number (asked_on (Some q.number) m2 nx)))

  module _ {levels : ℕ} {m2 : Meaning} {nd : Node} {i : ℕ} {ent n : Entry} (w : Lined go levels m2 nd i ent n) where
    -- the store as the plan sees it has not changed
    same_view : view_of keep m1 ≡ V
    same_view = ap (view_of keep) go.fetched.reads

    same_next : get_or ps h 0 < length (es h) → n ≡ follow V R O (get_or (es h) (get_or ps h 0) no_entry)
    same_next lt =
        w.next.0 lt ∙ (ap (λ (z : View). follow z r u (get_or (es h) (get_or ps h 0) no_entry)) same_view
        ∙ (ap (λ (z : ℕ). follow V z u (get_or (es h) (get_or ps h 0) no_entry)) go.number_is ∙ ap (λ (z : ℕ). follow V R z (get_or (es h) (get_or ps h 0) no_entry)) go.offset_is))

    abbrev line : Line
    line = record { entry = ent; follower = n }

    follows_on : (k : ℕ) → k < h + 1 → get_or ps k 0 < length (es k) → (get_or (set lines h line) k no_line).follower ≡ follow V (carry V x o es ps k).number (carry V x o es ps k).offset (get_or (es k) (get_or ps k 0) no_entry)
    follows_on = set_all lines h line (λ k y. get_or ps k 0 < length (es k) → y.follower ≡ follow V (carry V x o es ps k).number (carry V x o es ps k).offset (get_or (es k) (get_or ps k 0) no_entry)) (omega (arith, go.long, w.below, w.deep)) go.follows same_next

    -- the node with the entry that came up, by the code's two writes
    abbrev written : List Entry
    written = insert (set nd.entries i n) i ent

    put_is : 7 ≤ nd.count → length nd.entries ≡ 7 → put V R O (get_or ps h 0) (es h) ≡ written
    put_is full long =
        let all : held nd ≡ nd.entries = take_all nd.count nd.entries (omega arith) in
        put_by_writes V R O (get_or ps h 0) (es h) n (omega (arith, w.place, w.within, w.counted)) same_next
        ∙ (ap (λ (y : Entry). insert (set (es h) (get_or ps h 0) n) (get_or ps h 0) y) (sym (ent_is ent w.made))
        ∙ (ap (λ (j : ℕ). insert (set (es h) j n) j ent) (sym w.place) ∙ ap (λ (z : List Entry). insert (set z i n) i ent) (sym w.node ∙ all)))

    -- the reads with the record that moves up
    lifted_on : (m3 : Meaning) (r2 : ℕ) (q : Option ℕ) → 7 ≤ nd.count → length nd.entries ≡ 7 → r2 ≡ (next_carry written).number → Fetches m2 (lifted x r2) q m3 → Fetches m (L (suc h)) q m3
    lifted_on m3 r2 q full long re f =
        let r2is : r2 ≡ (carry V x o es ps (suc h)).number = re ∙ ap (λ (z : List Entry). (next_carry z).number) (sym (put_is full long)) in
        let lis : L (suc h) ≡ (L h ++ A) ++ lifted x r2 = ap (λ (z : Trace). z.list) (trace_more V x o es ps h go.whole (omega (arith, w.counted))) ∙ ap (λ (z : ℕ). (L h ++ A) ++ lifted x z) (sym r2is) in
        subst (λ (z : List ℕ). Fetches m z q m3) (sym lis) (fetches_on m m2 m3 (L h ++ A) (lifted x r2) q (asked_on None m2 w.next.1) f)

    pub going_step : {r2 u2 : ℕ} {m3 : Meaning} {key2 : List ℕ} (t : Unit {0}) → 7 ≤ nd.count → length nd.entries ≡ 7 → r2 ≡ (next_carry written).number → u2 ≡ (next_carry written).offset
        → Refilled m2 x r2 (Ok t) m3 key2 → length key2 ≡ length key → Going keep m x o es ps (h + 1) r2 u2 key2 (set lines h line) m3
    going_step {r2} {u2} {m3} t full long re ue rf lk =
        let p = put_is full long in
        let up : h + 1 ≡ suc h = add-one h in
        record {
          number_is = rw up (re ∙ ap (λ (z : List Entry). (next_carry z).number) (sym p));
          offset_is = rw up (ue ∙ ap (λ (z : List Entry). (next_carry z).offset) (sym p));
          whole = rw up (ap (λ (z : Trace). z.whole) (trace_more V x o es ps h go.whole (omega (arith, w.counted))));
          fetched = rw up (lifted_on m3 r2 None full long re rf.1);
          key_is = rf.0 ∙ ap (λ (z : Meaning). key_of z r2) (asked_on None m2 w.next.1).reads;
          key_long = lk ∙ go.key_long;
          long = length-set lines h line ∙ go.long;
          entries = entries_on ent n w.made (omega (arith, w.below, w.deep));
          follows = follows_on;
        }

    pub going_stop : (p : Plan) → nd.count < 7 → p.lines ≡ set lines h line → Plans keep m x o es ps levels (Ok p) m2
    going_stop p few is =
        let stop = trace_stop V x o es ps h go.whole (omega (arith, w.counted)) in
        let nw : (trace V x o es ps (suc h)).whole ≡ false = ap (λ (z : Trace). z.whole) stop in
        let st : L levels ≡ L h ++ A = ap (λ (z : Trace). z.list) (trace_stays V x o es ps (suc h) levels (omega (arith, w.below)) nw) ∙ ap (λ (z : Trace). z.list) stop in
        let over : (k : ℕ) → suc h ≤ k → (trace V x o es ps k).whole ≡ true → ⊥ = λ k le w. true_false (sym w ∙ (ap (λ (t : Trace). t.whole) (trace_stays V x o es ps (suc h) k le nw) ∙ nw)) in (
          record {
            entries = λ k lk y. elim (cases_lt k (suc h)) [ inl a ↦ sym (entry_at p refl) ∙ rw is (entries_on ent n w.made (omega (arith, w.below, w.deep)) k (omega arith)) | inr b ↦ absurd (over k b y) ];
            follows = λ k lk y. elim (cases_lt k (suc h)) [ inl a ↦ (λ z. sym (follower_at p refl) ∙ rw is (follows_on k (omega arith) z)) | inr b ↦ absurd (over k b y) ];
          },
          subst (λ (z : List ℕ). Fetches m z None m2) (sym st) (asked_on None m2 w.next.1),
        )
      where
        true_false : true ≡ false → ⊥
        true_false z = let y : ◌≡◌ {A = ℕ} 0 1 = cc in omega arith

    pub going_lost : {q : Missing} {m3 : Meaning} {r2 : ℕ} (key2 : List ℕ) (res : Result Plan Missing) → 7 ≤ nd.count → length nd.entries ≡ 7 → r2 ≡ (next_carry written).number → Refilled m2 x r2 (Err q) m3 key2
        → IsErrAnd res (λ e. e ≡ q) → Plans keep m x o es ps levels res m3
    going_lost {q} {m3} {r2} key2 res full long re rf is =
        let f = trace_front V x o es ps (suc h) levels (omega (arith, w.below)) in
        passed_up (λ (z : Result Plan Missing). Plans keep m x o es ps levels z m3) res q is (subst (λ (z : List ℕ). Fetches m z (Some q.number) m3) (sym f.1) (fetches_stop m m3 (L (suc h)) f.0 q.number (lifted_on m3 r2 (Some q.number) full long re rf)))
