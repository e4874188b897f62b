-- A plan written into a faithful tree.
use Rattle.std.proofs.Common.{◌≡◌, ℕ, zero, suc, true, List, get_or, Some, None, Option, sym, refl, ap, ◌∙◌, subst, arith}
use Rattle.growth.proofs.Faithfulness.{Out, grow_out}
use Rattle.growth.proofs.Placing.{linked_none, linked_some}
use Rattle.growth.proofs.Tracing.{plan_builds, plan_traces}
use Rattle.growth.specs.Commits.{After, Entered}
use Rattle.growth.specs.Growth.{Up, grow, rise, stay}
use Rattle.growth.specs.Plans.{Comes, Planned, Traced, carry, lifts, trace}
use Rattle.growth.specs.Routes.{Along, Trail, Within, way}
use Rattle.growth.specs.Theorems.{TableFaithful}
use Rattle.growth.specs.Writes.{Same, build, none, right_of, some}
use Rattle.keys.specs.Digits.{Digits}
use Rattle.nodes.proofs.Shapes.{kid_is, kid_shape}
use Rattle.nodes.specs.Faith.{Ceiling, Faithful, View, made, under}
use Rattle.nodes.specs.Tables.{held, no_node, tree_of}
use Rattle.nodes.specs.Trees.{Tree, shaped}
use Rattle.nodes.specs.declared.node.Entry.{Entry}
use Rattle.nodes.specs.declared.node.Node.{Node}

pub along_trail : (table : List Node) (path ps : List ℕ) (l least at : ℕ) → shaped l least (tree_of table l at) ≡ true → Within ps l (tree_of table l at) → Trail table path ps l at → Along (way table path) ps l (tree_of table l at)
along_trail table path ps zero least at h w t = tt
along_trail table path ps (suc l) least at h w t =
    let q = get_or ps l 0 in
    let e = kid_is table l least at h q w.0 in (
      ap (λ p. held (get_or table p no_node)) t.0,
      subst (Along (way table path) ps l) (sym e) (along_trail table path ps l 3 (get_or (get_or table at no_node).children q 0) (kid_shape table l least at h q w.0) (subst (Within ps l) e w.1) t.1),
    )

record Rose (l : ℕ) (up : Up (Tree l)) (y : Tree l) : Type 0 where
  pub r : ℕ
  pub o : ℕ
  pub is : up ≡ rise r o y

rose : (l : ℕ) (up : Up (Tree l)) (y : Tree l) → right_of up ≡ some y → Rose l up y
rose l stay y e = absurd (let z : ◌≡◌ {A = ℕ} 0 1 = cc in omega arith)
rose l (rise r o t) y e = record { r = r; o = o; is = cc }

stayed : (l : ℕ) (up : Up (Tree l)) → right_of up ≡ none → up ≡ stay
stayed l stay e = refl
stayed l (rise r o t) e = absurd (let z : ◌≡◌ {A = ℕ} 0 1 = cc in omega arith)

after : (v : View) (t t1 : List Node) (used used1 x o : ℕ) (ents nexts : List Entry) (path ps : List ℕ) (l at : ℕ) (right : Option ℕ) (b : Digits) (c : Ceiling)
    → Traced v used x o (way t path) ps l (tree_of t l at) → Same v used x o ents nexts ps l (tree_of t l at) → Planned v x o (way t path) ps l ents nexts → Entered t t1 used ents nexts ps l at right used1
    → Out v l b c (grow v used x o ps l (tree_of t l at)).left (grow v used x o ps l (tree_of t l at)).up → After v l b c t1 at ents right
after v t t1 used used1 x o ents nexts path ps l at None b c tr sm pl ent out =
    let g = grow v used x o ps l (tree_of t l at) in
    let n = linked_none t1 l (build used ents nexts ps l (tree_of t l at)).right ent.linked in
    let s = stayed l g.up (sym sm.right ∙ n) in
    subst (λ (z : Tree l). Faithful v l b c z) (sym (ent.left ∙ sm.left)) (subst (λ (u : Up (Tree l)). Out v l b c g.left u) s out)
after v t t1 used used1 x o ents nexts path ps l at (Some y) b c tr sm pl ent out =
    let g = grow v used x o ps l (tree_of t l at) in
    let n = linked_some t1 l (build used ents nexts ps l (tree_of t l at)).right y ent.linked in
    let s = rose l g.up (tree_of t1 l y) (sym sm.right ∙ n) in
    let w = subst (λ (u : Up (Tree l)). Out v l b c g.left u) s.is out in
    let cm : Comes (rise s.r s.o (tree_of t1 l y)) (carry v x o (way t path) ps l) = subst (λ (u : Up (Tree l)). Comes u (carry v x o (way t path) ps l)) s.is tr.comes in
    let wh : (trace v x o (way t path) ps l).whole ≡ true = sym tr.goes_up ∙ ap lifts s.is in
    record {
      number = s.r;
      offset = s.o;
      entry = pl.entries l (omega arith) wh ∙ (ap (λ (k : ℕ). made v k (carry v x o (way t path) ps l).offset) (sym cm.0) ∙ ap (λ (k : ℕ). made v s.r k) (sym cm.1));
      above = w.1.0;
      left = subst (λ (z : Tree l). Faithful v l b (under (v.key s.r)) z) (sym (ent.left ∙ sm.left)) w.0;
      right = w.1.1;
    }

pub table_faithful : TableFaithful
table_faithful v t t1 used used1 x o ents nexts path ps l at right b c bd rdy tr pl ent f w =
    let al = along_trail t path ps l 0 at rdy.shape rdy.within tr in
    let tc = plan_traces v used x o (way t path) ps l (tree_of t l at) al in
    let sm = plan_builds v used x o (way t path) ps ents nexts l (tree_of t l at) al pl rdy.within in
    (after v t t1 used used1 x o ents nexts path ps l at right b c tc sm pl ent (grow_out v bd used x o ps l b c (tree_of t l at) f w), tc.fetches)
