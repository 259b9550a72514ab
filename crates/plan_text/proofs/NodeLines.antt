-- The lines of a list of nodes: those of the nodes from the top down, those of their input, and
-- those of the plans that they run or join.
use Rattle.std.proofs.Common.{ℕ, suc, ◌≡◌, ◌+◌, ◌-◌, true, false, List, [], ◌∷◌, ◌++◌, length}
use Rattle.std.proofs.Common.{refl, sym, ap, subst, ◌∙◌, append_assoc, arith}
use Rattle.std.proofs.lemmas.List.{append-nil}
use Rattle.rel_algebra.specs.declared.plan.Leaf.{Leaf}
use Rattle.rel_algebra.specs.declared.plan.Leaf.TheVariants as leaf
use Rattle.rel_algebra.specs.declared.plan.Node.{Node, out-Node}
use Rattle.rel_algebra.specs.declared.plan.Node.TheViews.{roll-out-Node}
use Rattle.rel_algebra.specs.declared.plan.Node.TheOpen.{Node-F}
use Rattle.rel_algebra.specs.declared.plan.Node.TheFolds.{fold-roll-Node, fold-roll-Plan}
use Rattle.rel_algebra.specs.declared.plan.Plan.{Plan}
use Rattle.rel_algebra.specs.Plan.{PlanTree, unit_row, Nodes}
use Rattle.rel_algebra.specs.PlanText.{Text}
use Rattle.rel_algebra.specs.PlanView.{NodeTree, leaf_of, node_step, plan_step, node_of, with_nodes}
use Rattle.rel_algebra.specs.PlanView.{run_of, tree_of}
use Rattle.plan_text.specs.PlanLines.{Lines, nothing, node_text, plan_lines, run_lines}
use Rattle.plan_text.specs.Parts.{Part, line, further, parts_at, all_parts, heads, tails}

-- lines of which one part is none
no_more : (a b : Text) → a ++ b ≡ a ++ (b ++ [])
no_more a b = ap (λ (t : Text). a ++ t) (sym (append-nil b))

joined : (h l i n r : Text) → h ++ ((l ++ (i ++ n)) ++ r) ≡ (h ++ l) ++ (i ++ (n ++ r))
joined h l i n r = simp append_assoc refl

-- the lowest node of a list, over the lines of its input
stepped : (p : Part) (ps : List Part) (input : Lines) (d : ℕ) → let e = d + length ps in
    heads ps d ++ ((line p.text e ++ (input (suc e) ++ p.inner (suc e))) ++ tails ps e) ≡
    heads (p ∷ ps) d ++ (input (d + length (p ∷ ps)) ++ tails (p ∷ ps) (d + length (p ∷ ps)))
stepped p ps input d =
    let e : ℕ = d + length ps in
    let in_one : suc e ≡ d + length (p ∷ ps) = omega arith in
    let out_one : e ≡ suc e - 1 = omega arith in
    joined (heads ps d) (line p.text e) (input (suc e)) (p.inner (suc e)) (tails ps e) ∙
    (ap (λ (k : ℕ). heads (p ∷ ps) d ++ (input (suc e) ++ (p.inner (suc e) ++ tails ps k))) out_one
    ∙ ap (λ (k : ℕ). heads (p ∷ ps) d ++ (input k ++ tails (p ∷ ps) k)) in_one)

-- the lines of no node
start : (input : Lines) (d : ℕ) → input d ≡ input (d + 0) ++ []
start input d =
    let same : d ≡ d + 0 = omega arith in
    ap input same ∙ sym (append-nil (input (d + 0)))

-- a run's lines are those of these parts
abbrev Runs : Nodes → List Part → Type 0
Runs rest ps = (input : Lines) (d : ℕ) → run_lines rest input d ≡
    heads ps d ++ (input (d + length ps) ++ tails ps (d + length ps))

-- what a node adds to the lines of a plan, and of a run
record Lined (n : NodeTree) : Type 0 where
  over : (input : PlanTree) (d : ℕ) → plan_lines (n.over input) d ≡
      line (node_text (n.over unit_row)) d ++
      (plan_lines input (suc d) ++ further (n.over unit_row) (suc d))
  run : (rest : Nodes) (ps : List Part) → Runs rest ps → Runs (n.below rest) (parts_at true n ++ ps)

-- an input's lines, and no others
alone : (n : NodeTree) (input : PlanTree) (d : ℕ) →
    line (node_text (n.over unit_row)) d ++ plan_lines input (suc d) ≡
    line (node_text (n.over unit_row)) d ++ (plan_lines input (suc d) ++ [])
alone n input d = no_more (line (node_text (n.over unit_row)) d) (plan_lines input (suc d))

lined_at : (y : Node-F NodeTree PlanTree) → Lined (node_step y)
lined_at (Node-F.Extend ss) =
    let n : NodeTree = node_step (Node-F.Extend ss) in
    let t : Text = node_text (n.over unit_row) in
    record {
      over = λ input d. alone n input d;
      run = λ rest ps h input d.
          let e : ℕ = d + length ps in
          h (λ k. line t k ++ input (suc k)) d ∙
          (ap (λ (x : Text). heads ps d ++ (x ++ tails ps e)) (no_more (line t e) (input (suc e))) ∙
          stepped (record { text = t; inner = nothing }) ps input d);
    }
lined_at (Node-F.Apply s k inner) =
    let n : NodeTree = node_step (Node-F.Apply s k inner) in
    let t : Text = node_text (n.over unit_row) in
    record {
      over = λ input d. refl;
      run = λ rest ps h input d.
          h (λ k. line t k ++ (input (suc k) ++ plan_lines inner (suc k))) d ∙
          stepped (record { text = t; inner = plan_lines inner }) ps input d;
    }
lined_at (Node-F.Filter s) = record {
  over = λ input d. alone (node_step (Node-F.Filter s)) input d;
  run = λ rest ps h. h;
}
lined_at (Node-F.Keep places) = record {
  over = λ input d. alone (node_step (Node-F.Keep places)) input d;
  run = λ rest ps h. h;
}
lined_at (Node-F.Cross right) = record { over = λ input d. refl; run = λ rest ps h. h }
lined_at (Node-F.LeftOuter nodes s n right) =
    record { over = λ input d. refl; run = λ rest ps h. h }
lined_at Node-F.Settle = record {
  over = λ input d. alone (node_step Node-F.Settle) input d;
  run = λ rest ps h. h;
}
lined_at (Node-F.Group places aggregates) = record {
  over = λ input d. alone (node_step (Node-F.Group places aggregates)) input d;
  run = λ rest ps h. h;
}
lined_at (Node-F.Sort keys) = record {
  over = λ input d. alone (node_step (Node-F.Sort keys)) input d;
  run = λ rest ps h. h;
}

lined : (n : Node) → Lined (node_of n)
lined n =
    subst (λ m. Lined (node_of m)) (roll-out-Node n)
    (subst Lined (sym (fold-roll-Node NodeTree PlanTree node_step plan_step (out-Node n)))
    (lined_at _))

-- the lines of a run of nodes
run_parts : (ns : List Node) → Runs (run_of ns) (all_parts true ns)
run_parts [] input d = start input d
run_parts (n ∷ ns) input d =
    (lined n).run (run_of ns) (all_parts true ns) (run_parts ns) input d

-- the lines of nodes over a plan
nodes_parts : (ns : List Node) (input : PlanTree) (d : ℕ) →
    plan_lines (with_nodes ns input) d ≡
    heads (all_parts false ns) d ++ (plan_lines input (d + length (all_parts false ns)) ++
    tails (all_parts false ns) (d + length (all_parts false ns)))
nodes_parts [] input d = start (plan_lines input) d
nodes_parts (n ∷ ns) input d =
    let ps : List Part = all_parts false ns in
    let e : ℕ = d + length ps in
    let m : NodeTree = node_of n in
    nodes_parts ns (m.over input) d ∙
    (ap (λ (x : Text). heads ps d ++ (x ++ tails ps e)) ((lined n).over input e) ∙
    stepped (record { text = node_text (m.over unit_row); inner = further (m.over unit_row) }) ps
    (plan_lines input) d)

-- a leaf has one line
leaf_line : (l : Leaf) (d : ℕ) → line (node_text (leaf_of l)) d ≡ plan_lines (leaf_of l) d
leaf_line leaf.Unit d = sym (append-nil (line (node_text (leaf_of leaf.Unit)) d))
leaf_line (leaf.Scan name columns) d =
    sym (append-nil (line (node_text (leaf_of (leaf.Scan name columns))) d))
leaf_line (leaf.Values rows) d =
    sym (append-nil (line (node_text (leaf_of (leaf.Values rows))) d))

-- the parts of a run, written one after another
pub run_put : (ns : List Node) (d e : ℕ) (old a new : Text) →
    a ≡ old ++ heads (all_parts true ns) d → e ≡ d + length (all_parts true ns) →
    new ≡ a ++ tails (all_parts true ns) e → new ≡ old ++ run_lines (run_of ns) nothing d
run_put ns d e old a new down deep up =
    let ps : List Part = all_parts true ns in
    up ∙ (ap (λ (t : Text). t ++ tails ps e) down ∙
    (append_assoc old (heads ps d) (tails ps e) ∙
    (ap (λ (k : ℕ). old ++ (heads ps d ++ tails ps k)) deep ∙
    ap (λ (t : Text). old ++ t) (sym (run_parts ns nothing d)))))

-- the parts of a plan, written one after another
pub plan_put : (p : Plan) (ns : List Node) (d e : ℕ) (old a b new : Text) → ns ≡ p.nodes →
    a ≡ old ++ heads (all_parts false ns) d → e ≡ d + length (all_parts false ns) →
    b ≡ a ++ line (node_text (leaf_of p.leaf)) e → new ≡ b ++ tails (all_parts false ns) e →
    new ≡ old ++ plan_lines (tree_of p) d
plan_put p ns d e old a b new same down deep leaf_put up =
    let ps : List Part = all_parts false ns in
    let l : PlanTree = leaf_of p.leaf in
    let h : Text = heads ps d in
    let whole : tree_of p ≡ with_nodes p.nodes (leaf_of p.leaf) =
    fold-roll-Plan NodeTree PlanTree node_step plan_step (record { leaf = p.leaf; nodes = p.nodes })
    in
    let listed : with_nodes p.nodes l ≡ with_nodes ns l =
    ap (λ (ms : List Node). with_nodes ms l) (sym same) in
    up ∙ (ap (λ (t : Text). t ++ tails ps e)
    (leaf_put ∙ (ap (λ (t : Text). t ++ line (node_text l) e) down ∙
    (append_assoc old h (line (node_text l) e) ∙
    ap (λ (t : Text). old ++ (h ++ t)) (leaf_line p.leaf e)))) ∙
    (append_assoc old (h ++ plan_lines l e) (tails ps e) ∙
    (ap (λ (t : Text). old ++ t) (append_assoc h (plan_lines l e) (tails ps e)) ∙
    (ap (λ (k : ℕ). old ++ (h ++ (plan_lines l k ++ tails ps k))) deep ∙
    (ap (λ (t : Text). old ++ t) (sym (nodes_parts ns l d)) ∙
    ap (λ (q : PlanTree). old ++ plan_lines q d) (sym (whole ∙ listed)))))))
