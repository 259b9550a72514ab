-- Scalars and nodes of a function's plan, moved to where it is merged.
use Rattle.std.proofs.Common.{rules, ℕ, zero, suc, ◌≡◌, ◌<◌, ◌≤◌, ◌+◌, ◌∷◌, [], ◌++◌, List, Option}
use Rattle.std.proofs.Common.{Some, None, IsSome, Result, Ok, Err, IfOk, false, map, length, drop}
use Rattle.std.proofs.Common.{get_or, refl, sym, ap, ◌∙◌, subst}
use Rattle.std.proofs.lemmas.List.{drop_all}
use Rattle.rel_algebra.specs.declared.plan.Node.{Node}
use Rattle.rel_algebra.specs.declared.plan.Node.TheVariants.{Extend, Apply}
use Rattle.rel_algebra.specs.declared.plan.ApplyKind.{ApplyKind}
use Rattle.rel_algebra.specs.declared.plan.Plan.{Plan}
use Rattle.rel_algebra.specs.declared.scalar.Scalar.{Scalar as ScalarCode}
use Rattle.rel_algebra.specs.declared.scalar.Scalar.TheVariants.{Chain as ChainCode}
use Rattle.rel_algebra.specs.declared.scalar.ScalarLink.{ScalarLink as LinkCode}
use Rattle.rel_algebra.specs.Tree.{Arithmetic, Routine, Returned}
use Rattle.rel_algebra.specs.Plan.{strict, Scalar, Scalars, no_node, word, none, more, column, Kind}
use Rattle.rel_algebra.specs.Plan.{kind_width, PlanTree, Nodes, on_each, extend, apply, extend_by}
use Rattle.rel_algebra.specs.Plan.{apply_by, anew}
use Rattle.rel_algebra.specs.PlanView.{Link, chained, scalar_of, scalars_of, link_of, kind_of}
use Rattle.rel_algebra.specs.PlanView.{tree_of as plan_of}
use Rattle.rel_algebra.specs.Emit.{Emitted, emit_body, passed, top, width, scalar_count}
use Rattle.rel_algebra.specs.Merged.{Move, moved, moved_index, moved_scalar, moved_scalars}
use Rattle.rel_algebra.specs.Merged.{moved_kind, moved_tree, moved_nodes}
use Rattle.rel_algebra.proofs.Laws.{merged_plans}
use Rattle.catalog_store.specs.declared.entry.RoutineRecord.{RoutineRecord}
use Rattle.catalog_store.specs.Catalog.{Catalog, routine_named}
use Rattle.catalog_store.specs.Kept.{extended, applied, run_of, own_plan}
use Rattle.catalog_store.specs.View.{tree_of}
use Rattle.catalog_store.specs.Widths.{width_in}
use Rattle.plan_expressions.specs.declared.draft.Draft.{Draft}
use Rattle.plan_expressions.specs.Drafts.{Drafted, drafted}
use Rattle.plan_expressions.specs.Emission.{Emits, put}
use Rattle.plan_expressions.specs.Merging.{moved_link, with_run}
use Rattle.plan_expressions.proofs.Lists.{rest, put-none, put-append, scalars-counted, map-last}
use Rattle.plan_expressions.proofs.Running.{Adding, adds, asks, acts, adding, kept-Extend}
use Rattle.plan_expressions.proofs.Running.{kept-Apply}
use Rattle.plan_expressions.proofs.Views.{scalar_of-Chain, link_of-parts}

-- ---- lists of scalars

pub moving_next : (v : Move) (d : ℕ) (ss : List ScalarCode) (i : ℕ) (x s : ScalarCode)
    (front longer : List ScalarCode) → i < length ss → x ≡ get_or ss i x →
    scalar_of s ≡ moved_scalar v d (scalar_of x) → longer ≡ front ++ s ∷ [] →
    put front (moved_scalars v d (scalars_of (drop i ss))) ≡ moved_scalars v d (scalars_of ss) →
    put longer (moved_scalars v d (scalars_of (drop (i + 1) ss))) ≡ moved_scalars v d
    (scalars_of ss)
moving_next v d ss i x s front longer h is copy f b =
    let others = moved_scalars v d (scalars_of (drop (i + 1) ss)) in
    ap (λ (xs : List ScalarCode). put xs others) f ∙ put-append front (s ∷ []) others ∙
    ap (λ y. put front (more y others)) copy
    ∙ ap (λ (xs : List ScalarCode). put front (moved_scalars v d (scalars_of xs)))
    (sym (rest ss i x h is)) ∙ b

pub moving_done : (v : Move) (d : ℕ) (ss : List ScalarCode) (i : ℕ) (front : List ScalarCode) →
    length ss ≤ i →
    put front (moved_scalars v d (scalars_of (drop i ss))) ≡ moved_scalars v d (scalars_of ss) →
    scalars_of front ≡ moved_scalars v d (scalars_of ss)
moving_done v d ss i front h b =
    sym (put-none front) ∙ ap (λ (xs : List ScalarCode).
    put front (moved_scalars v d (scalars_of xs))) (sym (drop_all i ss h)) ∙ b

-- ---- chains

pub moved_chained : (v : Move) (d : ℕ) (first : Scalar) (ls : List Link) →
    moved_scalar v d (chained first ls) ≡ chained (moved_scalar v d first) (map (moved_link v d) ls)
moved_chained v d first [] = refl
moved_chained v d first (l ∷ ls) = moved_chained v d
    (word (strict (Arithmetic l.operator)) (more first (more l.operand none))) ls

pub chain_moved : (v : Move) (d : ℕ) (whole first copy boxed : ScalarCode)
    (ls copies : List LinkCode) → whole ≡ ChainCode first ls →
    scalar_of copy ≡ moved_scalar v d (scalar_of first) →
    map link_of copies ≡ map (moved_link v d) (map link_of ls) → boxed ≡ copy →
    scalar_of (ChainCode boxed copies) ≡ moved_scalar v d (scalar_of whole)
chain_moved v d whole first copy boxed ls copies is one others same =
    scalar_of-Chain boxed copies ∙ ap (λ s. chained (scalar_of s) (map link_of copies)) same ∙
    (λ j. chained (one j) (others j))
    ∙ sym (moved_chained v d (scalar_of first) (map link_of ls)) ∙
    ap (moved_scalar v d) (sym (scalar_of-Chain first ls)) ∙
    ap (λ s. moved_scalar v d (scalar_of s)) (sym is)

append_last : {A : Type 0} (xs ys : List A) (y : A) → (xs ++ y ∷ []) ++ ys ≡ xs ++ y ∷ ys
append_last [] ys y = refl
append_last (x ∷ xs) ys y = ap (λ zs. x ∷ zs) (append_last xs ys y)

append_nothing : {A : Type 0} (xs : List A) → xs ++ [] ≡ xs
append_nothing [] = refl
append_nothing (x ∷ xs) = ap (λ zs. x ∷ zs) (append_nothing xs)

pub links_next : (v : Move) (d : ℕ) (ls : List LinkCode) (i : ℕ) (x : LinkCode) (s : ScalarCode)
    (front longer : List LinkCode) → i < length ls → x ≡ get_or ls i x →
    scalar_of s ≡ moved_scalar v d (scalar_of x.operand) →
    longer ≡ front ++ record { operator = x.operator; operand = s } ∷ [] →
    map link_of front ++ map (moved_link v d) (map link_of (drop i ls)) ≡ map (moved_link v d)
    (map link_of ls) →
    map link_of longer ++ map (moved_link v d) (map link_of (drop (i + 1) ls)) ≡
    map (moved_link v d) (map link_of ls)
links_next v d ls i x s front longer h is copy f b =
    let l : LinkCode = record { operator = x.operator; operand = s } in
    let others = map (moved_link v d) (map link_of (drop (i + 1) ls)) in
    let here : link_of l ≡ moved_link v d (link_of x) =
    link_of-parts l ∙ ap (λ y. record { operator = x.operator; operand = y }) copy ∙
    ap (moved_link v d) (sym (link_of-parts x)) in
    ap (λ (xs : List LinkCode). map link_of xs ++ others) f ∙
    ap (λ (ys : List Link). ys ++ others) (map-last link_of front l)
    ∙ append_last (map link_of front) others (link_of l) ∙
    ap (λ y. map link_of front ++ y ∷ others) here
    ∙ ap (λ (xs : List LinkCode). map link_of front ++ map (moved_link v d) (map link_of xs))
    (sym (rest ls i x h is)) ∙ b

pub links_done : (v : Move) (d : ℕ) (ls : List LinkCode) (i : ℕ) (front : List LinkCode) →
    length ls ≤ i →
    map link_of front ++ map (moved_link v d) (map link_of (drop i ls)) ≡ map (moved_link v d)
    (map link_of ls) → map link_of front ≡ map (moved_link v d) (map link_of ls)
links_done v d ls i front h b =
    sym (append_nothing (map link_of front))
    ∙ ap (λ (xs : List LinkCode). map link_of front ++ map (moved_link v d) (map link_of xs))
    (sym (drop_all i ls h)) ∙ b

-- ---- columns

-- a column of the row that is moved
pub own_index : (v : Move) (d level i : ℕ) → level ≡ d → v.by + i ≡ moved_index v d level i
own_index v zero zero i h = refl
own_index v zero (suc level) i h = absurd (let never = h in cc)
own_index v (suc d) zero i h = absurd (let never = h in cc)
own_index v (suc d) (suc level) i h = own_index v d level i (let same : level ≡ d = cc in same)

-- and one of another row
pub other_index : (v : Move) (d level i : ℕ) → ¬ (level ≡ d) → i ≡ moved_index v d level i
other_index v zero zero i h = absurd (h refl)
other_index v zero (suc level) i h = refl
other_index v (suc d) zero i h = refl
other_index v (suc d) (suc level) i h = other_index v d level i (λ q. h (ap suc q))

pub own_column : (v : Move) (d level i : ℕ) → level ≡ d →
    column d (v.by + i) ≡ moved_scalar v d (column level i)
own_column v d level i h = let back = sym h in λ j. column (back j) (own_index v d level i h j)

pub other_column : (v : Move) (d level i : ℕ) → ¬ (level ≡ d) →
    column level i ≡ moved_scalar v d (column level i)
other_column v d level i h = ap (column level) (other_index v d level i h)

-- ---- nodes

-- what is left of a run goes on from here
pub record Merging (v : Move) (ns : List Node) (i : ℕ) (start now : Draft) : Type 0 where
  pub same : with_run v (run_of (drop i ns)) (drafted now) ≡ with_run v (run_of ns) (drafted start)

one_extended : (v : Move) (ss : List ScalarCode) (o : Option Nodes) (old new : Drafted) →
    new.tree ≡ extend (moved_scalars v 0 (scalars_of ss)) old.tree →
    new.width ≡ old.width + scalar_count (moved_scalars v 0 (scalars_of ss)) →
    with_run v o new ≡ with_run v (extended (scalars_of ss) o) old
one_extended v ss None old new tree wide = refl
one_extended v ss (Some ns) old new tree wide =
    λ j. Some (record {
      tree = on_each (moved_nodes v 0 ns) (tree j);
      width =
          width (moved_nodes v 0 ns) (wide j);
    })

pub extend_next : (v : Move) (x : Node) (ss copies : List ScalarCode) (old new : Draft) →
    x ≡ Extend ss → scalars_of copies ≡ moved_scalars v 0 (scalars_of ss) →
    (drafted new).tree ≡ extend (scalars_of copies) (drafted old).tree →
    (drafted new).width ≡ (drafted old).width + length copies →
    (others : List Node) → with_run v (run_of others) (drafted new) ≡ with_run v
    (run_of (x ∷ others)) (drafted old)
extend_next v x ss copies old new node copy tree wide others =
    one_extended v ss (run_of others) (drafted old) (drafted new)
    (tree ∙ ap (λ ys. extend ys (drafted old).tree) copy)
    (wide ∙ ap (λ n. (drafted old).width + n) (sym (scalars-counted copies) ∙ ap scalar_count copy))
    ∙ ap (λ (o : Option Nodes). with_run v o (drafted old)) (sym (kept-Extend ss others)) ∙
    ap (λ (y : Node). with_run v (run_of (y ∷ others)) (drafted old)) (sym node)

one_applied : (v : Move) (w : Scalar) (k : Kind) (i : PlanTree) (o : Option Nodes)
    (old new : Drafted) →
    new.tree ≡ apply (moved_scalar v 0 w) (moved_kind v 0 k) anew (moved_tree v 0 i) old.tree →
    new.width ≡ old.width + kind_width (moved_kind v 0 k) →
    with_run v o new ≡ with_run v (applied w k i o) old
one_applied v w k i None old new tree wide = refl
one_applied v w k i (Some ns) old new tree wide =
    λ j. Some (record {
      tree = on_each (moved_nodes v 0 ns) (tree j);
      width =
          width (moved_nodes v 0 ns) (wide j);
    })

pub apply_next : (v : Move) (x : Node) (w copy : ScalarCode) (k kind : ApplyKind) (p q plan : Plan)
    (old new : Draft) → x ≡ Apply w k p → q ≡ p →
    scalar_of copy ≡ moved_scalar v 0 (scalar_of w) → kind_of kind ≡ moved_kind v 0 (kind_of k) →
    plan_of plan ≡ moved_tree v 0 (plan_of q) →
    (drafted new).tree ≡ apply (scalar_of copy) (kind_of kind) anew (plan_of plan) (drafted old).tree →
    (drafted new).width ≡ (drafted old).width + kind_width (kind_of kind) →
    (others : List Node) → with_run v (run_of others) (drafted new) ≡ with_run v
    (run_of (x ∷ others)) (drafted old)
apply_next v x w copy k kind p q plan old new node same one how inner tree wide others =
    let third : plan_of plan ≡ moved_tree v 0 (plan_of p) = inner ∙
    ap (λ (r : Plan). moved_tree v 0 (plan_of r)) same in
    one_applied v (scalar_of w) (kind_of k) (plan_of p) (run_of others) (drafted old) (drafted new)
    (tree ∙ (λ j. apply (one j) (how j) anew (third j) (drafted old).tree))
    (wide ∙ ap (λ r. (drafted old).width + kind_width r) how)
    ∙ ap (λ (o : Option Nodes). with_run v o (drafted old)) (sym (kept-Apply w k p others)) ∙
    ap (λ (y : Node). with_run v (run_of (y ∷ others)) (drafted old)) (sym node)

pub merging_next : (v : Move) (ns : List Node) (i : ℕ) (x : Node) (start old new : Draft) →
    i < length ns → x ≡ get_or ns i x →
    ((others : List Node) → with_run v (run_of others) (drafted new) ≡ with_run v
    (run_of (x ∷ others)) (drafted old)) → Merging v ns i start old →
    Merging v ns (i + 1) start new
merging_next v ns i x start old new h is step m = record {
  same = step (drop (i + 1) ns) ∙ ap (λ (xs : List Node). with_run v (run_of xs) (drafted old))
      (sym (rest ns i x h is)) ∙ m.same;
}

-- each node of a run is one that adds columns
some_there : (ns : Nodes) → IsSome (Some ns)
some_there ns = search rules

some_run : (v : Move) (o p : Option Nodes) (d e : Drafted) → IsSome o →
    with_run v p e ≡ with_run v o d → IsSome p
some_run v None p d e h same = absurd (let never = h in cc)
some_run v (Some ns) None d e h same = absurd (let never = same in cc)
some_run v (Some ns) (Some ms) d e h same = some_there ms

first_of_run : (x : Node) (others : List Node) → Adding x → IsSome (run_of (x ∷ others)) →
    IsSome (run_of (x ∷ []))
first_of_run x others (adds ss is) h =
    subst (λ (o : Option Nodes). IsSome o) (sym (kept-Extend ss []) ∙
    ap (λ (y : Node). run_of (y ∷ [])) (sym is)) (some_there (extend_by (scalars_of ss) no_node))
first_of_run x others (asks s k i is) h =
    subst (λ (o : Option Nodes). IsSome o) (sym (kept-Apply s k i []) ∙
    ap (λ (y : Node). run_of (y ∷ [])) (sym is))
    (some_there (apply_by (scalar_of s) (kind_of k) anew (plan_of i) no_node))
first_of_run x others (acts alone other) h = absurd
    (let never = subst (λ (o : Option Nodes). IsSome o) (alone others) h in cc)

pub node_adds : (v : Move) (ns : List Node) (i : ℕ) (x : Node) (start now : Draft) → i < length ns →
    x ≡ get_or ns i x → IsSome (run_of ns) → Merging v ns i start now →
    IsSome (run_of (x ∷ []))
node_adds v ns i x start now h is all m =
    let there : IsSome (run_of (drop i ns)) =
    some_run v (run_of ns) (run_of (drop i ns)) (drafted start) (drafted now) all m.same in
    first_of_run x (drop (i + 1) ns) (adding x)
    (subst (λ (xs : List Node). IsSome (run_of xs)) (rest ns i x h is) there)

pub merging_done : (v : Move) (ns : List Node) (i : ℕ) (start now : Draft) (s : Scalar)
    (e : Emitted) → length ns ≤ i → Merging v ns i start now → run_of ns ≡ Some e.nodes →
    s ≡ moved_scalar v 0 e.scalar → Emits start now s (moved v 0 e)
merging_done v ns i start now s e h m run scalar =
    by (ap (λ (xs : List Node). with_run v (run_of xs) (drafted now)) (sym (drop_all i ns h)) ∙
    m.same ∙ ap (λ o. with_run v o (drafted start)) run)
  where
    of_some : Option Drafted → Drafted → Drafted
    of_some None d = d
    of_some (Some x) d = x

    by : Some (drafted now) ≡ with_run v (Some e.nodes) (drafted start) →
        Emits start now s (moved v 0 e)
    by same = let is = ap (λ o. of_some o (drafted now)) same in
        record {
          tree = ap (λ (d : Drafted). d.tree) is;
          columns = ap (λ (d : Drafted). d.width) is;
          scalar = scalar;
        }

-- ---- the law, as the code meets it

pub merged_body : (r : Routine) (S : List ℕ → ℕ) (m k n : ℕ) → n ≡ m + k →
    moved (record { by = n; from = m }) 0 (emit_body r S (top k) 0) ≡ emit_body r S (passed m k) n
merged_body r S m k n h =
    ap (λ (by : ℕ). moved (record { by = by; from = m }) 0 (emit_body r S (top k) 0)) h ∙
    sym (merged_plans r S m k) ∙ ap (emit_body r S (passed m k)) (sym h)

-- of a call with as many arguments as the function has parameters
pub merged_call : (k : Catalog) (name : List ℕ) (r : RoutineRecord) (first count : ℕ)
    (old new : Draft) (s : Scalar) →
    routine_named name k ≡ Returned r.head.parameters r.head.returns (tree_of k r.body) →
    length r.head.parameters ≡ count → (drafted old).width ≡ first + count →
    Emits old new s (moved (record { by = (drafted old).width; from = first }) 0 (own_plan k r)) →
    Emits old new s (emit_body (routine_named name k) (width_in k) (passed first count)
    (drafted old).width)
merged_call k name r first count old new s tree many wide d =
    let n = (drafted old).width in
    subst (λ e. Emits old new s e)
    ((λ j. moved (record { by = n; from = first }) 0
    (emit_body (sym tree j) (width_in k) (top (many j)) 0)) ∙
    merged_body (routine_named name k) (width_in k) first count n wide) d

pub if_ok : {A B : Type 0} (r : Result A B) (P Q : A → Type 0) → IfOk r P → ((x : A) → P x → Q x) →
    IfOk r Q
if_ok (Ok x) P Q h f = f x h
if_ok (Err e) P Q h f = h
