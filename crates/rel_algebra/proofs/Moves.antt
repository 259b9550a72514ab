-- How columns, nodes and plans move.
use Rattle.std.proofs.Common.{◌≡◌, ℕ, zero, suc, ◌+◌, Bool, true, false, cond, List, [], ◌∷◌, ◌++◌}
use Rattle.std.proofs.Common.{length, Option, Some, None, refl, ap, sym, ◌∙◌, arith, drop, ◌||◌}
use Rattle.sql_values.specs.declared.value.SqlType.{SqlType}
use Rattle.sql_values.specs.declared.value.SqlType.TheVariants.{Boolean, Integer, Varchar}
use Rattle.sql_values.specs.declared.value.Value.TheVariants.{Int, Null, Bool as Truth}
use Rattle.std.proofs.Common.{◌&&◌, pos}
use Rattle.sql_values.specs.declared.operators.Comparison.TheVariants.{Equals}
use Rattle.rel_algebra.specs.Emit.{Emitted, EmittedAll, Env, Place, against, all_plain, all_values}
use Rattle.rel_algebra.specs.Emit.{assigning, assigning_first, assigning_in, at, below, checks}
use Rattle.rel_algebra.specs.Emit.{checks_of, chosen, columns_within, computed, either_all}
use Rattle.rel_algebra.specs.Emit.{else_arms, entered, filters, filters_width, first_and}
use Rattle.rel_algebra.specs.Emit.{first_value, folded_columns, folded_env, given, if_all}
use Rattle.rel_algebra.specs.Emit.{if_values, is_plain, joined_nodes, lifted, list_nodes, listed}
use Rattle.rel_algebra.specs.Emit.{listed_by, may_refuse, nowhere, nulls, numbers, outward}
use Rattle.rel_algebra.specs.Emit.{own_places, passed, place_if, raising, read, row_stands}
use Rattle.rel_algebra.specs.Emit.{scalar_count, scalars_of, selected, several, then_columns}
use Rattle.rel_algebra.specs.Emit.{truths, values_plan, width, with_place}
use Rattle.rel_algebra.specs.Joins.{places}
use Rattle.rel_algebra.specs.Merged.{moved_way, Move, moved, moved_index, moved_kind, moved_lists}
use Rattle.rel_algebra.specs.Merged.{moved_nodes, moved_scalar, moved_scalars, moved_tree}
use Rattle.rel_algebra.specs.Plan.{Kind, Nodes, PlanTree, Scalar, Scalars, aggregate, and_word}
use Rattle.rel_algebra.specs.Plan.{apply, apply_by, argument, case_word, column, constant, exists}
use Rattle.rel_algebra.specs.Plan.{extend, extend_by, filter, keep, kind_width, member, more}
use Rattle.rel_algebra.specs.Plan.{no_node, none, on_each, or_word, single, strict, unit_row}
use Rattle.rel_algebra.specs.Plan.{values, word, into}
use Rattle.rel_algebra.specs.Tree.{Comparing, Exprs, MoreExprs, NoExpr, NullTest, TrueTest}
use Rattle.rel_algebra.proofs.Truths.{both}

-- the place of a column of the row at hand, and how many columns it has
abbrev pub wide : Move → ℕ → ℕ → ℕ
wide v zero j = v.by + j
wide v (suc d) j = j

pub wide_add : (v : Move) (d j k : ℕ) → wide v d j + k ≡ wide v d (j + k)
wide_add v zero j k = omega arith
wide_add v (suc d) j k = refl

pub wide_suc : (v : Move) (d j : ℕ) → suc (wide v d j) ≡ wide v d (suc j)
wide_suc v zero j = omega arith
wide_suc v (suc d) j = refl

pub own_column : (v : Move) (d j : ℕ) → column 0 (wide v d j) ≡ moved_scalar v d (column 0 j)
own_column v zero j = refl
own_column v (suc d) j = refl

pub count_moved : (ss : Scalars) (v : Move) (d : ℕ) → scalar_count (moved_scalars v d ss)
    ≡ scalar_count ss
count_moved none v d = refl
count_moved (more s ss) v d = ap suc (count_moved ss v d)

kind_moved : (kind : Kind) (v : Move) (d : ℕ) → kind_width (moved_kind v d kind) ≡ kind_width kind
kind_moved single v d = refl
kind_moved exists v d = refl
kind_moved (member s) v d = refl
kind_moved (aggregate ags) v d = refl
kind_moved (into k) v d = refl

pub width_moved : (nodes : Nodes) (v : Move) (d j : ℕ) → width (moved_nodes v d nodes) (wide v d j)
    ≡ wide v d (width nodes j)
width_moved no_node v d j = refl
width_moved (extend_by ss a) v d j =
    ap (width (moved_nodes v d a)) (ap (λ c. wide v d j + c) (count_moved ss v d)
    ∙ wide_add v d j (scalar_count ss)) ∙ width_moved a v d
    (j + scalar_count ss)
width_moved (apply_by when kind way inner a) v d j =
    ap (width (moved_nodes v d a)) (ap (λ c. wide v d j + c) (kind_moved kind v d)
    ∙ wide_add v d j (kind_width kind)) ∙ width_moved a v d
    (j + kind_width kind)

pub joined_moved : (a b : Nodes) (v : Move) (d : ℕ) →
    joined_nodes (moved_nodes v d a) (moved_nodes v d b) ≡ moved_nodes v d (joined_nodes a b)
joined_moved no_node b v d = refl
joined_moved (extend_by ss a) b v d =
    ap (λ (n : Nodes). extend_by (moved_scalars v d ss) n) (joined_moved a b v d)
joined_moved (apply_by when kind way inner a) b v d =
    ap (λ (n : Nodes). apply_by (moved_scalar v d when) (moved_kind v d kind) (moved_way v d way)
    (moved_tree v d inner) n)
    (joined_moved a b v d)

abbrev pub moved_all : Move → ℕ → EmittedAll → EmittedAll
moved_all v d a = record { nodes = moved_nodes v d a.nodes; scalars = moved_scalars v d a.scalars }

abbrev pub emitted : Nodes → Scalar → Emitted
emitted nodes s = record { nodes = nodes; scalar = s }

abbrev pub emitted_all : Nodes → Scalars → EmittedAll
emitted_all nodes ss = record { nodes = nodes; scalars = ss }

-- One after another.
abbrev pub put_first : Emitted → EmittedAll → EmittedAll
put_first a c = record { nodes = joined_nodes a.nodes c.nodes; scalars = more a.scalar c.scalars }

pub first_and_moved : (a a' : Emitted) (b b' : ℕ → EmittedAll) (v : Move) (d j : ℕ) →
    a' ≡ moved v d a →
    ((i : ℕ) → b' (wide v d i) ≡ moved_all v d (b i)) → first_and a' b' (wide v d j)
    ≡ moved_all v d (first_and a b j)
first_and_moved a a' b b' v d j ha hb =
    ap (λ (x : Emitted). first_and x b' (wide v d j)) ha
    ∙ (ap (λ i. put_first (moved v d a) (b' i)) (width_moved a.nodes v d j)
    ∙ (ap (put_first (moved v d a)) (hb (width a.nodes j))
    ∙ ap (λ (n : Nodes). emitted_all n
    (more (moved_scalar v d a.scalar) (moved_scalars v d (b (width a.nodes j)).scalars)))
    (joined_moved a.nodes (b (width a.nodes j)).nodes v d)))

abbrev pub put_columns : EmittedAll → Emitted → Emitted
put_columns a c = record {
  nodes = joined_nodes a.nodes (extend_by a.scalars c.nodes);
  scalar = c.scalar;
}

pub then_columns_moved : (a a' : EmittedAll) (go go' : ℕ → ℕ → Emitted) (v : Move) (d j : ℕ) →
    a' ≡ moved_all v d a →
    ((i k : ℕ) → go' (wide v d i) k ≡ moved v d (go i k)) →
    then_columns a' go' (wide v d j) ≡ moved v d (then_columns a go j)
then_columns_moved a a' go go' v d j ha hg =
    let c = go (width a.nodes j) (scalar_count a.scalars) in
    ap (λ (x : EmittedAll). then_columns x go' (wide v d j)) ha
    ∙ (both (λ (i k : ℕ). put_columns (moved_all v d a) (go' i k)) _ _ _ _
    (width_moved a.nodes v d j) (count_moved a.scalars v d)
    ∙ (ap (put_columns (moved_all v d a)) (hg (width a.nodes j) (scalar_count a.scalars))
    ∙ ap (λ (n : Nodes). emitted n (moved_scalar v d c.scalar))
    (joined_moved a.nodes (extend_by a.scalars c.nodes) v d)))

-- Places.
abbrev pub moved_place : Move → ℕ → Place → Place
moved_place v d (at level i) = at level (moved_index v d level i)
moved_place v d (given i) = at d (v.from + i)
moved_place v d nowhere = nowhere

abbrev pub NotGiven : Place → Type 0
NotGiven (at level i) = Unit {0}
NotGiven (given i) = ⊥
NotGiven nowhere = Unit {0}

pub read_moved : (p : Place) (v : Move) (d : ℕ) →
    read (moved_place v d p) ≡ moved_scalar v d (read p)
read_moved (at level i) v d = refl
read_moved (given i) v d = refl
read_moved nowhere v d = refl

outward_moved : (p : Place) (v : Move) (d : ℕ) → outward (moved_place v d p)
    ≡ moved_place v (suc d) (outward p)
outward_moved (at level i) v d = refl
outward_moved (given i) v d = refl
outward_moved nowhere v d = refl

pub outward_free : (p : Place) → NotGiven p → NotGiven (outward p)
outward_free (at level i) h = tt
outward_free (given i) h = absurd h
outward_free nowhere h = tt

pub below_moved : (k i : ℕ) (p q : Place) (v : Move) (d : ℕ) → q ≡ moved_place v d p →
    below k i q ≡ moved_place v d (below k i p)
below_moved zero i p q v d h = refl
below_moved (suc k) zero p q v d h = h
below_moved (suc k) (suc i) p q v d h = below_moved k i p q v d h

pub below_free : (k i : ℕ) (p : Place) → NotGiven p → NotGiven (below k i p)
below_free zero i p h = tt
below_free (suc k) zero p h = h
below_free (suc k) (suc i) p h = below_free k i p h

own_place : (v : Move) (d j : ℕ) → at 0 (wide v d j) ≡ moved_place v d (at 0 j)
own_place v zero j = refl
own_place v (suc d) j = refl

-- the second reads each name where the first does, moved
pub record EnvMoved (v : Move) (d : ℕ) (e e' : Env) : Type 0 where
  pub columns : (c i : ℕ) → e'.columns c i ≡ moved_place v d (e.columns c i)
  pub params : (i : ℕ) → e'.params i ≡ moved_place v d (e.params i)
  pub free : (c i : ℕ) → NotGiven (e.columns c i)

pub entered_moved : (e e' : Env) (n : ℕ) (v : Move) (d : ℕ) → EnvMoved v d e e' →
    EnvMoved v (suc d) (entered e n) (entered e' n)
entered_moved e e' n v d h =
    record {
      columns = columns;
      params = λ i. ap outward (h.params i) ∙ outward_moved (e.params i) v d;
      free = free;
    }
  where
    columns : (c i : ℕ) → columns_within e' n c i ≡ moved_place v (suc d) (columns_within e n c i)
    columns zero i = below_moved n i (at 0 i) (at 0 i) v (suc d) refl
    columns (suc c) i = ap outward (h.columns c i) ∙ outward_moved (e.columns c i) v d

    free : (c i : ℕ) → NotGiven (columns_within e n c i)
    free zero i = below_free n i (at 0 i) tt
    free (suc c) i = outward_free (e.columns c i) (h.free c i)

pub lifted_moved : (e e' : Env) (v : Move) (d : ℕ) → EnvMoved v d e e' →
    EnvMoved v (suc d) (lifted e) (lifted e')
lifted_moved e e' v d h = record {
  columns = λ c i. ap outward (h.columns c i) ∙ outward_moved (e.columns c i) v d;
  params = λ i. ap outward (h.params i) ∙ outward_moved (e.params i) v d;
  free = λ c i. outward_free (e.columns c i) (h.free c i);
}

pub passed_moved : (m k : ℕ) (v : Move) (d : ℕ) → EnvMoved v d (passed m k) (passed (wide v d m) k)
passed_moved m k v d = record {
  columns = λ c i. refl;
  params = λ i. below_moved k i (at 0 (m + i)) (at 0 (wide v d m + i)) v d
      (ap (at 0) (wide_add v d m i) ∙ own_place v d (m + i));
  free = λ c i. tt;
}

pub folded_moved : (e e' : Env) (n m : ℕ) (v : Move) (d : ℕ) → EnvMoved v d e e' →
    EnvMoved v d (folded_env e n m) (folded_env e' (wide v d n) m)
folded_moved e e' n m v d h = record { columns = columns; params = h.params; free = free }
  where
    columns : (c i : ℕ) → folded_columns e' (wide v d n) m c i
        ≡ moved_place v d (folded_columns e n m c i)
    columns zero i = below_moved m i (at 0 (n + i)) (at 0 (wide v d n + i)) v d
        (ap (at 0) (wide_add v d n i) ∙ own_place v d (n + i))
    columns (suc c) i = h.columns c i

    free : (c i : ℕ) → NotGiven (folded_columns e n m c i)
    free zero i = below_free m i (at 0 (n + i)) tt
    free (suc c) i = h.free c i

-- Guards.
abbrev pub moved_places : Move → ℕ → List ℕ → List ℕ
moved_places v d [] = []
moved_places v d (i ∷ is) = wide v d i ∷ moved_places v d is

pub checks_moved : (is : List ℕ) (v : Move) (d : ℕ) → checks (moved_places v d is)
    ≡ moved_scalars v d (checks is)
checks_moved [] v d = refl
checks_moved (i ∷ is) v d =
    both (λ (c : Scalar) (cs : Scalars). more
    (word or_word (more (word (strict NullTest) (more c none)) (more (constant (Truth true)) none)))
    cs) _ _
    _ _ (own_column v d i) (checks_moved is v d)

place_moved : (b : Bool) (i : ℕ) (is js : List ℕ) (v : Move) (d : ℕ) → js ≡ moved_places v d is →
    place_if b (wide v d i) js ≡ moved_places v d (place_if b i is)
place_moved true i is js v d h = ap (λ (ks : List ℕ). wide v d i ∷ ks) h
place_moved false i is js v d h = h

pub raising_moved : (es : Exprs) (types : List SqlType) (v : Move) (d m : ℕ) →
    raising es types (wide v d m) ≡ moved_places v d (raising es types m)
raising_moved NoExpr types v d m = refl
raising_moved (MoreExprs x es) types v d m =
    place_moved (may_refuse types || computed x) m (raising es (drop 1 types) (suc m))
    (raising es (drop 1 types) (suc (wide v d m))) v d
    (ap (raising es (drop 1 types)) (wide_suc v d m) ∙ raising_moved es (drop 1 types) v d (suc m))

-- Targets.
assigning_moved : (t : SqlType) (s : Scalar) (v : Move) (d : ℕ) → assigning t (moved_scalar v d s)
    ≡ moved_scalar v d (assigning t s)
assigning_moved Integer s v d = refl
assigning_moved (Varchar n) s v d = refl
assigning_moved Boolean s v d = refl

assigning_first_moved : (types : List SqlType) (s : Scalar) (v : Move) (d : ℕ) →
    assigning_first types (moved_scalar v d s) ≡ moved_scalar v d (assigning_first types s)
assigning_first_moved [] s v d = refl
assigning_first_moved (t ∷ types) s v d = assigning_moved t s v d

pub assigning_in_moved : (types : List SqlType) (a : Emitted) (v : Move) (d : ℕ) →
    assigning_in types (moved v d a) ≡ moved v d (assigning_in types a)
assigning_in_moved types a v d =
    ap (emitted (moved_nodes v d a.nodes)) (assigning_first_moved types a.scalar v d)

pub if_values_moved : (is : List ℕ) (s : Scalar) (v : Move) (d : ℕ) →
    if_values (moved_places v d is) (moved_scalar v d s) ≡ moved_scalar v d (if_values is s)
if_values_moved [] s v d = refl
if_values_moved (i ∷ is) s v d =
    ap (λ (cs : Scalars). word case_word (more (word and_word cs) (more (moved_scalar v d s) none)))
    (checks_moved (i ∷ is) v d)

same_places : (is : List ℕ) (v : Move) (d : ℕ) → moved_places v (suc d) is ≡ is
same_places [] v d = refl
same_places (i ∷ is) v d = ap (λ (js : List ℕ). i ∷ js) (same_places is v d)

pub all_values_moved : (is : List ℕ) (v : Move) (d : ℕ) →
    all_values is ≡ moved_scalar v (suc d) (all_values is)
all_values_moved is v d =
    ap (word and_word) (ap checks (sym (same_places is v d)) ∙ checks_moved is v (suc d))

pub checks_of_moved : (ss : Scalars) (v : Move) (d : ℕ) → checks_of (moved_scalars v d ss)
    ≡ moved_scalars v d (checks_of ss)
checks_of_moved none v d = refl
checks_of_moved (more s ss) v d =
    ap (λ (cs : Scalars). more
    (word or_word (more (word (strict NullTest) (more (moved_scalar v d s) none))
    (more (constant (Truth true)) none))) cs)
    (checks_of_moved ss v d)

if_all_moved : (ss : Scalars) (s : Scalar) (v : Move) (d : ℕ) →
    if_all (moved_scalars v d ss) (moved_scalar v d s) ≡ moved_scalar v d (if_all ss s)
if_all_moved ss s v d = ap
    (λ (cs : Scalars). word case_word (more (word and_word cs) (more (moved_scalar v d s) none)))
    (checks_of_moved ss v d)

abbrev pub UseMoved : (Scalars → Scalar) → Type 0
UseMoved use_list = (ss : Scalars) (v : Move) (d : ℕ) → use_list (moved_scalars v d ss)
    ≡ moved_scalar v d (use_list ss)

pub first_value_moved : UseMoved first_value
first_value_moved none v d = refl
first_value_moved (more s none) v d = refl
first_value_moved (more s (more t ss)) v d = if_all_moved (more s (more t ss)) s v d

pub row_stands_moved : UseMoved row_stands
row_stands_moved ss v d = if_all_moved ss (constant (Truth true)) v d

pub against_moved : (ss : Scalars) (p : ℕ) (v : Move) (d : ℕ) →
    against (wide v d p) (moved_scalars v d ss) ≡ moved_scalars v d (against p ss)
against_moved none p v d = refl
against_moved (more last none) p v d = refl
against_moved (more test (more result arms)) p v d =
    both (λ (c : Scalar) (cs : Scalars). more
    (word (strict (Comparing Equals)) (more c (more (moved_scalar v d test) none)))
    (more (moved_scalar v d result) cs)) _ _ _ _ (own_column v d p) (against_moved arms p v d)

pub truths_moved : (ss : Scalars) (v : Move) (d : ℕ) → truths (moved_scalars v d ss)
    ≡ moved_scalars v d (truths ss)
truths_moved none v d = refl
truths_moved (more s ss) v d =
    ap (λ (cs : Scalars). more (word (strict TrueTest) (more (moved_scalar v d s) none)) cs)
    (truths_moved ss v d)

-- Plans.
pub on_each_moved : (nodes : Nodes) (t : PlanTree) (v : Move) (d : ℕ) →
    on_each (moved_nodes v (suc d) nodes) (moved_tree v d t) ≡ moved_tree v d (on_each nodes t)
on_each_moved no_node t v d = refl
on_each_moved (extend_by ss a) t v d = on_each_moved a (extend ss t) v d
on_each_moved (apply_by when kind way inner a) t v d =
    on_each_moved a (apply when kind way inner t) v d

abbrev pub moved_tests : Move → ℕ → List Emitted → List Emitted
moved_tests v d [] = []
moved_tests v d (a ∷ ems) = moved v d a ∷ moved_tests v d ems

pub append_moved : (a b : List Emitted) (v : Move) (d : ℕ) →
    moved_tests v d (a ++ b) ≡ moved_tests v d a ++ moved_tests v d b
append_moved [] b v d = refl
append_moved (x ∷ a) b v d = ap (λ (ems : List Emitted). moved v d x ∷ ems) (append_moved a b v d)

pub filters_moved : (ems : List Emitted) (t : PlanTree) (v : Move) (d : ℕ) →
    filters (moved_tests v (suc d) ems) (moved_tree v d t) ≡ moved_tree v d (filters ems t)
filters_moved [] t v d = refl
filters_moved (a ∷ ems) t v d =
    ap (λ (u : PlanTree). filters (moved_tests v (suc d) ems)
    (filter (moved_scalar v (suc d) a.scalar) u)) (on_each_moved a.nodes t v d) ∙
    filters_moved ems (filter a.scalar (on_each a.nodes t)) v d

filters_width_moved : (ems : List Emitted) (n : ℕ) (v : Move) (d : ℕ) →
    filters_width (moved_tests v (suc d) ems) n ≡ filters_width ems n
filters_width_moved [] n v d = refl
filters_width_moved (a ∷ ems) n v d = ap (filters_width (moved_tests v (suc d) ems))
    (width_moved a.nodes v (suc d) n) ∙ filters_width_moved ems
    (width a.nodes n) v d

own_moved : (ss : Scalars) (v : Move) (d : ℕ) → own_places (moved_scalars v (suc d) ss)
    ≡ own_places ss
own_moved none v d = refl
own_moved (more (constant x) ss) v d = refl
own_moved (more (column zero i) ss) v d = ap (with_place i) (own_moved ss v d)
own_moved (more (column (suc level) i) ss) v d = refl
own_moved (more (argument i) ss) v d = refl
own_moved (more (word w operands) ss) v d = refl

listed_by_moved : (own : Option (List ℕ)) (a : EmittedAll) (n : ℕ) (t : PlanTree) (v : Move)
    (d : ℕ) →
    listed_by own (moved_all v (suc d) a) n (moved_tree v d t)
    ≡ moved_tree v d (listed_by own a n t)
listed_by_moved (Some is) a n t v d = ap (keep is) (on_each_moved a.nodes t v d)
listed_by_moved None a n t v d =
    both (λ (is : List ℕ) (u : PlanTree). keep is u) _ _ _ _
    (both (λ (i k : ℕ). places i k) _ _ _ _ (width_moved a.nodes v (suc d) n)
    (count_moved a.scalars v (suc d)))
    (ap (λ (nodes : Nodes). on_each nodes (moved_tree v d t))
    (joined_moved a.nodes (extend_by a.scalars no_node) v (suc d)) ∙ on_each_moved
    (joined_nodes a.nodes (extend_by a.scalars no_node)) t v d)

pub listed_moved : (a a' : EmittedAll) (n : ℕ) (t t' : PlanTree) (v : Move) (d : ℕ) →
    a' ≡ moved_all v (suc d) a → t' ≡ moved_tree v d t →
    listed a' n t' ≡ moved_tree v d (listed a n t)
listed_moved a a' n t t' v d ha ht =
    both (λ (x : EmittedAll) (u : PlanTree). listed x n u) _ _ _ _ ha ht
    ∙ (ap (λ (own : Option (List ℕ)). listed_by own (moved_all v (suc d) a) n (moved_tree v d t))
    (own_moved a.scalars v d) ∙ listed_by_moved
    (own_places a.scalars) a n t v d)

abbrev pub select_by : List Emitted → (ℕ → EmittedAll) → ℕ → PlanTree → PlanTree
select_by ts list n input = let m = filters_width ts n in listed (list m) m (filters ts input)

pub selected_moved : (tests tests' : ℕ → List Emitted) (list list' : ℕ →
    EmittedAll) (n : ℕ) (t t' : PlanTree) (v : Move) (d : ℕ) →
    tests' n ≡ moved_tests v (suc d) (tests n) →
    ((i : ℕ) → list' i ≡ moved_all v (suc d) (list i)) → t' ≡ moved_tree v d t →
    selected tests' list' n t' ≡ moved_tree v d (selected tests list n t)
selected_moved tests tests' list list' n t t' v d hs hl ht =
    let ts = tests n in let m = filters_width ts n in
    ap (λ (ems : List Emitted). select_by ems list' n t') hs
    ∙ (ap (λ i. listed (list' i) i (filters (moved_tests v (suc d) ts) t'))
    (filters_width_moved ts n v d)
    ∙ listed_moved (list m) (list' m) m (filters ts t) (filters (moved_tests v (suc d) ts) t') v d
    (hl m)
    (ap (filters (moved_tests v (suc d) ts)) ht ∙ filters_moved ts t v d))

-- VALUES.
abbrev pub moved_each : Move → ℕ → List EmittedAll → List EmittedAll
moved_each v d [] = []
moved_each v d (a ∷ lists) = moved_all v d a ∷ moved_each v d lists

list_nodes_moved : (lists : List EmittedAll) (v : Move) (d : ℕ) → list_nodes (moved_each v d lists)
    ≡ moved_nodes v d (list_nodes lists)
list_nodes_moved [] v d = refl
list_nodes_moved (a ∷ lists) v d = ap (joined_nodes (moved_nodes v d a.nodes))
    (list_nodes_moved lists v d) ∙ joined_moved a.nodes (list_nodes lists)
    v d

else_moved : (s : Scalar) (v : Move) (d : ℕ) → else_arms (moved_scalar v d s)
    ≡ moved_scalars v d (else_arms s)
else_moved (word case_word arms) v d = refl
else_moved (constant x) v d = refl
else_moved (column level i) v d = refl
else_moved (argument i) v d = refl
else_moved (word w ss) v d = refl

either_moved : (i : ℕ) (ss rs : Scalars) (v : Move) (d : ℕ) →
    either_all i (moved_scalars v (suc d) ss) (moved_scalars v (suc d) rs)
    ≡ moved_scalars v (suc d) (either_all i ss rs)
either_moved i none rs v d = refl
either_moved i (more s ss) none v d = refl
either_moved i (more s ss) (more r rs) v d =
    both (λ (arms cs : Scalars). more (word case_word (more (word (strict (Comparing Equals))
    (more (column 0 0) (more (constant (Int (pos i))) none)))
    (more (moved_scalar v (suc d) s) arms))) cs) _ _ _ _
    (else_moved r v (suc d)) (either_moved i ss rs v d)

nulls_moved : (k : ℕ) (v : Move) (d : ℕ) → nulls k ≡ moved_scalars v d (nulls k)
nulls_moved zero v d = refl
nulls_moved (suc k) v d = ap (more (constant Null)) (nulls_moved k v d)

chosen_moved : (k i : ℕ) (lists : List EmittedAll) (v : Move) (d : ℕ) →
    chosen k i (moved_each v (suc d) lists) ≡ moved_scalars v (suc d) (chosen k i lists)
chosen_moved k i [] v d = nulls_moved k v (suc d)
chosen_moved k i (a ∷ lists) v d = ap (either_all i (moved_scalars v (suc d) a.scalars))
    (chosen_moved k (suc i) lists v d) ∙ either_moved i a.scalars
    (chosen k (suc i) lists) v d

numbers_moved : (i n : ℕ) (v : Move) (d : ℕ) → numbers i n ≡ moved_lists v d (numbers i n)
numbers_moved i zero v d = refl
numbers_moved i (suc n) v d = ap (λ (lists : List Scalars). more (constant (Int (pos i))) none
    ∷ lists) (numbers_moved (suc i) n v d)

each_long : (lists : List EmittedAll) (v : Move) (d : ℕ) → length (moved_each v d lists)
    ≡ length lists
each_long [] v d = refl
each_long (a ∷ lists) v d = ap suc (each_long lists v d)

several_moved : (k : ℕ) (lists : List EmittedAll) (v : Move) (d : ℕ) →
    several k (moved_each v (suc d) lists) ≡ moved_tree v d (several k lists)
several_moved k lists v d =
    listed_moved (emitted_all (list_nodes lists) (chosen k 0 lists))
    (emitted_all (list_nodes (moved_each v (suc d) lists))
    (chosen k 0 (moved_each v (suc d) lists))) 1
    (values (numbers 0 (length lists))) (values (numbers 0 (length (moved_each v (suc d) lists)))) v
    d
    (both emitted_all _ _ _ _ (list_nodes_moved lists v (suc d)) (chosen_moved k 0 lists v d))
    (ap values (ap (numbers 0) (each_long lists v (suc d))
    ∙ numbers_moved 0 (length lists) v (suc d)))

plain_moved : (nodes : Nodes) (v : Move) (d : ℕ) → is_plain (moved_nodes v d nodes) ≡ is_plain nodes
plain_moved no_node v d = refl
plain_moved (extend_by ss rest) v d = refl
plain_moved (apply_by when kind way inner rest) v d = refl

all_plain_moved : (lists : List EmittedAll) (v : Move) (d : ℕ) → all_plain (moved_each v d lists)
    ≡ all_plain lists
all_plain_moved [] v d = refl
all_plain_moved (a ∷ lists) v d =
    both (λ (x y : Bool). x && y) _ _ _ _ (plain_moved a.nodes v d) (all_plain_moved lists v d)

scalars_moved : (lists : List EmittedAll) (v : Move) (d : ℕ) → scalars_of (moved_each v d lists)
    ≡ moved_lists v d (scalars_of lists)
scalars_moved [] v d = refl
scalars_moved (a ∷ lists) v d =
    ap (λ (ss : List Scalars). moved_scalars v d a.scalars ∷ ss) (scalars_moved lists v d)

either_tree : (b : Bool) (x x' y y' : PlanTree) (v : Move) (d : ℕ) → x' ≡ moved_tree v d x →
    y' ≡ moved_tree v d y →
    cond b x' y' ≡ moved_tree v d (cond b x y)
either_tree true x x' y y' v d p q = p
either_tree false x x' y y' v d p q = q

pub values_plan_moved : (k : ℕ) (first lists : List EmittedAll) (v : Move) (d : ℕ) →
    values_plan k (moved_each v (suc d) first) (moved_each v (suc d) lists)
    ≡ moved_tree v d (values_plan k first lists)
values_plan_moved k [] lists v d = several_moved k lists v d
values_plan_moved k (a ∷ []) lists v d =
    listed_moved a (moved_all v (suc d) a) 0 unit_row unit_row v d refl refl
values_plan_moved k (a ∷ b ∷ others) lists v d =
    let all = a ∷ b ∷ others in
    ap (λ t. cond t (values (scalars_of (moved_each v (suc d) all)))
    (several k (moved_each v (suc d) lists))) (all_plain_moved all v (suc d))
    ∙ either_tree (all_plain all) (values (scalars_of all))
    (values (scalars_of (moved_each v (suc d) all))) (several k lists)
    (several k (moved_each v (suc d) lists)) v d
    (ap values (scalars_moved all v (suc d))) (several_moved k lists v d)
