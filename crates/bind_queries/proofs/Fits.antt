-- Where all that they use may be run, an expression without faults fits the catalog, and a query
-- without faults has a plan. What they use is there.
use Rattle.std.proofs.Common.{◌≡◌, refl, sym, ap, ap₂, ◌∙◌, subst, arith, ℕ, ◌<◌, Bool, true, false}
use Rattle.std.proofs.Common.{◌||◌, List, [], ◌∷◌, ◌++◌, map, Option, Some, None}
use Rattle.std.specs.Prelude.{is_some}
use Rattle.std.proofs.lemmas.Bool.{or_left, or_right}
use Rattle.std.proofs.lemmas.List.{append-nil}
use Rattle.std.proofs.lemmas.Slice.Eq.{bytes_eq-Decides}
use Rattle.std.specs.Str.{bytes_eq}
use Rattle.syntax_trees.specs.declared.anchor.Anchor.{Anchor}
use Rattle.syntax_trees.specs.declared.anchor.ColumnName.{ColumnName}
use Rattle.syntax_trees.specs.declared.anchor.Ident.{Ident}
use Rattle.syntax_trees.specs.declared.expr.Expr.{Expr}
use Rattle.syntax_trees.specs.declared.expr.Expr.TheOpen.{Query-F}
use Rattle.syntax_trees.specs.declared.query.FromItem.{FromItem}
use Rattle.syntax_trees.specs.declared.query.OrderedQuery.{OrderedQuery}
use Rattle.syntax_trees.specs.declared.query.Query.{Query, roll-Query}
use Rattle.syntax_trees.specs.declared.query.Select.{roll-Select}
use Rattle.syntax_trees.specs.declared.query.SelectItem.{SelectItem}
use Rattle.syntax_trees.specs.declared.query.SortSpecification.{SortSpecification}
use Rattle.row_types.specs.declared.sort_key.SortKey.{SortKey}
use Rattle.bound_trees.specs.declared.expr.BoundExpr.{BoundExpr}
use Rattle.bound_trees.specs.declared.query.BoundQuery.{BoundQuery}
use Rattle.rel_algebra.specs.Plain.{planned, planned_expr, planned_all}
use Rattle.catalog_store.specs.Catalog.{Object, Catalog, object_named}
use Rattle.catalog_store.specs.declared.entry.FunctionHead.{FunctionHead}
use Rattle.catalog_store.specs.Planning.{AllPlanned}
use Rattle.catalog_store.specs.Uses.{Use, calls, reads, Uses, joined, CallFits, AllFit, uses_in}
use Rattle.catalog_store.specs.Uses.{uses_in_query, name_used, names_used, SameNames}
use Rattle.catalog_store.specs.View.{tree_of, exprs_of}
use Rattle.catalog_store.proofs.Laws.{query_of-Ordered, uses_in_query-Ordered}
use Rattle.bind_faults.specs.Faults.{noted}
use Rattle.bind_faults.proofs.Laws.{is_free}
use Rattle.bind_kinds.specs.Conjuncts.{conjuncts_of}
use Rattle.bind_kinds.specs.declared.kind.Kind.{Kind}
use Rattle.bind_sight.specs.declared.output.Hit.{Hit}
use Rattle.bind_sight.specs.declared.output.Hit.TheVariants.{Nowhere, Once, Twice}
use Rattle.bind_sight.specs.declared.output.Output.{Output}
use Rattle.bind_sight.specs.Columns.{hits}
use Rattle.bind_sight.specs.Sight.{Seen, may_stand}
use Rattle.bind_parts.specs.Order.{place_at, one_key, ordered_by, keys_of, in_order_of}
use Rattle.bind_parts.specs.Turns.{each_noted}
use Rattle.bind_parts.specs.Typed.{no_parts, head_in, is_own}
use Rattle.bind_queries.specs.Binds.{HasPlan}
use Rattle.bind_queries.specs.Heights.{height_of, height_named, greatest_height}
use Rattle.bind_queries.specs.Names.{judge, inner}
use Rattle.bind_queries.specs.Order.{judge_ordered, judge_ordered_typed}
use Rattle.bind_queries.specs.Queries.{select_item, maybe, judge_parts, judge_query}
use Rattle.bind_queries.specs.Runs.{is_run, Runs, IsNew}
use Rattle.bind_queries.proofs.Sets.{Names, has, front_nil}
use Rattle.bind_queries.proofs.Runs.{not-own, in-catalog, with-a-plan, one-runs, runs-same}
use Rattle.bind_queries.proofs.Runs.{runs-parts}
use Rattle.bind_queries.proofs.Marks.{Known, known_in, Mark, Stands, AllStand, Covers, mark}
use Rattle.bind_queries.proofs.Marks.{grown-alone}
use Rattle.bind_queries.proofs.Bound.{query-mark}
use Rattle.bind_queries.proofs.Conjuncts.{same, alike-conjuncts}
use Rattle.bind_queries.proofs.Induction.{expr-fits, query-fits}
use Rattle.bind_queries.proofs.Layers.{made-select}

-- ---- heights

module _ (known : Known) where
  -- a name among names is no higher than the highest
  low : (name : List ℕ) (xs : Names) (height : ℕ) → has name xs ≡ true →
      greatest_height known.catalog xs < height → height_named known.catalog name < height
  low name [] height h g = absurd cc
  low name (x ∷ xs) height h g = by (bytes_eq x name) refl h
      (λ q. low name xs height q (omega (arith, g)))
    where
      by : (b : Bool) → bytes_eq x name ≡ b → (b || has name xs) ≡ true →
          (has name xs ≡ true → height_named known.catalog name < height) →
          height_named known.catalog name < height
      by true e q rest = subst (λ n. height_named known.catalog n < height)
          ((bytes_eq-Decides x name).0 e) (omega (arith, g))
      by false e q rest = rest q

  -- what is known of each name that is used
  abbrev Low : ℕ → List ℕ → Type 0
  Low height name = (height_named known.catalog name < height) ×
      (is_run (object_named name known.catalog) ≡ true)

  call-fits : (height : ℕ) (name : List ℕ) (arguments : ℕ) → IsNew known.catalog known.own →
      Stands known (calls name arguments) → Low height name →
      CallFits known.catalog height name arguments
  call-fits height name arguments new p l =
      let here = in-catalog known.catalog known.own name p.0
      (not-own known.catalog known.own name new l.1) p.1 in
      let g = with-a-plan known.catalog name p.0 (object_named name known.catalog) refl here l.1 in
      let is : height_named known.catalog name ≡ g.0.height = ap height_of g.1 in
      record {
        function = g.0;
        stands = g.1;
        as_many = g.2 ∙ p.2;
        lower =
            subst (λ n. n < height) is l.0;
      }

  fit-below : (height : ℕ) (us : Uses) → IsNew known.catalog known.own → AllStand known us →
      ((name : List ℕ) → has name (names_used us) ≡ true → Low height name) →
      AllFit known.catalog height us
  fit-below height [] new p f = tt
  fit-below height (calls name arguments ∷ us) new p f = (
    call-fits height name arguments new p.0 (f name
        (or_left (bytes_eq name name) (has name (names_used us))
        ((bytes_eq-Decides name name).1 refl))),
    fit-below height us new p.1 (λ other q. f other
        (or_right (bytes_eq name other) (has other (names_used us)) q)),
  )
  fit-below height (reads name ∷ us) new p f = (
    p.0,
    fit-below height us new p.1 (λ other q.
        f other (or_right (bytes_eq name other) (has other (names_used us)) q)),
  )

  -- ---- what is used is there

  abbrev IsThere : List ℕ → Type 0
  IsThere name = is_some (object_named name known.catalog) ≡ true

  head-there : (name : List ℕ) (h : FunctionHead) (o : Option Object) →
      object_named name known.catalog ≡ o → head_in o ≡ Some h → IsThere name
  head-there name h None is p = absurd cc
  head-there name h (Some o) is p = ap is_some is

  use-there : (u : Use) → Stands known u → is_own (name_used u) known.own ≡ false →
      IsThere (name_used u)
  use-there (calls name arguments) p n = head-there name p.0 (object_named name known.catalog) refl
      (in-catalog known.catalog known.own name p.0 n p.1)
  use-there (reads name) p n = ap is_some p.stands

  all-there : (us : Uses) → AllStand known us → (name : List ℕ) → has name (names_used us) ≡ true →
      is_own name known.own ≡ false → IsThere name
  all-there [] p name h n = absurd cc
  all-there (u ∷ us) p name h n = by (bytes_eq (name_used u) name) refl h
      (λ q. all-there us p.1 name q n)
    where
      by : (b : Bool) → bytes_eq (name_used u) name ≡ b → (b || has name (names_used us)) ≡ true →
          (has name (names_used us) ≡ true → IsThere name) → IsThere name
      by true e q rest =
          let same = (bytes_eq-Decides (name_used u) name).0 e in
          subst IsThere same (use-there u p.0
          (subst (λ x. is_own x known.own ≡ false) (sym same) n))
      by false e q rest = rest q

-- ---- expressions

abbrev around : Catalog → Seen → Known
around known s = record { catalog = known; own = s.own }

seen-around : (known : Catalog) (s : Seen) → s.catalog ≡ known → known_in s ≡ around known s
seen-around known s is = ap (λ c. around c s) is

module _ (known : Catalog) (all : AllPlanned known) (e : Expr) (s : Seen) (is : s.catalog ≡ known)
    (m : may_stand s.levels ≡ false) (p : (judge e s).faults ≡ []) where
  expr-covers : Covers (around known s) (judge e s).uses
      (mark (around known s) (judge e s).value.tree)
  expr-covers =
      let x = inner e s no_parts in
      grown-alone (around known s) s no_parts x.value.parts x.uses
      (mark (around known s) x.value.value.tree) m
      (expr-fits (around known s) all e s no_parts (seen-around known s is) p)

  -- Where no aggregate may stand, an expression without faults fits the catalog and has a plan, if
  -- all that it uses has a plan and the routine in whose body it stands is new there. It uses what
  -- was noted.
  pub fitting : (IsNew known s.own → Runs known (judge e s).uses → (height : ℕ) →
      greatest_height known (judge e s).uses < height →
      AllFit known height (uses_in (judge e s).value.tree))
      × (IsNew known s.own → Runs known (judge e s).uses →
      planned_expr (tree_of known (judge e s).value.tree) ≡ true)
      × SameNames (judge e s).uses (names_used (uses_in (judge e s).value.tree))
  fitting =
      let c = expr-covers in (
        λ new r height g. fit-below (around known s) height (uses_in (judge e s).value.tree) new c.0
            (λ name h. (
              low (around known s) name (judge e s).uses height (c.2 name ∙ h) g,
              one-runs
                  known (judge e s).uses name r (c.2 name ∙ h),
            )),
        λ new r. c.1 (
          new,
          runs-same known (judge e s).uses (names_used (uses_in (judge e s).value.tree)) c.2 r,
        ),
        c.2,
      )

  -- what it uses stands in the catalog, but for the routine in whose body it stands
  pub expr_used : (name : List ℕ) → has name (judge e s).uses ≡ true → is_own name s.own ≡ false →
      is_some (object_named name known) ≡ true
  expr_used name h n =
      let c = expr-covers in
      all-there (around known s) (uses_in (judge e s).value.tree) c.0 name (sym (c.2 name) ∙ h) n

-- ---- queries

module _ (known : Catalog) (all : AllPlanned known) (targets : List Kind) (q : Query) (s : Seen)
    (is : s.catalog ≡ known) (p : (judge_query targets q s).faults ≡ []) where
  query-covers : Covers (around known s) (judge_query targets q s).uses
      (query-mark (around known s) (judge_query targets q s).value.tree)
  query-covers = query-fits (around known s) all q targets s (seen-around known s is) p

  -- a query has a plan where all that it uses does and the routine in whose body it stands is new
  pub query_planned : IsNew known s.own → Runs known (judge_query targets q s).uses →
      HasPlan known (judge_query targets q s).value.tree
  query_planned new r =
      let c = query-covers in
      let x = judge_query targets q s in
      c.1 (new, runs-same known x.uses (names_used (uses_in_query x.value.tree)) c.2 r)

  -- a query fits the catalog as an expression does
  pub query_fitting : (IsNew known s.own → Runs known (judge_query targets q s).uses →
      (height : ℕ) → greatest_height known (judge_query targets q s).uses < height →
      AllFit known height (uses_in_query (judge_query targets q s).value.tree))
      × SameNames (judge_query targets q s).uses
      (names_used (uses_in_query (judge_query targets q s).value.tree))
  query_fitting =
      let c = query-covers in
      let x = judge_query targets q s in (
        λ new r height g. fit-below (around known s) height (uses_in_query x.value.tree) new c.0
            (λ name h. (
              low (around known s) name x.uses height (c.2 name ∙ h) g,
              one-runs known
                  x.uses name r (c.2 name ∙ h),
            )),
        c.2,
      )

  pub query_used : (name : List ℕ) → has name (judge_query targets q s).uses ≡ true →
      is_own name s.own ≡ false → is_some (object_named name known) ≡ true
  query_used name h n =
      let c = query-covers in
      all-there (around known s) (uses_in_query (judge_query targets q s).value.tree) c.0 name
      (sym (c.2 name) ∙ h) n

in-order-planned : (known : Catalog) (q : BoundQuery) (keys : List SortKey) → HasPlan known q →
    HasPlan known (in_order_of q keys)
in-order-planned known q [] p = p
in-order-planned known q (k ∷ ks) p = ap planned (query_of-Ordered known q (k ∷ ks)) ∙ p

in-order-uses : (q : BoundQuery) (keys : List SortKey) →
    uses_in_query (in_order_of q keys) ≡ uses_in_query q
in-order-uses q [] = refl
in-order-uses q (k ∷ ks) = uses_in_query-Ordered q (k ∷ ks)

-- the uses of ORDER BY's columns are none
no-uses : (columns : List Output) (so : List SortKey) (order : List SortSpecification) →
    (each_noted (one_key columns) so order).uses ≡ []
no-uses columns so [] = refl
no-uses columns so (k ∷ ks) = ap₂ (λ (x y : Names). x ++ y)
    (place-uses k.name (hits k.name.name columns)) (no-uses columns (one_key columns so k).value ks)
  where
    place-uses : (i : Ident) (h : Hit) → (place_at i h).uses ≡ []
    place-uses i Nowhere = refl
    place-uses i (Once place kind) = refl
    place-uses i Twice = refl

module _ (known : Catalog) (all : AllPlanned known) (q : OrderedQuery) (s : Seen)
    (is : s.catalog ≡ known) (p : (judge_ordered_typed q s).faults ≡ []) where
  inside-free : (judge_query [] q.query s).faults ≡ []
  inside-free = front_nil (judge_query [] q.query s).faults
      (ordered_by q.order (judge_query [] q.query s).value).faults p

  pub ordered_typed_planned : IsNew known s.own → Runs known (judge_ordered_typed q s).uses →
      HasPlan known (judge_ordered_typed q s).value.tree
  ordered_typed_planned new r =
      let query = judge_query [] q.query s in
      let keys = keys_of query.value.columns q.order in
      in-order-planned known query.value.tree keys.value
      (query_planned known all [] q.query s is inside-free new
      (runs-parts known query.uses keys.uses r).0)

  uses-inside : (judge_ordered_typed q s).uses ≡ (judge_query [] q.query s).uses
  uses-inside =
      let query = judge_query [] q.query s in
      ap (λ (us : Names). query.uses ++ us) (no-uses query.value.columns [] q.order) ∙
      append-nil query.uses

  -- it uses what was noted
  pub ordered_names : SameNames (judge_ordered_typed q s).uses
      (names_used (uses_in_query (judge_ordered_typed q s).value.tree))
  ordered_names name =
      let query = judge_query [] q.query s in
      ap (has name) uses-inside ∙ (query_fitting known all [] q.query s is inside-free).1 name ∙
      ap (λ us. has name (names_used us))
      (sym (in-order-uses query.value.tree (keys_of query.value.columns q.order).value))

  pub ordered_used : (name : List ℕ) → has name (judge_ordered_typed q s).uses ≡ true →
      is_own name s.own ≡ false → is_some (object_named name known) ≡ true
  ordered_used name h n =
      query_used known all [] q.query s is inside-free name (sym (ap (has name) uses-inside) ∙ h) n

pub ordered_planned : (known : Catalog) → AllPlanned known → (q : OrderedQuery) (s : Seen) →
    s.catalog ≡ known → (judge_ordered q s).faults ≡ [] → IsNew known s.own →
    Runs known (judge_ordered q s).uses → HasPlan known (judge_ordered q s).value
ordered_planned known all q s is p new r = ordered_typed_planned known all q s is p new r

pub bound_planned : (known : Catalog) (q : Query) (s : Seen) (b : BoundQuery) → s.catalog ≡ known →
    b ≡ (judge_query [] q s).value.tree → noted None (judge_query [] q s).faults ≡ None →
    AllPlanned known → IsNew known s.own → Runs known (judge_query [] q s).uses → HasPlan known b
bound_planned known q s b is same p all new r = subst (HasPlan known) (sym same)
    (query_planned known all [] q s is (is_free (judge_query [] q s).faults p) new r)

-- ---- the parts of a SELECT, which are judged as a query of these parts

abbrev pub select_of : Anchor → List SelectItem → List FromItem → Option Expr → List ColumnName →
    Option Expr → Query
select_of at items from filter group_by having =
    roll-Query
    (Query-F.Select (roll-Select (record {
      anchor = at;
      items = items;
      from = from;
      filter =
          filter;
      group_by = group_by;
      having = having;
    })))

pub parts_as_query : (at : Anchor) (items : List SelectItem) (from : List FromItem)
    (filter : Option Expr) (group_by : List ColumnName) (having : Option Expr) (targets : List Kind)
    (s : Seen)
    → judge_query targets (select_of at items from filter group_by having) s ≡ judge_parts at
    (map select_item items) from (maybe filter) group_by (maybe having) targets s
parts_as_query at items from filter group_by having targets s =
    made-select at items from filter group_by having targets s

-- ---- conjuncts

pub conjuncts_planned : (known : Catalog) (e : BoundExpr) → planned_expr (tree_of known e) ≡ true →
    planned_all (exprs_of known (conjuncts_of e)) ≡ true
conjuncts_planned known e p = (alike-conjuncts (record { catalog = known; own = None }) e).1 p

-- the conjuncts of a test use what it uses
pub conjuncts_uses : (e : BoundExpr) → joined (map uses_in (conjuncts_of e)) ≡ uses_in e
conjuncts_uses e = ap (λ (m : Mark). m.uses) (same (record { catalog = []; own = None }) e)
