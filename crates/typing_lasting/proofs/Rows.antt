-- The trees of the worked rows: their kinds, their typing and their names.
use Rattle.std.proofs.Common.{◌≡◌, ℕ, List, [], ◌∷◌, ◌++◌, None, sym, ap}
use Rattle.std.proofs.Common.{◌∙◌, codes, false}
use Rattle.bound_trees.specs.declared.change.BoundDelete.{BoundDelete}
use Rattle.bound_trees.specs.declared.expr.BoundExpr.{BoundExpr}
use Rattle.bound_trees.specs.declared.expr.BoundExpr.TheOpen.{BoundExpr-F, BoundFromItem-F}
use Rattle.bound_trees.specs.declared.expr.BoundExpr.TheOpen.{BoundQuery-F, BoundSource-F}
use Rattle.bound_trees.specs.declared.expr.BoundExpr.TheVariants as expr
use Rattle.bound_trees.specs.declared.expr.BoundExpr.TheVariants.{rolls-Column, rolls-Variable}
use Rattle.bound_trees.specs.declared.expr.BoundExpr.TheVariants.{rolls-Call, rolls-Single}
use Rattle.bound_trees.specs.declared.query.BoundFromItem.TheVariants as item
use Rattle.bound_trees.specs.declared.query.BoundFromItem.TheVariants.{rolls-Comma}
use Rattle.bound_trees.specs.declared.query.BoundQuery.TheVariants as query
use Rattle.bound_trees.specs.declared.query.BoundQuery.TheVariants.{rolls-Select}
use Rattle.bound_trees.specs.declared.query.BoundSource.TheVariants as source
use Rattle.bound_trees.specs.declared.query.BoundSource.TheVariants.{rolls-Table}
use Rattle.bound_trees.specs.declared.statement.BoundCall.{BoundCall}
use Rattle.bound_trees.specs.declared.statement.BoundStmt.TheOpen.{BoundStmt-F}
use Rattle.bound_trees.specs.declared.statement.BoundStmt.TheVariants as bound
use Rattle.bound_trees.specs.declared.statement.BoundStmt.TheVariants.{rolls-Set, rolls-Delete}
use Rattle.bound_trees.specs.declared.statement.BoundStmt.TheVariants.{rolls-Call as rolls-call}
use Rattle.bound_trees.specs.declared.statement.BoundTarget.{BoundTarget}
use Rattle.catalog_store.specs.Uses.{reads, joined, uses_in, uses_in_query}
use Rattle.catalog_store.specs.Uses.{calls as calls_use}
use Rattle.catalog_store.proofs.Laws.{uses_in-Column, uses_in-Variable, uses_in-Call}
use Rattle.catalog_store.proofs.Laws.{uses_in_item-Comma, uses_in_query-Select}
use Rattle.catalog_store.proofs.Laws.{uses_in_source-Table, uses_in_select-made}
use Rattle.typing_trees.specs.Around.{Around, then}
use Rattle.typing_trees.specs.Queries.{ExprKind, QueryKinds, kind_of, kinds_of_item}
use Rattle.typing_trees.specs.Queries.{kinds_of_query, kinds_of_source, expr_kind, item_kinds}
use Rattle.typing_trees.specs.Queries.{source_kinds, select_kinds, only_column}
use Rattle.typing_trees.specs.Statements.{Typed, Inside, takes_value, delete_typed, call_typed}
use Rattle.typing_trees.specs.Statements.{is_typed}
use Rattle.typing_lasting.specs.Used.{expr_names, query_names, arguments_names, statement_names}
use Rattle.typing_lasting.specs.Examples.{all_of, f_of_v}
use Rattle.typing_lasting.proofs.Layers.{kind_of-at, kinds_of_item-at, kinds_of_query-at}
use Rattle.typing_lasting.proofs.Layers.{kinds_of_source-at, kinds_of_select-at, is_typed-at}
use Rattle.typing_lasting.proofs.Layers.{statement_names-at}

-- ---- kinds

column-kind : kind_of (expr.Column 0 0) ≡ expr_kind (BoundExpr-F.Column 0 0)
column-kind = ap kind_of (sym (rolls-Column 0 0)) ∙ kind_of-at (BoundExpr-F.Column 0 0)

item-kinds : (name : List ℕ) → kinds_of_item (item.Comma (source.Table name)) ≡
    item_kinds (BoundFromItem-F.Comma (source_kinds (BoundSource-F.Table name)))
item-kinds name =
    ap kinds_of_item (sym (rolls-Comma (source.Table name)))
    ∙ kinds_of_item-at (BoundFromItem-F.Comma (source.Table name))
    ∙ ap (λ (q : QueryKinds). item_kinds (BoundFromItem-F.Comma q))
    (ap kinds_of_source (sym (rolls-Table name)) ∙ kinds_of_source-at (BoundSource-F.Table name))

-- the kinds of SELECT the first column FROM a table, which compute
abbrev pub columns_of_all : List ℕ → QueryKinds
columns_of_all name = select_kinds (record {
  items = expr_kind (BoundExpr-F.Column 0 0) ∷ [];
  from = item_kinds (BoundFromItem-F.Comma (source_kinds (BoundSource-F.Table name))) ∷ [];
  conjuncts = [];
  grouping = None;
})

pub all-kinds : (name : List ℕ) → kinds_of_query (query.Select (all_of name)) ≡ columns_of_all name
all-kinds name =
    ap kinds_of_query (sym (rolls-Select (all_of name)))
    ∙ kinds_of_query-at (BoundQuery-F.Select (all_of name))
    ∙ kinds_of_select-at (record {
      items = expr.Column 0 0 ∷ [];
      from = item.Comma (source.Table name) ∷ [];
      conjuncts = [];
      grouping = None;
    })
    ∙ (λ i. select_kinds (record {
      items = column-kind i ∷ [];
      from = item-kinds name i ∷ [];
      conjuncts = [];
      grouping = None;
    }))

pub single-kind : (name : List ℕ) (a : Around) →
    kind_of (expr.Single (query.Select (all_of name))) a ≡ then (columns_of_all name a) only_column
single-kind name a =
    ap (λ (k : ExprKind). k a) (ap kind_of (sym (rolls-Single (query.Select (all_of name))))
    ∙ kind_of-at (BoundExpr-F.Single (query.Select (all_of name))))
    ∙ ap (λ (q : QueryKinds). then (q a) only_column) (all-kinds name)

pub call-kind : (a : Around) →
    kind_of f_of_v a ≡ expr_kind (BoundExpr-F.Call (codes "F")
    (expr_kind (BoundExpr-F.Variable 0) ∷ [])) a
call-kind a =
    ap (λ (k : ExprKind). k a) (ap kind_of (sym (rolls-Call (codes "F") (expr.Variable 0 ∷ [])))
    ∙ kind_of-at (BoundExpr-F.Call (codes "F") (expr.Variable 0 ∷ [])))
    ∙ ap (λ (k : ExprKind). expr_kind (BoundExpr-F.Call (codes "F") (k ∷ [])) a)
    (ap kind_of (sym (rolls-Variable 0)) ∙ kind_of-at (BoundExpr-F.Variable 0))

-- ---- statements

pub set-typed : (t : BoundTarget) (e : BoundExpr) (i : Inside) →
    is_typed (bound.Set t e) i ≡ takes_value i.around.slots t (kind_of e i.around)
set-typed t e i = ap (λ (f : Typed). f i) (ap is_typed (sym (rolls-Set t e)) ∙
    is_typed-at (BoundStmt-F.Set t e))

pub delete-typed : (b : BoundDelete) (i : Inside) →
    is_typed (bound.Delete b) i ≡ delete_typed b i.around
delete-typed b i = ap (λ (f : Typed). f i) (ap is_typed (sym (rolls-Delete b)) ∙
    is_typed-at (BoundStmt-F.Delete b))

pub call-typed : (c : BoundCall) (i : Inside) → is_typed (bound.Call c) i ≡ call_typed false c i
call-typed c i = ap (λ (f : Typed). f i) (ap is_typed (sym (rolls-call c)) ∙
    is_typed-at (BoundStmt-F.Call c))

-- ---- names

pub set-names : (t : BoundTarget) (e : BoundExpr) → statement_names (bound.Set t e) ≡ expr_names e
set-names t e = ap statement_names (sym (rolls-Set t e)) ∙
    statement_names-at (BoundStmt-F.Set t e)

pub delete-names : (b : BoundDelete) →
    statement_names (bound.Delete b) ≡ b.table ∷ query_names b.rows
delete-names b = ap statement_names (sym (rolls-Delete b)) ∙
    statement_names-at (BoundStmt-F.Delete b)

pub call-names : (c : BoundCall) →
    statement_names (bound.Call c) ≡ c.procedure ∷ arguments_names c.arguments
call-names c = ap statement_names (sym (rolls-call c)) ∙ statement_names-at (BoundStmt-F.Call c)

pub all-uses : (name : List ℕ) → uses_in_query (query.Select (all_of name)) ≡ reads name ∷ []
all-uses name =
    uses_in_query-Select (all_of name)
    ∙ uses_in_select-made (expr.Column 0 0 ∷ []) (item.Comma (source.Table name) ∷ []) [] None
    ∙ (λ i. joined ((uses_in_item-Comma (source.Table name) ∙ uses_in_source-Table name) i ∷ []) ++
    ([] ++ ([] ++ joined (uses_in-Column 0 0 i ∷ []))))

pub call-uses : uses_in f_of_v ≡ calls_use (codes "F") 1 ∷ []
call-uses = uses_in-Call (codes "F") (expr.Variable 0 ∷ [])
    ∙ (λ i. calls_use (codes "F") 1 ∷ joined (uses_in-Variable 0 i ∷ []))
