-- Items of FROM without faults: what they are bound to is well typed.
use Rattle.std.proofs.Common.{◌≡◌, refl, sym, ap, ◌∙◌, subst, true, ◌==◌, not, List, [], ◌∷◌, ◌++◌}
use Rattle.std.proofs.Common.{map, length, Option, Some, None}
use Rattle.std.proofs.lemmas.List.{map-append}
use Rattle.syntax_trees.specs.declared.anchor.Anchor.{Anchor}
use Rattle.syntax_trees.specs.declared.anchor.Ident.{Ident}
use Rattle.row_types.specs.declared.ColumnType.{ColumnType}
use Rattle.row_types.specs.declared.RowType.{RowType}
use Rattle.bound_trees.specs.declared.query.BoundFromItem.{BoundFromItem}
use Rattle.bound_trees.specs.declared.query.BoundFromItem.TheVariants as item
use Rattle.bound_trees.specs.declared.query.BoundSource.TheVariants as source
use Rattle.bind_faults.specs.declared.fault.FaultKind.TheVariants.{WrongCount}
use Rattle.bind_faults.specs.Faults.{◌>>=◌}
use Rattle.bind_kinds.specs.declared.kind.Kind.{Kind}
use Rattle.bind_kinds.specs.Kinds.{kind_of_type}
use Rattle.bind_sight.specs.declared.output.Output.{Output}
use Rattle.bind_sight.specs.Sight.{Seen, inside}
use Rattle.bind_parts.specs.declared.from.Opened.{Opened}
use Rattle.bind_parts.specs.From.{table_named, table_source, table_judge, output_of, columns_of}
use Rattle.bind_parts.specs.From.{renamed, renamed_all, list_faults, derived_source, repeated_item}
use Rattle.bind_parts.specs.From.{begun, with_item, with_from, on_level, put_comma, put_cross}
use Rattle.bind_parts.specs.Turns.{each_noted}
use Rattle.bind_queries.specs.Judges.{Judge, FromJudge, RefJudge, QueryJudge}
use Rattle.bind_queries.specs.From.{on_test, put_inner, put_left}
use Rattle.bind_queries.proofs.Laws.{front_nil, back_nil, no_fault, equal}
use Rattle.typing_trees.specs.Around.{Around, with_row, then, only_if}
use Rattle.typing_trees.specs.Queries.{ExprKind, FromRow, FromKinds, kind_of, kinds_of_item}
use Rattle.typing_trees.specs.Queries.{kinds_of_source, tests, columns_of_table, nothing_joined}
use Rattle.typing_trees.specs.Queries.{past_comma, joined_with, joined_on, items_joined}
use Rattle.typing_queries.proofs.Below.{AllBelow, HasAll, all-below-self}
use Rattle.typing_queries.proofs.Layers.{table-kinds, derived-kinds, comma-kinds, cross-kinds}
use Rattle.typing_queries.proofs.Layers.{inner-kinds, left-kinds}
use Rattle.typing_queries.proofs.Levels.{sees-on, joined-begun, joined-item}
use Rattle.typing_queries.proofs.Sees.{Sees}
use Rattle.typing_queries.proofs.Shapes.{Joined, Opens, kinds_joined, kinds_shown}
use Rattle.typing_queries.proofs.Growing.{some-is}
use Rattle.typing_queries.proofs.Judged.{Fitting, QueryFits, RefFits, FromFits}
use Rattle.typing_queries.proofs.Lists.{test-fits}

-- ---- tables

table-columns : (cs : List ColumnType) → kinds_shown (map output_of cs) ≡
    map (λ (c : ColumnType). kind_of_type c.data_type) cs
table-columns [] = refl
table-columns (c ∷ cs) = ap (λ ks. kind_of_type c.data_type ∷ ks) (table-columns cs)

known-table : (i : Ident) (alias : Option Ident) (t : Option RowType) (a : Around) →
    a.tables i.name ≡ t → (table_source i alias t).faults ≡ []
    → HasAll (kinds_of_source (source.Table i.name) a) (kinds_shown (columns_of t))
known-table i alias None a is e = absurd cc
known-table i alias (Some t) a is e =
    let kinds = map (λ (c : ColumnType). kind_of_type c.data_type) t.columns in (
      kinds,
      table-kinds i.name a ∙ ap columns_of_table is,
      subst (λ ks. AllBelow kinds ks) (sym (table-columns t.columns)) (all-below-self kinds),
    )

pub table-fits : (i : Ident) (alias : Option Ident) → RefFits (table_judge i alias)
table-fits i alias s e a sees = known-table i alias (table_named i.name s.catalog) a
    (sees.tables i.name) e

-- ---- derived tables

-- by a list of as many names the columns keep their kinds
renamed-kinds : (ns : List Ident) (cs : List Output) → length ns ≡ length cs →
    kinds_shown (renamed_all ns cs) ≡ kinds_shown cs
renamed-kinds [] [] p = refl
renamed-kinds [] (c ∷ cs) p = absurd cc
renamed-kinds (n ∷ ns) [] p = absurd cc
renamed-kinds (n ∷ ns) (c ∷ cs) p = ap (λ ks. c.kind ∷ ks) (renamed-kinds ns cs cc)

listed-kinds : (at : Anchor) (ns : List Ident) (cs : List Output) → list_faults at ns cs ≡ [] →
    kinds_shown (renamed ns cs) ≡ kinds_shown cs
listed-kinds at [] cs p = refl
listed-kinds at (n ∷ ns) cs p = renamed-kinds (n ∷ ns) cs
    (equal (length (n ∷ ns)) (length cs) (no_fault (not (length (n ∷ ns) == length cs)) WrongCount
    at p))

pub derived-fits : (query : QueryJudge) (i : Ident) (columns : List Ident) → QueryFits query →
    RefFits (λ s. query [] s >>= derived_source i columns)
derived-fits query i columns f s e a sees =
    let q = query [] s in
    let asked = list_faults i.anchor columns q.value.columns in
    let typed = (f [] s (front_nil q.faults (asked ++ []) e) a sees).0 in
    let same = listed-kinds i.anchor columns q.value.columns
    (front_nil asked [] (back_nil q.faults (asked ++ []) e)) in (
      typed.0,
      derived-kinds q.value.tree a ∙ typed.1,
      subst (λ ks. AllBelow typed.0 ks)
          (sym same) typed.2,
    )

-- ---- items

-- an item more
items-more : (a : Around) (fs : List FromKinds) (f : FromKinds) (so row more : FromRow) →
    items_joined a so fs ≡ Some row → f a row ≡ Some more →
    items_joined a so (fs ++ f ∷ []) ≡ Some more
items-more a [] f so row more p q = ap (λ z. then z (λ r. Some r))
    (ap (λ (r : FromRow). f a r) (some-is so row p) ∙ q)
items-more a (g ∷ fs) f so row more p q = after (g a so) p (λ r e. items-more a fs f r row more e q)
  where
    after : (o : Option FromRow) → then o (λ r. items_joined a r fs) ≡ Some row →
        ((r : FromRow) → items_joined a r fs ≡ Some row →
        items_joined a r (fs ++ f ∷ []) ≡ Some more)
        → then o (λ r. items_joined a r (fs ++ f ∷ [])) ≡ Some more
    after None e c = absurd cc
    after (Some r) e c = c r e

opens-more : (so more : Opened) (i : BoundFromItem) (a : Around) (row rest : FromRow) →
    kinds_joined so a ≡ Some row → more.from ≡ so.from ++ i ∷ [] → kinds_of_item i a row ≡ Some rest
    → kinds_joined more a ≡ Some rest
opens-more so more i a row rest p q e =
    ap (λ (is : List BoundFromItem). items_joined a nothing_joined (map kinds_of_item is)) q
    ∙ ap (items_joined a nothing_joined) (map-append kinds_of_item so.from (i ∷ []))
    ∙ items-more a (map kinds_of_item so.from) (kinds_of_item i) nothing_joined row rest p e

-- what is bound stands beside what is in sight
joined-from : (so : Opened) (i : BoundFromItem) (row : FromRow) → Joined so row →
    Joined (with_from so i) row
joined-from so i row j = record {
  width = j.width;
  base = j.base;
  first = j.first;
  all = j.all;
  on =
      j.on;
}

of-source : (o : Option (List Kind)) (ks : List Kind) (go : List Kind → Option FromRow)
    (row : FromRow) → o ≡ Some ks → go ks ≡ Some row → then o go ≡ Some row
of-source o ks go row p q = ap (λ z. then z go) p ∙ q

pub comma-fits : (table : RefJudge) → RefFits table → FromFits (λ s so. table s >>= put_comma so)
comma-fits table f s so e a sees opens =
    let t = table s in
    let i = item.Comma t.value.source in
    let ks = f s (front_nil t.faults (put_comma so t.value).faults e) a sees in
    let row = past_comma opens.0 ks.0 in (
      row,
      opens-more so (put_comma so t.value).value i a opens.0 row opens.1 refl
          (comma-kinds t.value.source a opens.0 ∙ of-source (kinds_of_source t.value.source a) ks.0
          (λ js. Some (past_comma opens.0 js)) row ks.1 refl),
      joined-from (with_item (begun so) t.value) i row
          (joined-item (begun so) (past_comma opens.0 []) t.value ks.0
          (joined-begun so opens.0 opens.2) ks.2),
    )

pub cross-fits : (table : RefJudge) → RefFits table → FromFits (λ s so. table s >>= put_cross so)
cross-fits table f s so e a sees opens =
    let t = table s in
    let i = item.Cross t.value.source in
    let ks = f s (front_nil t.faults (put_cross so t.value).faults e) a sees in
    let row = joined_with opens.0 ks.0 in (
      row,
      opens-more so (put_cross so t.value).value i a opens.0 row opens.1 refl
          (cross-kinds t.value.source a opens.0 ∙ of-source (kinds_of_source t.value.source a) ks.0
          (λ js. Some (joined_with opens.0 js)) row ks.1 refl),
      joined-from (with_item so t.value) i row (joined-item so opens.0 t.value ks.0 opens.2 ks.2),
    )

-- ON holds tests over the row from the last comma on
of-on : (a : Around) (on : List ExprKind) (row : FromRow) →
    tests (with_row row.joined a) on ≡ true → joined_on a on row ≡ Some row
of-on a on row p = ap (λ b. only_if b (Some row)) p

pub inner-fits : (table : RefJudge) (j : Judge) → RefFits table → Fitting j →
    FromFits (λ s so. table s >>= put_inner j s so)
inner-fits table j f g s so e a sees opens =
    let t = table s in
    let on = on_test j s (with_item so t.value) in
    let twice = repeated_item t.value so.items in
    let i = item.Inner t.value.source on.value in
    let ks = f s (front_nil t.faults (twice ++ on.faults) e) a sees in
    let row = joined_with opens.0 ks.0 in
    let joined = joined-item so opens.0 t.value ks.0 opens.2 ks.2 in
    let seen = inside (on_level (with_item so t.value)) s in
    let are = test-fits j seen refl g (back_nil twice on.faults
    (back_nil t.faults (twice ++ on.faults) e)) (with_row row.joined a)
    (sees-on (with_item so t.value) row s a joined sees) in (
      row,
      opens-more so (put_inner j s so t.value).value i a opens.0 row opens.1 refl
          (inner-kinds t.value.source on.value a opens.0
          ∙ of-source (kinds_of_source t.value.source a) ks.0
          (λ js. joined_on a (map kind_of on.value) (joined_with opens.0 js)) row ks.1
          (of-on a (map kind_of on.value) row are)),
      joined-from (with_item so t.value) i row joined,
    )

pub left-fits : (table : RefJudge) (j : Judge) → RefFits table → Fitting j →
    FromFits (λ s so. table s >>= put_left j s so)
left-fits table j f g s so e a sees opens =
    let t = table s in
    let on = on_test j s (with_item so t.value) in
    let twice = repeated_item t.value so.items in
    let i = item.Left t.value.source on.value in
    let ks = f s (front_nil t.faults (twice ++ on.faults) e) a sees in
    let row = joined_with opens.0 ks.0 in
    let joined = joined-item so opens.0 t.value ks.0 opens.2 ks.2 in
    let seen = inside (on_level (with_item so t.value)) s in
    let are = test-fits j seen refl g (back_nil twice on.faults
    (back_nil t.faults (twice ++ on.faults) e)) (with_row row.joined a)
    (sees-on (with_item so t.value) row s a joined sees) in (
      row,
      opens-more so (put_left j s so t.value).value i a opens.0 row opens.1 refl
          (left-kinds t.value.source on.value a opens.0
          ∙ of-source (kinds_of_source t.value.source a) ks.0
          (λ js. joined_on a (map kind_of on.value) (joined_with opens.0 js)) row ks.1
          (of-on a (map kind_of on.value) row are)),
      joined-from (with_item so t.value) i row joined,
    )

abbrev pub AllFrom : List FromJudge → Type 0
AllFrom [] = Unit {0}
AllFrom (j ∷ js) = FromFits j × AllFrom js

pub opened-fit : (js : List FromJudge) (s : Seen) (so : Opened) → AllFrom js →
    (each_noted (λ o (j : FromJudge). j s o) so js).faults ≡ [] → (a : Around) → Sees s a →
    Opens so a
    → Opens (each_noted (λ o (j : FromJudge). j s o) so js).value a
opened-fit [] s so fs e a sees opens = opens
opened-fit (j ∷ js) s so fs e a sees opens =
    let first = j s so in
    let rest = each_noted (λ o (k : FromJudge). k s o) first.value js in
    opened-fit js s first.value fs.1 (back_nil first.faults rest.faults e) a sees
    (fs.0 s so (front_nil first.faults rest.faults e) a sees opens)
