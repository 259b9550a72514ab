-- What FROM and groups bring in sight stands in their rows.
use Rattle.std.proofs.Common.{◌≡◌, refl, sym, ap, subst, ◌∙◌, arith, ℕ, zero, suc, ◌+◌, ◌-◌, ◌==◌}
use Rattle.std.proofs.Common.{◌<◌, ◌≤◌, Bool, true, false, cond, List, [], ◌∷◌, ◌++◌, map, length}
use Rattle.std.proofs.Common.{drop, get_or, position, slice_get, Option, Some, None, append-nil}
use Rattle.std.proofs.Common.{append_assoc, length-append}
use Rattle.std.proofs.lemmas.Bool.Decides.{nat_tests}
use Rattle.std.proofs.lemmas.List.{drop-append-le, drop_all, length-map, length_push}
use Rattle.std.proofs.lemmas.List.Quantifiers.{position-Some}
use Rattle.syntax_trees.specs.Columns.{anchor_of_column}
use Rattle.syntax_trees.specs.declared.anchor.Anchor.{Anchor}
use Rattle.syntax_trees.specs.declared.anchor.ColumnName.{ColumnName}
use Rattle.bind_kinds.specs.declared.kind.Kind.{Kind}
use Rattle.bind_sight.specs.declared.item.Item.{Item}
use Rattle.bind_sight.specs.declared.key.GroupingKey.{GroupingKey}
use Rattle.bind_sight.specs.declared.key.GroupingKey.TheVariants as key
use Rattle.bind_sight.specs.declared.output.Output.{Output}
use Rattle.bind_sight.specs.declared.sight.Referent.{Referent}
use Rattle.bind_sight.specs.declared.sight.Referent.TheVariants.{Column, Guessed, Variable, Barred}
use Rattle.bind_sight.specs.declared.sight.Referent.TheVariants.{Several, Unknown}
use Rattle.bind_sight.specs.Sight.{Level, Seen, inside, inside_aggregate, inside_values}
use Rattle.bind_sight.specs.Sight.{inside_writing, may_stand, without_aggregates, column_of}
use Rattle.bind_sight.specs.Sight.{among_keys, is_own, key_of, stands_for}
use Rattle.bind_parts.specs.declared.from.Opened.{Opened}
use Rattle.bind_parts.specs.declared.grouping.Grouping.{Grouping}
use Rattle.bind_parts.specs.declared.typed.TypedSource.{TypedSource}
use Rattle.bind_parts.specs.From.{row_level, on_level, list_level, nothing_open, begun, with_item}
use Rattle.bind_parts.specs.Grouping.{grouping_of, one_key, no_grouping}
use Rattle.bind_parts.specs.Turns.{each_noted}
use Rattle.bind_parts.specs.Typed.{named}
use Rattle.typing_trees.specs.Around.{Around, with_row, kind_at}
use Rattle.typing_trees.specs.Queries.{FromRow, kind_of, kinds_of, whole_row, nothing_joined}
use Rattle.typing_trees.specs.Queries.{past_comma, joined_with}
use Rattle.typing_queries.proofs.Below.{AllBelow, Has}
use Rattle.typing_queries.proofs.Fits.{front_nil, back_nil}
use Rattle.typing_queries.proofs.Hits.{has-front, has-back, below-at, below-length, slice_get-front}
use Rattle.typing_queries.proofs.Hits.{kinds-append, one-kind}
use Rattle.typing_queries.proofs.Layers.{column-kind}
use Rattle.typing_queries.proofs.Names.{name-typed}
use Rattle.typing_queries.proofs.Sees.{Sees, ColumnIn, ItemIn, ItemsIn, LevelsIn}
use Rattle.typing_queries.proofs.Shapes.{IsTyped, Joined, kinds_shown}

-- ---- items

-- what each item keeps they all keep
pub items-keep : (l m : Level) (row other : List Kind) (is : List Item) →
    ((i : Item) → ItemIn l row i → ItemIn m other i) → ItemsIn l row is → ItemsIn m other is
items-keep l m row other [] keep h = tt
items-keep l m row other (i ∷ is) keep h = (keep i h.0, items-keep l m row other is keep h.1)

pub items-push : (l : Level) (row : List Kind) (is : List Item) (i : Item) → ItemsIn l row is →
    ItemIn l row i → ItemsIn l row (is ++ i ∷ [])
items-push l row [] i h k = (k, tt)
items-push l row (j ∷ is) i h k = (h.0, items-push l row is i h.1 k)

-- another level around
with-level : (l : Level) (row : List Kind) (s : Seen) (a : Around) → ItemsIn l row l.items →
    Sees s a → Sees (inside l s) (with_row row a)
with-level l row s a h sees = record {
  levels = (h, sees.levels);
  scopes = sees.scopes;
  tables =
      sees.tables;
  functions = sees.functions;
}

pub sees-row : (so : Opened) (row : FromRow) (s : Seen) (a : Around) → Joined so row → Sees s a →
    Sees (inside (row_level so) s) (with_row (whole_row row) a)
sees-row so row s a j sees = with-level (row_level so) (whole_row row) s a j.all sees

pub sees-on : (so : Opened) (row : FromRow) (s : Seen) (a : Around) → Joined so row → Sees s a →
    Sees (inside (on_level so) s) (with_row row.joined a)
sees-on so row s a j sees = with-level (on_level so) row.joined s a j.on sees

-- the list of a query that is not grouped
pub sees-list : (so : Opened) (keys : List GroupingKey) (row : FromRow) (s : Seen) (a : Around) →
    Joined so row → Sees s a → Sees (inside (list_level so keys false) s)
    (with_row (whole_row row) a)
sees-list so keys row s a j sees =
    with-level (list_level so keys false) (whole_row row) s a
    (items-keep (row_level so) (list_level so keys false) (whole_row row) (whole_row row) so.items
    (λ i h. h) j.all) sees

abbrev without : Opened → List GroupingKey → Level
without so keys = record {
  items = so.items;
  base = 0;
  keys = keys;
  grouped = false;
  aggregates =
      false;
}

-- in aggregates of a grouped query
pub sees-inside : (so : Opened) (keys : List GroupingKey) (grouped : Bool) (row : FromRow)
    (s : Seen) (a : Around) → Joined so row → Sees s a →
    Sees (inside_aggregate (inside (list_level so keys grouped) s)) (with_row (whole_row row) a)
sees-inside so keys grouped row s a j sees =
    with-level (without so keys) (whole_row row) s a
    (items-keep (row_level so) (without so keys) (whole_row row) (whole_row row) so.items
    (λ i h. h) j.all) sees

levels-without : (ls : List Level) (rows : List (List Kind)) → LevelsIn ls rows →
    LevelsIn (without_aggregates ls) rows
levels-without [] [] h = tt
levels-without [] (r ∷ rs) h = absurd h
levels-without (l ∷ ls) [] h = absurd h
levels-without (l ∷ ls) (r ∷ rs) h = (
  items-keep l (record {
    items = l.items;
    base = l.base;
    keys = l.keys;
    grouped = l.grouped;
    aggregates = false;
  }) r r l.items (λ i k. k) h.0,
  h.1,
)

pub sees-values : (s : Seen) (a : Around) → Sees s a → Sees (inside_values s) a
sees-values s a sees = record {
  levels = levels-without s.levels a.rows sees.levels;
  scopes =
      sees.scopes;
  tables = sees.tables;
  functions = sees.functions;
}

none-stands : (ls : List Level) → may_stand (without_aggregates ls) ≡ false
none-stands [] = refl
none-stands (l ∷ ls) = refl

pub no-aggregate-in-values : (s : Seen) → may_stand (inside_values s).levels ≡ false
no-aggregate-in-values s = none-stands s.levels

pub sees-writing : (s : Seen) (a : Around) → Sees s a → Sees (inside_writing s) a
sees-writing s a sees = record {
  levels = sees.levels;
  scopes = sees.scopes;
  tables = sees.tables;
  functions = sees.functions;
}

-- ---- grouping columns

-- a grouping column that is a column of the row has its kind
abbrev pub KeyIs : List Kind → GroupingKey → Kind → Type 0
KeyIs row (key.Own place) k = slice_get row place ≡ Some k
KeyIs row (key.Guessed item name) k = Unit {0}
KeyIs row key.Other k = Unit {0}

abbrev pub KeysAre : List Kind → List GroupingKey → List Kind → Type 0
KeysAre row [] [] = Unit {0}
KeysAre row [] (k ∷ ks) = ⊥
KeysAre row (x ∷ keys) [] = ⊥
KeysAre row (x ∷ keys) (k ∷ ks) = KeyIs row x k × KeysAre row keys ks

keys-push : (row : List Kind) (keys : List GroupingKey) (ks : List Kind) (x : GroupingKey)
    (k : Kind) → KeysAre row keys ks → KeyIs row x k → KeysAre row (keys ++ x ∷ []) (ks ++ k ∷ [])
keys-push row [] [] x k h i = (i, tt)
keys-push row [] (j ∷ ks) x k h i = absurd h
keys-push row (y ∷ keys) [] x k h i = absurd h
keys-push row (y ∷ keys) (j ∷ ks) x k h i = (h.0, keys-push row keys ks x k h.1 i)

keys-as-many : (row : List Kind) (keys : List GroupingKey) (ks : List Kind) → KeysAre row keys ks →
    length ks ≡ length keys
keys-as-many row [] [] h = refl
keys-as-many row [] (k ∷ ks) h = absurd h
keys-as-many row (x ∷ keys) [] h = absurd h
keys-as-many row (x ∷ keys) (k ∷ ks) h = ap suc (keys-as-many row keys ks h.1)

own-key : (row : List Kind) (x : GroupingKey) (k : Kind) (place : ℕ) → KeyIs row x k →
    is_own place x ≡ true → slice_get row place ≡ Some k
own-key row (key.Own q) k place h e = let same : q ≡ place = grind (arith, nat_tests) in
    subst (λ n. slice_get row n ≡ Some k) same h
own-key row (key.Guessed item name) k place h e = absurd cc
own-key row key.Other k place h e = absurd cc

-- the place of a column among the keys has the kind of the column
key-at : (row : List Kind) (keys : List GroupingKey) (ks : List Kind) (at place : ℕ)
    (d : GroupingKey) → KeysAre row keys ks → at < length keys →
    is_own place (get_or keys at d) ≡ true
    → (k : Kind) × (slice_get ks at ≡ Some k) × (slice_get row place ≡ Some k)
key-at row [] ks at place d h l e = absurd (omega arith)
key-at row (x ∷ keys) [] at place d h l e = absurd h
key-at row (x ∷ keys) (k ∷ ks) zero place d h l e = (k, refl, own-key row x k place h.0 e)
key-at row (x ∷ keys) (k ∷ ks) (suc at) place d h l e =
    key-at row keys ks at place d h.1 (omega arith) e

-- the kind that a key has
if-own : (row : List Kind) (b : Bool) (place : ℕ) (k : Kind) →
    (b ≡ true → slice_get row place ≡ Some k) → KeyIs row (cond b (key.Own place) key.Other) k
if-own row true place k f = f refl
if-own row false place k f = tt

if-guessed : (row : List Kind) (b : Bool) (item : ℕ) (name : List ℕ) (k : Kind) →
    KeyIs row (cond b (key.Guessed item name) key.Other) k
if-guessed row true item name k = tt
if-guessed row false item name k = tt

key-kind : (at : Anchor) (found : Referent) (name : List ℕ) (row : List Kind) (a : Around)
    (k : Kind) → kind_of (named at found).value.tree (with_row row a) ≡ Some k →
    KeyIs row (key_of found name) k
key-kind at (Column level place kind) name row a k e =
    if-own row (level == 0) place k
    (λ h. let z : level ≡ 0 = grind (arith, nat_tests) in
    ap (λ n. kind_at (row ∷ a.rows) n place) (sym z) ∙
    sym (column-kind level place (with_row row a)) ∙ e)
key-kind at (Guessed level item) name row a k e = if-guessed row (level == 0) item name k
key-kind at (Variable place kind) name row a k e = tt
key-kind at Barred name row a k e = tt
key-kind at Several name row a k e = tt
key-kind at Unknown name row a k e = tt

-- grouping columns so far, by their kinds
pub record Keyed (a : Around) (row : List Kind) (g : Grouping) : Type 0 where
  pub kinds : List Kind
  pub typed : kinds_of (with_row row a) (map kind_of g.trees) ≡ Some kinds
  pub keys : KeysAre row g.keys kinds
  pub as_many : length g.trees ≡ length g.keys

one-key : (seen : Seen) (a : Around) (row : List Kind) (g : Grouping) (c : ColumnName)
    → Sees seen (with_row row a) → Keyed a row g → (one_key seen g c).faults ≡ [] →
    Keyed a row (one_key seen g c).value
one-key seen a row g c sees so p =
    let t : IsTyped (named (anchor_of_column c) (stands_for c seen)).value (with_row row a) =
    name-typed c seen (with_row row a) sees p in
    record {
      kinds = so.kinds ++ t.0 ∷ [];
      typed =
          kinds-append (with_row row a) g.trees
          ((named (anchor_of_column c) (stands_for c seen)).value.tree ∷ []) so.kinds
          (t.0 ∷ []) so.typed
          (one-kind (with_row row a) (named (anchor_of_column c) (stands_for c seen)).value.tree t.0
          t.1);
      keys = keys-push row g.keys so.kinds (key_of (stands_for c seen) c.name.name) t.0 so.keys
          (key-kind (anchor_of_column c) (stands_for c seen) c.name.name row a t.0 t.1);
      as_many = length_push g.trees (named (anchor_of_column c) (stands_for c seen)).value.tree ∙
          ap (λ n. n + 1) so.as_many ∙
          sym (length_push g.keys (key_of (stands_for c seen) c.name.name));
    }

each-key : (columns : List ColumnName) (seen : Seen) (a : Around) (row : List Kind) (g : Grouping) →
    Sees seen (with_row row a) → Keyed a row g → (each_noted (one_key seen) g columns).faults ≡ []
    → Keyed a row (each_noted (one_key seen) g columns).value
each-key [] seen a row g sees so p = so
each-key (c ∷ columns) seen a row g sees so p =
    each-key columns seen a row (one_key seen g c).value sees
    (one-key seen a row g c sees so (front_nil (one_key seen g c).faults
    (each_noted (one_key seen) (one_key seen g c).value columns).faults p))
    (back_nil (one_key seen g c).faults (each_noted (one_key seen) (one_key seen g c).value
    columns).faults p)

-- a column in the row of a group
in-group : (row : List Kind) (kind : Kind) (o : Option ℕ) →
    ((place : ℕ) → o ≡ Some place → Has (slice_get row place) kind) →
    ColumnIn row (among_keys 0 kind o)
in-group row kind None f = tt
in-group row kind (Some place) f = f place refl

pub sees-grouped : (so : Opened) (keys : List GroupingKey) (row ks more : List Kind) (s : Seen)
    (a : Around)
    → ItemsIn (row_level so) row so.items → KeysAre row keys ks → Sees s a →
    Sees (inside (list_level so keys true) s) (with_row (ks ++ more) a)
sees-grouped so keys row ks more s a h are sees =
    with-level (list_level so keys true) (ks ++ more) s a
    (items-keep (row_level so) (list_level so keys true) row (ks ++ more) so.items keep h) sees
  where
    moved : (place : ℕ) (kind : Kind) → Has (slice_get row place) kind → (at : ℕ) →
        position (is_own place) keys ≡ Some at → Has (slice_get (ks ++ more) at) kind
    moved place kind c at is =
        let p = position-Some (is_own place) keys at key.Other is in
        let k = key-at row keys ks at place key.Other are p.0 p.1 in
        (c.0, slice_get-front ks more at k.0 k.1 ∙ sym k.2 ∙ c.1, c.2)

    keep : (i : Item) → ItemIn (row_level so) row i →
        ItemIn (list_level so keys true) (ks ++ more) i
    keep i k j c is = in-group (ks ++ more) c.kind (position (is_own ((i.first - 0) + j)) keys)
        (moved ((i.first - 0) + j) c.kind (k j c is))

-- Grouping columns are typed over FROM's row, and the list of the grouped query has them first in
-- the row of its group.
pub keys-typed : (columns : List ColumnName) (so : Opened) (row : FromRow) (s : Seen) (a : Around) →
    Joined so row → Sees s a → (grouping_of columns (inside (row_level so) s)).faults ≡ []
    → (ks : List Kind) × (kinds_of (with_row (whole_row row) a)
    (map kind_of (grouping_of columns (inside (row_level so) s)).value.trees) ≡ Some ks)
    × (length ks ≡ length (grouping_of columns (inside (row_level so) s)).value.keys)
    × (length (grouping_of columns (inside (row_level so) s)).value.trees ≡ length
    (grouping_of columns (inside (row_level so) s)).value.keys)
    × ((more : List Kind) →
    Sees (inside (list_level so (grouping_of columns (inside (row_level so) s)).value.keys true)
    s) (with_row (ks ++ more) a))
keys-typed columns so row s a j sees p =
    let g : Keyed a (whole_row row) (grouping_of columns (inside (row_level so) s)).value =
    each-key columns (inside (row_level so) s) a (whole_row row) no_grouping
    (sees-row so row s a j sees) (record {
      kinds = [];
      typed = refl;
      keys = tt;
      as_many =
          refl;
    }) p in (
      g.kinds,
      g.typed,
      keys-as-many (whole_row row) (grouping_of columns (inside (row_level so) s)).value.keys
          g.kinds g.keys,
      g.as_many,
      λ more. sees-grouped so (grouping_of columns (inside (row_level so) s)).value.keys
          (whole_row row) g.kinds more s a j.all g.keys sees,
    )

-- ---- FROM

pub joined-nothing : Joined nothing_open nothing_joined
joined-nothing = record { width = refl; base = refl; first = omega arith; all = tt; on = tt }

pub joined-begun : (so : Opened) (row : FromRow) → Joined so row →
    Joined (begun so) (past_comma row [])
joined-begun so row j = record {
  width = j.width ∙ ap length (sym (append-nil (whole_row row)));
  base = j.width;
  first = omega arith;
  all = subst (λ (r : List Kind). ItemsIn (row_level so) r so.items)
      (sym (append-nil (whole_row row))) j.all;
  on = subst (λ (is : List Item). ItemsIn (on_level (begun so)) [] is)
      (sym (drop_all (length so.items) so.items (omega arith))) tt;
}

abbrev item_more : Opened → TypedSource → Item
item_more so x = record { name = x.name; columns = x.columns; first = so.width; known = x.known }

-- the columns of the item stand after those so far
items-more : (so : Opened) (x : TypedSource) (l : Level) (row ks : List Kind) (is : List Item) →
    l.grouped ≡ false → so.width - l.base ≡ length row → AllBelow ks (kinds_shown x.columns)
    → ItemsIn l row is → ItemsIn l (row ++ ks) (is ++ item_more so x ∷ [])
items-more so x l row ks is free width below h =
    items-push l (row ++ ks) is (item_more so x) (items-keep l l row (row ++ ks) is keep h) more
  where
    longer : (grouped : Bool) (place : ℕ) (kind : Kind) → grouped ≡ false →
        ColumnIn row (column_of 0 place kind grouped l.keys) →
        ColumnIn (row ++ ks) (column_of 0 place kind grouped l.keys)
    longer false place kind e c = has-front row ks place kind c
    longer true place kind e c = absurd cc

    after : (grouped : Bool) (place : ℕ) (kind : Kind) → grouped ≡ false →
        Has (slice_get (row ++ ks) place) kind →
        ColumnIn (row ++ ks) (column_of 0 place kind grouped l.keys)
    after false place kind e c = c
    after true place kind e c = absurd cc

    keep : (i : Item) → ItemIn l row i → ItemIn l (row ++ ks) i
    keep i k j c is = longer l.grouped ((i.first - l.base) + j) c.kind free (k j c is)

    more : ItemIn l (row ++ ks) (item_more so x)
    more j c is = after l.grouped ((so.width - l.base) + j) c.kind free
        (has-back row ks (so.width - l.base) j c.kind width (below-at ks x.columns j c below is))

pub joined-item : (so : Opened) (row : FromRow) (x : TypedSource) (ks : List Kind) → Joined so row →
    AllBelow ks (kinds_shown x.columns) → Joined (with_item so x) (joined_with row ks)
joined-item so row x ks j below =
    let n : length ks ≡ length (kinds_shown x.columns) =
    below-length ks (kinds_shown x.columns) below in
    let m : length (kinds_shown x.columns) ≡ length x.columns =
    length-map x.columns (λ (c : Output). c.kind) in
    let w : so.width ≡ length (whole_row row) = j.width in
    let v : length (whole_row row ++ ks) ≡ length (whole_row row) + length ks =
    length-append (whole_row row) ks in
    let u : length (row.before ++ row.joined) ≡ length row.before + length row.joined =
    length-append row.before row.joined in
    let b : so.base ≡ length row.before = j.base in
    let f : so.first_item ≤ length so.items = j.first in
    let g : length (so.items ++ item_more so x ∷ []) ≡ length so.items + length
    (item_more so x ∷ []) = length-append so.items (item_more so x ∷ []) in
    record {
      width = (let e : so.width + length x.columns ≡ length (whole_row row ++ ks) = omega arith in
          e ∙ ap length (append_assoc row.before row.joined ks));
      base = b;
      first = omega arith;
      all = subst (λ (r : List Kind). ItemsIn (row_level so) r (so.items ++ item_more so x ∷ []))
          (append_assoc row.before row.joined ks)
          (items-more so x (row_level so) (whole_row row) ks so.items refl (omega arith) below
          j.all);
      on = subst (λ (is : List Item). ItemsIn (on_level so) (row.joined ++ ks) is)
          (sym (drop-append-le so.first_item so.items (item_more so x ∷ []) f))
          (items-more so x (on_level so) row.joined ks (drop so.first_item so.items) refl
          (omega arith) below j.on);
    }
