-- Bodies stay well typed as an entry is made or dropped.
use Rattle.std.proofs.Common.{◌≡◌, ℕ, ◌&&◌, ◌||◌, not, Bool, true, false, cond, List, [], ◌∷◌}
use Rattle.std.proofs.Common.{◌++◌, length, filter, Some, None, refl, sym, ap, ◌∙◌, subst}
use Rattle.std.proofs.Common.{arith}
use Rattle.std.proofs.lemmas.Slice.Eq.{bytes_eq-Decides}
use Rattle.std.proofs.lemmas.Bool.{false_from_ne_true}
use Rattle.std.specs.Str.{bytes_eq}
use Rattle.row_types.specs.declared.RowType.{RowType}
use Rattle.rel_algebra.specs.Tree.{Expr, Returned}
use Rattle.catalog_store.specs.declared.entry.FunctionHead.{FunctionHead}
use Rattle.catalog_store.specs.declared.entry.Object.{Object as HeldObject}
use Rattle.catalog_store.specs.declared.entry.Object.TheVariants.{Table, Function as FunctionRecord}
use Rattle.catalog_store.specs.declared.entry.Object.TheVariants.{Interpreted as InterpretedRecord}
use Rattle.catalog_store.specs.declared.entry.Object.TheVariants.{Procedure as ProcedureRecord}
use Rattle.catalog_store.specs.declared.entry.RoutineRecord.{RoutineRecord}
use Rattle.catalog_store.specs.Catalog.{Catalog, Entry, Function, Object, TableObject}
use Rattle.catalog_store.specs.Catalog.{FunctionObject, object_named}
use Rattle.catalog_store.specs.Entries.{ObjectFits, entry_of, object_of, with_all}
use Rattle.catalog_store.specs.Users.{is_user, mentions, users_of, without}
use Rattle.catalog_store.specs.Uses.{Uses, names_used, name_used, uses_in}
use Rattle.catalog_store.proofs.Laws.{Same, same_tree, named_kept, named_after}
use Rattle.catalog_store.proofs.Laws.{adding_leaves_others, dropping_leaves_others}
use Rattle.catalog_store.proofs.Laws.{without_front, without_last, without_none}
use Rattle.typing_trees.specs.Around.{Around}
use Rattle.typing_lasting.specs.Used.{UsedNames, expr_names}
use Rattle.typing_lasting.specs.Lasting.{Objects, AllSame, around_with, is_used}
use Rattle.typing_lasting.proofs.Laws.{used_names_decide}
use Rattle.typing_plans.specs.Bodies.{BodiesTyped, BodyTyped, FunctionTyped}
use Rattle.psm_session.specs.Bodies.{Held, HasTypedBodies, ListsUses, NamesDiffer, UsesListed}

-- the catalog with one more entry
abbrev grown : Catalog → Held → Catalog
grown known e = known ++ entry_of known e.0 e.1 ∷ []

-- ---- making

shown-last : (known : Catalog) (es : List Held) (e : Held) →
    with_all known (es ++ e ∷ []) ≡ grown (with_all known es) e
shown-last known [] e = refl
shown-last known (x ∷ es) e = shown-last (grown known x) es e

apart-last : (known : Catalog) (es : List Held) (e : Held) → NamesDiffer known es →
    object_named e.0 (with_all known es) ≡ None → NamesDiffer known (es ++ e ∷ [])
apart-last known [] e n h = (h, tt)
apart-last known (x ∷ es) e n h = (n.0, apart-last (grown known x) es e n.1 h)

listed-last : (es : List Held) (e : Held) → UsesListed es → ListsUses e.1 →
    UsesListed (es ++ e ∷ [])
listed-last [] e l h = (h, tt)
listed-last (x ∷ es) e l h = (l.0, listed-last es e l.1 h)

typed-last : (known : Catalog) (es : List Held) (e : Held) → BodiesTyped known es →
    BodyTyped (with_all known es) e.1 → BodiesTyped known (es ++ e ∷ [])
typed-last known [] e t h = (h, tt)
typed-last known (x ∷ es) e t h = (t.0, typed-last (grown known x) es e t.1 h)

-- what fits a catalog lists what it uses
lists-uses : (known : Catalog) (o : HeldObject) → ObjectFits known o → ListsUses o
lists-uses known (Table row_type) fits = tt
lists-uses known (FunctionRecord r) fits = fits.uses
lists-uses known (InterpretedRecord f) fits = tt
lists-uses known (ProcedureRecord p) fits = tt

-- an entry more, of a free name, which is well typed
pub made-typed : (known : Catalog) (name : List ℕ) (o : HeldObject) → HasTypedBodies known →
    object_named name known ≡ None → ObjectFits known o → BodyTyped known o →
    HasTypedBodies (known ++ entry_of known name o ∷ [])
made-typed known name o t free fits typed = record {
  entries = t.entries ++ (name, o) ∷ [];
  shown = shown-last [] t.entries (name, o) ∙ ap (λ (k : Catalog). grown k (name, o)) t.shown;
  apart = apart-last [] t.entries (name, o) t.apart
      (subst (λ (k : Catalog). object_named name k ≡ None) (sym t.shown) free);
  listed = listed-last t.entries (name, o) t.listed (lists-uses known o fits);
  typed = typed-last [] t.entries (name, o) t.typed
      (subst (λ (k : Catalog). BodyTyped k o) (sym t.shown) typed);
}

-- ---- names as texts

text_itself : (x : List ℕ) → bytes_eq x x ≡ true
text_itself x = (bytes_eq-Decides x x).1 refl

other_text : (x y : List ℕ) → ¬ (x ≡ y) → bytes_eq x y ≡ false
other_text x y f = false_from_ne_true (bytes_eq x y) (λ t. f ((bytes_eq-Decides x y).0 t))

texts_differ : (x y : List ℕ) → bytes_eq x y ≡ false → ¬ (x ≡ y)
texts_differ x y e q =
    let t : bytes_eq x y ≡ true =
    subst (λ (z : List ℕ). bytes_eq x z ≡ true) q (text_itself x) in cc

-- ---- what isn't used

-- of no users none is the last
users-last : (name : List ℕ) (known : Catalog) (x : Entry) → users_of name (known ++ x ∷ []) ≡ 0 →
    (users_of name known ≡ 0) × (is_user name x ≡ false)
users-last name [] x h = (refl, by (is_user name x) h)
  where
    by : (b : Bool) → length (cond b (x ∷ []) []) ≡ 0 → b ≡ false
    by true h = absurd (omega arith)
    by false h = refl
users-last name (y ∷ ys) x h = by (is_user name y) h (users-last name ys x)
  where
    by : (b : Bool) → length (cond b (y ∷ filter (is_user name) (ys ++ x ∷ []))
        (filter (is_user name) (ys ++ x ∷ []))) ≡ 0 →
        (users_of name (ys ++ x ∷ []) ≡ 0 → (users_of name ys ≡ 0) × (is_user name x ≡ false)) →
        (length (cond b (y ∷ filter (is_user name) ys) (filter (is_user name) ys)) ≡ 0) ×
        (is_user name x ≡ false)
    by true h rest = absurd (omega arith)
    by false h rest = rest h

-- nor among the first
users-first : (name : List ℕ) (known : Catalog) (es : List Held) →
    users_of name (with_all known es) ≡ 0 → users_of name known ≡ 0
users-first name known [] h = h
users-first name known (e ∷ es) h =
    (users-last name known (entry_of known e.0 e.1) (users-first name (grown known e) es h)).0

-- the next entry doesn't mention a name without users, which is another's
not-mentioned : (name : List ℕ) (known : Catalog) (e : Held) (es : List Held) →
    users_of name (with_all known (e ∷ es)) ≡ 0 → bytes_eq e.0 name ≡ false →
    mentions name (object_of known e.1) ≡ false
not-mentioned name known e es h other =
    ap (λ (b : Bool). not b && mentions name (object_of known e.1)) (sym other) ∙
    (users-last name known (entry_of known e.0 e.1) (users-first name (grown known e) es h)).1

-- ---- without a name

same-uses : (name : List ℕ) (known : Catalog) (us : Uses) → is_used name (names_used us) ≡ false →
    Same known (without name known) us
same-uses name known [] h = tt
same-uses name known (u ∷ us) h = by (bytes_eq (name_used u) name) refl h (same-uses name known us)
  where
    by : (b : Bool) → bytes_eq (name_used u) name ≡ b → (b || is_used name (names_used us)) ≡ false →
        (is_used name (names_used us) ≡ false → Same known (without name known) us) →
        Same known (without name known) (u ∷ us)
    by true e h rest = cc
    by false e h rest = (
      dropping_leaves_others name (name_used u) known (texts_differ (name_used u) name e),
      rest h,
    )

-- what doesn't mention the name is seen the same
same-object : (name : List ℕ) (known : Catalog) (o : HeldObject) → ListsUses o →
    mentions name (object_of known o) ≡ false →
    object_of (without name known) o ≡ object_of known o
same-object name known (Table row_type) l h = refl
same-object name known (FunctionRecord r) l h =
    ap (λ (x : Expr). FunctionObject (record {
      parameters = r.head.parameters;
      returns = r.head.returns;
      access = r.head.access;
      height = r.head.height;
      weight = r.head.weight;
      uses = r.head.uses;
      routine = Returned r.head.parameters r.head.returns x;
    })) (same_tree known (without name known) r.body
    (same-uses name known (uses_in r.body) (sym (l name) ∙ h)))
same-object name known (InterpretedRecord f) l h = refl
same-object name known (ProcedureRecord p) l h = refl

-- what stands around a tree, by the names of tables and functions
abbrev objects_of : Around → Objects
objects_of a = record { tables = a.tables; functions = a.functions; procedures = λ n. None }

-- the same without one name
abbrev hiding : List ℕ → Around → Objects
hiding name a = record {
  tables = λ n. cond (bytes_eq n name) None (a.tables n);
  functions = λ n. cond (bytes_eq n name) None (a.functions n);
  procedures = λ n. None;
}

same-around : (name : List ℕ) (a : Around) (names : UsedNames) → is_used name names ≡ false →
    AllSame (hiding name a) (objects_of a) names
same-around name a [] h = tt
same-around name a (n ∷ names) h = by (bytes_eq n name) refl h (same-around name a names)
  where
    by : (b : Bool) → bytes_eq n name ≡ b → (b || is_used name names) ≡ false →
        (is_used name names ≡ false → AllSame (hiding name a) (objects_of a) names) →
        AllSame (hiding name a) (objects_of a) (n ∷ names)
    by true e h rest = cc
    by false e h rest = (
      record {
        tables = ap (λ (b : Bool). cond b None (a.tables n)) e;
        functions = ap (λ (b : Bool). cond b None (a.functions n)) e;
        procedures = refl;
      },
      rest h,
    )

-- a body that doesn't use the name is as well typed without it
function-without : (name : List ℕ) (known : Catalog) (r : RoutineRecord) →
    is_used name (expr_names r.body) ≡ false → FunctionTyped known r →
    FunctionTyped (without name known) r
function-without name known r unused t = record {
  around = around_with (hiding name t.around) t.around;
  tables = λ n row_type e. table n row_type (bytes_eq n name) refl e;
  functions = λ n h f e o. function n h f (bytes_eq n name) refl e o;
  rows = t.rows;
  slots = t.slots;
  kind = t.kind;
  typed = (used_names_decide (hiding name t.around) (objects_of t.around)).expressions r.body
      (same-around name t.around (expr_names r.body) unused) t.around ∙ t.typed;
  fitting = t.fitting;
}
  where
    stands : (n : List ℕ) → bytes_eq n name ≡ false →
        object_named n (without name known) ≡ object_named n known
    stands n e = dropping_leaves_others name n known (texts_differ n name e)

    table : (n : List ℕ) (row_type : RowType) (b : Bool) → bytes_eq n name ≡ b →
        cond b None (t.around.tables n) ≡ Some row_type →
        object_named n (without name known) ≡ Some (TableObject row_type)
    table n row_type true q e = absurd cc
    table n row_type false q e = stands n q ∙ t.tables n row_type e

    function : (n : List ℕ) (h : FunctionHead) (f : Function) (b : Bool) → bytes_eq n name ≡ b →
        cond b None (t.around.functions n) ≡ Some h →
        object_named n (without name known) ≡ Some (FunctionObject f) →
        (f.parameters ≡ h.parameters) × (f.returns ≡ h.returns)
    function n h f true q e o = absurd cc
    function n h f false q e o = t.functions n h f e (sym (stands n q) ∙ o)

body-without : (name : List ℕ) (known : Catalog) (o : HeldObject) → ListsUses o →
    mentions name (object_of known o) ≡ false → BodyTyped known o →
    BodyTyped (without name known) o
body-without name known (Table row_type) l h t = tt
body-without name known (FunctionRecord r) l h t =
    function-without name known r (sym (l name) ∙ h) t
body-without name known (InterpretedRecord f) l h t = tt
body-without name known (ProcedureRecord p) l h t = tt

-- ---- dropping

-- these entries, over the first catalog, show the second
record AreTyped (known : Catalog) (all : Catalog) (es : List Held) : Type 0 where
  shown : with_all known es ≡ all
  apart : NamesDiffer known es
  typed : BodiesTyped known es

-- the entries after one that goes
later : (name : List ℕ) (known : Catalog) (es : List Held) (o : Object) →
    object_named name known ≡ Some o → users_of name (with_all known es) ≡ 0 →
    NamesDiffer known es → UsesListed es → BodiesTyped known es →
    AreTyped (without name known) (without name (with_all known es)) es
later name known [] o stands unused apart listed typed = record {
  shown = refl;
  apart = tt;
  typed = tt;
}
later name known (e ∷ es) o stands unused apart listed typed =
    let differ : ¬ (e.0 ≡ name) = λ q.
    let t : object_named name known ≡ None =
    subst (λ (n : List ℕ). object_named n known ≡ None) q apart.0 in cc in
    let silent = not-mentioned name known e es unused (other_text e.0 name differ) in
    let less : without name (grown known e) ≡ grown (without name known) e =
    without_front name known (entry_of known e.0 e.1 ∷ []) o stands ∙
    ap (λ (x : Object). without name known ++ record { name = e.0; object = x } ∷ [])
    (sym (same-object name known e.1 listed.0 silent)) in
    let rest = later name (grown known e) es o
    (named_kept name known (entry_of known e.0 e.1 ∷ []) o stands) unused apart.1 listed.1
    typed.1 in
    record {
      shown = ap (λ (k : Catalog). with_all k es) (sym less) ∙ rest.shown;
      apart = (
        dropping_leaves_others name e.0 known differ ∙ apart.0,
        subst (λ (k : Catalog). NamesDiffer k es) less rest.apart,
      );
      typed = (
        body-without name known e.1 listed.0 silent typed.0,
        subst (λ (k : Catalog). BodiesTyped k es) less rest.typed,
      );
    }

-- the entries that are left
record Left (known : Catalog) (all : Catalog) : Type 0 where
  entries : List Held
  listed : UsesListed entries
  are : AreTyped known all entries

left : (name : List ℕ) (known : Catalog) (es : List Held) → object_named name known ≡ None →
    users_of name (with_all known es) ≡ 0 → NamesDiffer known es → UsesListed es →
    BodiesTyped known es → Left known (without name (with_all known es))
left name known [] none unused apart listed typed = record {
  entries = [];
  listed = tt;
  are = record { shown = sym (without_none name known none); apart = tt; typed = tt };
}
left name known (e ∷ es) none unused apart listed typed = by (bytes_eq e.0 name) refl
    (λ h. left name (grown known e) es h unused apart.1 listed.1 typed.1)
  where
    by : (b : Bool) → bytes_eq e.0 name ≡ b →
        (object_named name (grown known e) ≡ None →
        Left (grown known e) (without name (with_all (grown known e) es))) →
        Left known (without name (with_all (grown known e) es))
    by true q more =
        let entry = entry_of known e.0 e.1 in
        let stands : object_named name (grown known e) ≡ Some (object_of known e.1) =
        named_after name known (entry ∷ []) none ∙
        ap (λ (b : Bool). cond b (Some (object_of known e.1)) None) q in
        let gone = without_last name known entry none q in
        let after = later name (grown known e) es (object_of known e.1) stands unused apart.1
        listed.1 typed.1 in
        record {
          entries = es;
          listed = listed.1;
          are = subst (λ (k : Catalog). AreTyped k (without name (with_all (grown known e) es)) es)
              gone after;
        }
    by false q more =
        let rest = more (adding_leaves_others name known (entry_of known e.0 e.1)
        (λ p. texts_differ e.0 name q (sym p)) ∙ none) in
        record {
          entries = e ∷ rest.entries;
          listed = (listed.0, rest.listed);
          are = record {
            shown = rest.are.shown;
            apart = (apart.0, rest.are.apart);
            typed = (typed.0, rest.are.typed);
          };
        }

-- an entry less that no other uses
pub dropped-typed : (known : Catalog) (name : List ℕ) → HasTypedBodies known →
    users_of name known ≡ 0 → HasTypedBodies (without name known)
dropped-typed known name t unused =
    let rest = left name [] t.entries refl
    (subst (λ (k : Catalog). users_of name k ≡ 0) (sym t.shown) unused) t.apart t.listed t.typed in
    record {
      entries = rest.entries;
      shown = rest.are.shown ∙ ap (without name) t.shown;
      apart = rest.are.apart;
      listed = rest.listed;
      typed = rest.are.typed;
    }
