-- Which names stand for the same, or are seen the same, as an entry is made or dropped.
use Rattle.std.proofs.Common.{◌≡◌, ℕ, Bool, true, false, cond, ◌&&◌, ◌||◌, List, [], ◌∷◌}
use Rattle.std.proofs.Common.{◌++◌, length, Option, None, Some, refl, sym, ap, ◌∙◌, subst, arith}
use Rattle.std.proofs.lemmas.Slice.Eq.{bytes_eq-Decides}
use Rattle.std.proofs.lemmas.Bool.{false_from_ne_true}
use Rattle.std.specs.Prelude.{not, filter, IsSome}
use Rattle.std.specs.Str.{bytes_eq}
use Rattle.catalog_store.specs.Catalog.{Object, TableObject, FunctionObject, InterpretedObject}
use Rattle.catalog_store.specs.Catalog.{ProcedureObject, Entry, Catalog, object_named}
use Rattle.catalog_store.specs.declared.entry.FunctionHead.{FunctionHead}
use Rattle.catalog_store.specs.declared.entry.ProcedureHead.{ProcedureHead}
use Rattle.catalog_store.specs.Users.{mentions, is_user, users_of, without}
use Rattle.catalog_store.specs.Uses.{SameNames, UsesStand}
use Rattle.catalog_store.proofs.Laws.{named_kept, named_after, dropping_leaves_others}
use Rattle.typing_lasting.specs.Used.{UsedNames}
use Rattle.typing_lasting.specs.Lasting.{SameAt, AllSame, Resolution, objects_in, SeenSame}
use Rattle.typing_lasting.specs.Lasting.{own_or, in_routine, StandSame, beside, is_used, head_uses}

-- ---- names as texts

same_text : (x y : List ℕ) → bytes_eq x y ≡ true → x ≡ y
same_text x y e = (bytes_eq-Decides x y).0 e

text_itself : (x : List ℕ) → bytes_eq x x ≡ true
text_itself x = (bytes_eq-Decides x x).1 refl

other_text : (x y : List ℕ) → ¬ (x ≡ y) → bytes_eq x y ≡ false
other_text x y f = false_from_ne_true (bytes_eq x y) (λ t. f (same_text x y t))

apart : (x y : List ℕ) → bytes_eq x y ≡ false → ¬ (x ≡ y)
apart x y e q =
    let t : bytes_eq x y ≡ true =
    subst (λ (z : List ℕ). bytes_eq x z ≡ true) q (text_itself x) in cc

-- ---- two catalogs

-- what stands for the same is seen the same
seen : (r : Resolution) (known more : Catalog) (name : List ℕ) →
    object_named name more ≡ object_named name known →
    SameAt (objects_in r more) (objects_in r known) name
seen r known more name e = record {
  tables = ap (r.table name) e;
  functions = ap (r.function name) e;
  procedures = ap (r.procedure name) e;
}

pub all-seen : (r : Resolution) (known more : Catalog) (names : UsedNames) →
    StandSame known more names → AllSame (objects_in r more) (objects_in r known) names
all-seen r known more [] s = tt
all-seen r known more (name ∷ names) s =
    (seen r known more name s.0, all-seen r known more names s.1)

-- ---- making

-- what stands for something still does as more come after
kept : (known more : Catalog) (name : List ℕ) → IsSome (object_named name known) →
    object_named name (known ++ more) ≡ object_named name known
kept known more name s = by (object_named name known) refl
  where
    by : (o : Option Object) → object_named name known ≡ o →
        object_named name (known ++ more) ≡ object_named name known
    by None e = let f : false ≡ true = subst (λ (o : Option Object). IsSome o) e s in cc
    by (Some o) e = named_kept name known more o e ∙ sym e

pub all-kept : (known more : Catalog) (names : UsedNames) → UsesStand known names →
    StandSame known (known ++ more) names
all-kept known more [] s = tt
all-kept known more (name ∷ names) s =
    (kept known more name s.0, all-kept known more names s.1)

-- of a routine that is made, and what is made later
module _ (r : Resolution) (known : Catalog) (entry : Entry) (later : Catalog)
    (same : SeenSame r entry.name (Some entry.object) None) where
  abbrev Alike : List ℕ → Type 0
  Alike name = SameAt (objects_in r (known ++ entry ∷ later)) (objects_in r known) name

  abbrev AllAlike : UsedNames → Type 0
  AllAlike names = AllSame (objects_in r (known ++ entry ∷ later)) (objects_in r known) names

  -- its own name is seen the same, whether it stands for something before or not
  itself : Alike entry.name
  itself = by (object_named entry.name known) refl
    where
      by : (o : Option Object) → object_named entry.name known ≡ o → Alike entry.name
      by None e =
          let found : object_named entry.name (known ++ entry ∷ later) ≡ Some entry.object =
          named_after entry.name known (entry ∷ later) e ∙
          ap (λ b. cond b (Some entry.object) (object_named entry.name later))
          (text_itself entry.name) in
          record {
            tables = ap (r.table entry.name) found ∙ same.table ∙ sym (ap (r.table entry.name) e);
            functions = ap (r.function entry.name) found ∙ same.function ∙
                sym (ap (r.function entry.name) e);
            procedures = ap (r.procedure entry.name) found ∙ same.procedure ∙
                sym (ap (r.procedure entry.name) e);
          }
      by (Some o) e = seen r known (known ++ entry ∷ later) entry.name
          (named_kept entry.name known (entry ∷ later) o e ∙ sym e)

  pub all-itself : (names : UsedNames) → UsesStand known (beside entry.name names) → AllAlike names
  all-itself [] s = tt
  all-itself (name ∷ names) s = by (bytes_eq name entry.name) refl s (all-itself names)
    where
      by : (b : Bool) → bytes_eq name entry.name ≡ b →
          UsesStand known (cond (not b) (name ∷ beside entry.name names) (beside entry.name names))
          → (UsesStand known (beside entry.name names) → AllAlike names) →
          AllAlike (name ∷ names)
      by true e s rest = (subst Alike (sym (same_text name entry.name e)) itself, rest s)
      by false e s rest = (
        seen r known (known ++ entry ∷ later) name (kept known (entry ∷ later) name s.0),
        rest s.1,
      )

-- In its own body a routine is seen the same before it is made and afterwards: it is no table.
pub own-seen : (own : List ℕ) (function : Option FunctionHead) (procedure : Option ProcedureHead)
    (r : Resolution) (o : Option Object) → r.table own o ≡ r.table own None →
    SeenSame (in_routine own function procedure r) own o None
own-seen own function procedure r o no_table = record {
  table = no_table;
  function = mine function (r.function own o) ∙ sym (mine function (r.function own None));
  procedure = mine procedure (r.procedure own o) ∙ sym (mine procedure (r.procedure own None));
}
  where
    mine : {A : Type 0} (x y : Option A) → own_or own x own y ≡ x
    mine x y = ap (λ b. cond b x y) (text_itself own)

-- ---- dropping

pub all-left : (known : Catalog) (name : List ℕ) (names : UsedNames) →
    is_used name names ≡ false → StandSame known (without name known) names
all-left known name [] h = tt
all-left known name (other ∷ names) h = by (bytes_eq other name) refl h (all-left known name names)
  where
    by : (b : Bool) → bytes_eq other name ≡ b → (b || is_used name names) ≡ false →
        (is_used name names ≡ false → StandSame known (without name known) names) →
        StandSame known (without name known) (other ∷ names)
    by true e h rest = cc
    by false e h rest =
        (dropping_leaves_others name other known (apart other name e), rest h)

-- what an object mentions is what its head lists
mentions-uses : (name : List ℕ) (o : Object) → mentions name o ≡ is_used name (head_uses o)
mentions-uses name (TableObject row_type) = refl
mentions-uses name (FunctionObject f) = refl
mentions-uses name (InterpretedObject f) = refl
mentions-uses name (ProcedureObject p) = refl

-- of no users none is the first
first-unused : (name : List ℕ) (e : Entry) (es : Catalog) → users_of name (e ∷ es) ≡ 0 →
    (is_user name e ≡ false) × (users_of name es ≡ 0)
first-unused name e es h = by (is_user name e) h
  where
    by : (b : Bool) →
        length (cond b (e ∷ filter (is_user name) es) (filter (is_user name) es)) ≡ 0 →
        (b ≡ false) × (users_of name es ≡ 0)
    by true h = absurd (omega arith)
    by false h = (refl, h)

-- an object of another name doesn't mention a name that has no users
not-mentioned : (name own : List ℕ) (o : Object) → ¬ (own ≡ name) → (known : Catalog) →
    users_of name known ≡ 0 → object_named own known ≡ Some o → mentions name o ≡ false
not-mentioned name own o f [] h e = cc
not-mentioned name own o f (x ∷ xs) h e =
    by (bytes_eq x.name own) refl e
    (not-mentioned name own o f xs (first-unused name x xs h).1)
  where
    by : (b : Bool) → bytes_eq x.name own ≡ b →
        cond b (Some x.object) (object_named own xs) ≡ Some o →
        (object_named own xs ≡ Some o → mentions name o ≡ false) → mentions name o ≡ false
    by true q e rest =
        let other : bytes_eq x.name name ≡ false =
        other_text x.name name (λ p. f (sym (same_text x.name own q) ∙ p)) in
        let here : mentions name x.object ≡ false =
        ap (λ b. not b && mentions name x.object) (sym other) ∙ (first-unused name x xs h).0 in
        subst (λ (z : Option Object). held z) e here
      where
        held : Option Object → Type 0
        held None = ⊥
        held (Some z) = mentions name z ≡ false
    by false q e rest = rest e

-- beside another name, a name is used as in all
beside-used : (name own : List ℕ) → ¬ (own ≡ name) → (names : UsedNames) →
    is_used name (beside own names) ≡ is_used name names
beside-used name own f [] = refl
beside-used name own f (x ∷ xs) = by (bytes_eq x own) refl (beside-used name own f xs)
  where
    by : (b : Bool) → bytes_eq x own ≡ b → is_used name (beside own xs) ≡ is_used name xs →
        is_used name (cond (not b) (x ∷ beside own xs) (beside own xs)) ≡ is_used name (x ∷ xs)
    by true q rest =
        rest ∙ ap (λ b. b || is_used name xs)
        (sym (other_text x name (λ p. f (sym (same_text x own q) ∙ p))))
    by false q rest = ap (λ b. bytes_eq x name || b) rest

pub unused : (known : Catalog) (name own : List ℕ) (o : Object) → users_of name known ≡ 0 →
    object_named own known ≡ Some o → ¬ (own ≡ name) → (names : UsedNames) →
    SameNames (head_uses o) (beside own names) → is_used name names ≡ false
unused known name own o none stands f names same =
    sym (beside-used name own f names) ∙ sym (same name) ∙ sym (mentions-uses name o) ∙
    not-mentioned name own o f known none stands
