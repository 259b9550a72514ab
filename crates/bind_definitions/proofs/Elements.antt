-- The elements of a new table: its key is among its columns, and what is asked of them in turn.
use Rattle.std.proofs.Common.{◌≡◌, refl, sym, ap, ap₂, ◌∙◌, subst, arith, ℕ, suc, ◌+◌, ◌<◌, nat_lt}
use Rattle.std.proofs.Common.{Bool, true, false, List, [], ◌∷◌, ◌++◌, length, drop, get_or, Option}
use Rattle.std.proofs.Common.{Some, None}
use Rattle.std.specs.Prelude.{if◌then◌else◌, ◌&&◌}
use Rattle.std.specs.List.{list_all, flat_map}
use Rattle.std.specs.Str.{bytes_eq}
use Rattle.std.proofs.lemmas.Bool.{and_from}
use Rattle.std.proofs.lemmas.Bool.Decides.{nat_tests}
use Rattle.std.proofs.lemmas.List.Folds.{list_all-append}
use Rattle.syntax_trees.specs.declared.anchor.Anchor.{Anchor}
use Rattle.syntax_trees.specs.declared.anchor.Ident.{Ident}
use Rattle.statement_trees.specs.declared.definition.CreateTable.{CreateTable}
use Rattle.statement_trees.specs.declared.definition.TableElement.{TableElement}
use Rattle.statement_trees.specs.declared.definition.TableElement.TheVariants as element
use Rattle.row_types.specs.Rows.{has_key_columns}
use Rattle.bind_faults.specs.declared.fault.Fault.{Fault}
use Rattle.bind_faults.specs.Faults.{noted}
use Rattle.bind_faults.proofs.Laws.{noted_append}
use Rattle.bind_sight.specs.Index.{place_of, one_further}
use Rattle.bind_rules.proofs.Laws.{unrolled}
use Rattle.bind_rules.specs.Names.{names_of, repeated, at_place, place_in, places_in}
use Rattle.bind_rules.specs.Keys.{is_key, key_faults}
use Rattle.bind_definitions.specs.Tables.{or_later, key_of, column_idents, column_names}
use Rattle.bind_definitions.specs.Tables.{column_types, type_faults_in, key_places, key_list_faults}
use Rattle.bind_definitions.specs.Tables.{element_faults}

first : (place many : ℕ) → Some 0 ≡ Some place → nat_lt place (suc many) ≡ true
first place many q = let same : 0 ≡ place = cc in grind (arith, nat_tests)

further : (place many : ℕ) (o : Option ℕ) → ((before : ℕ) → o ≡ Some before →
    nat_lt before many ≡ true) → one_further o ≡ Some place → nat_lt place (suc many) ≡ true
further place many None below q = absurd cc
further place many (Some before) below q =
    let same : suc before ≡ place = cc in
    let less : nat_lt before many ≡ true = below before refl in
    grind (arith, nat_tests)

either : (place many : ℕ) (o : Option ℕ) (b : Bool) →
    ((before : ℕ) → o ≡ Some before → nat_lt before many ≡ true)
    → (if b then Some 0 else one_further o) ≡ Some place → nat_lt place (suc many) ≡ true
either place many o true below q = first place many q
either place many o false below q = further place many o below q

low : (name : List ℕ) (names : List (List ℕ)) (place : ℕ) → place_of name names ≡ Some place →
    nat_lt place (length names) ≡ true
low name [] place p = absurd cc
low name (n ∷ ns) place p = either place (length ns) (place_of name ns) (bytes_eq name n)
    (λ before q. low name ns before q) p

-- ---- places among so many columns

module _ (n : ℕ) where
  abbrev Low : List ℕ → Type 0
  Low places = list_all (λ i. nat_lt i n) places ≡ true

  low-both : (a b : List ℕ) → Low a → Low b → Low (a ++ b)
  low-both a b p q = list_all-append (λ i. nat_lt i n) a b ∙
      and_from (list_all (λ i. nat_lt i n) a) (list_all (λ i. nat_lt i n) b) p q

module _ (names : List (List ℕ)) where
  one-low : (i : Ident) → Low (length names) (place_in names i)
  one-low i = by (place_of i.name names) refl
    where
      by : (o : Option ℕ) → place_of i.name names ≡ o → Low (length names) (at_place o)
      by None e = refl
      by (Some place) e = ap (λ b. b && true) (low i.name names place e)

  many-low : (is : List Ident) → Low (length names) (places_in names is)
  many-low [] = refl
  many-low (i ∷ is) = low-both (length names) (place_in names i) (places_in names is) (one-low i)
      (many-low is)

  own-or-later : (b : Bool) (i : Ident) (later : List ℕ) → Low (length names) later →
      Low (length names) (or_later (if b then Some (place_in names i) else None) later)
  own-or-later true i later p = one-low i
  own-or-later false i later p = p

  key-low : (es : List TableElement) → Low (length names) (key_of names es)
  key-low [] = refl
  key-low (element.Column c ∷ es) = own-or-later (is_key c) c.name (key_of names es) (key-low es)
  key-low (element.PrimaryKey anchor is ∷ es) = many-low is

as-many : (es : List TableElement) → length (column_names es) ≡ length (column_types es)
as-many [] = refl
as-many (element.Column c ∷ es) = ap suc (as-many es)
as-many (element.PrimaryKey anchor is ∷ es) = as-many es

pub key-columns : (es : List TableElement) → has_key_columns (column_types es)
    (key_of (column_names es) es) ≡ true
key-columns es = subst (λ n. list_all (λ i. nat_lt i n) (key_of (column_names es) es) ≡ true)
    (as-many es) (key-low (column_names es) es)

-- ---- what is asked of the elements, in turn

pub judged-elements : (s : CreateTable) (idents : List Ident) (names : List (List ℕ))
    (places : List Anchor) (n n1 n2 n3 n4 : Option Fault)
    → idents ≡ column_idents s.elements → names ≡ names_of idents →
    n1 ≡ noted n (repeated [] idents) → n2 ≡ noted n1 (flat_map type_faults_in s.elements)
    → places ≡ key_places s.elements → n3 ≡ noted n2 (key_faults s.name places) →
    n4 ≡ noted n3 (flat_map (key_list_faults names) s.elements)
    → n4 ≡ noted n (element_faults s)
judged-elements s idents names places n n1 n2 n3 n4 i e p q k r t =
    let own = repeated [] (column_idents s.elements) in
    let types = flat_map type_faults_in s.elements in
    let keys = key_faults s.name (key_places s.elements) in
    let lists = flat_map (key_list_faults (column_names s.elements)) s.elements in
    let one : n1 ≡ noted n own = p ∙ ap (λ z. noted n (repeated [] z)) i in
    let two : n2 ≡ noted (noted n own) types = q ∙ ap (λ z. noted z types) one in
    let three : n3 ≡ noted (noted (noted n own) types) keys = r ∙
    ap₂ (λ z places. noted z (key_faults s.name places)) two k in
    t ∙ ap₂ (λ z names. noted z (flat_map (key_list_faults names) s.elements)) three
    (e ∙ ap names_of i)
    ∙ sym (noted_append n own (types ++ (keys ++ lists)) ∙
    noted_append (noted n own) types (keys ++ lists) ∙
    noted_append (noted (noted n own) types) keys lists)

-- faults of each in turn
pub faults-more : {X : Type 0} (f : X → List Fault) (xs : List X) (i : ℕ) (x : X)
    (n m : Option Fault) → i < length xs → x ≡ get_or xs i x → m ≡ noted n (f x)
    → noted m (flat_map f (drop (i + 1) xs)) ≡ noted n (flat_map f (drop i xs))
faults-more f xs i x n m h e p =
    ap (λ k. noted k (flat_map f (drop (i + 1) xs))) p
    ∙ sym (noted_append n (f x) (flat_map f (drop (i + 1) xs)))
    ∙ ap (λ d. noted n (flat_map f d)) (sym (unrolled xs i x h e))
