-- Plans whose rows have as many cells as the plan has columns, whatever names they use: what
-- well-formed plans are at least.
use Rattle.std.specs.Prelude.{◌≡◌, ℕ, ◌<◌, List, [], ◌∷◌}
use Rattle.row_types.specs.Tables.{rows_named}
use Rattle.row_types.specs.Cells.{PlanRow, Poisoned, Whole}
use Rattle.std.specs.Prelude.{length}
use Rattle.rel_algebra.specs.Plain.{Inputs}
use Rattle.rel_algebra.specs.Plan.{Kind, Nodes, PlanTree, Scalars, aggregate, apply, apply_by}
use Rattle.rel_algebra.specs.Plan.{cross, exists, extend, extend_by, filter, found_width, group}
use Rattle.rel_algebra.specs.Plan.{keep, left_outer, lists_width, member, no_node, scalar_count}
use Rattle.rel_algebra.specs.Plan.{scan, settle, single, sort, tree_width, unit_row, values, into}
use Rattle.rel_algebra.specs.Theorem.{AllWide}

-- the rows of each table have its columns
abbrev pub TablesEven : Inputs → (List ℕ → ℕ) → Type 0
TablesEven w S = (name : List ℕ) → AllWide (S name) (rows_named name w.tables)

-- each list has k scalars
abbrev pub ListsEven : List Scalars → ℕ → Type 0
ListsEven [] k = Unit {0}
ListsEven (ss ∷ lists) k = (scalar_count ss ≡ k) × ListsEven lists k

-- places of a row of n columns
abbrev pub PlacesIn : List ℕ → ℕ → Type 0
PlacesIn [] n = Unit {0}
PlacesIn (i ∷ is) n = (i < n) × PlacesIn is n

-- what is judged as one value has one column
abbrev pub KindEven : Kind → ℕ → Type 0
KindEven single n = n ≡ 1
KindEven exists n = Unit {0}
KindEven (member s) n = n ≡ 1
KindEven (aggregate ags) n = Unit {0}
KindEven (into k) n = Unit {0}

abbrev mutual
  -- each row of the plan has as many cells as the plan has columns, where its tables have as many
  -- columns as S says
  pub IsEven : PlanTree → (List ℕ → ℕ) → Type 0
  IsEven unit_row S = Unit {0}
  IsEven (scan name n) S = n ≡ S name
  IsEven (values lists) S = ListsEven lists (lists_width lists)
  IsEven (extend ss input) S = IsEven input S
  IsEven (apply when kind way inner input) S = KindEven kind (found_width way (tree_width inner))
      × IsEven inner S × IsEven input S
  IsEven (filter s input) S = IsEven input S
  IsEven (keep is input) S = PlacesIn is (tree_width input) × IsEven input S
  IsEven (cross a b) S = IsEven a S × IsEven b S
  IsEven (left_outer nodes s n a b) S = NodesEven nodes S × (tree_width b ≡ n) × IsEven a S
      × IsEven b S
  IsEven (settle input) S = IsEven input S
  IsEven (group keys ags input) S = IsEven input S
  IsEven (sort keys input) S = IsEven input S

  -- the same of what a run of nodes adds
  pub NodesEven : Nodes → (List ℕ → ℕ) → Type 0
  NodesEven no_node S = Unit {0}
  NodesEven (extend_by ss rest) S = NodesEven rest S
  NodesEven (apply_by when kind way inner rest) S =
      KindEven kind (found_width way (tree_width inner)) × IsEven inner S × NodesEven rest S

-- each row without poison has n cells
abbrev pub AllLong : ℕ → List PlanRow → Type 0
AllLong n [] = Unit {0}
AllLong n (Whole row ∷ rows) = (length row ≡ n) × AllLong n rows
AllLong n (Poisoned area ∷ rows) = AllLong n rows
