-- Where a statement of a routine or a block stands: the scopes and labels in sight, and the routine
-- around it. ISO/IEC 9075-4, 14.1 (compound statement), 14.8 (iterate statement) and 14.9 (leave
-- statement).
use Rattle.std.specs.Prelude.{false, List, [], ◌∷◌, map, Option}
use Rattle.sql_values.specs.declared.value.SqlType.{SqlType}
use Rattle.catalog_store.specs.Catalog.{Catalog}
use Rattle.catalog_store.specs.declared.entry.ProcedureHead.{ProcedureHead}
use Rattle.bind_sight.specs.declared.scope.Scope.{Scope}
use Rattle.bind_sight.specs.declared.scope.EnclosingRoutine.{EnclosingRoutine}
use Rattle.bind_sight.specs.Sight.{Seen}
use Rattle.bind_rules.specs.Labels.{Label, barred, label_by}
use Rattle.bind_simple.specs.declared.place.Surroundings.{Surroundings as CodePlace}

-- the scopes and the labels, the innermost first; the type that is returned, where a function is
-- around the statement; that routine; its head, where it is a procedure; and the catalog
pub record Surroundings : Type 0 where
  pub scopes : List Scope
  pub labels : List Label
  pub returns : Option SqlType
  pub own : Option EnclosingRoutine
  pub procedure : Option ProcedureHead
  pub catalog : Catalog

-- ---- what a place shows

-- what an expression there sees
abbrev pub seen_from : Surroundings → Seen
seen_from p = record {
  levels = [];
  scopes = p.scopes;
  catalog = p.catalog;
  own = p.own;
  writing =
      false;
}

-- with other scopes
abbrev pub with_scopes : List Scope → Surroundings → Surroundings
with_scopes ss p = record {
  scopes = ss;
  labels = p.labels;
  returns = p.returns;
  own = p.own;
  procedure = p.procedure;
  catalog = p.catalog;
}

-- with one scope more
abbrev pub with_scope : Scope → Surroundings → Surroundings
with_scope s p = with_scopes (s ∷ p.scopes) p

-- with other labels
abbrev pub with_labels : List Label → Surroundings → Surroundings
with_labels ls p = record {
  scopes = p.scopes;
  labels = ls;
  returns = p.returns;
  own = p.own;
  procedure = p.procedure;
  catalog = p.catalog;
}

-- inside a compound statement or a loop
abbrev pub within : Label → Surroundings → Surroundings
within l p = with_labels (l ∷ p.labels) p

-- in an action of the compound statement that is innermost
abbrev pub in_action : Surroundings → Surroundings
in_action p = with_labels (barred p.labels) p

-- ---- what the code's place shows

-- a place of the code, as it is seen
abbrev pub place_by : CodePlace → Surroundings
place_by p = record {
  scopes = map (λ s. s.scope.now) p.scopes.now;
  labels = map label_by p.labels.now;
  returns = p.returns;
  own = p.own.now;
  procedure = p.procedure.now;
  catalog = p.catalog.now;
}
