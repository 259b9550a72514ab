-- Declarations of a compound statement note what they call.
use Rattle.std.proofs.Common.{◌≡◌, Bool, List, [], ◌++◌, map, Option, None, Some, refl}
use Rattle.syntax_trees.specs.declared.anchor.Anchor.{Anchor}
use Rattle.syntax_trees.specs.declared.expr.Expr.{Expr}
use Rattle.statement_trees.specs.declared.condition.ConditionValue.{ConditionValue}
use Rattle.statement_trees.specs.declared.declaration.ConditionDeclaration.{ConditionDeclaration}
use Rattle.statement_trees.specs.declared.declaration.CursorDeclaration.{CursorDeclaration}
use Rattle.statement_trees.specs.declared.declaration.HandlerType.{HandlerType}
use Rattle.statement_trees.specs.declared.declaration.VariableDeclaration.{VariableDeclaration}
use Rattle.catalog_store.specs.Planning.{AllPlanned}
use Rattle.bind_kinds.specs.declared.kind.Kind.{Kind}
use Rattle.bind_kinds.specs.Kinds.{kind_of_type}
use Rattle.bind_kinds.specs.Types.{type_of, type_faults}
use Rattle.bind_queries.proofs.Laws.{front_nil, back_nil}
use Rattle.bind_rules.specs.Handlers.{undo_faults}
use Rattle.bind_rules.specs.Targets.{variable_of}
use Rattle.bind_simple.specs.Places.{Surroundings, seen_from, with_scope, in_action}
use Rattle.bind_simple.specs.Simple.{Judge}
use Rattle.bind_declarations.specs.declared.declared.Declared.{Declared}
use Rattle.bind_declarations.specs.Declarations.{after_declared, names_faults, again}
use Rattle.bind_declarations.specs.Declarations.{judged_default, default_after, judged_variables}
use Rattle.bind_declarations.specs.Declarations.{judged_condition, query_after, judged_cursor}
use Rattle.bind_declarations.specs.Declarations.{value_of, values_faults, type_of_handler}
use Rattle.bind_declarations.specs.Declarations.{judged_handler}
use Rattle.bind_routines.specs.Statements.{JudgedDeclaration}
use Rattle.viewing_laws.specs.Calls.{CalledNames, query_calls, calls_if_there, statement_calls}
use Rattle.viewing_laws.specs.Calls.{calls_of_handler}
use Rattle.viewing_laws.proofs.Laws.{calls_of_handler-at}
use Rattle.listed_calls.proofs.Noted.{listed-back, EachListed, each-front, each-last, Notes}
use Rattle.listed_calls.proofs.Simple.{StatementNotes, listed-as}
use Rattle.listed_calls.proofs.Values.{value-notes, ordered-notes}

-- what is declared so far calls what was noted among these uses
pub record DeclaredListed (p : Surroundings) (uses : CalledNames) (so : Declared) : Type 0 where
  pub variables : EachListed p.own p.catalog (λ v. calls_if_there v.default) uses so.variables
  pub cursors : EachListed p.own p.catalog query_calls uses so.cursors
  pub handlers : EachListed p.own p.catalog calls_of_handler uses so.handlers

pub declared-more : (p : Surroundings) (u v : CalledNames) (so : Declared) →
    DeclaredListed p u so → DeclaredListed p (u ++ v) so
declared-more p u v so h = record {
  variables = each-front p.own p.catalog (λ x. calls_if_there x.default) u v so.variables
      h.variables;
  cursors = each-front p.own p.catalog query_calls u v so.cursors h.cursors;
  handlers = each-front p.own p.catalog calls_of_handler u v so.handlers h.handlers;
}

-- a declaration without faults notes what it calls, after any others
abbrev pub DeclarationNotes : JudgedDeclaration → Type 0
DeclarationNotes d = (atomic : Bool) (p : Surroundings) → AllPlanned p.catalog →
    (u : CalledNames) (so : Declared) → (d atomic p so).faults ≡ [] → DeclaredListed p u so →
    DeclaredListed p (u ++ (d atomic p so).uses) (d atomic p so).value

default-notes : (e : Option Expr) (kind : Kind) (p : Surroundings) → AllPlanned p.catalog →
    Notes p.own p.catalog calls_if_there (judged_default e kind p)
default-notes None kind p all f = tt
default-notes (Some e) kind p all f = value-notes kind e p all f

pub variables-note : (d : VariableDeclaration) →
    DeclarationNotes (λ atomic p so. judged_variables d p so)
variables-note d atomic p all u so f h =
    let x = default_after d so.scope p in
    let names = names_faults d.names (variable_of (type_of d.data_type)) so.scope in
    let free = front_nil x.faults names (back_nil (type_faults d.data_type) (x.faults ++ names) f)
    in
    let rest = declared-more p u x.uses so h in
    record {
      variables = each-last p.own p.catalog (λ v. calls_if_there v.default) (u ++ x.uses)
          so.variables _ rest.variables
          (listed-back p.own p.catalog u x.uses (calls_if_there x.value)
          (default-notes d.default (kind_of_type (type_of d.data_type)) (with_scope so.scope p) all
          free));
      cursors = rest.cursors;
      handlers = rest.handlers;
    }

pub condition-notes : (d : ConditionDeclaration) →
    DeclarationNotes (λ atomic p so. judged_condition d so)
condition-notes d atomic p all u so f h =
    let rest = declared-more p u [] so h in record {
      variables = rest.variables;
      cursors = rest.cursors;
      handlers = rest.handlers;
    }

pub cursor-notes : (d : CursorDeclaration) →
    DeclarationNotes (λ atomic p so. judged_cursor d p so)
cursor-notes d atomic p all u so f h =
    let q = query_after d.query so.scope p in
    let rest = declared-more p u q.uses so h in
    record {
      variables = rest.variables;
      cursors = each-last p.own p.catalog query_calls (u ++ q.uses) so.cursors q.value.tree
          rest.cursors (listed-back p.own p.catalog u q.uses (query_calls q.value.tree)
          (ordered-notes p.catalog all (seen_from (with_scope so.scope p)) refl d.query
          (front_nil q.faults (again d.name so.scope) f)));
      handlers = rest.handlers;
    }

-- a handler calls what its action calls
pub handler-notes : (at : Anchor) (type : HandlerType) (values : List ConditionValue)
    (action : Judge) → StatementNotes action →
    DeclarationNotes (λ atomic p so. judged_handler at type values action atomic p so)
handler-notes at type values action notes atomic p all u so f h =
    let here = after_declared so p in
    let x = action (in_action here) in
    let asked = values_faults here so.handlers values in
    let free = back_nil asked x.faults (back_nil (undo_faults at type atomic) (asked ++ x.faults) f)
    in
    let rest = declared-more p u x.uses so h in
    record {
      variables = rest.variables;
      cursors = rest.cursors;
      handlers = each-last p.own p.catalog calls_of_handler (u ++ x.uses) so.handlers _
          rest.handlers
          (listed-as p (u ++ x.uses) _ _
          (calls_of_handler-at (record {
            handler_type = type_of_handler type;
            values = map (value_of here) values;
            action = x.value;
          }))
          (listed-back p.own p.catalog u x.uses (statement_calls x.value)
          (notes (in_action here) all free)));
    }
