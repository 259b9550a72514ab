-- A conjunct that compares a column with a name from outside raises nothing, whichever side stands
-- first.
use Rattle.std.proofs.Common.{◌≡◌, zero, suc, [], ◌∷◌, Option, Some, None, refl, ap, ◌∙◌}
use Rattle.sql_values.specs.declared.operators.Comparison.TheVariants.{Equals}
use Rattle.sql_values.specs.declared.value.Value.{Value}
use Rattle.row_types.specs.declared.cell.Cell.{Cell}
use Rattle.row_types.specs.declared.cell.Cell.TheVariants.{Val}
use Rattle.rel_algebra.specs.Emit.{Env, Key, Place, key_of, read, turned}
use Rattle.rel_algebra.specs.Endings.{equal_values, op_value}
use Rattle.rel_algebra.specs.Plain.{Inputs, Scope, ev}
use Rattle.rel_algebra.specs.Plan.{Sight, cell_of, strictly}
use Rattle.rel_algebra.specs.Theorem.{Agrees}
use Rattle.rel_algebra.specs.Tree.{Column, Comparing, Expr, MoreExprs, NoExpr, Operate, Variable}
use Rattle.rel_algebra.proofs.Truths.{both}
use Rattle.rel_algebra.proofs.Words.{equal_turned}
use Rattle.std.proofs.Common.{Ok}

-- its value
pub record KeyValue (key : Key) (x : Expr) (w : Inputs) (f : Scope) (s : Sight) : Type 0 where
  pub value : Value
  pub cell : cell_of (turned key.own key.other).scalar s ≡ Val value
  pub means : ev x w f ≡ Ok value

abbrev pub KeyRight : Option Key → Expr → Inputs → Scope → Sight → Type 0
KeyRight None x w f s = Unit {0}
KeyRight (Some key) x w f s = KeyValue key x w f s

equal_cell : (own other : Place) (s : Sight) (x y : Value) → cell_of (read own) s ≡ Val x →
    cell_of (read other) s ≡ Val y →
    cell_of (turned own other).scalar s ≡ Val (equal_values x y)
equal_cell own other s x y p q =
    both (λ (c d : Cell). strictly (op_value (Comparing Equals)) (c ∷ d ∷ [])) _ _ _ _ p q

pub key_right : (x : Expr) (e : Env) (w : Inputs) (f : Scope) (s : Sight) → Agrees e s f →
    KeyRight (key_of x e) x w f s
key_right (Operate (Comparing Equals)
    (MoreExprs (Column zero i) (MoreExprs (Column (suc d) j) NoExpr))) e w f s a =
    record {
      value = _;
      cell = equal_cell (e.columns zero i) (e.columns (suc d) j) s _ _
          (a.0 zero i) (a.0 (suc d) j);
      means = refl;
    }
key_right (Operate (Comparing Equals)
    (MoreExprs (Column (suc d) j) (MoreExprs (Column zero i) NoExpr))) e w f s a =
    record {
      value = _;
      cell = equal_cell (e.columns zero i) (e.columns (suc d) j) s _ _ (a.0 zero i) (a.0 (suc d) j)
          ∙ ap Val (equal_turned _ _);
      means = refl;
    }
key_right (Operate (Comparing Equals) (MoreExprs (Column zero i) (MoreExprs (Variable j) NoExpr))) e
    w f s a =
    record {
      value = _;
      cell = equal_cell (e.columns zero i) (e.params j) s _ _ (a.0 zero i)
          (a.1 j);
      means = refl;
    }
key_right (Operate (Comparing Equals) (MoreExprs (Variable j) (MoreExprs (Column zero i) NoExpr))) e
    w f s a =
    record {
      value = _;
      cell = equal_cell (e.columns zero i) (e.params j) s _ _ (a.0 zero i) (a.1 j)
          ∙ ap Val (equal_turned _ _);
      means = refl;
    }
key_right _ e w f s a = tt
