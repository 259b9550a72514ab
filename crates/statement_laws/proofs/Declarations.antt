-- The variables of a compound statement, one declaration after another.
use Rattle.std.proofs.Common.{ℕ, ◌≡◌, ap, ◌∙◌, replicate}
use Rattle.sql_values.specs.declared.value.Value.{Value}
use Rattle.sql_values.specs.declared.value.SqlType.{SqlType}
use Rattle.rel_algebra.specs.Tree.{Expr, Variables, MoreVariables, With}
use Rattle.rel_algebra.specs.World.{World, Frame, Ends, Called, after}
use Rattle.rel_algebra.specs.Doing.{with_more}
use Rattle.rel_algebra.specs.Meaning.{declare}
use Rattle.statement_laws.specs.Declarations.{default_of, DeclarationsGoOn}

module _ (vs : Variables) (n : ℕ) (t : SqlType) (e : Expr) (more : Variables) (self : Called)
    (f : Frame) (w : World) where
  -- by the end of the first default
  by_default : (end : Ends Value) → vs ≡ MoreVariables n t (With e) more →
      default_of t e self f w ≡ end → declare vs self f w ≡ after end
      (λ v u. declare more self (with_more (replicate n v) f) u)
  by_default end is h =
      ap (λ (xs : Variables). declare xs self f w) is
      ∙ ap (λ (x : Ends Value). after x (λ v u. declare more self (with_more (replicate n v) f) u))
      h

pub declarations_go_on : DeclarationsGoOn
declarations_go_on = record {
  none = λ vs self f w is. ap (λ (xs : Variables). declare xs self f w) is;
  nulls = λ vs n t more self f w is. ap (λ (xs : Variables). declare xs self f w) is;
  defaults = λ vs n t e more self f w u v is h. by_default vs n t e more self f w _ is h;
  raises = λ vs n t e more self f w u area is h. by_default vs n t e more self f w _ is h;
  runs_out = λ vs n t e more self f w u is h. by_default vs n t e more self f w _ is h;
}
