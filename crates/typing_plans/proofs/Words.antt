-- Words over operands of kinds below those that they want.
use Rattle.std.proofs.Common.{◌≡◌, inl, inr, ℕ, Bool, true, false, cond, ◌&&◌, List, [], ◌∷◌}
use Rattle.std.proofs.Common.{map, length, refl, ap, ◌∙◌}
use Rattle.std.specs.List.{list_all}
use Rattle.sql_values.specs.declared.operators.Operator.{Operator}
use Rattle.sql_values.specs.declared.operators.Operator.TheVariants.{Add, Subtract, Multiply}
use Rattle.sql_values.specs.declared.operators.Operator.TheVariants.{Divide, Concatenate}
use Rattle.sql_values.specs.declared.value.SqlType.{SqlType}
use Rattle.sql_values.specs.declared.value.SqlType.TheVariants as type
use Rattle.sql_values.specs.declared.value.Value.TheVariants.{Null as NullValue}
use Rattle.bound_trees.specs.Operands.{takes as takes_count}
use Rattle.bound_trees.specs.declared.expr.BoundOperation.{BoundOperation}
use Rattle.bound_trees.specs.declared.expr.BoundOperation.TheVariants as word
use Rattle.bind_kinds.specs.declared.kind.Kind.{Kind}
use Rattle.bind_kinds.specs.declared.kind.Kind.TheVariants.{Integer, Text, Boolean, Null}
use Rattle.bind_kinds.specs.Chains.{kind_of_operator}
use Rattle.bind_kinds.specs.Kinds.{fits, kind_of_type}
use Rattle.bind_kinds.specs.Operations.{is_cast}
use Rattle.rel_algebra.specs.Tree.{Expr, Literal, Negation, Opposite, TrueTest}
use Rattle.rel_algebra.specs.Tree.{FalseTest, NullTest, CharLength, Modulo, Substring, Comparing}
use Rattle.rel_algebra.specs.Tree.{AnyOf, Cast}
use Rattle.rel_algebra.specs.Plain.{planned_expr, planned_all}
use Rattle.rel_algebra.specs.Kinds.{DataKind, NullKind, IntegerKind, TextKind, BooleanKind, Kinds}
use Rattle.rel_algebra.specs.Kinds.{agree, op_good, operator_kind, type_kind, castable}
use Rattle.rel_algebra.specs.Kinds.{Typed, TypedAll, expr_kind, exprs_kinds, results_kind}
use Rattle.rel_algebra.specs.Kinds.{against_good, args_good, args_kinds, takes, assigned_kind}
use Rattle.catalog_store.specs.View.{standing, stood, operated, exprs}
use Rattle.typing_trees.specs.Kinds.{alike, common, in_turn, like_first, allows, gives}
use Rattle.typing_trees.specs.Kinds.{each_fits, arms_of, kind_of_arms_of}
use Rattle.typing_plans.specs.Kinding.{data_kind, Lower, AllLower}
use Rattle.typing_plans.proofs.Parts.{and_true, halves}
use Rattle.typing_plans.proofs.Lower.{agree_fit, agree_to, AllTo, all_to, tests_to}
use Rattle.typing_plans.proofs.Lower.{alike_lower, all_kind_lower, all_good_lower, first_lower}
use Rattle.typing_plans.proofs.Lower.{arms_lower, case_lower, against_lower}

-- ---- operations

negation_good : (ds : Kinds) → AllTo IntegerKind ds → op_good Negation ds ≡ true
negation_good [] h = refl
negation_good (a ∷ []) h = h.0
negation_good (a ∷ b ∷ ds) h = refl

opposite_good : (ds : Kinds) → AllTo BooleanKind ds → op_good Opposite ds ≡ true
opposite_good [] h = refl
opposite_good (a ∷ []) h = h.0
opposite_good (a ∷ b ∷ ds) h = refl

true_good : (ds : Kinds) → AllTo BooleanKind ds → op_good TrueTest ds ≡ true
true_good [] h = refl
true_good (a ∷ []) h = h.0
true_good (a ∷ b ∷ ds) h = refl

false_good : (ds : Kinds) → AllTo BooleanKind ds → op_good FalseTest ds ≡ true
false_good [] h = refl
false_good (a ∷ []) h = h.0
false_good (a ∷ b ∷ ds) h = refl

null_good : (ds : Kinds) → op_good NullTest ds ≡ true
null_good [] = refl
null_good (a ∷ []) = refl
null_good (a ∷ b ∷ ds) = refl

length_good : (ds : Kinds) → AllTo TextKind ds → op_good CharLength ds ≡ true
length_good [] h = refl
length_good (a ∷ []) h = h.0
length_good (a ∷ b ∷ ds) h = refl

modulo_good : (ds : Kinds) → AllTo IntegerKind ds → op_good Modulo ds ≡ true
modulo_good [] h = refl
modulo_good (a ∷ []) h = refl
modulo_good (a ∷ b ∷ []) h = and_true (agree a IntegerKind) (agree b IntegerKind) h.0 h.1.0
modulo_good (a ∷ b ∷ c ∷ ds) h = refl

substring_good : (ds : Kinds) (ks : List Kind) → AllLower ds ks →
    in_turn (Text ∷ Integer ∷ Integer ∷ []) ks ≡ true → op_good Substring ds ≡ true
substring_good [] ks l h = refl
substring_good (a ∷ []) ks l h = refl
substring_good (a ∷ b ∷ ds) [] l h = absurd l
substring_good (a ∷ b ∷ ds) (j ∷ []) l h = absurd l.1
substring_good (a ∷ b ∷ []) (j ∷ k ∷ ks) l h =
    let text = halves (fits Text j) _ h in
    let from = halves (fits Integer k) _ text.1 in
    and_true (agree a TextKind) (agree b IntegerKind) (agree_to a Text j l.0 text.0)
    (agree_to b Integer k l.1.0 from.0)
substring_good (a ∷ b ∷ c ∷ ds) (j ∷ k ∷ []) l h = absurd l.1.1
substring_good (a ∷ b ∷ c ∷ []) (j ∷ k ∷ m ∷ ks) l h =
    let text = halves (fits Text j) _ h in
    let from = halves (fits Integer k) _ text.1 in
    let many = halves (fits Integer m) _ from.1 in
    and_true (agree a TextKind) (agree b IntegerKind && agree c IntegerKind)
    (agree_to a Text j l.0 text.0) (and_true (agree b IntegerKind) (agree c IntegerKind)
    (agree_to b Integer k l.1.0 from.0) (agree_to c Integer m l.1.1.0 many.0))
substring_good (a ∷ b ∷ c ∷ d ∷ ds) (j ∷ k ∷ m ∷ ks) l h = refl

comparing_good : (c : _) (ds : Kinds) (ks : List Kind) → AllLower ds ks → alike Null ks ≡ true →
    op_good (Comparing c) ds ≡ true
comparing_good c [] ks l h = refl
comparing_good c (a ∷ []) ks l h = refl
comparing_good c (a ∷ b ∷ ds) [] l h = absurd l
comparing_good c (a ∷ b ∷ ds) (j ∷ []) l h = absurd l.1
comparing_good c (a ∷ b ∷ []) (j ∷ k ∷ ks) l h =
    let rest = halves (fits j k) _ h in agree_fit a b j k l.0 l.1.0 rest.0
comparing_good c (a ∷ b ∷ d ∷ ds) ks l h = refl

any_good : (ds : Kinds) (ks : List Kind) → AllLower ds ks → like_first ks ≡ true →
    op_good AnyOf ds ≡ true
any_good [] ks l h = refl
any_good (d ∷ ds) [] l h = absurd l
any_good (d ∷ ds) (k ∷ ks) l h = first_lower d k ds ks l.0 l.1 h

castable_null : (d : DataKind) → castable NullKind d ≡ true
castable_null NullKind = refl
castable_null IntegerKind = refl
castable_null TextKind = refl
castable_null BooleanKind = refl

castable_self : (t : SqlType) (k : Kind) → is_cast (kind_of_type t) k ≡ true →
    castable (data_kind k) (type_kind t) ≡ true
castable_self type.Integer Integer h = refl
castable_self type.Integer Text h = refl
castable_self type.Integer Boolean h = absurd cc
castable_self type.Integer Null h = refl
castable_self (type.Varchar n) Integer h = refl
castable_self (type.Varchar n) Text h = refl
castable_self (type.Varchar n) Boolean h = refl
castable_self (type.Varchar n) Null h = refl
castable_self type.Boolean Integer h = absurd cc
castable_self type.Boolean Text h = refl
castable_self type.Boolean Boolean h = refl
castable_self type.Boolean Null h = refl

castable_lower : (t : SqlType) (d : DataKind) (k : Kind) → Lower d k →
    is_cast (kind_of_type t) k ≡ true → castable d (type_kind t) ≡ true
castable_lower t d k (inl p) h = ap (λ x. castable x (type_kind t)) p ∙ castable_self t k h
castable_lower t d k (inr p) h = ap (λ x. castable x (type_kind t)) p ∙ castable_null (type_kind t)

cast_good : (t : SqlType) (ds : Kinds) (ks : List Kind) → AllLower ds ks →
    list_all (is_cast (kind_of_type t)) ks ≡ true → op_good (Cast t) ds ≡ true
cast_good t [] ks l h = refl
cast_good t (a ∷ []) [] l h = absurd l
cast_good t (a ∷ []) (k ∷ ks) l h =
    castable_lower t a k l.0 (halves (is_cast (kind_of_type t) k) _ h).0
cast_good t (a ∷ b ∷ ds) ks l h = refl

pub type_same : (t : SqlType) → type_kind t ≡ data_kind (kind_of_type t)
type_same type.Integer = refl
type_same (type.Varchar n) = refl
type_same type.Boolean = refl

pub operator_same : (o : Operator) → operator_kind o ≡ data_kind (kind_of_operator o)
operator_same Add = refl
operator_same Subtract = refl
operator_same Multiply = refl
operator_same Divide = refl
operator_same Concatenate = refl

-- ---- words of bound trees

against_kinds : (d : DataKind) (ds : Kinds) (ks : List Kind) → AllLower (d ∷ ds) ks →
    arms_of ks ≡ true →
    (against_good d ds ≡ true) × Lower (results_kind ds) (kind_of_arms_of ks)
against_kinds d ds [] l h = absurd l
against_kinds d ds (k ∷ ks) l h =
    (against_lower d k Null ds ks l.0 l.1 h, (arms_lower k Null ds ks l.1 h).1)

module _ (T : List ℕ → Kinds) (g : List Kinds) (p : Kinds) where
  -- operands that are typed, of kinds below these
  abbrev pub Operands : List Expr → List Kind → Type 0
  Operands es ks = planned_all (exprs es) ≡ true →
      TypedAll (exprs es) T g p × AllLower (exprs_kinds (exprs es) T g p) ks

  -- an expression that is typed, of a kind below this one
  abbrev pub Gives : Expr → Kind → Type 0
  Gives e k = planned_expr e ≡ true → Typed e T g p × Lower (expr_kind e T g p) k

  case_of_kinds : (es : List Expr) (ks : List Kind) → Operands es ks → arms_of ks ≡ true →
      Gives (stood (standing word.CaseOf) es) (kind_of_arms_of ks)
  case_of_kinds [] ks f h q = (tt, inr refl)
  case_of_kinds (e ∷ []) ks f h q = (tt, inr refl)
  case_of_kinds (e ∷ test ∷ []) ks f h q = (tt, inr refl)
  case_of_kinds (e ∷ test ∷ result ∷ arms) ks f h q =
      let s = f q in
      let kinds = against_kinds (expr_kind e T g p)
      (exprs_kinds (exprs (test ∷ result ∷ arms)) T g p) ks s.1 h in
      ((s.0.0, s.0.1.0, s.0.1.1.0, s.0.1.1.1, kinds.0), kinds.1)

  stood_kinds : (w : BoundOperation) (es : List Expr) (ks : List Kind) → Operands es ks →
      allows w ks ≡ true → Gives (stood (standing w) es) (gives w ks)
  stood_kinds word.Negation es ks f h q =
      let s = f q in let ds = exprs_kinds (exprs es) T g p in
      ((s.0, negation_good ds (all_to Integer ds ks s.1 h)), inl refl)
  stood_kinds word.Opposite es ks f h q =
      let s = f q in let ds = exprs_kinds (exprs es) T g p in
      ((s.0, opposite_good ds (all_to Boolean ds ks s.1 h)), inl refl)
  stood_kinds (word.Comparing c) es ks f h q =
      let s = f q in let ds = exprs_kinds (exprs es) T g p in
      ((s.0, comparing_good c ds ks s.1 h), inl refl)
  stood_kinds word.NullTest es ks f h q =
      let s = f q in ((s.0, null_good (exprs_kinds (exprs es) T g p)), inl refl)
  stood_kinds word.TrueTest es ks f h q =
      let s = f q in let ds = exprs_kinds (exprs es) T g p in
      ((s.0, true_good ds (all_to Boolean ds ks s.1 h)), inl refl)
  stood_kinds word.FalseTest es ks f h q =
      let s = f q in let ds = exprs_kinds (exprs es) T g p in
      ((s.0, false_good ds (all_to Boolean ds ks s.1 h)), inl refl)
  stood_kinds word.AnyOf es ks f h q =
      let s = f q in ((s.0, any_good (exprs_kinds (exprs es) T g p) ks s.1 h), inl refl)
  stood_kinds word.Modulo es ks f h q =
      let s = f q in let ds = exprs_kinds (exprs es) T g p in
      ((s.0, modulo_good ds (all_to Integer ds ks s.1 h)), inl refl)
  stood_kinds word.CharLength es ks f h q =
      let s = f q in let ds = exprs_kinds (exprs es) T g p in
      ((s.0, length_good ds (all_to Text ds ks s.1 h)), inl refl)
  stood_kinds word.Substring es ks f h q =
      let s = f q in ((s.0, substring_good (exprs_kinds (exprs es) T g p) ks s.1 h), inl refl)
  stood_kinds (word.Cast t) es ks f h q =
      let s = f q in
      ((s.0, cast_good t (exprs_kinds (exprs es) T g p) ks s.1 h), inl (type_same t))
  stood_kinds word.And es ks f h q =
      let s = f q in let ds = exprs_kinds (exprs es) T g p in
      ((s.0, tests_to ds (all_to Boolean ds ks s.1 h)), inl refl)
  stood_kinds word.Or es ks f h q =
      let s = f q in let ds = exprs_kinds (exprs es) T g p in
      ((s.0, tests_to ds (all_to Boolean ds ks s.1 h)), inl refl)
  stood_kinds word.Coalesce es ks f h q =
      let s = f q in let ds = exprs_kinds (exprs es) T g p in
      let each = (alike_lower Null ds ks s.1 h).1 in
      ((s.0, all_good_lower ds (common Null ks) each), all_kind_lower ds (common Null ks) each)
  stood_kinds word.Case es ks f h q =
      let s = f q in let ds = exprs_kinds (exprs es) T g p in
      ((s.0, case_lower Null ds ks s.1 h), (arms_lower Boolean Null ds ks s.1 h).1)
  stood_kinds word.CaseOf es ks f h q = case_of_kinds es ks f h q

  pub operated_kinds : (w : BoundOperation) (es : List Expr) (ks : List Kind) → Operands es ks →
      allows w ks ≡ true → Gives (operated w es) (gives w ks)
  operated_kinds w es ks f h = by (takes_count w (length es))
    where
      by : (b : Bool) → Gives (cond b (stood (standing w) es) (Literal NullValue)) (gives w ks)
      by true q = stood_kinds w es ks f h q
      by false q = (tt, inr refl)

-- ---- arguments

-- what a parameter of a type takes
pub parameter_lower : (t : SqlType) (d : DataKind) (k : Kind) → Lower d k →
    fits (kind_of_type t) k ≡ true →
    (takes t d ≡ true) × Lower (assigned_kind t d) (kind_of_type t)
parameter_lower type.Integer d Integer l h = (refl, l)
parameter_lower type.Integer d Text l h = absurd cc
parameter_lower type.Integer d Boolean l h = absurd cc
parameter_lower type.Integer d Null (inl p) h = (refl, inr p)
parameter_lower type.Integer d Null (inr p) h = (refl, inr p)
parameter_lower (type.Varchar n) d k l h = (agree_to d Text k l h, inl refl)
parameter_lower type.Boolean d Integer l h = absurd cc
parameter_lower type.Boolean d Text l h = absurd cc
parameter_lower type.Boolean d Boolean l h = (refl, l)
parameter_lower type.Boolean d Null (inl p) h = (refl, inr p)
parameter_lower type.Boolean d Null (inr p) h = (refl, inr p)

pub arguments_lower : (ts : List SqlType) (ds : Kinds) (ks : List Kind) → AllLower ds ks →
    each_fits (map kind_of_type ts) ks ≡ true →
    (args_good ds ts ≡ true) × AllLower (args_kinds ds ts) (map kind_of_type ts)
arguments_lower [] [] ks l h = (refl, tt)
arguments_lower [] (d ∷ ds) [] l h = absurd l
arguments_lower [] (d ∷ ds) (k ∷ ks) l h = absurd cc
arguments_lower (t ∷ ts) ds [] l h = absurd cc
arguments_lower (t ∷ ts) [] (k ∷ ks) l h = absurd l
arguments_lower (t ∷ ts) (d ∷ ds) (k ∷ ks) l h =
    let both = halves (fits (kind_of_type t) k) (each_fits (map kind_of_type ts) ks) h in
    let one = parameter_lower t d k l.0 both.0 in
    let rest = arguments_lower ts ds ks l.1 both.1 in
    (and_true (takes t d) (args_good ds ts) one.0 rest.0, (one.1, rest.1))
