-- How many columns the lists of VALUES have.
use Rattle.std.proofs.Common.{length, ◌≡◌, true, ℕ, zero, suc, List, [], ◌∷◌, refl, ap, ◌∙◌, nat_eq}
use Rattle.std.proofs.Common.{arith, drop}
use Rattle.sql_values.specs.declared.value.SqlType.{SqlType}
use Rattle.rel_algebra.specs.Emit.{EmittedAll, Env, chosen, either_all, emit, emit_all, emit_args}
use Rattle.rel_algebra.specs.Emit.{emit_rows, is_plain, nulls, scalar_count, width}
use Rattle.rel_algebra.specs.Joins.{numbered}
use Rattle.rel_algebra.specs.Plain.{all_even}
use Rattle.rel_algebra.specs.Plan.{Nodes, Scalars, apply_by, extend_by, more, no_node, none}
use Rattle.rel_algebra.specs.Tree.{Aggregate, Exprs, MoreExprs, MoreRows, NoExpr, NoRow, Rows}
use Rattle.rel_algebra.specs.Tree.{count}
use Rattle.rel_algebra.proofs.Truths.{equal_numbers, left_true, never, right_true}

null_count : (n : ℕ) → scalar_count (nulls n) ≡ n
null_count zero = refl
null_count (suc n) = ap suc (null_count n)

pub all_count : (es : Exprs) (S : List ℕ → ℕ) (e : Env) (n : ℕ) →
    scalar_count (emit_all es S e n).scalars ≡ count es
all_count NoExpr S e n = refl
all_count (MoreExprs x es) S e n = ap suc (all_count es S e (width (emit x S e n).nodes n))

pub args_count : (es : Exprs) (types : List SqlType) (S : List ℕ → ℕ) (e : Env) (n : ℕ) →
    scalar_count (emit_args es types S e n).scalars ≡ count es
args_count NoExpr types S e n = refl
args_count (MoreExprs x es) types S e n =
    ap suc (args_count es (drop 1 types) S e (width (emit x S e n).nodes n))

abbrev pub EachCount : ℕ → List EmittedAll → Type 0
EachCount k [] = Unit {0}
EachCount k (a ∷ lists) = (scalar_count a.scalars ≡ k) × EachCount k lists

pub rows_count : (rows : Rows) (k : ℕ) (S : List ℕ → ℕ) (e : Env) (n : ℕ) → all_even k rows ≡ true →
    EachCount k (emit_rows rows S e n)
rows_count NoRow k S e n h = tt
rows_count (MoreRows es rows) k S e n h = (
  all_count es S e n ∙ equal_numbers (count es) k
      (left_true (nat_eq (count es) k) (all_even k rows) h),
  rows_count rows k S e (width (emit_all es S e n).nodes n)
      (right_true (nat_eq (count es) k) (all_even k rows) h),
)

either_count : (i k : ℕ) (ss rs : Scalars) → scalar_count ss ≡ k → scalar_count rs ≡ k →
    scalar_count (either_all i ss rs) ≡ k
either_count i k none none p q = p
either_count i k none (more r rs) p q = p
either_count i k (more s ss) none p q = q
either_count i zero (more s ss) (more r rs) p q = absurd (omega arith)
either_count i (suc k) (more s ss) (more r rs) p q =
    ap suc (either_count i k ss rs (omega arith) (omega arith))

pub chosen_count : (k i : ℕ) (lists : List EmittedAll) → EachCount k lists →
    scalar_count (chosen k i lists) ≡ k
chosen_count k i [] h = null_count k
chosen_count k i (a ∷ lists) h =
    either_count i k a.scalars (chosen k (suc i) lists) h.0 (chosen_count k (suc i) lists h.1)

pub plain_width : (a : Nodes) (n : ℕ) → is_plain a ≡ true → width a n ≡ n
plain_width no_node n h = refl
plain_width (extend_by ss a) n h = never h
plain_width (apply_by when kind way inner a) n h = never h

pub numbered_long : (ags : List Aggregate) (i : ℕ) → length (numbered i ags) ≡ length ags
numbered_long [] i = refl
numbered_long (a ∷ ags) i = ap suc (numbered_long ags (suc i))
