-- Emitted nodes, conjuncts and lists that name what is there.
use Rattle.std.proofs.Common.{◌++◌, ◌≡◌, ℕ, zero, suc, ◌+◌, ◌≤◌, ◌<◌, Bool, true, false, ◌&&◌}
use Rattle.std.proofs.Common.{nat_eq, List, [], ◌∷◌, Option, Some, None, refl, ap, sym, ◌∙◌, subst}
use Rattle.std.proofs.Common.{arith}
use Rattle.std.proofs.lemmas.List.{append-nil}
use Rattle.sql_values.specs.declared.operators.Comparison.TheVariants.{Equals}
use Rattle.sql_values.specs.declared.value.SqlType.{SqlType}
use Rattle.sql_values.specs.declared.value.SqlType.TheVariants.{Boolean, Integer, Varchar}
use Rattle.sql_values.specs.declared.value.Value.TheVariants.{Bool as Truth}
use Rattle.rel_algebra.specs.Emit.{Emitted, EmittedAll, Env, Key, Place, Waiting, against, all_true}
use Rattle.rel_algebra.specs.Emit.{all_waiting, assigning, assigning_first, assigning_in, at, below}
use Rattle.rel_algebra.specs.Emit.{checks, checks_of, columns_within, entered, filters}
use Rattle.rel_algebra.specs.Emit.{filters_width, first_and, first_value, folded_env, given, if_all}
use Rattle.rel_algebra.specs.Emit.{if_values, joined_nodes, key_of, key_step, lifted, listed}
use Rattle.rel_algebra.specs.Emit.{listed_by, none_waits, nowhere, one_column, one_param, outward}
use Rattle.rel_algebra.specs.Emit.{own_places, passed, read, row_stands, scalar_count, singly}
use Rattle.rel_algebra.specs.Emit.{test_step, then_columns, truths, turned, width, with_place}
use Rattle.rel_algebra.specs.Joins.{places}
use Rattle.rel_algebra.specs.Plan.{found_width, Nodes, PlanTree, Scalar, Scalars, apply, apply_by}
use Rattle.rel_algebra.specs.Plan.{argument, column, constant, extend, extend_by, filter}
use Rattle.rel_algebra.specs.Plan.{kind_width, more, no_node, none, on_each, word}
use Rattle.rel_algebra.specs.Removal.{less, tree_width}
use Rattle.rel_algebra.specs.Tree.{Column, Comparing, Expr, MoreExprs, NoExpr, Operate, Variable}
use Rattle.rel_algebra.specs.WellFormed.{way_fits, columns_fit, has_column, kind_fits, nodes_fit}
use Rattle.rel_algebra.specs.WellFormed.{scalar_fits, scalars_fit, tree_fits}
use Rattle.rel_algebra.proofs.Truths.{and_true, left_true, never, right_true}
use Rattle.rel_algebra.proofs.Widths.{on_each_width, width_join, width_more}

-- Numbers.
pub less_lt : (i n : ℕ) → less i n ≡ true → i < n
less_lt i zero h = never h
less_lt zero (suc n) h = omega arith
less_lt (suc i) (suc n) h = let k = less_lt i n h in omega (arith, k)

pub lt_less : (i n : ℕ) → i < n → less i n ≡ true
lt_less i zero h = absurd (omega arith)
lt_less zero (suc n) h = refl
lt_less (suc i) (suc n) h = lt_less i n (omega arith)

pub less_more : (i n m : ℕ) → n ≤ m → less i n ≡ true → less i m ≡ true
less_more i n m h l = lt_less i m (let k = less_lt i n l in omega (arith, h, k))

pub equals_itself : (a b : ℕ) → a ≡ b → nat_eq a b ≡ true
equals_itself a b h = ap (nat_eq a) (sym h) ∙ grind arith

-- Wider rows.
pub column_more : (ws : List ℕ) (n m level i : ℕ) → n ≤ m → has_column (n ∷ ws) level i ≡ true →
    has_column (m ∷ ws) level i ≡ true
column_more ws n m zero i h l = less_more i n m h l
column_more ws n m (suc level) i h l = l

mutual
  pub scalar_more : (s : Scalar) (n m : ℕ) (ws : List ℕ) (ps : ℕ) → n ≤ m →
      scalar_fits s (n ∷ ws) ps ≡ true → scalar_fits s (m ∷ ws) ps ≡ true
  scalar_more (constant v) n m ws ps h l = refl
  scalar_more (column level i) n m ws ps h l = column_more ws n m level i h l
  scalar_more (argument i) n m ws ps h l = l
  scalar_more (word w ss) n m ws ps h l = scalars_more ss n m ws ps h l

  pub scalars_more : (ss : Scalars) (n m : ℕ) (ws : List ℕ) (ps : ℕ) → n ≤ m →
      scalars_fit ss (n ∷ ws) ps ≡ true → scalars_fit ss (m ∷ ws) ps ≡ true
  scalars_more none n m ws ps h l = refl
  scalars_more (more s ss) n m ws ps h l =
      and_true (scalar_fits s (m ∷ ws) ps) (scalars_fit ss (m ∷ ws) ps)
      (scalar_more s n m ws ps h
      (left_true (scalar_fits s (n ∷ ws) ps) (scalars_fit ss (n ∷ ws) ps) l))
      (scalars_more ss n m ws ps h
      (right_true (scalar_fits s (n ∷ ws) ps) (scalars_fit ss (n ∷ ws) ps) l))

-- Environments.
abbrev pub PlaceFits : Place → List ℕ → ℕ → Type 0
PlaceFits (at level i) ws ps = has_column ws level i ≡ true
PlaceFits (given i) ws ps = less i ps ≡ true
PlaceFits nowhere ws ps = Unit {0}

abbrev pub EnvFits : Env → List ℕ → ℕ → Type 0
EnvFits e ws ps = ((d i : ℕ) → PlaceFits (e.columns d i) ws ps)
    × ((i : ℕ) → PlaceFits (e.params i) ws ps)

pub read_fits : (p : Place) (ws : List ℕ) (ps : ℕ) → PlaceFits p ws ps →
    scalar_fits (read p) ws ps ≡ true
read_fits (at level i) ws ps h = h
read_fits (given i) ws ps h = h
read_fits nowhere ws ps h = refl

pub outward_fits : (p : Place) (m : ℕ) (ws : List ℕ) (ps : ℕ) → PlaceFits p ws ps →
    PlaceFits (outward p) (m ∷ ws) ps
outward_fits (at level i) m ws ps h = h
outward_fits (given i) m ws ps h = h
outward_fits nowhere m ws ps h = tt

pub place_more : (p : Place) (n m : ℕ) (ws : List ℕ) (ps : ℕ) → n ≤ m → PlaceFits p (n ∷ ws) ps →
    PlaceFits p (m ∷ ws) ps
place_more (at level i) n m ws ps h l = column_more ws n m level i h l
place_more (given i) n m ws ps h l = l
place_more nowhere n m ws ps h l = tt

pub below_fits : (n i : ℕ) (p : Place) (ws : List ℕ) (ps : ℕ) →
    (less i n ≡ true → PlaceFits p ws ps) → PlaceFits (below n i p) ws ps
below_fits zero i p ws ps h = tt
below_fits (suc n) zero p ws ps h = h refl
below_fits (suc n) (suc i) p ws ps h = below_fits n i p ws ps h

pub env_more : (e : Env) (n m : ℕ) (ws : List ℕ) (ps : ℕ) → n ≤ m → EnvFits e (n ∷ ws) ps →
    EnvFits e (m ∷ ws) ps
env_more e n m ws ps h v = (
  λ d i. place_more (e.columns d i) n m ws ps h (v.0 d i),
  λ i. place_more (e.params i) n m ws ps h (v.1 i),
)

pub entered_fits : (e : Env) (n m : ℕ) (ws : List ℕ) (ps : ℕ) → n ≤ m → EnvFits e ws ps →
    EnvFits (entered e n) (m ∷ ws) ps
entered_fits e n m ws ps h v = (columns, λ i. outward_fits (e.params i) m ws ps (v.1 i))
  where
    columns : (d i : ℕ) → PlaceFits (columns_within e n d i) (m ∷ ws) ps
    columns zero i = below_fits n i (at 0 i) (m ∷ ws) ps (λ l. less_more i n m h l)
    columns (suc d) i = outward_fits (e.columns d i) m ws ps (v.0 d i)

pub sum_less : (m i k n : ℕ) → m + k ≤ n → less i k ≡ true → less (m + i) n ≡ true
sum_less m i k n h l = lt_less (m + i) n (let j = less_lt i k l in omega (arith, h, j))

pub passed_fits : (m k n : ℕ) (ws : List ℕ) (ps : ℕ) → m + k ≤ n → EnvFits (passed m k) (n ∷ ws) ps
passed_fits m k n ws ps h =
    (λ d i. tt, λ i. below_fits k i (at 0 (m + i)) (n ∷ ws) ps (λ l. sum_less m i k n h l))

pub folded_fits : (e : Env) (j k n : ℕ) (ws : List ℕ) (ps : ℕ) → j + k ≤ n → EnvFits e (n ∷ ws) ps →
    EnvFits (folded_env e j k) (n ∷ ws) ps
folded_fits e j k n ws ps h v = (columns, v.1)
  where
    columns : (d i : ℕ) → PlaceFits ((folded_env e j k).columns d i) (n ∷ ws) ps
    columns zero i = below_fits k i (at 0 (j + i)) (n ∷ ws) ps (λ l. sum_less j i k n h l)
    columns (suc d) i = v.0 d i

pub lifted_fits : (e : Env) (m : ℕ) (ws : List ℕ) (ps : ℕ) → EnvFits e ws ps →
    EnvFits (lifted e) (m ∷ ws) ps
lifted_fits e m ws ps v = (
  λ d i. outward_fits (e.columns d i) m ws ps (v.0 d i),
  λ i. outward_fits (e.params i) m ws ps (v.1 i),
)

-- Emitted nodes and scalars, on rows of m columns.
abbrev pub Fit : Emitted → (List ℕ → ℕ) → ℕ → List ℕ → ℕ → Type 0
Fit a S m ws ps = (nodes_fit a.nodes S m ws ps ≡ true)
    × (scalar_fits a.scalar (width a.nodes m ∷ ws) ps ≡ true)

assigning_fits : (t : SqlType) (s : Scalar) (ws : List ℕ) (ps : ℕ) → scalar_fits s ws ps ≡ true →
    scalar_fits (assigning t s) ws ps ≡ true
assigning_fits Integer s ws ps h = h
assigning_fits (Varchar n) s ws ps h = and_true (scalar_fits s ws ps) true h refl
assigning_fits Boolean s ws ps h = h

assigning_first_fits : (types : List SqlType) (s : Scalar) (ws : List ℕ) (ps : ℕ) →
    scalar_fits s ws ps ≡ true →
    scalar_fits (assigning_first types s) ws ps ≡ true
assigning_first_fits [] s ws ps h = h
assigning_first_fits (t ∷ types) s ws ps h = assigning_fits t s ws ps h

pub assigning_in_fits : (types : List SqlType) (a : Emitted) (S : List ℕ →
    ℕ) (m : ℕ) (ws : List ℕ) (ps : ℕ) → Fit a S m ws ps →
    Fit (assigning_in types a) S m ws ps
assigning_in_fits types a S m ws ps h =
    (h.0, assigning_first_fits types a.scalar (width a.nodes m ∷ ws) ps h.1)

abbrev pub FitAll : EmittedAll → (List ℕ → ℕ) → ℕ → List ℕ → ℕ → Type 0
FitAll a S m ws ps = (nodes_fit a.nodes S m ws ps ≡ true)
    × (scalars_fit a.scalars (width a.nodes m ∷ ws) ps ≡ true)

pub join_fits : (a b : Nodes) (S : List ℕ → ℕ) (m : ℕ) (ws : List ℕ) (ps : ℕ) →
    nodes_fit a S m ws ps ≡ true → nodes_fit b S (width a m) ws ps ≡ true →
    nodes_fit (joined_nodes a b) S m ws ps ≡ true
join_fits no_node b S m ws ps p q = q
join_fits (extend_by ss a) b S m ws ps p q =
    let x = scalars_fit ss (m ∷ ws) ps in let n = m + scalar_count ss in
    and_true x (nodes_fit (joined_nodes a b) S n ws ps) (left_true x (nodes_fit a S n ws ps) p)
    (join_fits a b S n ws ps (right_true x (nodes_fit a S n ws ps) p) q)
join_fits (apply_by when kind way inner a) b S m ws ps p q =
    let x = scalar_fits when (m ∷ ws) ps
    && (way_fits way when inner (m ∷ ws) ps && kind_fits kind (found_width way (tree_width inner))
    (m ∷ ws) ps) in let y = tree_fits inner S (m ∷ ws) ps in let n = m +
    kind_width kind in
    let r : (y && nodes_fit a S n ws ps) ≡ true = right_true x (y && nodes_fit a S n ws ps) p in
    and_true x (y && nodes_fit (joined_nodes a b) S n ws ps)
    (left_true x (y && nodes_fit a S n ws ps) p)
    (and_true y (nodes_fit (joined_nodes a b) S n ws ps) (left_true y (nodes_fit a S n ws ps) r)
    (join_fits a b S n ws ps (right_true y (nodes_fit a S n ws ps) r) q))

pub at_join : (a b : Nodes) (m : ℕ) (ss : Scalars) (ws : List ℕ) (ps : ℕ) →
    scalars_fit ss (width b (width a m) ∷ ws) ps ≡ true →
    scalars_fit ss (width (joined_nodes a b) m ∷ ws) ps ≡ true
at_join a b m ss ws ps h =
    subst (λ (n : ℕ). scalars_fit ss (n ∷ ws) ps ≡ true) (sym (width_join a b m)) h

pub one_at_join : (a b : Nodes) (m : ℕ) (s : Scalar) (ws : List ℕ) (ps : ℕ) →
    scalar_fits s (width b (width a m) ∷ ws) ps ≡ true →
    scalar_fits s (width (joined_nodes a b) m ∷ ws) ps ≡ true
one_at_join a b m s ws ps h =
    subst (λ (n : ℕ). scalar_fits s (n ∷ ws) ps ≡ true) (sym (width_join a b m)) h

pub first_and_fits : (a : Emitted) (b : ℕ → EmittedAll) (S : List ℕ →
    ℕ) (m : ℕ) (ws : List ℕ) (ps : ℕ) → Fit a S m ws ps →
    FitAll (b (width a.nodes m)) S (width a.nodes m) ws ps → FitAll (first_and a b m) S m ws ps
first_and_fits a b S m ws ps p q =
    let n = width a.nodes m in let c = b n in (
      join_fits a.nodes c.nodes S m ws ps p.0 q.0,
      at_join a.nodes c.nodes m (more a.scalar c.scalars) ws ps
          (and_true (scalar_fits a.scalar (width c.nodes n ∷ ws) ps)
          (scalars_fit c.scalars (width c.nodes n ∷ ws) ps)
          (scalar_more a.scalar n (width c.nodes n) ws ps (width_more c.nodes n) p.1) q.1),
    )

pub then_columns_fits : (a : EmittedAll) (go : ℕ → ℕ → Emitted) (S : List ℕ →
    ℕ) (m : ℕ) (ws : List ℕ) (ps : ℕ) → FitAll a S m ws ps →
    Fit (go (width a.nodes m) (scalar_count a.scalars)) S (width a.nodes m + scalar_count a.scalars)
    ws ps → Fit (then_columns a go m) S m ws ps
then_columns_fits a go S m ws ps p q =
    let n = width a.nodes m in let k = scalar_count a.scalars in let c = go n k in (
      join_fits a.nodes (extend_by a.scalars c.nodes) S m ws ps p.0
          (and_true (scalars_fit a.scalars (n ∷ ws) ps) (nodes_fit c.nodes S (n + k) ws ps)
          p.1 q.0),
      one_at_join a.nodes (extend_by a.scalars c.nodes) m c.scalar ws ps q.1,
    )

pub singly_fits : (a : Emitted) (S : List ℕ → ℕ) (m : ℕ) (ws : List ℕ) (ps : ℕ) → Fit a S m ws ps →
    FitAll (singly a) S m ws ps
singly_fits a S m ws ps p =
    (p.0, and_true (scalar_fits a.scalar (width a.nodes m ∷ ws) ps) true p.1 refl)

pub check_fits : (is : List ℕ) (n : ℕ) (ws : List ℕ) (ps : ℕ) → columns_fit is n ≡ true →
    scalars_fit (checks is) (n ∷ ws) ps ≡ true
check_fits [] n ws ps h = refl
check_fits (i ∷ is) n ws ps h =
    let x = less i n in
    and_true ((x && true) && true) (scalars_fit (checks is) (n ∷ ws) ps)
    (and_true (x && true) true (and_true x true (left_true x (columns_fit is n) h) refl) refl)
    (check_fits is n ws ps (right_true x (columns_fit is n) h))

pub places_fit : (m k n : ℕ) → m + k ≤ n → columns_fit (places m k) n ≡ true
places_fit m zero n h = refl
places_fit m (suc k) n h = and_true (less m n) (columns_fit (places (suc m) k) n)
    (lt_less m n (omega arith)) (places_fit (suc m) k n (omega arith))

pub if_values_fits : (is : List ℕ) (s : Scalar) (n : ℕ) (ws : List ℕ) (ps : ℕ) →
    columns_fit is n ≡ true → scalar_fits s (n ∷ ws) ps ≡ true →
    scalar_fits (if_values is s) (n ∷ ws) ps ≡ true
if_values_fits [] s n ws ps h k = k
if_values_fits (i ∷ is) s n ws ps h k =
    and_true (scalars_fit (checks (i ∷ is)) (n ∷ ws) ps) (scalar_fits s (n ∷ ws) ps && true)
    (check_fits (i ∷ is) n ws ps h) (and_true (scalar_fits s (n ∷ ws) ps) true k refl)

pub checks_of_fit : (ss : Scalars) (ws : List ℕ) (ps : ℕ) → scalars_fit ss ws ps ≡ true →
    scalars_fit (checks_of ss) ws ps ≡ true
checks_of_fit none ws ps h = refl
checks_of_fit (more s ss) ws ps h =
    let x = scalar_fits s ws ps in
    and_true ((x && true) && true) (scalars_fit (checks_of ss) ws ps) (and_true (x && true) true
    (and_true x true (left_true x (scalars_fit ss ws ps) h) refl) refl)
    (checks_of_fit ss ws ps (right_true x (scalars_fit ss ws ps) h))

pub if_all_fits : (ss : Scalars) (s : Scalar) (ws : List ℕ) (ps : ℕ) → scalars_fit ss ws ps ≡ true →
    scalar_fits s ws ps ≡ true →
    scalar_fits (if_all ss s) ws ps ≡ true
if_all_fits ss s ws ps p q = and_true (scalars_fit (checks_of ss) ws ps) (scalar_fits s ws ps
    && true) (checks_of_fit ss ws ps p)
    (and_true (scalar_fits s ws ps) true q refl)

pub first_value_fits : (ss : Scalars) (ws : List ℕ) (ps : ℕ) → scalars_fit ss ws ps ≡ true →
    scalar_fits (first_value ss) ws ps ≡ true
first_value_fits none ws ps h = refl
first_value_fits (more s none) ws ps h = left_true (scalar_fits s ws ps) true h
first_value_fits (more s (more t ss)) ws ps h = if_all_fits (more s (more t ss)) s ws ps h
    (left_true (scalar_fits s ws ps) (scalars_fit (more t ss) ws ps) h)

pub row_stands_fits : (ss : Scalars) (ws : List ℕ) (ps : ℕ) → scalars_fit ss ws ps ≡ true →
    scalar_fits (row_stands ss) ws ps ≡ true
row_stands_fits ss ws ps h = if_all_fits ss (constant (Truth true)) ws ps h refl

pub against_fits : (p : ℕ) (ss : Scalars) (n : ℕ) (ws : List ℕ) (ps : ℕ) → less p n ≡ true →
    scalars_fit ss (n ∷ ws) ps ≡ true →
    scalars_fit (against p ss) (n ∷ ws) ps ≡ true
against_fits p none n ws ps l h = refl
against_fits p (more last none) n ws ps l h = h
against_fits p (more t (more r ss)) n ws ps l h =
    let c = less p n in let x = scalar_fits t (n ∷ ws) ps in let y = scalar_fits r (n ∷ ws) ps in
    let z = scalars_fit ss (n ∷ ws) ps in let u =
    scalars_fit (against p ss) (n ∷ ws) ps in
    let k : (y && z) ≡ true = right_true x (y && z) h in
    and_true (c && (x && true)) (y && u)
    (and_true c (x && true) l (and_true x true (left_true x (y && z) h) refl))
    (and_true y u (left_true y z k) (against_fits p ss n ws ps l (right_true y z k)))

pub all_true_fits : (ss : Scalars) (ws : List ℕ) (ps : ℕ) → scalars_fit ss ws ps ≡ true →
    scalar_fits (all_true ss) ws ps ≡ true
all_true_fits none ws ps h = refl
all_true_fits (more s ss) ws ps h =
    let x = scalar_fits s ws ps in
    and_true (x && true) (scalars_fit (truths ss) ws ps)
    (and_true x true (left_true x (scalars_fit ss ws ps) h) refl)
    (all_true_fits ss ws ps (right_true x (scalars_fit ss ws ps) h))

pub turned_fits : (own other : Place) (S : List ℕ → ℕ) (m : ℕ) (ws : List ℕ) (ps : ℕ) →
    PlaceFits own (m ∷ ws) ps → PlaceFits other (m ∷ ws) ps →
    Fit (turned own other) S m ws ps
turned_fits own other S m ws ps p q = (
  refl,
  and_true (scalar_fits (read own) (m ∷ ws) ps) (scalar_fits (read other) (m ∷ ws) ps && true)
      (read_fits own (m ∷ ws) ps p)
      (and_true (scalar_fits (read other) (m ∷ ws) ps) true (read_fits other (m ∷ ws) ps q) refl),
)

abbrev pub KeyFits : Option Key → (List ℕ → ℕ) → ℕ → List ℕ → ℕ → Type 0
KeyFits None S m ws ps = Unit {0}
KeyFits (Some key) S m ws ps = Fit (turned key.own key.other) S m ws ps

pub key_fits : (x : Expr) (e : Env) (S : List ℕ → ℕ) (m : ℕ) (ws : List ℕ) (ps : ℕ) →
    EnvFits e (m ∷ ws) ps → KeyFits (key_of x e) S m ws ps
key_fits (Operate (Comparing Equals)
    (MoreExprs (Column zero i) (MoreExprs (Column (suc d) j) NoExpr))) e S m ws ps v =
    turned_fits (e.columns zero i) (e.columns (suc d) j) S m ws ps (v.0 zero i) (v.0 (suc d) j)
key_fits (Operate (Comparing Equals)
    (MoreExprs (Column (suc d) j) (MoreExprs (Column zero i) NoExpr))) e S m ws ps v =
    turned_fits (e.columns zero i) (e.columns (suc d) j) S m ws ps (v.0 zero i) (v.0 (suc d) j)
key_fits (Operate (Comparing Equals) (MoreExprs (Column zero i) (MoreExprs (Variable j) NoExpr))) e
    S m ws ps v =
    turned_fits (e.columns zero i) (e.params j) S m ws ps (v.0 zero i) (v.1 j)
key_fits (Operate (Comparing Equals) (MoreExprs (Variable j) (MoreExprs (Column zero i) NoExpr))) e
    S m ws ps v =
    turned_fits (e.columns zero i) (e.params j) S m ws ps (v.0 zero i) (v.1 j)
key_fits _ e S m ws ps v = tt

abbrev pub TestsFit : List Emitted → (List ℕ → ℕ) → ℕ → List ℕ → ℕ → Type 0
TestsFit [] S m ws ps = Unit {0}
TestsFit (a ∷ ems) S m ws ps = Fit a S m ws ps × TestsFit ems S (width a.nodes m) ws ps

-- those that wait add no column
abbrev pub WaitsFit : List Emitted → (List ℕ → ℕ) → ℕ → List ℕ → ℕ → Type 0
WaitsFit [] S m ws ps = Unit {0}
WaitsFit (a ∷ ems) S m ws ps = (a.nodes ≡ no_node) × (scalar_fits a.scalar (m ∷ ws) ps ≡ true)
    × WaitsFit ems S m ws ps

-- one more at the end
pub waits_more : (ems : List Emitted) (own other : Place) (S : List ℕ →
    ℕ) (m : ℕ) (ws : List ℕ) (ps : ℕ) → WaitsFit ems S m ws ps →
    Fit (turned own other) S m ws ps → WaitsFit (ems ++ turned own other ∷ []) S m ws ps
waits_more [] own other S m ws ps h k = (refl, k.1, tt)
waits_more (a ∷ ems) own other S m ws ps h k = (h.0, h.1, waits_more ems own other S m ws ps h.2 k)

pub waits_both : (a b : List Emitted) (S : List ℕ → ℕ) (m : ℕ) (ws : List ℕ) (ps : ℕ) →
    WaitsFit a S m ws ps → WaitsFit b S m ws ps →
    WaitsFit (a ++ b) S m ws ps
waits_both [] b S m ws ps h k = k
waits_both (x ∷ a) b S m ws ps h k = (h.0, h.1, waits_both a b S m ws ps h.2 k)

abbrev pub WaitingFits : Waiting → (List ℕ → ℕ) → ℕ → List ℕ → ℕ → Type 0
WaitingFits p S m ws ps = WaitsFit p.params S m ws ps × WaitsFit p.columns S m ws ps

pub waits_then : (ems rest : List Emitted) (S : List ℕ → ℕ) (m : ℕ) (ws : List ℕ) (ps : ℕ) →
    WaitsFit ems S m ws ps → TestsFit rest S m ws ps →
    TestsFit (ems ++ rest) S m ws ps
waits_then [] rest S m ws ps h t = t
waits_then (a ∷ ems) rest S m ws ps h t = (
  (
    subst (λ (ns : Nodes). nodes_fit ns S m ws ps ≡ true) (sym h.0) refl,
    subst (λ (ns : Nodes). scalar_fits a.scalar (width ns m ∷ ws) ps ≡ true)
        (sym h.0) h.1,
  ),
  subst (λ (ns : Nodes). TestsFit (ems ++ rest) S (width ns m) ws ps) (sym h.0)
      (waits_then ems rest S m ws ps h.2 t),
)

pub waits_alone : (ems : List Emitted) (S : List ℕ → ℕ) (m : ℕ) (ws : List ℕ) (ps : ℕ) →
    WaitsFit ems S m ws ps → TestsFit ems S m ws ps
waits_alone ems S m ws ps h = subst (λ (l : List Emitted). TestsFit l S m ws ps) (append-nil ems)
    (waits_then ems [] S m ws ps h tt)

pub key_step_fits : (of_column : Bool) (place own other : Place) (rest : Waiting → ℕ →
    List Emitted) (p : Waiting) (S : List ℕ → ℕ) (m : ℕ) (ws : List ℕ)
    (ps : ℕ) → Fit (turned own other) S m ws ps → WaitingFits p S m ws ps →
    ((q : Waiting) → WaitingFits q S m ws ps → TestsFit (rest q m) S m ws ps) →
    TestsFit (key_step of_column place (turned own other) rest p m) S m ws ps
key_step_fits true (at level i) own other rest p S m ws ps k hp go =
    go (one_column (turned own other) p)
    (hp.0, waits_more p.columns own other S m ws ps hp.1 k)
key_step_fits true (given i) own other rest p S m ws ps k hp go = (k, go p hp)
key_step_fits true nowhere own other rest p S m ws ps k hp go = (k, go p hp)
key_step_fits false (at level i) own other rest p S m ws ps k hp go =
    go (one_param (turned own other) p)
    (waits_more p.params own other S m ws ps hp.0 k, hp.1)
key_step_fits false (given i) own other rest p S m ws ps k hp go =
    go (one_param (turned own other) p)
    (waits_more p.params own other S m ws ps hp.0 k, hp.1)
key_step_fits false nowhere own other rest p S m ws ps k hp go = (k, go p hp)

pub step_fits : (key : Option Key) (a : Emitted) (rest : Waiting → ℕ → List Emitted) (p : Waiting)
    (S : List ℕ → ℕ) (m : ℕ) (ws : List ℕ) (ps : ℕ) →
    KeyFits key S m ws ps → Fit a S m ws ps → WaitingFits p S m ws ps →
    ((q : Waiting) → WaitingFits q S m ws ps → TestsFit (rest q m) S m ws ps) →
    TestsFit (rest none_waits (width a.nodes m)) S (width a.nodes m) ws ps →
    TestsFit (test_step key a rest p m) S m ws ps
step_fits None a rest p S m ws ps k ha hp go after_it =
    waits_then (all_waiting p) (a ∷ rest none_waits (width a.nodes m)) S m ws ps
    (waits_both p.params p.columns S m ws ps hp.0 hp.1) (ha, after_it)
step_fits (Some key) a rest p S m ws ps k ha hp go after_it =
    key_step_fits key.of_column key.other key.own key.other rest p S m ws ps k hp go

pub on_each_fits : (nodes : Nodes) (t : PlanTree) (S : List ℕ → ℕ) (ws : List ℕ) (ps : ℕ) →
    nodes_fit nodes S (tree_width t) ws ps ≡ true →
    tree_fits t S ws ps ≡ true → tree_fits (on_each nodes t) S ws ps ≡ true
on_each_fits no_node t S ws ps h k = k
on_each_fits (extend_by ss a) t S ws ps h k =
    let m = tree_width t in let x = scalars_fit ss (m ∷ ws) ps in
    let y = nodes_fit a S (m + scalar_count ss) ws ps in
    on_each_fits a (extend ss t) S ws ps (right_true x y h)
    (and_true x (tree_fits t S ws ps) (left_true x y h) k)
on_each_fits (apply_by when kind way inner a) t S ws ps h k =
    let m = tree_width t in let x = scalar_fits when (m ∷ ws) ps
    && (way_fits way when inner (m ∷ ws) ps && kind_fits kind (found_width way (tree_width inner))
    (m ∷ ws) ps) in let y = tree_fits inner S
    (m ∷ ws) ps in let z = nodes_fit a S (m + kind_width kind) ws ps in
    let r : (y && z) ≡ true = right_true x (y && z) h in
    on_each_fits a (apply when kind way inner t) S ws ps (right_true y z r)
    (and_true x (y && tree_fits t S ws ps) (left_true x (y && z) h)
    (and_true y (tree_fits t S ws ps) (left_true y z r) k))

pub filters_fit : (ems : List Emitted) (input : PlanTree) (S : List ℕ →
    ℕ) (m : ℕ) (ws : List ℕ) (ps : ℕ) → tree_width input ≡ m →
    TestsFit ems S m ws ps → tree_fits input S ws ps ≡ true → tree_fits (filters ems input) S ws ps
    ≡ true
filters_fit [] input S m ws ps e h t = t
filters_fit (a ∷ ems) input S m ws ps e h t =
    let wide_as : tree_width (on_each a.nodes input) ≡ width a.nodes m = on_each_width a.nodes input
    ∙ ap (width a.nodes) e in
    filters_fit ems (filter a.scalar (on_each a.nodes input)) S (width a.nodes m) ws ps wide_as h.1
    (and_true (scalar_fits a.scalar (tree_width (on_each a.nodes input) ∷ ws) ps)
    (tree_fits (on_each a.nodes input) S ws ps)
    (subst (λ (n : ℕ). scalar_fits a.scalar (n ∷ ws) ps ≡ true) (sym wide_as) h.0.1)
    (on_each_fits a.nodes input S ws ps (subst (λ (n : ℕ). nodes_fit a.nodes S n ws ps ≡ true)
    (sym e) h.0.0) t))

pub filters_tree_width : (ems : List Emitted) (input : PlanTree) (m : ℕ) → tree_width input ≡ m →
    tree_width (filters ems input) ≡ filters_width ems m
filters_tree_width [] input m e = e
filters_tree_width (a ∷ ems) input m e =
    filters_tree_width ems (filter a.scalar (on_each a.nodes input)) (width a.nodes m)
    (on_each_width a.nodes input ∙ ap (width a.nodes) e)

abbrev pub OwnFits : Option (List ℕ) → ℕ → Type 0
OwnFits None n = Unit {0}
OwnFits (Some is) n = columns_fit is n ≡ true

pub own_more : (i : ℕ) (own : Option (List ℕ)) (n : ℕ) → less i n ≡ true → OwnFits own n →
    OwnFits (with_place i own) n
own_more i None n h k = tt
own_more i (Some is) n h k = and_true (less i n) (columns_fit is n) h k

pub own_fits : (ss : Scalars) (n : ℕ) (ws : List ℕ) (ps : ℕ) → scalars_fit ss (n ∷ ws) ps ≡ true →
    OwnFits (own_places ss) n
own_fits none n ws ps h = refl
own_fits (more (column zero i) ss) n ws ps h =
    own_more i (own_places ss) n (left_true (less i n) (scalars_fit ss (n ∷ ws) ps) h)
    (own_fits ss n ws ps (right_true (less i n) (scalars_fit ss (n ∷ ws) ps) h))
own_fits (more _ ss) n ws ps h = tt

pub listed_by_fits : (own : Option (List ℕ)) (a : EmittedAll) (m : ℕ) (input : PlanTree)
    (S : List ℕ → ℕ) (ws : List ℕ) (ps : ℕ) →
    OwnFits own (width a.nodes m) → tree_width input ≡ m → FitAll a S m ws ps →
    tree_fits input S ws ps ≡ true →
    tree_fits (listed_by own a m input) S ws ps ≡ true
listed_by_fits (Some is) a m input S ws ps k e h t =
    let wide_as : tree_width (on_each a.nodes input) ≡ width a.nodes m = on_each_width a.nodes input
    ∙ ap (width a.nodes) e in
    and_true (columns_fit is (tree_width (on_each a.nodes input)))
    (tree_fits (on_each a.nodes input) S ws ps)
    (subst (λ (j : ℕ). columns_fit is j ≡ true) (sym wide_as) k)
    (on_each_fits a.nodes input S ws ps (subst (λ (j : ℕ). nodes_fit a.nodes S j ws ps ≡ true)
    (sym e) h.0) t)
listed_by_fits None a m input S ws ps k e h t =
    let nodes = joined_nodes a.nodes (extend_by a.scalars no_node) in
    let wide_as : tree_width (on_each nodes input) ≡ width nodes m = on_each_width nodes input
    ∙ ap (width nodes) e in
    and_true (columns_fit (places (width a.nodes m) (scalar_count a.scalars))
    (tree_width (on_each nodes input)))
    (tree_fits (on_each nodes input) S ws ps)
    (subst (λ (j : ℕ). columns_fit (places (width a.nodes m) (scalar_count a.scalars)) j ≡ true)
    (sym wide_as)
    (places_fit (width a.nodes m) (scalar_count a.scalars) (width nodes m)
    (let k = width_join a.nodes (extend_by a.scalars no_node) m in omega (arith, k))))
    (on_each_fits nodes input S ws ps
    (subst (λ (j : ℕ). nodes_fit nodes S j ws ps ≡ true) (sym e)
    (join_fits a.nodes (extend_by a.scalars no_node) S m ws ps h.0
    (and_true (scalars_fit a.scalars (width a.nodes m ∷ ws) ps) true h.1 refl))) t)

pub listed_fits : (a : EmittedAll) (m : ℕ) (input : PlanTree) (S : List ℕ →
    ℕ) (ws : List ℕ) (ps : ℕ) → tree_width input ≡ m → FitAll a S m ws ps →
    tree_fits input S ws ps ≡ true → tree_fits (listed a m input) S ws ps ≡ true
listed_fits a m input S ws ps e h t = listed_by_fits (own_places a.scalars) a m input S ws ps
    (own_fits a.scalars (width a.nodes m) ws ps h.1) e h t
